-- Walks by the states that they come to.
use Rattle.std.proofs.Common.{ℕ, ◌<◌, ◌≡◌, ◌⊎◌, Bool, true, false, ◌&&◌, not, List, [], ◌∷◌, ◌++◌, length, sym, ap, ◌∙◌, refl, subst, inl, inr}
use Rattle.std.proofs.lemmas.Bool.{false≢true, cases_lt, and_parts, and_from, or_cases, or_left, or_right, not-true, not_from_false}
use Rattle.std.proofs.lemmas.Option.{slice_get_past}
use Rattle.std.specs.Option.{option_map_or}
use Rattle.path_laws.specs.declared.graph.Node.{Node}
use Rattle.path_laws.specs.declared.graph.Mark.{Mark}
use Rattle.path_laws.specs.declared.graph.Mark.TheVariants.{Plain, Checkpoint, Exclude}
use Rattle.path_laws.specs.Graph.{Graph, IsWhole, may_read, may_write, kills, mark_of, is_checkpoint, is_exclude, is_directive, mark_is_checkpoint, mark_is_exclude, mark_is_directive}
use Rattle.path_laws.specs.Walks.{IsWalkFrom, IsWalk, NoExclude, last_of}
use Rattle.path_laws.specs.Forgettable.{ReadsUnkilled}
use Rattle.exclusion_equations.specs.Excluded.{WritesBefore, IsDead, IsReadOnly}
use Rattle.exclusion_reason.specs.declared.aim.Aim.{Aim}
use Rattle.exclusion_reason.specs.declared.aim.Aim.TheVariants.{Need, Write}
use Rattle.exclusion_reason.specs.declared.aim.State.{State}
use Rattle.exclusion_reason.specs.Least.{IsLeast}
use Rattle.exclusion_reason.specs.WalksThatKeep.{NoKill, IsNeedWalk, IsWriteWalk}
use Rattle.exclusion_reason.specs.Ways.{turns_at, may_follow, stops_at, ends_at, passes, start, after, LeadsOn, IsWay}

abbrev NoStop : Graph → Aim → List ℕ → Type 0
NoStop g a [] = Unit {0}
NoStop g a (n ∷ w) = (stops_at g a n ≡ false) × NoStop g a w

abbrev AllFollow : Graph → Aim → List ℕ → Type 0
AllFollow g a [] = Unit {0}
AllFollow g a (n ∷ w) = (may_follow g a n ≡ true) × AllFollow g a w

-- what stands behind the turn
record Rest (g : Graph) (a : Aim) (w : List ℕ) : Type 0 where
  between : List ℕ
  last : ℕ
  parts : w ≡ between ++ last ∷ []
  unstopped : NoStop g a between
  follow : AllFollow g a w
  ends : ends_at g a last ≡ true

-- the turn is in the list
record Turn (g : Graph) (a : Aim) (w : List ℕ) : Type 0 where
  before : List ℕ
  turn : ℕ
  rest : List ℕ
  parts : w ≡ before ++ (turn ∷ rest)
  free : NoExclude g (before ++ turn ∷ [])
  turns : turns_at g a turn ≡ true
  behind : Rest g a rest

-- where the turn of a walk in this state is, which goes on over w
abbrev Splits : Graph → Aim → State → List ℕ → Type 0
Splits g a s w = ((w ≡ []) × (s.behind ≡ true) × (ends_at g a s.node ≡ true)) ⊎ (((passes g a s ≡ true) × Rest g a w) ⊎ ((s.free ≡ true) × Turn g a w))

follow_nil : (g : Graph) (a : Aim) (w : List ℕ) → w ≡ [] → AllFollow g a w
follow_nil g a w e = subst (λ (x : List ℕ). AllFollow g a x) (sym e) tt

split : (g : Graph) (a : Aim) (w : List ℕ) (s : State) → LeadsOn g a s w → Splits g a s w
split g a [] s f = let p = and_parts s.behind (ends_at g a s.node) f in inl (refl, p.0, p.1)
split g a (m ∷ w) s f =
    elim (split g a w (after g a s m) f.1) [
      | inl e ↦
          let p = and_parts (may_follow g a m) (passes g a s) e.1 in
          inr (inl (p.1, record { between = []; last = m; parts = ap (λ (x : List ℕ). m ∷ x) e.0; unstopped = tt; follow = (p.0, follow_nil g a w e.0); ends = e.2 }))
      | inr (inl e) ↦ elim (or_cases ((s.free && not (is_exclude g m)) && turns_at g a m) ((may_follow g a m && passes g a s) && not (stops_at g a m)) e.0) [
        | inl t ↦
            let p = and_parts (s.free && not (is_exclude g m)) (turns_at g a m) t in
            let q = and_parts s.free (not (is_exclude g m)) p.0 in
            inr (inr (q.0, record { before = []; turn = m; rest = w; parts = refl; free = (not-true (is_exclude g m) q.1, tt); turns = p.1; behind = e.1 }))
        | inr t ↦
            let p = and_parts (may_follow g a m && passes g a s) (not (stops_at g a m)) t in
            let q = and_parts (may_follow g a m) (passes g a s) p.0 in
            let r = e.1 in
            inr (inl (q.1, record { between = m ∷ r.between; last = r.last; parts = ap (λ (x : List ℕ). m ∷ x) r.parts; unstopped = (not-true (stops_at g a m) p.1, r.unstopped); follow = (q.0, r.follow); ends = r.ends }))
      ]
      | inr (inr e) ↦
          let q = and_parts s.free (not (is_exclude g m)) e.0 in
          let t = e.1 in
          inr (inr (q.0, record { before = m ∷ t.before; turn = t.turn; rest = t.rest; parts = ap (λ (x : List ℕ). m ∷ x) t.parts; free = (not-true (is_exclude g m) q.1, t.free); turns = t.turns; behind = t.behind }))
    ]

-- a walk behind its turn
rest_leads : (g : Graph) (a : Aim) (between : List ℕ) (last : ℕ) (s : State) → passes g a s ≡ true → IsWalkFrom g s.node (between ++ last ∷ []) → NoStop g a between →
    AllFollow g a (between ++ last ∷ []) → ends_at g a last ≡ true → LeadsOn g a s (between ++ last ∷ [])
rest_leads g a [] last s p w u f e = (w.0, and_from (may_follow g a last && passes g a s) (ends_at g a last) (and_from (may_follow g a last) (passes g a s) f.0 p) e)
rest_leads g a (b ∷ bs) last s p w u f e = (
  w.0,
  rest_leads g a bs last (after g a s b)
      (or_right ((s.free && not (is_exclude g b)) && turns_at g a b) ((may_follow g a b && passes g a s) && not (stops_at g a b))
      (and_from (may_follow g a b && passes g a s) (not (stops_at g a b)) (and_from (may_follow g a b) (passes g a s) f.0 p) (not_from_false (stops_at g a b) u.0)))
      w.1 u.1 f.1 e,
)

-- a walk before its turn
turn_leads : (g : Graph) (a : Aim) (before : List ℕ) (turn : ℕ) (between : List ℕ) (last : ℕ) (s : State) → s.free ≡ true → IsWalkFrom g s.node (before ++ (turn ∷ (between ++ last ∷ []))) →
    NoExclude g (before ++ turn ∷ []) → turns_at g a turn ≡ true → NoStop g a between → AllFollow g a (between ++ last ∷ []) → ends_at g a last ≡ true →
    LeadsOn g a s (before ++ (turn ∷ (between ++ last ∷ [])))
turn_leads g a [] turn between last s free w x t u f e = (
  w.0,
  rest_leads g a between last (after g a s turn)
      (or_left ((s.free && not (is_exclude g turn)) && turns_at g a turn) ((may_follow g a turn && passes g a s) && not (stops_at g a turn))
      (and_from (s.free && not (is_exclude g turn)) (turns_at g a turn) (and_from s.free (not (is_exclude g turn)) free (not_from_false (is_exclude g turn) x.0)) t))
      w.1 u f e,
)
turn_leads g a (b ∷ bs) turn between last s free w x t u f e = (
  w.0,
  turn_leads g a bs turn between last (after g a s b) (and_from s.free (not (is_exclude g b)) free (not_from_false (is_exclude g b) x.0)) w.1 x.1 t u f e,
)

leads_walk : (g : Graph) (a : Aim) → IsWhole g → (w : List ℕ) (s : State) → s.node < length g.nodes → LeadsOn g a s w → IsWalkFrom g s.node w
leads_walk g a whole [] s l f = l
leads_walk g a whole (m ∷ w) s l f = (f.0, leads_walk g a whole w (after g a s m) (whole.edges s.node m f.0) f.1)

-- only a node is an EXCLUDE_HERE
pub directive_in : (g : Graph) (k n : ℕ) → is_directive g k n ≡ true → n < length g.nodes
directive_in g k n h =
    elim (cases_lt n (length g.nodes)) [
      | inl l ↦ l
      | inr l ↦ absurd (false≢true (sym (ap (λ o. mark_is_directive k (option_map_or (λ (d : Node). d.mark) o Plain)) (slice_get_past g.nodes n l)) ∙ h))
    ]

-- an EXCLUDE_HERE is no CHECKPOINT_HERE
mark_excludes : (k : ℕ) (mark : Mark) → mark_is_directive k mark ≡ true → (mark_is_checkpoint mark ≡ false) × (mark_is_exclude mark ≡ true)
mark_excludes k Plain h = absurd (false≢true h)
mark_excludes k Checkpoint h = absurd (false≢true h)
mark_excludes k (Exclude j) h = (refl, refl)

-- the turn of a walk is not at its first node
turn_in : (g : Graph) (a : Aim) (n : ℕ) (w : List ℕ) → turns_at g a n ≡ false → LeadsOn g a (start n) w → Turn g a w
turn_in g a n w no_turn f =
    elim (split g a w (start n) f) [
      | inl e ↦ absurd (false≢true e.1)
      | inr (inl e) ↦ absurd (elim (or_cases (true && turns_at g a n) (false && not (stops_at g a n)) e.0) [
        | inl t ↦ false≢true (sym no_turn ∙ (and_parts true (turns_at g a n) t).1)
        | inr t ↦ false≢true (and_parts false (not (stops_at g a n)) t).0
      ])
      | inr (inr e) ↦ e.1
    ]

unstopped_kills : (g : Graph) (c : ℕ) (w : List ℕ) → NoStop g (Need c) w → NoKill g c w
unstopped_kills g c [] u = tt
unstopped_kills g c (n ∷ w) u = (u.0, unstopped_kills g c w u.1)

kills_unstopped : (g : Graph) (c : ℕ) (w : List ℕ) → NoKill g c w → NoStop g (Need c) w
kills_unstopped g c [] u = tt
kills_unstopped g c (n ∷ w) u = (u.0, kills_unstopped g c w u.1)

all_follow : (g : Graph) (c : ℕ) (w : List ℕ) → AllFollow g (Need c) w
all_follow g c [] = tt
all_follow g c (n ∷ w) = (refl, all_follow g c w)

none_stop : (g : Graph) (c : ℕ) (w : List ℕ) → NoStop g (Write c) w
none_stop g c [] = tt
none_stop g c (n ∷ w) = (refl, none_stop g c w)

follow_free : (g : Graph) (c : ℕ) (w : List ℕ) → AllFollow g (Write c) w → NoExclude g w
follow_free g c [] f = tt
follow_free g c (n ∷ w) f = (not-true (is_exclude g n) f.0, follow_free g c w f.1)

free_follow : (g : Graph) (c : ℕ) (w : List ℕ) → NoExclude g w → AllFollow g (Write c) w
free_follow g c [] f = tt
free_follow g c (n ∷ w) f = (not_from_false (is_exclude g n) f.0, free_follow g c w f.1)

free_join : (g : Graph) (before : List ℕ) (turn : ℕ) (rest : List ℕ) → NoExclude g (before ++ turn ∷ []) → NoExclude g rest → NoExclude g (before ++ (turn ∷ rest))
free_join g [] turn rest x y = (x.0, y)
free_join g (b ∷ bs) turn rest x y = (x.0, free_join g bs turn rest x.1 y)

free_front : (g : Graph) (before : List ℕ) (turn : ℕ) (rest : List ℕ) → NoExclude g (before ++ (turn ∷ rest)) → NoExclude g (before ++ turn ∷ [])
free_front g [] turn rest x = (x.0, tt)
free_front g (b ∷ bs) turn rest x = (x.0, free_front g bs turn rest x.1)

free_back : (g : Graph) (before : List ℕ) (turn : ℕ) (rest : List ℕ) → NoExclude g (before ++ (turn ∷ rest)) → (is_exclude g turn ≡ false) × NoExclude g rest
free_back g [] turn rest x = x
free_back g (b ∷ bs) turn rest x = free_back g bs turn rest x.1

free_at : (g : Graph) (before : List ℕ) (turn : ℕ) → NoExclude g (before ++ turn ∷ []) → is_exclude g turn ≡ false
free_at g [] turn x = x.0
free_at g (b ∷ bs) turn x = free_at g bs turn x.1

and_no : (b : Bool) → (b && not true) ≡ false
and_no true = refl
and_no false = refl

-- a walk behind a CHECKPOINT_HERE that comes to a read with no kill before
reads_lead : (g : Graph) (c : ℕ) (v : List ℕ) (s : State) (y : ℕ) → passes g (Need c) s ≡ true → IsWalkFrom g s.node (y ∷ v) → ReadsUnkilled g c y v → LeadsOn g (Need c) s (y ∷ v)
reads_lead g c [] s y p w u = (w.0, and_from (true && passes g (Need c) s) (may_read g y c) (and_from true (passes g (Need c) s) refl p) u)
reads_lead g c (z ∷ v) s y p w u = (
  w.0,
  reads_lead g c v (after g (Need c) s y) z
      (or_right ((s.free && not (is_exclude g y)) && is_checkpoint g y) ((true && passes g (Need c) s) && not (kills g y c))
      (and_from (true && passes g (Need c) s) (not (kills g y c)) (and_from true (passes g (Need c) s) refl p) (not_from_false (kills g y c) u.0)))
      w.1 u.1,
)

-- a walk to a CHECKPOINT_HERE and on to a read
needs_lead : (g : Graph) (c : ℕ) (w : List ℕ) (s : State) (m y : ℕ) (v : List ℕ) → s.free ≡ true → IsWalkFrom g s.node (m ∷ w) → NoExclude g (m ∷ w) → is_checkpoint g (last_of m w) ≡ true →
    IsWalkFrom g (last_of m w) (y ∷ v) → ReadsUnkilled g c y v → LeadsOn g (Need c) s ((m ∷ w) ++ (y ∷ v))
needs_lead g c [] s m y v free w x t far u = (
  w.0,
  reads_lead g c v (after g (Need c) s m) y
      (or_left ((s.free && not (is_exclude g m)) && is_checkpoint g m) ((true && passes g (Need c) s) && not (kills g m c))
      (and_from (s.free && not (is_exclude g m)) (is_checkpoint g m) (and_from s.free (not (is_exclude g m)) free (not_from_false (is_exclude g m) x.0)) t))
      far u,
)
needs_lead g c (p ∷ ps) s m y v free w x t far u =
    (w.0, needs_lead g c ps (after g (Need c) s m) p y v (and_from s.free (not (is_exclude g m)) free (not_from_false (is_exclude g m) x.0)) w.1 x.1 t far u)

-- a walk behind a write that comes to a CHECKPOINT_HERE
goes_lead : (g : Graph) (c : ℕ) (w : List ℕ) (s : State) (m : ℕ) → passes g (Write c) s ≡ true → IsWalkFrom g s.node (m ∷ w) → NoExclude g (m ∷ w) → is_checkpoint g (last_of m w) ≡ true →
    LeadsOn g (Write c) s (m ∷ w)
goes_lead g c [] s m p w x t = (
  w.0,
  and_from (not (is_exclude g m) && passes g (Write c) s) (is_checkpoint g m) (and_from (not (is_exclude g m)) (passes g (Write c) s) (not_from_false (is_exclude g m) x.0) p) t,
)
goes_lead g c (q ∷ qs) s m p w x t = (
  w.0,
  goes_lead g c qs (after g (Write c) s m) q
      (or_right ((s.free && not (is_exclude g m)) && turns_at g (Write c) m) ((not (is_exclude g m) && passes g (Write c) s) && true)
      (and_from (not (is_exclude g m) && passes g (Write c) s) true (and_from (not (is_exclude g m)) (passes g (Write c) s) (not_from_false (is_exclude g m) x.0) p) refl))
      w.1 x.1 t,
)

-- a walk to a write and on to a CHECKPOINT_HERE
writes_lead : (g : Graph) (c : ℕ) (w : List ℕ) (s : State) (m : ℕ) → s.free ≡ true → IsWalkFrom g s.node (m ∷ w) → NoExclude g (m ∷ w) → is_checkpoint g (last_of m w) ≡ true →
    WritesBefore g c m w → LeadsOn g (Write c) s (m ∷ w)
writes_lead g c [] s m free w x t b = absurd b
writes_lead g c (p ∷ ps) s m free w x t b =
    let clear = not_from_false (is_exclude g m) x.0 in
    let free_on = and_from s.free (not (is_exclude g m)) free clear in
    elim b [
      | inl h ↦ (
        w.0,
        goes_lead g c ps (after g (Write c) s m) p
            (or_left ((s.free && not (is_exclude g m)) && turns_at g (Write c) m) ((not (is_exclude g m) && passes g (Write c) s) && true)
            (and_from (s.free && not (is_exclude g m)) (turns_at g (Write c) m) free_on (and_from (may_write g m c) (not (is_exclude g m)) h clear)))
            w.1 x.1 t,
      )
      | inr r ↦ (w.0, writes_lead g c ps (after g (Write c) s m) p free_on w.1 x.1 t r)
    ]

module _ (g : Graph) (k c n : ℕ) (whole : IsWhole g) (inside : n < length g.nodes) (here : is_directive g k n ≡ true) where
  no_need_turn : turns_at g (Need c) n ≡ false
  no_need_turn = (mark_excludes k (mark_of g n) here).0

  no_write_turn : turns_at g (Write c) n ≡ false
  no_write_turn = ap (λ (b : Bool). may_write g n c && not b) (mark_excludes k (mark_of g n) here).1 ∙ and_no (may_write g n c)

  pub way_needs : (walk : List ℕ) → IsWay g (Need c) n walk → IsNeedWalk g k c walk
  way_needs walk way =
      let t = turn_in g (Need c) n way.0 no_need_turn way.1.1 in
      let r = t.behind in
      record {
        exclude = n;
        before = t.before;
        checkpoint = t.turn;
        between = r.between;
        read = r.last;
        parts = way.1.0 ∙ ap (λ (x : List ℕ). n ∷ x) (t.parts ∙ ap (λ (x : List ℕ). t.before ++ (t.turn ∷ x)) r.parts);
        joined = subst (IsWalk g) (sym way.1.0) (leads_walk g (Need c) whole way.0 (start n) inside way.1.1);
        leaves = here;
        free = t.free;
        reaches = t.turns;
        unkilled = unstopped_kills g c r.between r.unstopped;
        reads = r.ends;
      }

  pub need_ways : (walk : List ℕ) → IsNeedWalk g k c walk → IsWay g (Need c) n walk
  need_ways walk x =
      let same : x.exclude ≡ n = whole.one_node k x.exclude n x.leaves here in
      let w : List ℕ = x.before ++ (x.checkpoint ∷ (x.between ++ x.read ∷ [])) in
      let e : walk ≡ n ∷ w = x.parts ∙ ap (λ (j : ℕ). j ∷ w) same in (
        w,
        (
          e,
          turn_leads g (Need c) x.before x.checkpoint x.between x.read (start n) refl (subst (IsWalk g) e x.joined) x.free x.reaches (kills_unstopped g c x.between x.unkilled)
              (all_follow g c (x.between ++ x.read ∷ [])) x.reads,
        ),
      )

  pub way_writes : (walk : List ℕ) → IsWay g (Write c) n walk → IsWriteWalk g k c walk
  way_writes walk way =
      let t = turn_in g (Write c) n way.0 no_write_turn way.1.1 in
      let r = t.behind in
      record {
        exclude = n;
        before = t.before;
        write = t.turn;
        between = r.between;
        checkpoint = r.last;
        parts = way.1.0 ∙ ap (λ (x : List ℕ). n ∷ x) (t.parts ∙ ap (λ (x : List ℕ). t.before ++ (t.turn ∷ x)) r.parts);
        joined = subst (IsWalk g) (sym way.1.0) (leads_walk g (Write c) whole way.0 (start n) inside way.1.1);
        leaves = here;
        free = free_join g t.before t.turn (r.between ++ r.last ∷ []) t.free (subst (NoExclude g) r.parts (follow_free g c t.rest r.follow));
        writes = (and_parts (may_write g t.turn c) (not (is_exclude g t.turn)) t.turns).0;
        reaches = r.ends;
      }

  pub write_ways : (walk : List ℕ) → IsWriteWalk g k c walk → IsWay g (Write c) n walk
  write_ways walk x =
      let same : x.exclude ≡ n = whole.one_node k x.exclude n x.leaves here in
      let w : List ℕ = x.before ++ (x.write ∷ (x.between ++ x.checkpoint ∷ [])) in
      let e : walk ≡ n ∷ w = x.parts ∙ ap (λ (j : ℕ). j ∷ w) same in
      let b = free_back g x.before x.write (x.between ++ x.checkpoint ∷ []) x.free in (
        w,
        (
          e,
          turn_leads g (Write c) x.before x.write x.between x.checkpoint (start n) refl (subst (IsWalk g) e x.joined)
              (free_front g x.before x.write (x.between ++ x.checkpoint ∷ []) x.free)
              (and_from (may_write g x.write c) (not (is_exclude g x.write)) x.writes (not_from_false (is_exclude g x.write) b.0))
              (none_stop g c x.between) (free_follow g c (x.between ++ x.checkpoint ∷ []) b.1) x.reaches,
        ),
      )

  pub need_least : (w : List ℕ) → IsLeast (IsWay g (Need c) n) w → IsLeast (IsNeedWalk g k c) w
  need_least w x = record { is_one = way_needs w x.is_one; least = λ v y. x.least v (need_ways v y) }

  pub write_least : (w : List ℕ) → IsLeast (IsWay g (Write c) n) w → IsLeast (IsWriteWalk g k c) w
  write_least w x = record { is_one = way_writes w x.is_one; least = λ v y. x.least v (write_ways v y) }

  -- with no walk that needs the cell it is dead
  pub dead_without : ((w : List ℕ) → IsWay g (Need c) n w → ⊥) → IsDead g k c
  dead_without none = λ x m w leads y v walk reads.
      let same : x ≡ n = whole.one_node k x n leads.leaves here in
      none (n ∷ ((m ∷ w) ++ (y ∷ v))) (
        (m ∷ w) ++ (y ∷ v),
        (refl, needs_lead g c w (start n) m y v refl (subst (λ (j : ℕ). IsWalkFrom g j (m ∷ w)) same leads.walk) leads.free leads.reaches walk reads),
      )

  -- with no walk that writes the cell it is read-only, unless it is dead
  pub read_only_without : ((w : List ℕ) → IsWay g (Write c) n w → ⊥) → (IsDead g k c → ⊥) → IsReadOnly g k c
  read_only_without none alive = (
    alive,
    (λ x m w leads b.
        let same : x ≡ n = whole.one_node k x n leads.leaves here in
        none (n ∷ (m ∷ w)) (m ∷ w, (refl, writes_lead g c w (start n) m refl (subst (λ (j : ℕ). IsWalkFrom g j (m ∷ w)) same leads.walk) leads.free leads.reaches b))),
  )
