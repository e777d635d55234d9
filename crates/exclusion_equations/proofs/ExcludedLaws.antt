-- Dead and read-only cells by what nodes come to.
use Rattle.std.proofs.Common.{ℕ, ◌<◌, ◌≡◌, Bool, true, false, ◌&&◌, not, List, [], ◌∷◌, length, sym, ap, ◌∙◌, refl, inl, inr}
use Rattle.std.proofs.lemmas.Bool.{false≢true, cases_Bool, and_parts, and_from, not-true}
use Rattle.cell_sets.specs.Sets.{Cells, has}
use Rattle.path_laws.specs.declared.graph.Mark.{Mark}
use Rattle.path_laws.specs.declared.graph.Mark.TheVariants.{Plain, Checkpoint, Exclude}
use Rattle.path_laws.specs.Graph.{Graph, has_edge, mark_of, writes_of, is_checkpoint, is_exclude, is_directive, mark_is_checkpoint, mark_is_exclude, IsWhole}
use Rattle.path_laws.specs.Walks.{IsWalkFrom, NoExclude, last_of}
use Rattle.path_laws.specs.Reaching.{IsPath, Until, Reaches}
use Rattle.path_laws.specs.Forgettable.{IsForgettable}
use Rattle.path_laws.proofs.WorkLaws.{one_more}
use Rattle.exclusion_equations.specs.declared.equations.Effect.TheVariants.{Reads, Kills}
use Rattle.exclusion_equations.specs.Excluded.{Leads, IsDead, WritesBefore, IsReadOnly, IsExactly}
use Rattle.exclusion_equations.specs.Classes.{Partition, AreAlike, AreClasses, class_of, class_count, first_of}
use Rattle.exclusion_equations.specs.Rows.{AreReached, after, has_effect, at_checkpoint, at_exclude, written_at, AreSpoiled, AreWritten}
use Rattle.exclusion_equations.proofs.ReachLaws.{path_of_walk, walk_of_path, last_in, until_same, after_from, from_after}

-- a class k that is wanted after node n, as rows say, and a cell c of it
pub not_forgettable : (g : Graph) (p : Partition) (rows : List Cells) (n k c : ℕ) → IsWhole g → AreReached g (class_count p) (has_effect Reads g p) (has_effect Kills g p) rows → k < class_count p → AreAlike g (first_of p k) c → n < length g.nodes →
    after g rows n k ≡ true → IsForgettable g c n → ⊥
not_forgettable g p rows n k c j h lk alike ln a f =
    let s = after_from g rows n k a in
    let r = h.sound s.0 k lk s.2 in
    f s.0 r.0 (s.1, walk_of_path g j s.0 r.0 (j.edges n s.0 s.1) r.1.0) (until_same _ _ _ _ (λ m. alike.reads m) (λ m. alike.kills m) s.0 r.0 r.1.1)

pub forgettable : (g : Graph) (p : Partition) (rows : List Cells) (n k c : ℕ) → IsWhole g → AreReached g (class_count p) (has_effect Reads g p) (has_effect Kills g p) rows → k < class_count p → AreAlike g (first_of p k) c →
    (after g rows n k ≡ true → ⊥) → IsForgettable g c n
forgettable g p rows n k c j h lk alike none m w walk reads =
    none (from_after g rows n k m walk.0 (h.complete m k lk (j.edges n m walk.0) (w, (path_of_walk g m w walk.1, until_same _ _ _ _ (λ i. sym (alike.reads i)) (λ i. sym (alike.kills i)) m w reads))))

-- a CHECKPOINT_HERE is no EXCLUDE_HERE
checkpoint_only : (m : Mark) → mark_is_checkpoint m ≡ true → mark_is_exclude m ≡ false
checkpoint_only Plain h = refl
checkpoint_only Checkpoint h = refl
checkpoint_only (Exclude k) h = absurd (false≢true h)

-- walks without an EXCLUDE_HERE to a CHECKPOINT_HERE with a fact
until_of_free : (g : Graph) (then' : ℕ → Bool) (m : ℕ) (w : List ℕ) → NoExclude g (m ∷ w) → is_checkpoint g (last_of m w) ≡ true → then' (last_of m w) ≡ true → Until (λ k. is_checkpoint g k && then' k) (is_exclude g) m w
until_of_free g then' m [] f cp a = and_from _ _ cp a
until_of_free g then' m (p ∷ w) f cp a = (f.0, until_of_free g then' p w f.1 cp a)

free_of_until : (g : Graph) (then' : ℕ → Bool) (m : ℕ) (w : List ℕ) → Until (λ k. is_checkpoint g k && then' k) (is_exclude g) m w → NoExclude g (m ∷ w) × (is_checkpoint g (last_of m w) ≡ true) × (then' (last_of m w) ≡ true)
free_of_until g then' m [] h = let p = and_parts (is_checkpoint g m) (then' m) h in ((checkpoint_only (mark_of g m) p.0, tt), p.0, p.1)
free_of_until g then' m (p ∷ w) h = let r = free_of_until g then' p w h.1 in ((h.0, r.0), r.1, r.2)

pub not_dead : (g : Graph) (p : Partition) (rows : List Cells) (d n k c : ℕ) → IsWhole g → AreSpoiled g p rows → k < class_count p → AreAlike g (first_of p k) c → is_directive g d n ≡ true → after g rows n k ≡ true → IsDead g d c → ⊥
not_dead g p rows d n k c j h lk alike here a dead =
    let s = after_from g rows n k a in
    let r = h.reached.sound s.0 k lk s.2 in
    let f = free_of_until g (λ q. after g h.wanted q k) s.0 r.0 r.1.1 in
    let walk : IsWalkFrom g s.0 r.0 = walk_of_path g j s.0 r.0 (j.edges n s.0 s.1) r.1.0 in
    not_forgettable g p h.wanted (last_of s.0 r.0) k c j h.want lk alike (last_in g s.0 r.0 walk) f.2
    (dead n s.0 r.0 (record { leaves = here; walk = (s.1, walk); free = f.0; reaches = f.1 }))

pub dead : (g : Graph) (p : Partition) (rows : List Cells) (d n k c : ℕ) → IsWhole g → AreSpoiled g p rows → k < class_count p → AreAlike g (first_of p k) c → is_directive g d n ≡ true → (after g rows n k ≡ true → ⊥) → IsDead g d c
dead g p rows d n k c j h lk alike here none q m w lead =
    forgettable g p h.wanted (last_of m w) k c j h.want lk alike (λ a.
    let e : has_edge g n m ≡ true = (λ i. has_edge g (j.one_node d n q here lead.leaves i) m) ∙ lead.walk.0 in
    none (from_after g rows n k m e (h.reached.complete m k lk (j.edges n m e) (w, (path_of_walk g m w lead.walk.1, until_of_free g (λ z. after g h.wanted z k) m w lead.free lead.reaches a)))))

-- from m a CHECKPOINT_HERE comes with no EXCLUDE_HERE
plain_until : (g : Graph) (m : ℕ) (w : List ℕ) → NoExclude g (m ∷ w) → is_checkpoint g (last_of m w) ≡ true → Until (is_checkpoint g) (is_exclude g) m w
plain_until g m [] f cp = cp
plain_until g m (q ∷ w) f cp = (f.0, plain_until g q w f.1 cp)

plain_free : (g : Graph) (m : ℕ) (w : List ℕ) → Until (is_checkpoint g) (is_exclude g) m w → NoExclude g (m ∷ w) × (is_checkpoint g (last_of m w) ≡ true)
plain_free g m [] h = ((checkpoint_only (mark_of g m) h, tt), h)
plain_free g m (q ∷ w) h = let r = plain_free g q w h.1 in ((h.0, r.0), r.1)

-- a write, and a CHECKPOINT_HERE after it
reach_of_writes : (g : Graph) (p : Partition) (coming : List Cells) (k c : ℕ) → IsWhole g → AreReached g (class_count p) (at_checkpoint g) (at_exclude g) coming → k < class_count p → AreAlike g (first_of p k) c →
    (m : ℕ) (w : List ℕ) → IsWalkFrom g m w → NoExclude g (m ∷ w) → is_checkpoint g (last_of m w) ≡ true → WritesBefore g c m w → Reaches (has_edge g) (λ q. written_at g p coming q k) (is_exclude g) m
reach_of_writes g p coming k c j h lk alike m [] walk f cp wb = absurd wb
reach_of_writes g p coming k c j h lk alike m (q ∷ w) walk f cp (inl now) =
    let come = from_after g coming m k q walk.0 (h.complete q k lk (j.edges m q walk.0) (w, (path_of_walk g q w walk.1, plain_until g q w f.1 cp))) in
    ([], (tt, and_from _ _ (ap not f.0) (and_from _ _ (alike.writes m ∙ now) come)))
reach_of_writes g p coming k c j h lk alike m (q ∷ w) walk f cp (inr later) =
    one_more (has_edge g) (λ i. written_at g p coming i k) (is_exclude g) m q walk.0 f.0 (reach_of_writes g p coming k c j h lk alike q w walk.1 f.1 cp later)

writes_of_reach : (g : Graph) (p : Partition) (coming : List Cells) (k c : ℕ) → IsWhole g → AreReached g (class_count p) (at_checkpoint g) (at_exclude g) coming → k < class_count p → AreAlike g (first_of p k) c →
    (m : ℕ) (w : List ℕ) → m < length g.nodes → IsPath (has_edge g) m w → Until (λ q. written_at g p coming q k) (is_exclude g) m w →
    (v : List ℕ) × IsWalkFrom g m v × NoExclude g (m ∷ v) × (is_checkpoint g (last_of m v) ≡ true) × WritesBefore g c m v
writes_of_reach g p coming k c j h lk alike m [] lm path u =
    let a = and_parts (not (is_exclude g m)) (has (writes_of g m) (first_of p k) && after g coming m k) u in
    let b = and_parts (has (writes_of g m) (first_of p k)) (after g coming m k) a.1 in
    let s = after_from g coming m k b.1 in
    let r = h.sound s.0 k lk s.2 in
    let f = plain_free g s.0 r.0 r.1.1 in
    (s.0 ∷ r.0, (s.1, walk_of_path g j s.0 r.0 (j.edges m s.0 s.1) r.1.0), (not-true _ a.0, f.0), f.1, inl (sym (alike.writes m) ∙ b.0))
writes_of_reach g p coming k c j h lk alike m (q ∷ w) lm path u =
    let r = writes_of_reach g p coming k c j h lk alike q w (j.edges m q path.0) path.1 u.1 in
    (q ∷ r.0, (path.0, r.1), (u.0, r.2), r.3, inr r.4)

-- a class that may be written before a CHECKPOINT_HERE
pub is_written : (g : Graph) (p : Partition) (rows : List Cells) (d n k c : ℕ) → IsWhole g → AreWritten g p rows → k < class_count p → AreAlike g (first_of p k) c → is_directive g d n ≡ true → after g rows n k ≡ true →
    (m : ℕ) × (w : List ℕ) × Leads g d n m w × WritesBefore g c m w
is_written g p rows d n k c j h lk alike here a =
    let s = after_from g rows n k a in
    let r = h.reached.sound s.0 k lk s.2 in
    let v = writes_of_reach g p h.coming k c j h.come lk alike s.0 r.0 (j.edges n s.0 s.1) r.1.0 r.1.1 in
    (s.0, v.0, record { leaves = here; walk = (s.1, v.1); free = v.2; reaches = v.3 }, v.4)

pub not_written : (g : Graph) (p : Partition) (rows : List Cells) (d n k c : ℕ) → IsWhole g → AreWritten g p rows → k < class_count p → AreAlike g (first_of p k) c → is_directive g d n ≡ true → (after g rows n k ≡ true → ⊥) →
    (q m : ℕ) (w : List ℕ) → Leads g d q m w → WritesBefore g c m w → ⊥
not_written g p rows d n k c j h lk alike here none q m w lead wb =
    let e : has_edge g n m ≡ true = (λ i. has_edge g (j.one_node d n q here lead.leaves i) m) ∙ lead.walk.0 in
    none (from_after g rows n k m e (h.reached.complete m k lk (j.edges n m e) (reach_of_writes g p h.coming k c j h.come lk alike m w lead.walk.1 lead.free lead.reaches wb)))

-- the classes that are not spoiled after n are those of the dead cells
pub dead_exactly : (g : Graph) (p : Partition) (rows : List Cells) (d n : ℕ) (row s : Cells) → IsWhole g → AreClasses g p → AreSpoiled g p rows → is_directive g d n ≡ true → ((k : ℕ) → has row k ≡ after g rows n k) →
    length s ≡ g.cells → ((c : ℕ) → c < g.cells → has s c ≡ not (has row (class_of p c))) → IsExactly g.cells (IsDead g d) s
dead_exactly g p rows d n row s j cl h here is u answer = record {
  universe = u;
  exact = λ c lc.
      let k = class_of p c in
      let lk = cl.below c lc in
      let first = cl.first_in k lk in
      let alike = cl.alike (first_of p k) c first.0 lc first.1 in (
        (λ x. dead g p rows d n k c j h lk alike here (λ a. false≢true (sym (not-true _ (sym (answer c lc) ∙ x)) ∙ is k ∙ a))),
        (λ x. elim (cases_Bool (has row k)) [
          | inl on ↦ absurd (not_dead g p rows d n k c j h lk alike here (sym (is k) ∙ on) x)
          | inr off ↦ answer c lc ∙ ap not off
        ]),
      );
}

-- and the classes that are spoiled after n and not written are those of the read-only cells
pub read_only_exactly : (g : Graph) (p : Partition) (rows writes : List Cells) (d n : ℕ) (row written s : Cells) → IsWhole g → AreClasses g p → AreSpoiled g p rows → AreWritten g p writes → is_directive g d n ≡ true →
    ((k : ℕ) → has row k ≡ after g rows n k) → ((k : ℕ) → has written k ≡ after g writes n k) →
    length s ≡ g.cells → ((c : ℕ) → c < g.cells → has s c ≡ (has row (class_of p c) && not (has written (class_of p c)))) → IsExactly g.cells (IsReadOnly g d) s
read_only_exactly g p rows writes d n row written s j cl h hw here is wis u answer = record {
  universe = u;
  exact = λ c lc.
      let k = class_of p c in
      let lk = cl.below c lc in
      let first = cl.first_in k lk in
      let alike = cl.alike (first_of p k) c first.0 lc first.1 in (
        (λ x. let b = and_parts (has row k) (not (has written k)) (sym (answer c lc) ∙ x) in (
          not_dead g p rows d n k c j h lk alike here (sym (is k) ∙ b.0),
          not_written g p writes d n k c j hw lk alike here (λ a. false≢true (sym (not-true _ b.1) ∙ wis k ∙ a)),
        )),
        (λ x. elim (cases_Bool (has row k)) [
          | inr off ↦ absurd (x.0 (dead g p rows d n k c j h lk alike here (λ a. false≢true (sym off ∙ is k ∙ a))))
          | inl on ↦ elim (cases_Bool (has written k)) [
            | inr free ↦ answer c lc ∙ and_from _ _ on (ap not free)
            | inl bad ↦ let w = is_written g p writes d n k c j hw lk alike here (sym (wis k) ∙ bad) in absurd (x.1 n w.0 w.1 w.2 w.3)
          ]
        ]),
      );
}
