-- What walks that show events promise of them.
use Rattle.std.proofs.Common.{◌≡◌, ℕ, ◌<◌, ◌⊎◌, true, false, List, [], ◌∷◌, ◌++◌, length, Option, Some, None, inl, inr, ⊎_elim, refl, sym, ap, ◌∙◌, subst}
use Rattle.std.specs.Prelude.{slice_get}
use Rattle.std.specs.Option.{option_map_or}
use Rattle.std.specs.List.{Contains}
use Rattle.std.proofs.lemmas.Bool.{false≢true, eq-eqb}
use Rattle.std.proofs.lemmas.Option.{slice_get_within}
use Rattle.std.proofs.lemmas.List.Elements.{Contains-append_cases, Contains-push_cases}
use Rattle.ckpt_base.specs.Event.{Event, Wrote, Byte, Took, Excluded, Checkpoint}
use Rattle.path_laws.specs.declared.graph.Mark.{Mark}
use Rattle.path_laws.specs.declared.graph.Mark.TheVariants as mark'
use Rattle.path_laws.specs.declared.graph.Node.{Node}
use Rattle.path_laws.specs.Graph.{Graph, mark_of, mark_is_checkpoint, mark_is_exclude, mark_is_directive, may_write, has_edge, is_checkpoint, is_exclude, is_directive}
use Rattle.path_laws.specs.Walks.{IsWalkFrom, NoExclude, last_of}
use Rattle.path_laws.specs.Forgettable.{IsForgettable}
use Rattle.exclusion_equations.specs.Excluded.{Leads, IsDead, WritesBefore, IsReadOnly}
use Rattle.flow_graph.specs.Agreement.{wrote}
use Rattle.flow_graph.specs.RunWalks.{ShowsOnly, MayShow, ShowsAs, GoesAlong}
use Rattle.flow_graph.specs.Spared.{NoneExcluded}
use Rattle.flow_graph.proofs.AgreeStores.{nothing_there, wrote_both}

-- ---- lists

module _ {A : Type 0} where
  pub head_same : (x y : A) (xs ys : List A) → ◌≡◌ {A = List A} (x ∷ xs) (y ∷ ys) → x ≡ y
  head_same x y xs ys e = cc

  pub rest_same : (x y : A) (xs ys : List A) → ◌≡◌ {A = List A} (x ∷ xs) (y ∷ ys) → xs ≡ ys
  rest_same x y xs ys e = cc

  pub never_empty : {B : Type 0} (xs ys : List A) (x : A) → ◌≡◌ {A = List A} [] (xs ++ x ∷ ys) → B
  never_empty [] ys x e = absurd cc
  never_empty (z ∷ xs) ys x e = absurd cc

  -- in two lists together an element stands in the first or in the second
  abbrev pub InFirst : List A → List A → List A → A → List A → Type 0
  InFirst xs ys as' x bs = (zs : List A) × (xs ≡ as' ++ x ∷ zs) × (bs ≡ zs ++ ys)

  abbrev pub InSecond : List A → List A → List A → A → List A → Type 0
  InSecond xs ys as' x bs = (zs : List A) × (as' ≡ xs ++ zs) × (ys ≡ zs ++ x ∷ bs)

  pub stands_in : (xs ys as' : List A) (x : A) (bs : List A) → xs ++ ys ≡ as' ++ x ∷ bs → InFirst xs ys as' x bs ⊎ InSecond xs ys as' x bs
  stands_in [] ys as' x bs e = inr (as', refl, e)
  stands_in (y ∷ xs) ys [] x bs e = inl (xs, ap (λ z. z ∷ xs) (head_same y x (xs ++ ys) bs e), sym (rest_same y x (xs ++ ys) bs e))
  stands_in (y ∷ xs) ys (a ∷ as') x bs e = later (stands_in xs ys as' x bs (rest_same y a (xs ++ ys) (as' ++ x ∷ bs) e))
    where
      same : y ≡ a
      same = head_same y a (xs ++ ys) (as' ++ x ∷ bs) e

      later : InFirst xs ys as' x bs ⊎ InSecond xs ys as' x bs → InFirst (y ∷ xs) ys (a ∷ as') x bs ⊎ InSecond (y ∷ xs) ys (a ∷ as') x bs
      later (inl q) = inl (q.0, (λ i. same i ∷ q.1 i), q.2)
      later (inr q) = inr (q.0, (λ i. sym same i ∷ q.1 i), q.2)

-- ---- events

module _ (P : ℕ → Type 0) where
  pub only_both : (xs ys : List Event) → ShowsOnly P xs → ShowsOnly P ys → ShowsOnly P (xs ++ ys)
  only_both [] ys a b = b
  only_both (Wrote c ∷ xs) ys a b = (a.0, only_both xs ys a.1 b)
  only_both (Byte v ∷ xs) ys a b = only_both xs ys a b
  only_both (Took ∷ xs) ys a b = only_both xs ys a b
  only_both (Excluded k ∷ xs) ys a b = absurd a
  only_both (Checkpoint m t ∷ xs) ys a b = absurd a

  pub only_right : (xs ys : List Event) → ShowsOnly P (xs ++ ys) → ShowsOnly P ys
  only_right [] ys a = a
  only_right (Wrote c ∷ xs) ys a = only_right xs ys a.1
  only_right (Byte v ∷ xs) ys a = only_right xs ys a
  only_right (Took ∷ xs) ys a = only_right xs ys a
  only_right (Excluded k ∷ xs) ys a = absurd a
  only_right (Checkpoint m t ∷ xs) ys a = absurd a

  -- what they write passes
  pub only_wrote : (es : List Event) (c : ℕ) → ShowsOnly P es → Contains (wrote es) c → P c
  only_wrote [] c a h = nothing_there c h
  only_wrote (Wrote d ∷ es) c a h =
      ⊎_elim (λ y. ⊎_elim (λ z. nothing_there c z) (λ z. subst P z a.0) (Contains-push_cases [] d c y)) (λ y. only_wrote es c a.1 y) (Contains-append_cases (d ∷ []) (wrote es) c h)
  only_wrote (Byte v ∷ es) c a h = only_wrote es c a h
  only_wrote (Took ∷ es) c a h = only_wrote es c a h
  only_wrote (Excluded k ∷ es) c a h = absurd a
  only_wrote (Checkpoint m t ∷ es) c a h = absurd a

none_right : (xs ys : List Event) → NoneExcluded (xs ++ ys) → NoneExcluded ys
none_right [] ys a = a
none_right (Wrote c ∷ xs) ys a = none_right xs ys a
none_right (Byte v ∷ xs) ys a = none_right xs ys a
none_right (Took ∷ xs) ys a = none_right xs ys a
none_right (Excluded k ∷ xs) ys a = absurd a
none_right (Checkpoint m t ∷ xs) ys a = none_right xs ys a

-- the number of a directive, and of a checkpoint's node
abbrev number : Event → ℕ
number (Wrote c) = 0
number (Byte b) = 0
number Took = 0
number (Excluded k) = k
number (Checkpoint m t) = m

excluded_checkpoint : {A : Type 0} (k m t : ℕ) → Excluded k ≡ Checkpoint m t → A
excluded_checkpoint k m t e = absurd cc

-- ---- nodes

no_exclude : (m : Mark) → mark_is_checkpoint m ≡ true → mark_is_exclude m ≡ false
no_exclude mark'.Plain e = refl
no_exclude mark'.Checkpoint e = refl
no_exclude (mark'.Exclude k) e = absurd (false≢true e)

module _ (g : Graph) where
  -- what is marked is a node
  pub marked_within : (j : ℕ) → is_checkpoint g j ≡ true → j < length g.nodes
  marked_within j e = by (slice_get g.nodes j) refl
    where
      by : (o : Option Node) → slice_get g.nodes j ≡ o → j < length g.nodes
      by None is = absurd (false≢true (sym (ap (λ (o : Option Node). mark_is_checkpoint (option_map_or (λ d. d.mark) o mark'.Plain)) is) ∙ e))
      by (Some d) is = slice_get_within g.nodes j d is

  module _ (n : ℕ) where
    -- the node that shows a checkpoint is that one
    pub checkpoint_here : (m : Mark) → mark_of g n ≡ m → (es a d : List Event) (j u : ℕ) → ShowsAs g n m es → es ≡ a ++ Checkpoint j u ∷ d → (is_checkpoint g n ≡ true) × (n ≡ j) × (a ≡ []) × (d ≡ [])
    checkpoint_here mark'.Plain is es a d j u s e = absurd (only_right (λ c. may_write g n c ≡ true) a (Checkpoint j u ∷ d) (subst (MayShow g n) e s))
    checkpoint_here mark'.Checkpoint is es a d j u s e = by a (sym s.1 ∙ e)
      where
        by : (a : List Event) → Checkpoint n s.0 ∷ [] ≡ a ++ Checkpoint j u ∷ d → (is_checkpoint g n ≡ true) × (n ≡ j) × (a ≡ []) × (d ≡ [])
        by [] q = (ap mark_is_checkpoint is, ap number (head_same (Checkpoint n s.0) (Checkpoint j u) [] d q), refl, sym (rest_same (Checkpoint n s.0) (Checkpoint j u) [] d q))
        by (x ∷ a) q = never_empty a d (Checkpoint j u) (rest_same (Checkpoint n s.0) x [] (a ++ Checkpoint j u ∷ d) q)
    checkpoint_here (mark'.Exclude k) is es a d j u s e = by a (sym s ∙ e)
      where
        by : {A : Type 0} (a : List Event) → Excluded k ∷ [] ≡ a ++ Checkpoint j u ∷ d → A
        by [] q = excluded_checkpoint k j u (head_same (Excluded k) (Checkpoint j u) [] d q)
        by (x ∷ a) q = never_empty a d (Checkpoint j u) (rest_same (Excluded k) x [] (a ++ Checkpoint j u ∷ d) q)

    -- and the node that shows a directive is that of the directive
    directive_here : (m : Mark) → mark_of g n ≡ m → (es a d : List Event) (k : ℕ) → ShowsAs g n m es → es ≡ a ++ Excluded k ∷ d → (is_directive g k n ≡ true) × (d ≡ [])
    directive_here mark'.Plain is es a d k s e = absurd (only_right (λ c. may_write g n c ≡ true) a (Excluded k ∷ d) (subst (MayShow g n) e s))
    directive_here mark'.Checkpoint is es a d k s e = by a (sym s.1 ∙ e)
      where
        by : {A : Type 0} (a : List Event) → Checkpoint n s.0 ∷ [] ≡ a ++ Excluded k ∷ d → A
        by [] q = excluded_checkpoint k n s.0 (sym (head_same (Checkpoint n s.0) (Excluded k) [] d q))
        by (x ∷ a) q = never_empty a d (Excluded k) (rest_same (Checkpoint n s.0) x [] (a ++ Excluded k ∷ d) q)
    directive_here (mark'.Exclude i) is es a d k s e = by a (sym s ∙ e)
      where
        by : (a : List Event) → Excluded i ∷ [] ≡ a ++ Excluded k ∷ d → (is_directive g k n ≡ true) × (d ≡ [])
        by [] q = (ap (mark_is_directive k) is ∙ eq-eqb i k (ap number (head_same (Excluded i) (Excluded k) [] d q)), sym (rest_same (Excluded i) (Excluded k) [] d q))
        by (x ∷ a) q = never_empty a d (Excluded k) (rest_same (Excluded i) x [] (a ++ Excluded k ∷ d) q)

    -- a node that showed no directive is none
    free_here : (m : Mark) → mark_of g n ≡ m → (es later : List Event) → ShowsAs g n m es → NoneExcluded (es ++ later) → is_exclude g n ≡ false
    free_here mark'.Plain is es later s none = ap mark_is_exclude is
    free_here mark'.Checkpoint is es later s none = ap mark_is_exclude is
    free_here (mark'.Exclude k) is es later s none = absurd (subst (λ (q : List Event). NoneExcluded (q ++ later)) s none)

    -- what a node wrote it may write
    writes_here : (m : Mark) (es : List Event) (c : ℕ) → ShowsAs g n m es → Contains (wrote es) c → may_write g n c ≡ true
    writes_here mark'.Plain es c s h = only_wrote (λ c. may_write g n c ≡ true) es c s h
    writes_here mark'.Checkpoint es c s h = nothing_there c (subst (λ (q : List Event). Contains (wrote q) c) s.1 h)
    writes_here (mark'.Exclude k) es c s h = nothing_there c (subst (λ (q : List Event). Contains (wrote q) c) s h)

  -- ---- walks

  -- a walk leads from node n to checkpoint j with no directive, and its nodes before j may write what these events write
  pub record Comes (n j : ℕ) (b : List Event) : Type 0 where
    pub walk : List ℕ
    pub is : IsWalkFrom g n walk
    pub last : last_of n walk ≡ j
    pub marked : is_checkpoint g j ≡ true
    pub free : NoExclude g (n ∷ walk)
    pub writes : (c : ℕ) → Contains (wrote b) c → WritesBefore g c n walk

  comes : (n : ℕ) (w : List ℕ) (es b : List Event) (j u : ℕ) (d : List Event) → GoesAlong g n w es → es ≡ b ++ Checkpoint j u ∷ d → NoneExcluded b → Comes n j b
  comes n [] es b j u d go e none = absurd (only_right (λ c. may_write g n c ≡ true) b (Checkpoint j u ∷ d) (subst (MayShow g n) e go))
  comes n (m ∷ w) es b j u d go e none = by (λ z q x. comes m w go.1 z j u d go.5 q x) (stands_in go.0 go.1 b (Checkpoint j u) d (sym go.2 ∙ e))
    where
      by : ((z : List Event) → go.1 ≡ z ++ Checkpoint j u ∷ d → NoneExcluded z → Comes m j z) → InFirst go.0 go.1 b (Checkpoint j u) d ⊎ InSecond go.0 go.1 b (Checkpoint j u) d → Comes n j b
      by rec (inl q) =
          let z = checkpoint_here n (mark_of g n) refl go.0 b q.0 j u go.3 q.1 in
          record {
            walk = [];
            is = marked_within n z.0;
            last = z.1;
            marked = subst (λ i. is_checkpoint g i ≡ true) z.1 z.0;
            free = (no_exclude (mark_of g n) z.0, tt);
            writes = λ c h. nothing_there c (subst (λ (x : List Event). Contains (wrote x) c) z.2 h);
          }
      by rec (inr q) =
          let r = rec q.0 q.2 (none_right go.0 q.0 (subst NoneExcluded q.1 none)) in
          record {
            walk = m ∷ r.walk;
            is = (go.4, r.is);
            last = r.last;
            marked = r.marked;
            free = (free_here n (mark_of g n) refl go.0 q.0 go.3 (subst NoneExcluded q.1 none), r.free);
            writes = λ c h. ⊎_elim (λ y. inl (writes_here n (mark_of g n) go.0 c go.3 y)) (λ y. inr (r.writes c y)) (Contains-append_cases (wrote go.0) (wrote q.0) c (subst (λ (x : List ℕ). Contains x c) (wrote_both go.0 q.0) (subst (λ (x : List Event). Contains (wrote x) c) q.1 h)));
          }

  -- a run leaves directive k, and goes on with these events
  record Left (k : ℕ) (es : List Event) : Type 0 where
    node : ℕ
    next : ℕ
    walk : List ℕ
    is : is_directive g k node ≡ true
    edge : has_edge g node next ≡ true
    goes : GoesAlong g next walk es

  left : (n : ℕ) (w : List ℕ) (es a : List Event) (k : ℕ) (d : List Event) → GoesAlong g n w es → es ≡ a ++ Excluded k ∷ d → Left k d
  left n [] es a k d go e = absurd (only_right (λ c. may_write g n c ≡ true) a (Excluded k ∷ d) (subst (MayShow g n) e go))
  left n (m ∷ w) es a k d go e = by (λ z q. left m w go.1 z k d go.5 q) (stands_in go.0 go.1 a (Excluded k) d (sym go.2 ∙ e))
    where
      by : ((z : List Event) → go.1 ≡ z ++ Excluded k ∷ d → Left k d) → InFirst go.0 go.1 a (Excluded k) d ⊎ InSecond go.0 go.1 a (Excluded k) d → Left k d
      by rec (inl q) =
          let z = directive_here n (mark_of g n) refl go.0 a q.0 k go.3 q.1 in
          record { node = n; next = m; walk = w; is = z.0; edge = go.4; goes = subst (GoesAlong g m w) (sym (q.2 ∙ ap (λ (x : List Event). x ++ go.1) z.1)) go.5 }
      by rec (inr q) = rec q.0 q.2

  -- ---- what excluded sets promise

  module _ (n : ℕ) (w : List ℕ) (es : List Event) (go : GoesAlong g n w es) (k m u : ℕ) (a b d : List Event) (e : es ≡ a ++ Excluded k ∷ (b ++ Checkpoint m u ∷ d)) (none : NoneExcluded b) (c : ℕ) where
    from : Left k (b ++ Checkpoint m u ∷ d)
    from = left n w es a k (b ++ Checkpoint m u ∷ d) go e

    to : Comes from.next m b
    to = comes from.next from.walk (b ++ Checkpoint m u ∷ d) b m u d from.goes refl none

    leads : Leads g k from.node from.next to.walk
    leads = record { leaves = from.is; walk = (from.edge, to.is); free = to.free; reaches = subst (λ i. is_checkpoint g i ≡ true) (sym to.last) to.marked }

    -- what is dead after a directive is forgettable at each checkpoint before the next one
    pub dead_forgettable : IsDead g k c → IsForgettable g c m
    dead_forgettable dead = subst (IsForgettable g c) to.last (dead from.node from.next to.walk leads)

    -- what is read-only after it is not written before
    pub read_only_unwritten : IsReadOnly g k c → Contains (wrote b) c → ⊥
    read_only_unwritten r h = r.1 from.node from.next to.walk leads (to.writes c h)
