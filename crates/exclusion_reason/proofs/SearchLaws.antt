-- What a search keeps true.
use Rattle.std.proofs.Common.{ℕ, Option, Some, None, ◌||◌, eqb, ◌+◌, ◌<◌, ◌≤◌, ◌≡◌, ◌⊎◌, true, false, List, [], ◌∷◌, ◌++◌, length, reverse, arith, sym, ap, ◌∙◌, refl, subst, inl, inr}
use Rattle.std.proofs.lemmas.List.{length_push}
use Rattle.std.proofs.lemmas.Bool.{false≢true, cases_lt, cases_eq, or_cases, eqb-true, eq-eqb}
use Rattle.path_laws.specs.Edge.{is_at}
use Rattle.path_laws.specs.Graph.{Graph, has_edge}
use Rattle.exclusion_reason.specs.declared.aim.Aim.{Aim}
use Rattle.exclusion_reason.specs.declared.aim.State.{State}
use Rattle.exclusion_reason.specs.declared.seen.Met.{Met}
use Rattle.exclusion_reason.specs.declared.search.Visit.{Visit}
use Rattle.exclusion_reason.specs.Least.{IsLeast, IsLess}
use Rattle.exclusion_reason.specs.Ways.{start, after, is_end, LeadsOn, IsWay}
use Rattle.exclusion_reason.specs.Seen.{is_seen}
use Rattle.exclusion_reason.specs.Visits.{trails, trail_of, state_at, from_at, IsBelow, IsAtMost, extend, AreLinked, IsDone, IsSearch, IsNext, Keeps, GoesOn, floor_after}
use Rattle.exclusion_reason.proofs.OrderLaws.{below_trans, below_push, below_last, below_longer, at_most_trans, extend_at_most, extend_longer, reverse_extend, at_most_less}
use Rattle.exclusion_reason.proofs.TrailLaws.{trail_kept, trail_new, visit_kept, visit_new, each_push}

-- there is a visit for the state behind visit `head` at node m, with a trail that is no greater
abbrev IsServed : Graph → Aim → List Visit → ℕ → ℕ → Type 0
IsServed g a vs j m = (i : ℕ) × ((i < length vs) × (state_at vs i ≡ after g a (state_at vs j) m) × IsAtMost (trail_of vs i) (m ∷ trail_of vs j))

module _ (g : Graph) (a : Aim) (first head floor : ℕ) (vs : List Visit) (seen : List Met) (s : IsSearch g a first head floor vs seen) (h : head < length vs) where
  -- each visit so far has a lesser walk than the one that goes on from `head` to a node that is not done
  all_below : (m : ℕ) → floor ≤ m → (i : ℕ) → i < length vs → IsBelow (trail_of vs i) (m ∷ trail_of vs head)
  all_below m fm i l =
      elim (cases_lt head i) [
        | inr le ↦ elim (cases_eq i head) [
          | inl e ↦ subst (λ (j : ℕ). IsBelow (trail_of vs j) (m ∷ trail_of vs head)) (sym e) (below_longer (trail_of vs head) m)
          | inr ne ↦ below_trans (trail_of vs i) (trail_of vs head) (m ∷ trail_of vs head) (s.rises i head (omega arith) h) (below_longer (trail_of vs head) m)
        ]
        | inl lt ↦
            let above : 0 < i = omega arith in
            let n : ℕ = (state_at vs i).node in
            let last : IsBelow (n ∷ trail_of vs (from_at vs i)) (m ∷ trail_of vs head) =
            elim (s.done i l above) [
              | inl b ↦ below_push (trail_of vs (from_at vs i)) (trail_of vs head) n m (s.rises (from_at vs i) head b h)
              | inr b ↦ subst (λ (j : ℕ). IsBelow (n ∷ trail_of vs j) (m ∷ trail_of vs head)) (sym b.0) (below_last (trail_of vs head) n m (omega (arith, b.1, fm)))
            ] in
            subst (λ (t : List ℕ). IsBelow t (m ∷ trail_of vs head)) (sym (s.linked.trail i l above)) last
      ]

  -- an edge that is done behind the next one is done before it, or is the next one
  serves : (m : ℕ) → floor ≤ m → ((k : ℕ) → has_edge g (state_at vs head).node k ≡ true → floor ≤ k → m ≤ k) → IsServed g a vs head m →
      (j k : ℕ) → IsDone head (m + 1) j k → has_edge g (state_at vs j).node k ≡ true → IsServed g a vs j k
  serves m fm next new j k d e =
      elim d [
        | inl b ↦ s.served j k (inl b) e
        | inr b ↦ elim (cases_lt k floor) [
          | inl lt ↦ s.served j k (inr (b.0, lt)) e
          | inr ge ↦
              let q : m ≤ k = next k (subst (λ (x : ℕ). has_edge g (state_at vs x).node k ≡ true) b.0 e) ge in
              let same : m ≡ k = omega (arith, q, b.1) in
              subst (λ (x : ℕ). IsServed g a vs x k) (sym b.0) (subst (λ (x : ℕ). IsServed g a vs head x) same new)
        ]
      ]

  done_more : (m : ℕ) → floor ≤ m → (j k : ℕ) → IsDone head floor j k → IsDone head (m + 1) j k
  done_more m fm j k d = elim d [ inl b ↦ inl b | inr b ↦ inr (b.0, omega (arith, b.1, fm)) ]

  -- the next edge leads to a state that the search has come to
  pub known_search : (m : ℕ) → floor ≤ m → ((k : ℕ) → has_edge g (state_at vs head).node k ≡ true → floor ≤ k → m ≤ k) →
      is_seen seen (after g a (state_at vs head) m) ≡ true → IsSearch g a first head (m + 1) vs seen
  known_search m fm next k =
      let p = s.met (after g a (state_at vs head) m) k in
      record {
        linked = s.linked;
        starts = s.starts;
        in_graph = s.in_graph;
        leads = s.leads;
        rises = s.rises;
        done = λ i l z. done_more m fm (from_at vs i) (state_at vs i).node (s.done i l z);
        served = serves m fm next (p.0, (p.1.0, p.1.1, inr (all_below m fm p.0 p.1.0)));
        no_ends = s.no_ends;
        met = s.met;
      }

  -- no edge from visit `head` is left
  next_search : ((k : ℕ) → has_edge g (state_at vs head).node k ≡ true → k < floor) → is_end g a (state_at vs head) ≡ false → IsSearch g a first (head + 1) 0 vs seen
  next_search all e = record {
    linked = s.linked;
    starts = s.starts;
    in_graph = s.in_graph;
    leads = s.leads;
    rises = s.rises;
    done = λ i l z. elim (s.done i l z) [ inl b ↦ inl (omega (arith, b)) | inr b ↦ inl (omega (arith, b.0)) ];
    served = λ j k d f.
        elim d [
          | inl b ↦ elim (cases_eq j head) [
            | inl same ↦ s.served j k (inr (same, all k (subst (λ (x : ℕ). has_edge g (state_at vs x).node k ≡ true) same f))) f
            | inr ne ↦ s.served j k (inl (omega (arith, b, ne))) f
          ]
          | inr b ↦ absurd (omega (arith, b.1))
        ];
    no_ends = λ j l.
        elim (cases_eq j head) [
          | inl same ↦ subst (λ (x : ℕ). is_end g a (state_at vs x) ≡ false) (sym same) e
          | inr ne ↦ s.no_ends j (omega (arith, l, ne))
        ];
    met = s.met;
  }

  -- each visit from `head` on has a walk that is no less
  later : (i : ℕ) → i < length vs → head ≤ i → IsAtMost (trail_of vs head) (trail_of vs i)
  later i l ge =
      elim (cases_eq i head) [
        | inl e ↦ inl (ap (trail_of vs) (sym e))
        | inr ne ↦ inr (s.rises head i (omega (arith, ge, ne)) l)
      ]

  -- every walk from a visit to an end is that of visit `head` or a greater one
  reached : (w : List ℕ) (i : ℕ) → i < length vs → LeadsOn g a (state_at vs i) w → IsAtMost (trail_of vs head) (extend (trail_of vs i) w)
  reached [] i l f =
      elim (cases_lt i head) [
        | inl lt ↦ absurd (false≢true (sym (s.no_ends i lt) ∙ f))
        | inr ge ↦ later i l ge
      ]
  reached (m ∷ w) i l f =
      elim (cases_lt i head) [
        | inl lt ↦
            let p = s.served i m (inl lt) f.0 in
            let r = reached w p.0 p.1.0 (subst (λ (x : State). LeadsOn g a x w) (sym p.1.1) f.1) in
            at_most_trans (trail_of vs head) (extend (trail_of vs p.0) w) (extend (m ∷ trail_of vs i) w) r (extend_at_most w (trail_of vs p.0) (m ∷ trail_of vs i) p.1.2)
        | inr ge ↦ at_most_trans (trail_of vs head) (trail_of vs i) (extend (trail_of vs i) (m ∷ w)) (later i l ge) (extend_longer (m ∷ w) (trail_of vs i))
      ]

  -- visit `head` is an end, and the first one
  pub found : is_end g a (state_at vs head) ≡ true → IsLeast (IsWay g a first) (reverse (trail_of vs head))
  found e =
      let b = s.leads head h [] e in
      record {
        is_one = (b.0, (ap (λ (x : List ℕ). reverse x) b.1.0 ∙ reverse_extend b.0 (first ∷ []), b.1.1));
        least = λ v way.
            let r = reached way.0 0 s.linked.some (subst (λ (x : State). LeadsOn g a x way.0) (sym s.starts) way.1.1) in
            let t : trail_of vs 0 ≡ first ∷ [] = s.linked.first ∙ ap (λ (x : State). x.node ∷ []) s.starts in
            let r' : IsAtMost (trail_of vs head) (extend (first ∷ []) way.0) = subst (λ (x : List ℕ). IsAtMost (trail_of vs head) (extend x way.0)) t r in
            let q : reverse (extend (first ∷ []) way.0) ≡ v = reverse_extend way.0 (first ∷ []) ∙ sym way.1.0 in
            subst (λ (x : List ℕ). (x ≡ reverse (trail_of vs head)) ⊎ IsLess (reverse (trail_of vs head)) x) q (at_most_less (trail_of vs head) (extend (first ∷ []) way.0) r');
      }

module _ (g : Graph) (a : Aim) (first head floor : ℕ) (vs : List Visit) (seen : List Met) (s : IsSearch g a first head floor vs seen) (h : length vs ≤ head) where
  -- where each visit is done and none is an end, no walk comes to an end
  lost : (w : List ℕ) (i : ℕ) → i < length vs → LeadsOn g a (state_at vs i) w → ⊥
  lost [] i l f = false≢true (sym (s.no_ends i (omega (arith, l, h))) ∙ f)
  lost (m ∷ w) i l f =
      let p = s.served i m (inl (omega (arith, l, h))) f.0 in
      lost w p.0 p.1.0 (subst (λ (x : State). LeadsOn g a x w) (sym p.1.1) f.1)

  pub none_found : (w : List ℕ) → IsWay g a first w → ⊥
  none_found w way = lost way.0 0 s.linked.some (subst (λ (x : State). LeadsOn g a x way.0) (sym s.starts) way.1.1)

-- the visits after one more, which has come from visit `head`
module _ (g : Graph) (a : Aim) (first head floor : ℕ) (vs : List Visit) (seen seen' : List Met) (m : ℕ) (s : IsSearch g a first head floor vs seen) (h : head < length vs) (v : Visit)
    (fm : floor ≤ m) (next : (k : ℕ) → has_edge g (state_at vs head).node k ≡ true → floor ≤ k → m ≤ k) (edge : has_edge g (state_at vs head).node m ≡ true) (inside : m < length g.nodes)
    (from : v.from ≡ head) (to : v.state ≡ after g a (state_at vs head) m) (only : (x : State) → is_seen seen' x ≡ true → (is_seen seen x ≡ true) ⊎ (x ≡ v.state)) where
  kept_state : (i : ℕ) → i < length vs → state_at (vs ++ v ∷ []) i ≡ state_at vs i
  kept_state i l = ap (λ (x : Visit). x.state) (visit_kept vs v i l)

  kept_from : (i : ℕ) → i < length vs → from_at (vs ++ v ∷ []) i ≡ from_at vs i
  kept_from i l = ap (λ (x : Visit). x.from) (visit_kept vs v i l)

  new_state : state_at (vs ++ v ∷ []) (length vs) ≡ after g a (state_at vs head) m
  new_state = ap (λ (x : Visit). x.state) (visit_new vs v) ∙ to

  new_from : from_at (vs ++ v ∷ []) (length vs) ≡ head
  new_from = ap (λ (x : Visit). x.from) (visit_new vs v) ∙ from

  new_trail : trail_of (vs ++ v ∷ []) (length vs) ≡ m ∷ trail_of vs head
  new_trail = trail_new vs v ∙ (λ i. (to i).node ∷ trail_of vs (from i))

  longer : length (vs ++ v ∷ []) ≡ length vs + 1
  longer = length_push vs v

  linked_push : AreLinked (vs ++ v ∷ [])
  linked_push = record {
    some = omega (arith, longer);
    first = trail_kept vs v 0 s.linked.some ∙ s.linked.first ∙ ap (λ (x : State). x.node ∷ []) (sym (kept_state 0 s.linked.some));
    before = each_push (λ i. 0 < i → from_at (vs ++ v ∷ []) i < i) vs v
        (λ i l z. omega (arith, s.linked.before i l z, kept_from i l))
        (λ z. omega (arith, h, new_from));
    trail = each_push (λ i. 0 < i → trail_of (vs ++ v ∷ []) i ≡ (state_at (vs ++ v ∷ []) i).node ∷ trail_of (vs ++ v ∷ []) (from_at (vs ++ v ∷ []) i)) vs v
        (λ i l z.
        let b : from_at vs i < length vs = omega (arith, s.linked.before i l z, l) in
        trail_kept vs v i l ∙ s.linked.trail i l z ∙ (λ j. (sym (kept_state i l) j).node ∷ (sym (trail_kept vs v (from_at vs i) b)) j)
        ∙ ap (λ (x : ℕ). (state_at (vs ++ v ∷ []) i).node ∷ trail_of (vs ++ v ∷ []) x) (sym (kept_from i l)))
        (λ z.
        new_trail ∙ (λ j. (sym new_state j).node ∷ (sym (trail_kept vs v head h)) j)
        ∙ ap (λ (x : ℕ). (state_at (vs ++ v ∷ []) (length vs)).node ∷ trail_of (vs ++ v ∷ []) x) (sym new_from));
  }

  kept_served : (j k : ℕ) → j < length vs → IsServed g a vs j k → IsServed g a (vs ++ v ∷ []) j k
  kept_served j k l p = (
    p.0,
    (
      omega (arith, p.1.0, longer),
      kept_state p.0 p.1.0 ∙ p.1.1 ∙ ap (λ (x : State). after g a x k) (sym (kept_state j l)),
      subst (λ (t : List ℕ). IsAtMost t (k ∷ trail_of (vs ++ v ∷ []) j)) (sym (trail_kept vs v p.0 p.1.0))
          (subst (λ (t : List ℕ). IsAtMost (trail_of vs p.0) (k ∷ t)) (sym (trail_kept vs v j l)) p.1.2),
    ),
  )

  new_served : IsServed g a (vs ++ v ∷ []) head m
  new_served = (
    length vs,
    (
      omega (arith, longer),
      new_state ∙ ap (λ (x : State). after g a x m) (sym (kept_state head h)),
      inl (new_trail ∙ ap (λ (t : List ℕ). m ∷ t) (sym (trail_kept vs v head h))),
    ),
  )

  old_edge : (j k : ℕ) → j < length vs → has_edge g (state_at (vs ++ v ∷ []) j).node k ≡ true → has_edge g (state_at vs j).node k ≡ true
  old_edge j k l e = subst (λ (x : State). has_edge g x.node k ≡ true) (kept_state j l) e

  served_push : (j k : ℕ) → IsDone head (m + 1) j k → has_edge g (state_at (vs ++ v ∷ []) j).node k ≡ true → IsServed g a (vs ++ v ∷ []) j k
  served_push j k d e =
      elim d [
        | inl b ↦ let l : j < length vs = omega (arith, b, h) in kept_served j k l (s.served j k (inl b) (old_edge j k l e))
        | inr b ↦
            let l : j < length vs = omega (arith, b.0, h) in
            let f = old_edge j k l e in
            elim (cases_lt k floor) [
              | inl lt ↦ kept_served j k l (s.served j k (inr (b.0, lt)) f)
              | inr ge ↦
                  let q : m ≤ k = next k (subst (λ (x : ℕ). has_edge g (state_at vs x).node k ≡ true) b.0 f) ge in
                  let same : m ≡ k = omega (arith, q, b.1) in
                  subst (λ (x : ℕ). IsServed g a (vs ++ v ∷ []) x k) (sym b.0) (subst (λ (x : ℕ). IsServed g a (vs ++ v ∷ []) head x) same new_served)
            ]
      ]

  leads_push : (i : ℕ) → i < length (vs ++ v ∷ []) → (w : List ℕ) → LeadsOn g a (state_at (vs ++ v ∷ []) i) w →
      (x : List ℕ) × ((extend (trail_of (vs ++ v ∷ []) i) w ≡ extend (first ∷ []) x) × LeadsOn g a (start first) x)
  leads_push =
      each_push (λ i. (w : List ℕ) → LeadsOn g a (state_at (vs ++ v ∷ []) i) w → (x : List ℕ) × ((extend (trail_of (vs ++ v ∷ []) i) w ≡ extend (first ∷ []) x) × LeadsOn g a (start first) x)) vs v
      (λ i l w f.
      let b = s.leads i l w (subst (λ (x : State). LeadsOn g a x w) (kept_state i l) f) in
      (b.0, (ap (λ (t : List ℕ). extend t w) (trail_kept vs v i l) ∙ b.1.0, b.1.1)))
      (λ w f.
      let b = s.leads head h (m ∷ w) (edge, subst (λ (x : State). LeadsOn g a x w) new_state f) in
      (b.0, (ap (λ (t : List ℕ). extend t w) new_trail ∙ b.1.0, b.1.1)))

  rises_push : (i j : ℕ) → i < j → j < length (vs ++ v ∷ []) → IsBelow (trail_of (vs ++ v ∷ []) i) (trail_of (vs ++ v ∷ []) j)
  rises_push i j ij l =
      let o : i < length vs = omega (arith, ij, l, longer) in
      let P : ℕ → Type 0 = λ x. i < x → IsBelow (trail_of vs i) (trail_of (vs ++ v ∷ []) x) in
      let r : IsBelow (trail_of vs i) (trail_of (vs ++ v ∷ []) j) =
      each_push P vs v
      (λ x lx ix. subst (λ (t : List ℕ). IsBelow (trail_of vs i) t) (sym (trail_kept vs v x lx)) (s.rises i x ix lx))
      (λ ix. subst (λ (t : List ℕ). IsBelow (trail_of vs i) t) (sym new_trail) (all_below g a first head floor vs seen s h m fm i o)) j l ij in
      subst (λ (t : List ℕ). IsBelow t (trail_of (vs ++ v ∷ []) j)) (sym (trail_kept vs v i o)) r

  pub pushed_search : IsSearch g a first head (m + 1) (vs ++ v ∷ []) seen'
  pushed_search = record {
    linked = linked_push;
    starts = kept_state 0 s.linked.some ∙ s.starts;
    in_graph = each_push (λ i. (state_at (vs ++ v ∷ []) i).node < length g.nodes) vs v
        (λ i l. subst (λ (x : State). x.node < length g.nodes) (sym (kept_state i l)) (s.in_graph i l))
        (subst (λ (x : State). x.node < length g.nodes) (sym new_state) inside);
    leads = leads_push;
    rises = rises_push;
    done = each_push (λ i. 0 < i → IsDone head (m + 1) (from_at (vs ++ v ∷ []) i) (state_at (vs ++ v ∷ []) i).node) vs v
        (λ i l z.
        subst (λ (x : Visit). IsDone head (m + 1) x.from x.state.node) (sym (visit_kept vs v i l))
        (done_more g a first head floor vs seen s h m fm (from_at vs i) (state_at vs i).node (s.done i l z)))
        (λ z. inr (new_from, (let e : (state_at (vs ++ v ∷ []) (length vs)).node ≡ m = ap (λ (x : State). x.node) new_state in omega (arith, e))));
    served = served_push;
    no_ends = λ j l. let o : j < length vs = omega (arith, l, h) in subst (λ (x : State). is_end g a x ≡ false) (sym (kept_state j o)) (s.no_ends j l);
    met = λ x k.
        elim (only x k) [
          | inl old ↦ let p = s.met x old in (p.0, (omega (arith, p.1.0, longer), kept_state p.0 p.1.0 ∙ p.1.1))
          | inr e ↦ (length vs, (omega (arith, longer), ap (λ (y : Visit). y.state) (visit_new vs v) ∙ sym e))
        ];
  }

-- the search begins with one visit, and has come to no other state
pub first_search : (g : Graph) (a : Aim) (first : ℕ) (v : Visit) (seen : List Met) → v.state ≡ start first → first < length g.nodes → ((x : State) → is_seen seen x ≡ false) →
    IsSearch g a first 0 0 (v ∷ []) seen
unfolding trails
first_search g a first v seen e inside none =
    let zero_only : (i : ℕ) → i < 1 → i ≡ 0 = λ i l. omega (arith, l) in
    record {
      linked = record {
        some = omega arith;
        first = refl;
        before = λ i l z. absurd (omega (arith, l, z));
        trail = λ i l z. absurd (omega (arith, l, z));
      };
      starts = e;
      in_graph = λ i l. subst (λ (x : ℕ). (state_at (v ∷ []) x).node < length g.nodes) (sym (zero_only i l)) (subst (λ (x : State). x.node < length g.nodes) (sym e) inside);
      leads = λ i l w f.
          let o : LeadsOn g a v.state w = subst (λ (x : ℕ). LeadsOn g a (state_at (v ∷ []) x) w) (zero_only i l) f in
          let r : extend (v.state.node ∷ []) w ≡ extend (first ∷ []) w = ap (λ (x : State). extend (x.node ∷ []) w) e in
          (w, (subst (λ (x : ℕ). extend (trail_of (v ∷ []) x) w ≡ extend (first ∷ []) w) (sym (zero_only i l)) r, subst (λ (x : State). LeadsOn g a x w) e o));
      rises = λ i j ij l. absurd (omega (arith, ij, l));
      done = λ i l z. absurd (omega (arith, l, z));
      served = λ j m d f. elim d [ inl b ↦ absurd (omega (arith, b)) | inr b ↦ absurd (omega (arith, b.1)) ];
      no_ends = λ j l. absurd (omega (arith, l));
      met = λ x k. absurd (false≢true (sym (none x) ∙ k));
    }

-- the two edges of a node, the one to the smaller node first, lead to all nodes that it has an edge to
module _ (g : Graph) (n : ℕ) where
  next_low : (low high : Option ℕ) → ((m : ℕ) → (is_at low m || is_at high m) ≡ has_edge g n m) → ((k m : ℕ) → is_at low k ≡ true → is_at high m ≡ true → k < m) → IsNext g n 0 low
  next_low None high edges rise = tt
  next_low (Some l) high edges rise = (
    omega arith,
    (λ k e z.
        elim (or_cases (eqb l k) (is_at high k) (edges k ∙ e)) [
          | inl a ↦ omega (arith, eqb-true l k a)
          | inr b ↦ omega (arith, rise l k (eq-eqb l l refl) b)
        ]),
  )

  next_high : (low high : Option ℕ) → ((m : ℕ) → (is_at low m || is_at high m) ≡ has_edge g n m) → ((k m : ℕ) → is_at low k ≡ true → is_at high m ≡ true → k < m) →
      IsNext g n (floor_after 0 low) high
  next_high low None edges rise = tt
  next_high None (Some h) edges rise = (
    omega arith,
    (λ k e z. elim (or_cases false (eqb h k) (edges k ∙ e)) [ inl a ↦ absurd (false≢true a) | inr b ↦ omega (arith, eqb-true h k b) ]),
  )
  next_high (Some l) (Some h) edges rise = (
    omega (arith, rise l h (eq-eqb l l refl) (eq-eqb h h refl)),
    (λ k e z. elim (or_cases (eqb l k) (eqb h k) (edges k ∙ e)) [ inl a ↦ omega (arith, z, eqb-true l k a) | inr b ↦ omega (arith, eqb-true h k b) ]),
  )

  all_done : (low high : Option ℕ) → ((m : ℕ) → (is_at low m || is_at high m) ≡ has_edge g n m) → ((k m : ℕ) → is_at low k ≡ true → is_at high m ≡ true → k < m) →
      (k : ℕ) → has_edge g n k ≡ true → k < floor_after (floor_after 0 low) high
  all_done None None edges rise k e = absurd (false≢true (edges k ∙ e))
  all_done None (Some h) edges rise k e = elim (or_cases false (eqb h k) (edges k ∙ e)) [ inl a ↦ absurd (false≢true a) | inr b ↦ omega (arith, eqb-true h k b) ]
  all_done (Some l) None edges rise k e = elim (or_cases (eqb l k) false (edges k ∙ e)) [ inl a ↦ omega (arith, eqb-true l k a) | inr b ↦ absurd (false≢true b) ]
  all_done (Some l) (Some h) edges rise k e =
      let r = rise l h (eq-eqb l l refl) (eq-eqb h h refl) in
      elim (or_cases (eqb l k) (eqb h k) (edges k ∙ e)) [ inl a ↦ omega (arith, r, eqb-true l k a) | inr b ↦ omega (arith, eqb-true h k b) ]

-- the search has gone on along both edges of visit `head`
pub both_edges : (g : Graph) (a : Aim) (first head : ℕ) (vs : List Visit) (seen : List Met) (vs' : List Visit) (seen' : List Met) (vs'' : List Visit) (seen'' : List Met) (low high : Option ℕ) →
    ((m : ℕ) → (is_at low m || is_at high m) ≡ has_edge g (state_at vs head).node m) → ((k m : ℕ) → is_at low k ≡ true → is_at high m ≡ true → k < m) → head < length vs →
    Keeps vs vs' → Keeps vs' vs'' → GoesOn g a head low vs seen vs' seen' → GoesOn g a head high vs' seen' vs'' seen'' → is_end g a (state_at vs head) ≡ false →
    IsSearch g a first head 0 vs seen → IsSearch g a first (head + 1) 0 vs'' seen''
both_edges g a first head vs seen vs' seen' vs'' seen'' low high edges rise h kept kept' goes goes' e s =
    let n : ℕ = (state_at vs head).node in
    let h' : head < length vs' = omega (arith, h, kept.more) in
    let h'' : head < length vs'' = omega (arith, h', kept'.more) in
    let same : state_at vs' head ≡ state_at vs head = kept.same head h in
    let same' : state_at vs'' head ≡ state_at vs head = kept'.same head h' ∙ same in
    let s' = goes first 0 (next_low g n low high edges rise) s in
    let s'' = goes' first (floor_after 0 low) (subst (λ (x : State). IsNext g x.node (floor_after 0 low) high) (sym same) (next_high g n low high edges rise)) s' in
    next_search g a first head (floor_after (floor_after 0 low) high) vs'' seen'' s'' h''
    (λ k f. all_done g n low high edges rise k (subst (λ (x : State). has_edge g x.node k ≡ true) same' f))
    (ap (is_end g a) same' ∙ e)
