-- Where the segments of a graph's nodes stand in its code.
use Rattle.std.proofs.Common.{◌≡◌, ℕ, zero, suc, ◌+◌, ◌⊎◌, List, [], ◌∷◌, ◌++◌, length, Option, Some, None, Bool, true, false, inl, inr, refl, sym, ap, ◌∙◌, subst, arith, length-append, eqb-true}
use Rattle.std.specs.Prelude.{slice_get, slice_index_or, ◌==◌, if◌then◌else◌}
use Rattle.access_summary.specs.Edges.{Edge}
use Rattle.flow_graph.specs.declared.node.NodeWork.{NodeWork}
use Rattle.flow_graph.specs.declared.node.NodeWork.TheVariants as work
use Rattle.flow_graph.specs.Run.{Graph}
use Rattle.machine_code.specs.declared.instr.Instr.{Instr}
use Rattle.machine_code.specs.declared.instr.Instr.TheVariants as instr
use Rattle.code_maker.specs.ExprCode.{expr_block, values_block}
use Rattle.code_maker.specs.NodeCode.{set_block, given_block, keep_answer, print_code, go_on, start_of, work_block, segment, segments, places, entry_jump, start_in, graph_block}
use Rattle.code_maker.proofs.Has.{HasAt, has_front, has_back}

-- ---- lengths do not depend on where jumps go

append_length : (a x y : List Instr) → length x ≡ length y → length (a ++ x) ≡ length (a ++ y)
append_length a x y e = length-append a x ∙ ap (λ n. length a + n) e ∙ sym (length-append a y)

go_on_length : (f g : ℕ → ℕ) (m : ℕ) (to : Option ℕ) → length (go_on f m to) ≡ length (go_on g m to)
go_on_length f g m None = refl
go_on_length f g m (Some n) = by_test (n == m + 1)
  where
    by_test : (b : Bool) → length (if b then [] else instr.Jump (f n) ∷ []) ≡ length (if b then [] else instr.Jump (g n) ∷ [])
    by_test true = refl
    by_test false = refl

work_length : (f g : ℕ → ℕ) (m : ℕ) (to : Edge) (w : NodeWork) (p : ℕ) → length (work_block f m to w p) ≡ length (work_block g m to w p)
work_length f g m to (work.Declare d e) p = append_length (set_block d (given_block e) p) _ _ (go_on_length f g m to.0)
work_length f g m to (work.Set d e) p = append_length (set_block d (expr_block e) p) _ _ (go_on_length f g m to.0)
work_length f g m to (work.Call d h es) p = append_length (values_block es p) _ _ (ap suc (append_length (keep_answer d) _ _ (go_on_length f g m to.0)))
work_length f g m to (work.Input d) p = ap suc (append_length (keep_answer d) _ _ (go_on_length f g m to.0))
work_length f g m to (work.Return e) p = refl
work_length f g m to (work.ReturnCall h es) p = refl
work_length f g m to work.ReturnInput p = refl
work_length f g m to (work.Put e) p = append_length (expr_block e p) _ _ (ap suc (go_on_length f g m to.0))
work_length f g m to (work.Print ps es) p = append_length (values_block es p) _ _ (append_length (print_code (length es) ps) _ _ (go_on_length f g m to.0))
work_length f g m to (work.Test e) p = append_length (expr_block e p) (instr.JumpZ (start_of f to.1) ∷ go_on f m to.0) (instr.JumpZ (start_of g to.1) ∷ go_on g m to.0) (ap suc (go_on_length f g m to.0))
work_length f g m to work.Checkpoint p = ap suc (go_on_length f g m to.0)
work_length f g m to (work.Exclude k) p = ap suc (go_on_length f g m to.0)
work_length f g m to work.End p = refl

pub segment_length : (f g : ℕ → ℕ) (m : ℕ) (to : Edge) (w : NodeWork) (p : ℕ) → length (segment f m to w p) ≡ length (segment g m to w p)
segment_length f g m to work.End p = refl
segment_length f g m to w p = ap suc (work_length f g m to w (p + 1))

pub entry_length : (f g : ℕ → ℕ) (entry : ℕ) → length (entry_jump f entry) ≡ length (entry_jump g entry)
entry_length f g entry = by_test (entry == 0)
  where
    by_test : (b : Bool) → length (if b then [] else instr.Jump (f entry) ∷ []) ≡ length (if b then [] else instr.Jump (g entry) ∷ [])
    by_test true = refl
    by_test false = refl

-- ---- where a node's segment stands

pub none_some : {X : Type 0} {x : X} → None ≡ Some x → ⊥
none_some h = cc

pub some_is : {X : Type 0} {x y : X} → Some x ≡ Some y → x ≡ y
some_is h = cc

place_in : ℕ → List Edge → List NodeWork → ℕ → ℕ → ℕ
place_in m tos ws q k = slice_index_or (places m tos ws q) k 0

segments_stand : (xs : List Instr) (f : ℕ → ℕ) (tos : List Edge) (ws : List NodeWork) (m q k : ℕ) (to : Edge) (w : NodeWork) → HasAt xs q (segments f m tos ws q) → slice_get tos k ≡ Some to → slice_get ws k ≡ Some w
    → HasAt xs (place_in m tos ws q k) (segment f (m + k) to w (place_in m tos ws q k))
unfolding place_in
segments_stand xs f [] ws m q k to w has e d = absurd (none_some e)
segments_stand xs f (t ∷ tos) [] m q k to w has e d = absurd (none_some d)
segments_stand xs f (t ∷ tos) (v ∷ ws) m q zero to w has e d =
    let h0 = has_front xs q (segment f m t v q) _ has in
    let h1 = subst (λ z. HasAt xs q (segment f m z v q)) (some_is e) h0 in
    let h2 = subst (λ z. HasAt xs q (segment f m to z q)) (some_is d) h1 in
    let same : m ≡ m + 0 = omega arith in
    subst (λ z. HasAt xs q (segment f z to w q)) same h2
segments_stand xs f (t ∷ tos) (v ∷ ws) m q (suc k) to w has e d =
    let l = segment_length f (λ n. 0) m t v q in
    let q' = q + length (segment (λ n. 0) m t v q) in
    let rest = has_back xs q (segment f m t v q) (segments f (m + 1) tos ws (q + length (segment f m t v q))) has in
    let rest' : HasAt xs q' (segments f (m + 1) tos ws q') = subst (λ n. HasAt xs (q + n) (segments f (m + 1) tos ws (q + n))) l rest in
    let same : m + 1 + k ≡ m + suc k = omega arith in
    subst (λ z. HasAt xs (place_in (m + 1) tos ws q' k) (segment f z to w (place_in (m + 1) tos ws q' k))) same (segments_stand xs f tos ws (m + 1) q' k to w rest' e d)

-- the next segment begins where a segment ends
next_place : (tos : List Edge) (ws : List NodeWork) (m q k : ℕ) (to to' : Edge) (w w' : NodeWork) → slice_get tos k ≡ Some to → slice_get ws k ≡ Some w → slice_get tos (suc k) ≡ Some to' → slice_get ws (suc k) ≡ Some w'
    → place_in m tos ws q (suc k) ≡ place_in m tos ws q k + length (segment (λ n. 0) (m + k) to w (place_in m tos ws q k))
unfolding place_in
next_place [] ws m q k to to' w w' e d e' d' = absurd (none_some e)
next_place (t ∷ tos) [] m q k to to' w w' e d e' d' = absurd (none_some d)
next_place (t ∷ []) (v ∷ ws) m q zero to to' w w' e d e' d' = absurd (none_some e')
next_place (t ∷ t' ∷ tos) (v ∷ []) m q zero to to' w w' e d e' d' = absurd (none_some d')
next_place (t ∷ t' ∷ tos) (v ∷ v' ∷ ws) m q zero to to' w w' e d e' d' =
    let same : m ≡ m + 0 = omega arith in
    ap (λ z. q + length (segment (λ n. 0) m z v q)) (some_is e) ∙ ap (λ z. q + length (segment (λ n. 0) m to z q)) (some_is d) ∙ ap (λ z. q + length (segment (λ n. 0) z to w q)) same
next_place (t ∷ tos) (v ∷ ws) m q (suc k) to to' w w' e d e' d' =
    let q' = q + length (segment (λ n. 0) m t v q) in
    let same : m + 1 + k ≡ m + suc k = omega arith in
    next_place tos ws (m + 1) q' k to to' w w' e d e' d' ∙ ap (λ z. place_in (m + 1) tos ws q' k + length (segment (λ n. 0) z to w (place_in (m + 1) tos ws q' k))) same

first_place : (tos : List Edge) (ws : List NodeWork) (m q : ℕ) (to : Edge) (w : NodeWork) → slice_get tos 0 ≡ Some to → slice_get ws 0 ≡ Some w → place_in m tos ws q 0 ≡ q
unfolding place_in
first_place [] ws m q to w e d = absurd (none_some e)
first_place (t ∷ tos) [] m q to w e d = absurd (none_some d)
first_place (t ∷ tos) (v ∷ ws) m q to w e d = refl

-- ---- the code of a graph

-- node n has this edge and this work
pub record IsNode (g : Graph) (n : ℕ) (to : Edge) (w : NodeWork) : Type 0 where
  pub edge : slice_get g.edges n ≡ Some to
  pub does : slice_get g.works n ≡ Some w

pub record IsThere (g : Graph) (n : ℕ) : Type 0 where
  pub to : Edge
  pub does : NodeWork
  pub node : IsNode g n to does

-- from place p the run comes to place z by nothing or by a jump
abbrev pub Leads : List Instr → ℕ → ℕ → Type 0
Leads xs p z = (p ≡ z) ⊎ (slice_get xs p ≡ Some (instr.Jump z))

module _ (xs : List Instr) (g : Graph) (q : ℕ) (has : HasAt xs q (graph_block g q)) where
  first : ℕ
  first = q + length (entry_jump (λ n. 0) g.entry)

  has_segments : HasAt xs first (segments (start_in g q) 0 g.edges g.works first)
  unfolding first
  has_segments = subst (λ n. HasAt xs (q + n) (segments (start_in g q) 0 g.edges g.works (q + n))) (entry_length (start_in g q) (λ n. 0) g.entry) (has_back xs q (entry_jump (start_in g q) g.entry) _ has)

  -- the segment of a node stands at its start
  pub segment_stands : (n : ℕ) (to : Edge) (w : NodeWork) → IsNode g n to w → HasAt xs (start_in g q n) (segment (start_in g q) n to w (start_in g q n))
  unfolding first place_in
  segment_stands n to w is =
      let same : 0 + n ≡ n = omega arith in
      subst (λ z. HasAt xs (start_in g q n) (segment (start_in g q) z to w (start_in g q n))) same (segments_stand xs (start_in g q) g.edges g.works 0 first n to w has_segments is.edge is.does)

  start_behind : (n : ℕ) (to : Edge) (w : NodeWork) → IsNode g n to w → IsThere g (n + 1) → start_in g q (n + 1) ≡ start_in g q n + length (segment (start_in g q) n to w (start_in g q n))
  unfolding place_in
  start_behind n to w is there =
      let s : n + 1 ≡ suc n = omega arith in
      let same : 0 + n ≡ n = omega arith in
      let p = start_in g q n in
      let e : slice_get g.edges (suc n) ≡ Some there.to = subst (λ z. slice_get g.edges z ≡ Some there.to) s there.node.edge in
      let d : slice_get g.works (suc n) ≡ Some there.does = subst (λ z. slice_get g.works z ≡ Some there.does) s there.node.does in
      ap (start_in g q) s ∙ next_place g.edges g.works 0 (q + length (entry_jump (λ n. 0) g.entry)) n to there.to w there.does is.edge is.does e d
      ∙ ap (λ z. p + length (segment (λ n. 0) z to w p)) same ∙ ap (λ l. p + l) (segment_length (λ n. 0) (start_in g q) n to w p)

  -- what stands at the end of a node's segment leads to the node that it goes on to
  pub go_on_leads : (n : ℕ) (to : Edge) (w : NodeWork) (m p : ℕ) → IsNode g n to w → IsThere g m → HasAt xs p (go_on (start_in g q) n (Some m))
      → p + length (go_on (start_in g q) n (Some m)) ≡ start_in g q n + length (segment (start_in g q) n to w (start_in g q n)) → Leads xs p (start_in g q m)
  go_on_leads n to w m p is there at len = by_test (m == n + 1) refl at len
    where
      by_test : (b : Bool) → (m == n + 1) ≡ b → HasAt xs p (if b then [] else instr.Jump (start_in g q m) ∷ []) → p + length (if b then [] else instr.Jump (start_in g q m) ∷ []) ≡ start_in g q n + length (segment (start_in g q) n to w (start_in g q n))
          → Leads xs p (start_in g q m)
      by_test true e at len =
          let same = eqb-true m (n + 1) e in
          let next = start_behind n to w is (subst (IsThere g) same there) in
          let there_is : start_in g q m ≡ start_in g q (n + 1) = ap (start_in g q) same in
          inl (omega arith)
      by_test false e at len = inr at.0

  -- a function begins with its entry
  pub entry_leads : IsThere g 0 → Leads xs q (start_in g q g.entry)
  unfolding place_in
  entry_leads there = by_test (g.entry == 0) refl (has_front xs q (entry_jump (start_in g q) g.entry) _ has)
    where
      by_test : (b : Bool) → (g.entry == 0) ≡ b → HasAt xs q (if b then [] else instr.Jump (start_in g q g.entry) ∷ []) → Leads xs q (start_in g q g.entry)
      by_test true e at =
          let none : length (entry_jump (λ n. 0) g.entry) ≡ 0 = ap (λ (b : Bool). length (if b then [] else instr.Jump 0 ∷ [])) e in
          let place = first_place g.edges g.works 0 (q + length (entry_jump (λ n. 0) g.entry)) there.to there.does there.node.edge there.node.does in
          let same : start_in g q g.entry ≡ start_in g q 0 = ap (start_in g q) (eqb-true g.entry 0 e) in
          inl (omega arith)
      by_test false e at = inr at.0
