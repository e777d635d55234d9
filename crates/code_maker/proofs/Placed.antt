-- The graphs of a checked program are placed in its code.
use Rattle.std.proofs.Common.{◌≡◌, ℕ, zero, suc, ◌+◌, ◌*◌, ◌^◌, ◌<◌, ◌≤◌, List, [], ◌∷◌, ◌++◌, length, map, take, Option, Some, None, Bool, true, ◌&&◌, refl, sym, ap, ◌∙◌, subst, arith, length-take, mod-eq_of_lt, ⊎_elim, eqb-true, leb-true}
use Rattle.std.proofs.lemmas.Bool.{and_parts, or_cases}
use Rattle.std.proofs.lemmas.List.{length-map}
use Rattle.std.proofs.lemmas.Option.{slice_get-map, slice_get_within}
use Rattle.std.specs.Prelude.{slice_get, slice_index_or, ◌==◌, nat_le}
use Rattle.std.specs.List.{list_all, list_any}
use Rattle.std.specs.Option.{option_map}
use Rattle.ckpt_base.specs.Pointer.{pointer_word}
use Rattle.c_tree.specs.declared.resolved.ObjectKind.{ObjectKind}
use Rattle.c_tree.specs.declared.resolved.ObjectKind.TheVariants.{Number, Array, Pointer}
use Rattle.c_tree.specs.declared.resolved.RObject.{RObject}
use Rattle.c_tree.specs.declared.resolved.RFunction.{RFunction}
use Rattle.c_tree.specs.declared.resolved.Resolved.{Resolved}
use Rattle.c_tree.specs.Layout.{object_cells}
use Rattle.c_tree.specs.State.{object_word}
use Rattle.c_tree.specs.Kinds.{Signature}
use Rattle.c_tree.specs.Checked.{IsChecked, in_main, in_function, has_cells, is_addressable, signature}
use Rattle.access_summary.specs.Edges.{Edge}
use Rattle.flow_graph.specs.declared.node.NodeWork.{NodeWork}
use Rattle.flow_graph.specs.declared.node.NodeWork.TheVariants as work
use Rattle.flow_graph.specs.Works.{works_of_body}
use Rattle.flow_graph.specs.WorkRules.{work_keeps}
use Rattle.flow_graph.specs.Joined.{FitsWork, IsJoined}
use Rattle.flow_graph.specs.Run.{Graph, graph_of_function, graphs_of}
use Rattle.flow_graph.proofs.Joins.{graph_is_joined}
use Rattle.flow_graph.proofs.WorkRuleLaws.{all_at, main_works_keep, function_works_keep}
use Rattle.machine_code.specs.declared.instr.Instr.{Instr}
use Rattle.machine_code.specs.CodeView.{CodeView, Function, Checkpoint, node, place_after}
use Rattle.code_maker.specs.NodeCode.{graph_block}
use Rattle.code_maker.specs.ProgramCode.{graphs_block, functions_from, checkpoint_at, checkpoints_from, all_graphs}
use Rattle.code_maker.proofs.Has.{HasAt, has_front, has_back}
use Rattle.code_maker.proofs.Segments.{IsNode, IsThere, none_some, some_is}
use Rattle.code_maker.proofs.Ties.{IsNext, AreNext, IsPlaced}
use Rattle.code_maker.proofs.Nodes.{IsCallable}

-- ---- joined graphs

get_there : {A : Type 0} → (xs : List A) (n : ℕ) → n < length xs → (x : A) × (slice_get xs n ≡ Some x)
get_there [] n h = absurd (omega arith)
get_there (x ∷ xs) zero h = (x, refl)
get_there (x ∷ xs) (suc n) h = get_there xs n (omega arith)

module _ (g : Graph) (joined : IsJoined g) where
  there : (n : ℕ) → n < length g.works → IsThere g n
  there n h =
      let e = get_there g.edges n (omega (arith, joined.same)) in
      let w = get_there g.works n h in
      record { to = e.0; does = w.0; node = record { edge = e.1; does = w.1 } }

  one_next : (to : Edge) → (a : ℕ) × (to ≡ (Some a, None)) × (a < length g.works) → IsNext g to.0
  one_next to h = (h.0, ap (λ (t : Edge). t.0) h.1, there h.0 h.2)

  are_next : (v : NodeWork) (to : Edge) → FitsWork (length g.works) v to → AreNext g v to
  are_next (work.Test e) to h = ((h.0, ap (λ (t : Edge). t.0) h.2, there h.0 h.3), (h.1, ap (λ (t : Edge). t.1) h.2, there h.1 h.4))
  are_next work.End to h = tt
  are_next v to h = one_next to h

  pub joined_next : (n : ℕ) (to : Edge) (v : NodeWork) → IsNode g n to v → AreNext g v to
  joined_next n to v is = are_next v to (joined.each n v to is.does is.edge)

  pub joined_entry : IsThere g g.entry
  joined_entry = there g.entry joined.entry

  pub joined_first : IsThere g 0
  joined_first = let e = joined.entry in there 0 (omega arith)

-- ---- pointers to objects

cell_each : (k : ObjectKind) (n : ℕ) → has_cells k n ≡ true → 1 ≤ n
cell_each Number n h = let e = eqb-true n 1 h in omega arith
cell_each Array n h = leb-true 1 n h
cell_each Pointer n h = let e = eqb-true n 1 h in omega arith

pub objects_few : (os : List RObject) → list_all (λ o. has_cells o.kind o.length) os ≡ true → length os ≤ object_cells os
objects_few [] h = omega arith
objects_few (o ∷ os) h =
    let q = and_parts (has_cells o.kind o.length) (list_all (λ o. has_cells o.kind o.length) os) h in
    let one = cell_each o.kind o.length q.0 in
    let more = objects_few os q.1 in
    omega arith

pub addressable_there : (os : List RObject) (o : ℕ) → is_addressable (slice_get os o) ≡ true → o < length os
addressable_there os o h = by_case (slice_get os o) refl h
  where
    by_case : (x : Option RObject) → slice_get os o ≡ x → is_addressable x ≡ true → o < length os
    by_case None e h = absurd (cc)
    by_case (Some x) e h = slice_get_within os o x e

pub addresses_fit : (p : Resolved) → IsChecked p → (o : ℕ) → is_addressable (slice_get p.objects o) ≡ true → object_word o ≡ pointer_word o 0
addresses_fit p h o is =
    let below = addressable_there p.objects o is in
    let few = objects_few p.objects h.lengths in
    let cells = h.cells in
    let small : (o + 1) * 2 ^ 32 + 0 < 2 ^ 64 = omega arith in
    mod-eq_of_lt small

-- ---- where the codes of functions stand

-- a function's code stands where the table has it
pub record Stands (xs : List Instr) (fs : List Function) (h : ℕ) (f : RFunction) : Type 0 where
  pub start : ℕ
  pub listed : slice_get fs h ≡ Some (start, f.parameters, length f.locals)
  pub code : HasAt xs start (graph_block (graph_of_function f) start)

functions_stand : (xs : List Instr) (fs : List RFunction) (q h : ℕ) (f : RFunction) → HasAt xs q (graphs_block (map graph_of_function fs) q) → slice_get fs h ≡ Some f → Stands xs (functions_from fs q) h f
functions_stand xs [] q h f has e = absurd (none_some e)
functions_stand xs (g ∷ fs) q zero f has e =
    let s : Stands xs (functions_from (g ∷ fs) q) zero g = record { start = q; listed = refl; code = has_front xs q (graph_block (graph_of_function g) q) _ has } in
    subst (Stands xs (functions_from (g ∷ fs) q) zero) (some_is e) s
functions_stand xs (g ∷ fs) q (suc h) f has e =
    let q' = q + length (graph_block (graph_of_function g) q) in
    let s = functions_stand xs fs q' h f (has_back xs q (graph_block (graph_of_function g) q) _ has) e in
    record { start = s.start; listed = s.listed; code = s.code }

-- ---- checkpoints

-- the checkpoint of a table is behind the instruction of its node
pub record Behind (ws : List NodeWork) (ps : List ℕ) (i m q : ℕ) : Type 0 where
  pub at : ℕ
  pub node_is : i + at ≡ m
  pub does : slice_get ws at ≡ Some work.Checkpoint
  pub place_is : q ≡ slice_index_or ps at 0 + 2

abbrev Is : ℕ → ℕ → Checkpoint → Bool
Is m q k = (node k == m) && (place_after k == q)

behind_more : (w : NodeWork) (ws : List NodeWork) (p : ℕ) (ps : List ℕ) (i m q : ℕ) → Behind ws ps (i + 1) m q → Behind (w ∷ ws) (p ∷ ps) i m q
behind_more w ws p ps i m q b = let e = b.node_is in record { at = suc b.at; node_is = omega arith; does = b.does; place_is = b.place_is }

checkpoint_here : (w : NodeWork) (p i m q : ℕ) (ws : List NodeWork) (ps : List ℕ) (rest : List Checkpoint) → (list_any (Is m q) rest ≡ true → Behind ws ps (i + 1) m q) → list_any (Is m q) (checkpoint_at i p w ++ rest) ≡ true → Behind (w ∷ ws) (p ∷ ps) i m q
checkpoint_here work.Checkpoint p i m q ws ps rest more h =
    ⊎_elim
    (λ e. let k = and_parts (i == m) (p + 2 == q) e in let a = eqb-true i m k.0 in let b = eqb-true (p + 2) q k.1 in record { at = zero; node_is = omega arith; does = refl; place_is = sym b })
    (λ e. behind_more work.Checkpoint ws p ps i m q (more e))
    (or_cases ((i == m) && (p + 2 == q)) (list_any (Is m q) rest) h)
checkpoint_here w p i m q ws ps rest more h = behind_more w ws p ps i m q (more h)

pub checkpoints_behind : (ws : List NodeWork) (ps : List ℕ) (i m q : ℕ) → list_any (Is m q) (checkpoints_from i ws ps) ≡ true → Behind ws ps i m q
checkpoints_behind [] ps i m q h = absurd (cc)
checkpoints_behind (w ∷ ws) [] i m q h = absurd (cc)
checkpoints_behind (w ∷ ws) (p ∷ ps) i m q h = checkpoint_here w p i m q ws ps (checkpoints_from (i + 1) ws ps) (checkpoints_behind ws ps (i + 1) m q) h

-- ---- the program

module _ (p : Resolved) (checked : IsChecked p) where
  abbrev pub signatures : ℕ → Option Signature
  signatures f = option_map signature (slice_get p.functions f)

  -- the code of the graphs stands in the code of the program
  abbrev pub CodeStands : CodeView → Type 0
  CodeStands c = HasAt c.instrs 0 (graphs_block (all_graphs p) 0)

  module _ (c : CodeView) (stands : CodeStands c) (functions : c.functions ≡ functions_from p.functions (length (graph_block (graphs_of p).main 0))) where
    pub main_placed : IsPlaced c (graphs_of p) signatures None (graphs_of p).main 0 (in_main p)
    main_placed =
        let joined = graph_is_joined 0 p.main.body in
        record {
          graph = refl;
          code = has_front c.instrs 0 (graph_block (graphs_of p).main 0) _ stands;
          keeps = λ n v is. all_at (work_keeps (in_main p)) (works_of_body p.main.body) n v (main_works_keep p checked) is;
          next = joined_next (graphs_of p).main joined;
          entry = joined_entry (graphs_of p).main joined;
          first = joined_first (graphs_of p).main joined;
          addresses = λ o is. addresses_fit p checked o is;
          functions = λ h. refl;
        }

    function_placed : (h : ℕ) (f : RFunction) → slice_get p.functions h ≡ Some f → (s : Stands c.instrs c.functions h f) → IsPlaced c (graphs_of p) signatures (Some h) (graph_of_function f) s.start (in_function p f)
    function_placed h f is s =
        let joined = graph_is_joined (length f.locals) f.body in
        record {
          graph = slice_get-map graph_of_function p.functions h ∙ ap (option_map graph_of_function) is;
          code = s.code;
          keeps = λ n v at. all_at (work_keeps (in_function p f)) (works_of_body f.body) n v (function_works_keep p h f checked is) at;
          next = joined_next (graph_of_function f) joined;
          entry = joined_entry (graph_of_function f) joined;
          first = joined_first (graph_of_function f) joined;
          addresses = λ o is. addresses_fit p checked o is;
          functions = λ h. refl;
        }

    pub function_stands : (h : ℕ) (f : RFunction) → slice_get p.functions h ≡ Some f → Stands c.instrs c.functions h f
    function_stands h f is =
        let q = length (graph_block (graphs_of p).main 0) in
        let back = has_back c.instrs 0 (graph_block (graphs_of p).main 0) (graphs_block (graphs_of p).functions (0 + q)) stands in
        let e : 0 + q ≡ q = omega arith in
        let back' = subst (λ z. HasAt c.instrs z (graphs_block (graphs_of p).functions z)) e back in
        subst (λ fs. Stands c.instrs fs h f) (sym functions) (functions_stand c.instrs p.functions q h f back' is)

    pub parameters_count : (h : ℕ) (f : RFunction) → slice_get p.functions h ≡ Some f → length (signature f).parameters ≡ f.parameters
    parameters_count h f is =
        let few = leb-true f.parameters (length f.locals) (all_at (λ (f : RFunction). nat_le f.parameters (length f.locals)) p.functions h f checked.parameters is) in
        let l = length-map (take f.parameters f.locals) (λ l. l.is_pointer) in
        omega (arith, l, length-take f.parameters f.locals)

    pub signature_of : (o : Option RFunction) (s : Signature) → option_map signature o ≡ Some s → (f : RFunction) × (o ≡ Some f) × (signature f ≡ s)
    signature_of None s h = absurd (none_some h)
    signature_of (Some f) s h = (f, refl, some_is h)

    pub callable : (h : ℕ) (s : Signature) → signatures h ≡ Some s → IsCallable c (graphs_of p) signatures h s
    callable h s is =
        let f = signature_of (slice_get p.functions h) s is in
        let st = function_stands h f.0 f.1 in
        let count = sym (parameters_count h f.0 f.1) ∙ ap (λ (s : Signature). length s.parameters) f.2 in
        record {
          graph = graph_of_function f.0;
          start = st.start;
          rules = in_function p f.0;
          placed = function_placed h f.0 f.1 st;
          function = st.listed ∙ ap (λ n. Some (st.start, n, length (f.0).locals)) count;
        }
