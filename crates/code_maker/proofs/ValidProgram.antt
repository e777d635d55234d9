-- The code of a checked program: its depths.
use Rattle.std.proofs.Common.{◌≡◌, ◌≢◌, ℕ, zero, suc, ◌+◌, ◌-◌, ◌<◌, ◌≤◌, max, List, [], ◌∷◌, ◌++◌, length, map, Option, Some, None, Bool, true, refl, sym, ap, ◌∙◌, subst, ⊎_elim, arith, length-append}
use Rattle.std.specs.Prelude.{slice_get, slice_index, if◌then◌else◌}
use Rattle.std.specs.List.{list_all}
use Rattle.std.specs.Option.{option_map, option_and_then}
use Rattle.std.proofs.lemmas.Bool.{cases_lt, le-ltb}
use Rattle.std.proofs.lemmas.Option.{slice_get-map, slice_get_within}
use Rattle.c_tree.specs.declared.resolved.RObject.{RObject}
use Rattle.c_tree.specs.declared.resolved.RLocal.{RLocal}
use Rattle.c_tree.specs.declared.resolved.RStmt.{RStmt}
use Rattle.c_tree.specs.declared.resolved.RFunction.{RFunction}
use Rattle.c_tree.specs.declared.resolved.Resolved.{Resolved}
use Rattle.c_tree.specs.Layout.{object_cells, cell_count, objects_from}
use Rattle.c_tree.specs.Excludes.{excludes}
use Rattle.c_tree.specs.Kinds.{World, Signature}
use Rattle.c_tree.specs.Checked.{IsChecked, variable_kind, element, file_variable, local_kind, main_variable, signature, in_main, in_function}
use Rattle.flow_graph.specs.declared.node.NodeWork.{NodeWork}
use Rattle.flow_graph.specs.declared.node.NodeWork.TheVariants as work
use Rattle.flow_graph.specs.Works.{works, works_of_body}
use Rattle.flow_graph.specs.WorkRules.{work_keeps}
use Rattle.flow_graph.specs.Run.{Graph, graph_of, graph_of_function, graphs_of}
use Rattle.flow_graph.proofs.Joins.{graph_is_joined}
use Rattle.flow_graph.proofs.WorkRuleLaws.{all_at, main_works_keep, function_works_keep}
use Rattle.machine_code.specs.CodeView.{CodeView, Function, start, home, locals_from}
use Rattle.machine_code.specs.Needs.{parameters_of}
use Rattle.code_maker.specs.NodeCode.{start_in, graph_block}
use Rattle.code_maker.specs.Depths.{work_depth, works_depth, deepest}
use Rattle.code_maker.specs.ProgramCode.{graphs_block, functions_from, all_graphs, code_of}
use Rattle.code_maker.proofs.Has.{has_self}
use Rattle.code_maker.proofs.Segments.{none_some, some_is}
use Rattle.code_maker.proofs.Placed.{addressable_there, signature_of, parameters_count, function_stands}
use Rattle.code_maker.proofs.DepthList.{StandsFrom, front_stands, back_stands, all_stand, IsPlace}
use Rattle.code_maker.proofs.ValidExprs.{Serves}
use Rattle.code_maker.proofs.ValidNodes.{IsMarked}
use Rattle.code_maker.proofs.ValidSegments.{NoneEnds}
use Rattle.code_maker.proofs.ValidGraphs.{CodeDepths, graph_depths}
use Rattle.code_maker.proofs.ValidTables.{next_function, function_later, functions_length, home_before, home_behind, locals_here, locals_behind}

-- ---- lists

pub front_get : {A : Type 0} → (xs ys : List A) (n : ℕ) (x : A) → slice_get xs n ≡ Some x → slice_get (xs ++ ys) n ≡ Some x
front_get [] ys n x e = absurd (none_some e)
front_get (y ∷ xs) ys zero x e = e
front_get (y ∷ xs) ys (suc n) x e = front_get xs ys n x e

last_get : {A : Type 0} → (xs : List A) (y : A) → slice_get (xs ++ y ∷ []) (length xs) ≡ Some y
last_get [] y = refl
last_get (x ∷ xs) y = last_get xs y

-- what stands before the end of a graph
pub not_last : (ws : List NodeWork) (n : ℕ) (w : NodeWork) → w ≢ work.End → slice_get (ws ++ work.End ∷ []) n ≡ Some w → slice_get ws n ≡ Some w
not_last [] zero w other e = absurd (other (sym (some_is e)))
not_last [] (suc n) w other e = absurd (none_some e)
not_last (v ∷ ws) zero w other e = e
not_last (v ∷ ws) (suc n) w other e = not_last ws n w other e

none_end : (ws : List NodeWork) → ((n : ℕ) → slice_get ws n ≡ Some work.End → ⊥) → NoneEnds ws
none_end [] h = tt
none_end (w ∷ ws) h = (λ e. h 0 (ap (λ v. Some v) e), none_end ws (λ n e. h (suc n) e))

-- ---- operands

work_few : (ws : List NodeWork) (n : ℕ) (w : NodeWork) → slice_get ws n ≡ Some w → work_depth w ≤ works_depth ws
work_few [] n w e = absurd (none_some e)
work_few (v ∷ ws) zero w e = let same = ap work_depth (some_is e) in omega arith
work_few (v ∷ ws) (suc n) w e = let h = work_few ws n w e in omega arith

graph_few : (gs : List Graph) (n : ℕ) (g : Graph) → slice_get gs n ≡ Some g → works_depth g.works ≤ deepest gs
graph_few [] n g e = absurd (none_some e)
graph_few (f ∷ gs) zero g e = let same = ap (λ (g : Graph). works_depth g.works) (some_is e) in omega arith
graph_few (f ∷ gs) (suc n) g e = let h = graph_few gs n g e in omega arith

end_few : (body : RStmt) → 1 ≤ works_depth (works_of_body body)
end_few body = work_few (works_of_body body) (length (works body)) work.End (last_get (works body) work.End)

-- ---- a body

body_depths : (c : CodeView) (cells most own q : ℕ) (w : World) → Serves c cells own w → (count : ℕ) (body : RStmt) → list_all (work_keeps w) (works_of_body body) ≡ true → works_depth (works_of_body body) ≤ c.stack
    → ((n : ℕ) (wk : NodeWork) → slice_get (works body) n ≡ Some wk → IsMarked c most n (start_in (graph_of count body) q n + 1) wk)
    → StandsFrom c.instrs q (graph_block (graph_of count body) q) → ((r : ℕ) → q ≤ r → r < q + length (graph_block (graph_of count body) q) → home c.functions r ≡ own) → CodeDepths c cells most q (graph_block (graph_of count body) q)
body_depths c cells most own q w serves count body keeps few marked at at_home =
    let g = graph_of count body in
    let ws = works body in
    let joined = graph_is_joined count body in
    let size = length-append ws (work.End ∷ []) in
    let none : NoneEnds ws = none_end ws (λ n e. let k = joined.ends n (front_get ws (work.End ∷ []) n work.End e) in let l = slice_get_within ws n work.End e in absurd (omega arith)) in
    graph_depths c cells most own q w serves count g.entry g.edges ws (joined.same ∙ size) none at at_home (omega (arith, end_few body)) joined.entry
    (λ n to wk e f.
    let there = front_get ws (work.End ∷ []) n wk f in
    record {
      keeps = all_at (work_keeps w) (works_of_body body) n wk keeps there;
      few = let h = work_few (works_of_body body) n wk there in omega arith;
      joined = joined.each n wk to there e;
      marked = marked n wk f;
    })

-- ---- names

element_within : (os : List RObject) (i : ℕ) (e : RObject × ℕ) → element os i ≡ Some e → i < object_cells os
element_within [] i e h = absurd (none_some h)
element_within (o ∷ os) i e h = ⊎_elim {C = i < object_cells (o ∷ os)} (λ lt. omega arith)
    (λ ge. let rest = element_within os (i - o.length) e (subst (λ b. (if b then Some (o, i) else element os (i - o.length)) ≡ Some e) (le-ltb i o.length ge) h) in omega arith)
    (cases_lt i o.length)

file_cell : (os : List RObject) (i : ℕ) (b : Bool) → file_variable os i ≡ Some b → i < object_cells os
file_cell os i b h = by_case (element os i) refl h
  where
    by_case : (x : Option (RObject × ℕ)) → element os i ≡ x → option_and_then (λ (e : RObject × ℕ). variable_kind (e.0).kind) x ≡ Some b → i < object_cells os
    by_case None e h = absurd (none_some h)
    by_case (Some x) e h = element_within os i x e

pub local_within : (ls : List RLocal) (i : ℕ) (b : Bool) → local_kind ls i ≡ Some b → i < length ls
local_within ls i b h = by_case (slice_get ls i) refl h
  where
    by_case : (x : Option RLocal) → slice_get ls i ≡ x → option_map (λ (l : RLocal). l.is_pointer) x ≡ Some b → i < length ls
    by_case None e h = absurd (none_some h)
    by_case (Some x) e h = slice_get_within ls i x e

pub objects_length : (at : ℕ) (os : List RObject) → length (objects_from at os) ≡ length os
objects_length at [] = refl
objects_length at (o ∷ os) = ap suc (objects_length (at + o.length) os)

-- functions one behind another, from place q on
pub record FunctionsDepths (c : CodeView) (cells most : ℕ) (fs : List RFunction) (q : ℕ) : Type 0 where
  pub depths : List ℕ
  pub same : length depths ≡ length (graphs_block (map graph_of_function fs) q)
  pub starts : (D : List ℕ) → StandsFrom D q depths → (k : ℕ) (f : Function) → slice_get (functions_from fs q) k ≡ Some f → slice_index D (start f) ≡ 0
  pub places : (D : List ℕ) → StandsFrom D q depths → (r : ℕ) → q ≤ r → r < q + length (graphs_block (map graph_of_function fs) q) → IsPlace c cells most D r

module _ (p : Resolved) (checked : IsChecked p) where
  abbrev pub c : CodeView
  c = code_of p

  abbrev pub cells : ℕ
  cells = cell_count p

  abbrev pub most : ℕ
  most = length (excludes p.main.body)

  -- where the functions begin
  abbrev pub behind_main : ℕ
  behind_main = length (graph_block (graphs_of p).main 0)

  pub function_there : (f : ℕ) (g : Signature) → option_map signature (slice_get p.functions f) ≡ Some g → f < length c.functions
  function_there f g h =
      let x = signature_of p checked c (has_self c.instrs) refl (slice_get p.functions f) g h in
      let l = slice_get_within p.functions f x.0 x.1 in
      omega (arith, functions_length p.functions behind_main)

  parameters_are : (f : ℕ) (g : Signature) → option_map signature (slice_get p.functions f) ≡ Some g → parameters_of (slice_get c.functions f) ≡ length g.parameters
  parameters_are f g h =
      let x = signature_of p checked c (has_self c.instrs) refl (slice_get p.functions f) g h in
      let s = function_stands p checked c (has_self c.instrs) refl f x.0 x.1 in
      ap parameters_of s.listed ∙ sym (parameters_count p checked c (has_self c.instrs) refl f x.0 x.1) ∙ ap (λ (g : Signature). length g.parameters) x.2

  main_cell : (i : ℕ) (b : Bool) → main_variable p i ≡ Some b → i < cell_count p
  main_cell i b h = ⊎_elim {C = i < cell_count p} (λ lt. omega arith)
      (λ ge.
      let n = object_cells p.objects in
      let l = local_within p.main.locals (i - n) b (subst (λ t. (if t then file_variable p.objects i else local_kind p.main.locals (i - n)) ≡ Some b) (le-ltb i n ge) h) in
      omega arith)
      (cases_lt i (object_cells p.objects))

  main_serves : Serves c cells 0 (in_main p)
  main_serves = record {
    cell = main_cell;
    local = λ i b h. absurd (none_some h);
    object = λ o h. omega (arith, addressable_there p.objects o h, objects_length 0 p.objects);
    function = function_there;
    parameters = parameters_are;
    main = λ h. refl;
  }

  function_serves : (f : RFunction) (q : ℕ) → locals_from c.functions q ≡ length f.locals → Serves c cells q (in_function p f)
  function_serves f q same = record {
    cell = λ i b h. let l = file_cell p.objects i b h in omega arith;
    local = λ i b h. let l = local_within f.locals i b h in omega arith;
    object = λ o h. omega (arith, addressable_there p.objects o h, objects_length 0 p.objects);
    function = function_there;
    parameters = parameters_are;
    main = λ h. absurd (cc);
  }

  -- a function keeps the rules
  record IsKept (f : RFunction) : Type 0 where
    keeps : list_all (work_keeps (in_function p f)) (works_of_body f.body) ≡ true
    few : works_depth (works_of_body f.body) ≤ c.stack

  unmarked : (f : RFunction) (n q : ℕ) (wk : NodeWork) → work_keeps (in_function p f) wk ≡ true → IsMarked c most n q wk
  unmarked f n q work.Checkpoint h = absurd (cc)
  unmarked f n q (work.Exclude k) h = absurd (cc)
  unmarked f n q wk h = tt

  function_depths : (f : RFunction) (q : ℕ) → IsKept f → StandsFrom c.instrs q (graph_block (graph_of_function f) q) → ((r : ℕ) → q ≤ r → r < next_function f q → home c.functions r ≡ q) → locals_from c.functions q ≡ length f.locals → CodeDepths c cells most q (graph_block (graph_of_function f) q)
  function_depths f q kept at at_home same =
      body_depths c cells most q q (in_function p f) (function_serves f q same) (length f.locals) f.body kept.keeps kept.few
      (λ n wk e. unmarked f n (start_in (graph_of_function f) q n + 1) wk (all_at (work_keeps (in_function p f)) (works_of_body f.body) n wk kept.keeps (front_get (works f.body) (work.End ∷ []) n wk e))) at at_home

  more_functions : (f : RFunction) (fs : List RFunction) (q : ℕ) → CodeDepths c cells most q (graph_block (graph_of_function f) q) → FunctionsDepths c cells most fs (next_function f q) → FunctionsDepths c cells most (f ∷ fs) q
  more_functions f fs q A R = record {
    depths = A.depths ++ R.depths;
    same = omega (arith, length-append A.depths R.depths, A.same, R.same, length-append (graph_block (graph_of_function f) q) (graphs_block (map graph_of_function fs) (next_function f q)));
    starts = starts_level;
    places = λ D h r from_q to_q. ⊎_elim {C = IsPlace c cells most D r}
        (λ below. A.places D (front_stands D q A.depths R.depths h) r from_q below)
        (λ above. R.places D (behind D h) r above (omega (arith, length-append (graph_block (graph_of_function f) q) (graphs_block (map graph_of_function fs) (next_function f q)))))
        (cases_lt r (next_function f q));
  }
    where
      behind : (D : List ℕ) → StandsFrom D q (A.depths ++ R.depths) → StandsFrom D (next_function f q) R.depths
      behind D h = subst (λ n. StandsFrom D (q + n) R.depths) A.same (back_stands D q A.depths R.depths h)

      starts_level : (D : List ℕ) → StandsFrom D q (A.depths ++ R.depths) → (k : ℕ) (g : Function) → slice_get (functions_from (f ∷ fs) q) k ≡ Some g → slice_index D (start g) ≡ 0
      starts_level D h zero g e = subst (λ (g : Function). slice_index D (start g) ≡ 0) (some_is e) (A.first D (front_stands D q A.depths R.depths h))
      starts_level D h (suc k) g e = R.starts D (behind D h) k g e

  functions_depths : (fs : List RFunction) (q s : ℕ) → ((k : ℕ) (f : RFunction) → slice_get fs k ≡ Some f → IsKept f) → StandsFrom c.instrs q (graphs_block (map graph_of_function fs) q) → s ≤ q
      → ((r : ℕ) → q ≤ r → home c.functions r ≡ max s (home (functions_from fs q) r)) → ((r : ℕ) → q ≤ r → locals_from c.functions r ≡ locals_from (functions_from fs q) r) → FunctionsDepths c cells most fs q
  functions_depths [] q s kept at le homes same = record {
    depths = [];
    same = refl;
    starts = λ D h k f e. absurd (none_some e);
    places = λ D h r from_q to_q. absurd (omega arith);
  }
  functions_depths (f ∷ fs) q s kept at le homes same =
      let n = next_function f q in
      let block = graph_block (graph_of_function f) q in
      let rest = graphs_block (map graph_of_function fs) n in
      let later = function_later f q in
      let A = function_depths f q (kept 0 f refl) (front_stands c.instrs q block rest at) (λ r from_q to_q. omega (arith, homes r from_q, home_behind f fs q r from_q, home_before fs n r to_q)) (same q (omega arith) ∙ locals_here f fs q) in
      more_functions f fs q A (functions_depths fs n q (λ k g e. kept (suc k) g e) (back_stands c.instrs q block rest at) (omega arith)
      (λ r from_n. omega (arith, homes r (omega arith), home_behind f fs q r (omega arith)))
      (λ r from_n. same r (omega arith) ∙ locals_behind f fs q r (omega arith)))

  all_kept : (k : ℕ) (f : RFunction) → slice_get p.functions k ≡ Some f → IsKept f
  all_kept k f e = record {
    keeps = function_works_keep p k f checked e;
    few = graph_few (all_graphs p) (suc k) (graph_of_function f) (slice_get-map graph_of_function p.functions k ∙ ap (option_map graph_of_function) e);
  }

  functions_at : StandsFrom c.instrs behind_main (graphs_block (map graph_of_function p.functions) behind_main)
  functions_at =
      let e : 0 + behind_main ≡ behind_main = omega arith in
      subst (λ z. StandsFrom c.instrs z (graphs_block (map graph_of_function p.functions) z)) e (back_stands c.instrs 0 (graph_block (graphs_of p).main 0) (graphs_block (graphs_of p).functions (0 + behind_main)) (all_stand c.instrs))

  pub code_length : length c.instrs ≡ behind_main + length (graphs_block (map graph_of_function p.functions) behind_main)
  code_length =
      let e : 0 + behind_main ≡ behind_main = omega arith in
      length-append (graph_block (graphs_of p).main 0) (graphs_block (graphs_of p).functions (0 + behind_main)) ∙ ap (λ z. behind_main + length (graphs_block (map graph_of_function p.functions) z)) e

  all_functions : FunctionsDepths c cells most p.functions behind_main
  all_functions = functions_depths p.functions behind_main 0 all_kept functions_at (omega arith) (λ r from_q. omega arith) (λ r from_q. refl)

  -- what marks the nodes of `main`: its checkpoints in the table, its directives by their numbers
  abbrev pub AreMarked : Type 0
  AreMarked = (n : ℕ) (wk : NodeWork) → slice_get (works p.main.body) n ≡ Some wk → IsMarked c most n (start_in (graphs_of p).main 0 n + 1) wk

  main_depths : AreMarked → CodeDepths c cells most 0 (graph_block (graphs_of p).main 0)
  main_depths marked =
      body_depths c cells most 0 0 (in_main p) main_serves 0 p.main.body (main_works_keep p checked) (graph_few (all_graphs p) 0 (graphs_of p).main refl) marked
      (front_stands c.instrs 0 (graph_block (graphs_of p).main 0) (graphs_block (graphs_of p).functions (0 + behind_main)) (all_stand c.instrs))
      (λ r low lt. home_before p.functions behind_main r (omega arith))

  -- each place of the code is right
  pub record IsRight : Type 0 where
    pub depths : List ℕ
    pub same : length depths ≡ length c.instrs
    pub first : slice_index depths 0 ≡ 0
    pub starts : (k : ℕ) (f : Function) → slice_get c.functions k ≡ Some f → slice_index depths (start f) ≡ 0
    pub places : (r : ℕ) → r < length c.instrs → IsPlace c cells most depths r

  pub program_is_right : AreMarked → IsRight
  program_is_right marked =
      let M = main_depths marked in
      let F = all_functions in
      let D : List ℕ = M.depths ++ F.depths in
      let all = all_stand D in
      let e : 0 + length M.depths ≡ behind_main = omega (arith, M.same) in
      let front = front_stands D 0 M.depths F.depths all in
      let back : StandsFrom D behind_main F.depths = subst (λ z. StandsFrom D z F.depths) e (back_stands D 0 M.depths F.depths all) in
      record {
        depths = D;
        same = omega (arith, length-append M.depths F.depths, M.same, F.same, code_length);
        first = M.first D front;
        starts = F.starts D back;
        places = λ r lt. ⊎_elim {C = IsPlace c cells most D r} (λ below. M.places D front r (omega arith) (omega arith)) (λ above. F.places D back r above (omega (arith, code_length))) (cases_lt r behind_main);
      }
