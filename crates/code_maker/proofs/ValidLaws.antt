-- The machine can run the code of a checked program.
use Rattle.std.proofs.Common.{◌≡◌, ℕ, zero, suc, ◌+◌, ◌-◌, ◌<◌, ◌≤◌, List, [], ◌∷◌, length, map, Some, true, refl, sym, ap, ◌∙◌, subst, ⊎_elim, arith, leb-true}
use Rattle.std.specs.Prelude.{slice_get, slice_index, slice_index_or, nat_le, IsTrue}
use Rattle.std.specs.List.{All}
use Rattle.std.proofs.lemmas.Bool.{cases_lt, eq-eqb}
use Rattle.std.proofs.lemmas.List.{get_or_past}
use Rattle.std.proofs.lemmas.Option.{slice_get-get_or, slice_get_within}
use Rattle.ckpt_base.specs.Pointer.{first_cell, object_length}
use Rattle.c_tree.specs.declared.resolved.RObject.{RObject}
use Rattle.c_tree.specs.declared.resolved.RFunction.{RFunction}
use Rattle.c_tree.specs.declared.resolved.Resolved.{Resolved}
use Rattle.c_tree.specs.Layout.{objects_from, object_cells, cell_count}
use Rattle.c_tree.specs.Excludes.{excludes, counts_from}
use Rattle.c_tree.specs.Checked.{IsChecked}
use Rattle.flow_graph.specs.declared.node.NodeWork.{NodeWork}
use Rattle.flow_graph.specs.declared.node.NodeWork.TheVariants as work
use Rattle.flow_graph.specs.Works.{works, works_of_body}
use Rattle.flow_graph.specs.MainGraph.{mark}
use Rattle.flow_graph.specs.Run.{graph_of_function, graphs_of}
use Rattle.flow_graph.proofs.Joins.{graph_is_joined}
use Rattle.flow_graph.proofs.Marks.{numbers_within}
use Rattle.flow_graph.proofs.WorkExcludes.{work_numbers, body_numbers}
use Rattle.flow_graph.proofs.WorkRuleLaws.{all_at}
use Rattle.machine_code.specs.declared.instr.Instr.{Instr}
use Rattle.machine_code.specs.declared.instr.Instr.TheVariants as instr
use Rattle.machine_code.specs.CodeView.{CodeView, Function, start, node}
use Rattle.machine_code.specs.Valid.{IsFunction, StandsAt, AreDepths, has_checkpoint, IsEntry, IsListedAt, IsValid}
use Rattle.machine_code.specs.Memory.{CellWithin, FitsMemory}
use Rattle.code_maker.specs.NodeCode.{starts, start_in, graph_block}
use Rattle.code_maker.specs.ProgramCode.{code_of}
use Rattle.code_maker.proofs.Has.{HasAt, has_front, has_self}
use Rattle.code_maker.proofs.Segments.{segment_stands, none_some, some_is}
use Rattle.code_maker.proofs.Placed.{objects_few, function_stands}
use Rattle.code_maker.proofs.DepthList.{IsSound}
use Rattle.code_maker.proofs.ValidNodes.{IsMarked}
use Rattle.code_maker.proofs.ValidTables.{graph_some, rising_distinct, starts_rise, start_above, functions_length, each_checkpoint, checkpoints_rise, checkpoint_listed, places_length}
use Rattle.code_maker.proofs.ValidProgram.{front_get, objects_length, behind_main, code_length, AreMarked, IsRight, program_is_right}

-- what holds of each element that is there
all_from : {A : Type 0} → (P : A → Type 0) (xs : List A) → ((k : ℕ) (x : A) → slice_get xs k ≡ Some x → P x) → All P xs
all_from P xs h k d lt = h k (slice_index_or xs k d) (slice_get-get_or xs k d lt)

get_there : {A : Type 0} → (xs : List A) (n : ℕ) → n < length xs → (x : A) × (slice_get xs n ≡ Some x)
get_there [] n lt = absurd (omega arith)
get_there (x ∷ xs) zero lt = (x, refl)
get_there (x ∷ xs) (suc n) lt = get_there xs n (omega arith)

-- objects lie within their cells
object_within : (at : ℕ) (os : List RObject) (k : ℕ) (o : ℕ × ℕ) → slice_get (objects_from at os) k ≡ Some o → first_cell o + object_length o ≤ at + object_cells os
object_within at [] k o e = absurd (none_some e)
object_within at (r ∷ os) zero o e = let a = ap first_cell (some_is e) in let b = ap object_length (some_is e) in omega arith
object_within at (r ∷ os) (suc k) o e = let h = object_within (at + r.length) os k o e in omega arith

module _ (p : Resolved) (checked : IsChecked p) where
  abbrev c : CodeView
  c = code_of p

  abbrev main_works : List NodeWork
  main_works = works_of_body p.main.body

  abbrev main_start : ℕ → ℕ
  main_start = start_in (graphs_of p).main 0

  -- the number of a directive of `main`
  directive_within : (n k : ℕ) → slice_get main_works n ≡ Some (work.Exclude k) → (1 ≤ k) × (k ≤ length (excludes p.main.body))
  directive_within n k e =
      let numbers = body_numbers p.main.body in
      let counts : counts_from 1 (work_numbers main_works) ≡ true = subst (λ ks. counts_from 1 ks ≡ true) (sym numbers) checked.exclude_numbers in
      let r = numbers_within NodeWork mark main_works 1 k n counts (rw e (eq-eqb k k refl)) in
      let l = ap length numbers in
      (r.0, omega (arith, r.1))

  pub node_listed : (n : ℕ) → slice_get main_works n ≡ Some work.Checkpoint → IsTrue (has_checkpoint c n (main_start n + 1 + 1))
  node_listed n e =
      let g = (graphs_of p).main in
      let joined = graph_is_joined 0 p.main.body in
      let ps = starts g 0 in
      let size : length ps ≡ length main_works = places_length 0 g.edges g.works _ joined.same in
      let listed = checkpoint_listed main_works ps 0 n e (omega (arith, slice_get_within main_works n work.Checkpoint e)) in
      let z : 0 + n ≡ n = omega arith in
      let y : main_start n + 2 ≡ main_start n + 1 + 1 = omega arith in
      subst (λ q. IsTrue (has_checkpoint c n q)) y (subst (λ m. IsTrue (has_checkpoint c m (main_start n + 2))) z listed)

  main_marked : AreMarked p checked
  main_marked n wk e = by_work wk (front_get (works p.main.body) (work.End ∷ []) n wk e)
    where
      by_work : (v : NodeWork) → slice_get main_works n ≡ Some v → IsMarked c (length (excludes p.main.body)) n (main_start n + 1) v
      by_work work.Checkpoint e = node_listed n e
      by_work (work.Exclude k) e = directive_within n k e
      by_work v e = tt

  right : IsRight p checked
  right = program_is_right p checked main_marked

  has_code : HasAt c.instrs 0 (graph_block (graphs_of p).main 0)
  has_code = has_front c.instrs 0 (graph_block (graphs_of p).main 0) _ (has_self c.instrs)

  -- ---- functions

  function_is : (k : ℕ) (f : Function) → slice_get c.functions k ≡ Some f → IsFunction c f
  function_is k f e =
      let within = slice_get_within c.functions k f e in
      let g = get_there p.functions k (omega (arith, functions_length p.functions (behind_main p checked))) in
      let s = function_stands p checked c (has_self c.instrs) refl k g.0 g.1 in
      let same : (s.start, (g.0).parameters, length (g.0).locals) ≡ f = some_is (sym s.listed ∙ e) in
      let some = graph_some (length (g.0).locals) (g.0).body s.start in
      subst (IsFunction c) same (record {
        behind_main = omega (arith, ap start same, start_above p.functions (behind_main p checked) k f e, graph_some 0 p.main.body 0);
        within = first_within s.start (graph_block (graph_of_function g.0) s.start) some s.code;
        parameters = leb-true (g.0).parameters (length (g.0).locals) (all_at (λ (f : RFunction). nat_le f.parameters (length f.locals)) p.functions k g.0 checked.parameters g.1);
      })
    where
      first_within : (q : ℕ) (is : List Instr) → 0 < length is → HasAt c.instrs q is → q < length c.instrs
      first_within q [] lt h = absurd (omega arith)
      first_within q (i ∷ is) lt h = slice_get_within c.instrs q i h.0

  -- ---- checkpoints

  entry_is : (n : ℕ) → slice_get main_works n ≡ Some work.Checkpoint → IsEntry c (0 + n, main_start n + 2)
  entry_is n e =
      let g = (graphs_of p).main in
      let joined = graph_is_joined 0 p.main.body in
      let to = get_there g.edges n (omega (arith, joined.same, slice_get_within main_works n work.Checkpoint e)) in
      let at = segment_stands c.instrs g 0 has_code n to.0 work.Checkpoint (record { edge = to.1; does = e }) in
      let z : n ≡ 0 + n = omega arith in
      let y : main_start n + 1 ≡ main_start n + 2 - 1 = omega arith in
      (omega arith, subst (λ q. slice_get c.instrs q ≡ Some (instr.Ckpt (0 + n))) y (subst (λ m. slice_get c.instrs (main_start n + 1) ≡ Some (instr.Ckpt m)) z at.1.0))

  listed : (q : ℕ) → q < length c.instrs → IsListedAt c q
  unfolding IsListedAt
  listed q lt n e = (right.places q lt).sound (instr.Ckpt n) e

  depths_are : AreDepths c right.depths
  unfolding StandsAt
  depths_are = record {
    each = right.same;
    stands = λ q lt i e. (right.places q lt).stands i e;
    main = right.first;
    starts = all_from (λ f. slice_index right.depths (start f) ≡ 0) c.functions right.starts;
    unreached = λ q none. ⊎_elim {C = slice_index right.depths q ≡ 0} (λ lt. (right.places q lt).reached none) (λ ge. get_or_past right.depths q 0 (omega (arith, right.same))) (cases_lt q (length c.instrs));
  }

  pub code_is_valid : IsValid c
  code_is_valid = record {
    some = omega (arith, code_length p checked, graph_some 0 p.main.body 0);
    objects = omega (arith, objects_length 0 p.objects, objects_few p.objects checked.lengths, checked.cells);
    functions = all_from (IsFunction c) c.functions function_is;
    starts = rising_distinct (behind_main p checked) (map start c.functions) (starts_rise p.functions (behind_main p checked));
    depths = (right.depths, depths_are);
    entries = each_checkpoint (IsEntry c) main_works (starts (graphs_of p).main 0) 0 entry_is;
    listed = listed;
    nodes = rising_distinct 0 (map node c.checkpoints) (checkpoints_rise main_works (starts (graphs_of p).main 0) 0);
  }

  -- ---- memory

  cell_within : (q : ℕ) (i : Instr) → IsSound c (cell_count p) (length (excludes p.main.body)) q i → CellWithin (cell_count p) i
  cell_within q (instr.LoadC cell) h = h
  cell_within q (instr.StoreC cell) h = h
  cell_within q i h = tt

  sound_at : (q : ℕ) (i : Instr) → slice_get c.instrs q ≡ Some i → IsSound c (cell_count p) (length (excludes p.main.body)) q i
  sound_at q i e = (right.places q (slice_get_within c.instrs q i e)).sound i e

  pub code_fits : FitsMemory c (cell_count p)
  code_fits = record {
    cells = all_from (CellWithin (cell_count p)) c.instrs (λ q i e. cell_within q i (sound_at q i e));
    objects = all_from (λ o. first_cell o + object_length o ≤ cell_count p) c.objects (λ k o e. let h = object_within 0 p.objects k o e in omega arith);
  }

  pub directive_there : (q k : ℕ) → slice_get c.instrs q ≡ Some (instr.Excl k) → (1 ≤ k) × (k ≤ length (excludes p.main.body))
  directive_there q k e = sound_at q (instr.Excl k) e
