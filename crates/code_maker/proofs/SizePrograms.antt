-- The code of a checked program is as small as its parts.
use Rattle.std.proofs.Common.{◌≡◌, ℕ, suc, ◌+◌, ◌*◌, ◌≤◌, List, [], ◌∷◌, ◌++◌, length, map, sum, Option, Some, None, Bool, true, false, pos, refl, sym, ap, ◌∙◌, subst, arith, length-append}
use Rattle.std.proofs.lemmas.List.Sums.{sum_by-cons}
use Rattle.std.specs.Prelude.{slice_get, if◌then◌else◌, ◌==◌}
use Rattle.std.specs.List.{list_all}
use Rattle.c_tree.specs.declared.resolved.RExpr.{RExpr}
use Rattle.c_tree.specs.declared.resolved.RExpr.TheVariants as expr
use Rattle.c_tree.specs.declared.resolved.RExpr.TheOpen.{RExpr-F}
use Rattle.c_tree.specs.declared.resolved.RExpr.TheFolds.{fold-roll-RExpr}
use Rattle.c_tree.specs.declared.resolved.RStmt.{RStmt}
use Rattle.c_tree.specs.declared.resolved.RStmt.TheViews.{roll-RStmt, roll-RArm}
use Rattle.c_tree.specs.declared.resolved.RStmt.TheOpen.{RStmt-F, RArm-F}
use Rattle.c_tree.specs.declared.resolved.RStmt.TheFolds.{fold-RArm, map-RStmt, fold-roll-RStmt, fold-roll-RArm, ind-RStmt}
use Rattle.c_tree.specs.declared.resolved.RArm.{RArm}
use Rattle.c_tree.specs.declared.resolved.RAssign.{RAssign}
use Rattle.c_tree.specs.declared.resolved.RInit.{RInit}
use Rattle.c_tree.specs.declared.resolved.RInit.TheVariants as init'
use Rattle.c_tree.specs.declared.resolved.RFunction.{RFunction}
use Rattle.c_tree.specs.declared.resolved.Resolved.{Resolved}
use Rattle.c_tree.specs.Checked.{IsChecked, in_main, in_function}
use Rattle.c_tree.specs.Kinds.{World as Rules}
use Rattle.flow_graph.specs.declared.node.NodeWork.TheVariants as work
use Rattle.flow_graph.specs.Works.{Works, all_works, update_works, init_works, condition, works_at, arm_works_at, works, arm_works, works_of_body}
use Rattle.flow_graph.specs.WorkRules.{work_keeps}
use Rattle.flow_graph.specs.Run.{graph_of, graph_of_function, graphs_of}
use Rattle.flow_graph.proofs.WorkRuleLaws.{main_works_keep, function_works_keep}
use Rattle.machine_code.specs.declared.instr.Instr.TheVariants as instr
use Rattle.code_maker.specs.NodeCode.{segments, entry_jump, start_in, graph_block}
use Rattle.code_maker.specs.ProgramCode.{graphs_block, code_of}
use Rattle.code_maker.specs.Parts.{expr_parts_at, expr_parts, some_parts, init_parts, update_parts, stmt_parts_at, arm_parts_at, stmt_parts, written_at, arm_written_at, stmt_written, body_limit, instr_limit}
use Rattle.code_maker.proofs.SizeNodes.{expr_small, works_limit, limit_both, segments_small}

-- ---- statements

-- works of at most 16 instructions for each of so many parts, and so many more
abbrev FitsParts : Works → ℕ → ℕ → Type 0
FitsParts ws n b = works_limit ws ≤ 16 * n + b

init_fits : (i : Option RInit) → works_limit (init_works i) ≤ 16 * init_parts i
init_fits None = omega arith
init_fits (Some (init'.Declare a)) = omega arith
init_fits (Some (init'.Set a)) = omega arith

update_fits : (u : Option RAssign) → works_limit (update_works u) ≤ 16 * update_parts u
update_fits None = omega arith
update_fits (Some a) = omega arith

number_parts : expr_parts (expr.Num (pos 1)) ≡ 1
number_parts = ap expr_parts (sym (expr.rolls-Num (pos 1))) ∙ fold-roll-RExpr ℕ expr_parts_at (RExpr-F.Num (pos 1))

condition_parts : (e : Option RExpr) → expr_parts (condition e) ≤ 1 + some_parts e
condition_parts None = omega (arith, number_parts)
condition_parts (Some e) = omega arith

for_fits : (i : Option RInit) (e : Option RExpr) (u : Option RAssign) (ws : Works) (n b : ℕ) → FitsParts ws n b → FitsParts (works_at (RStmt-F.For i e u ws)) (1 + init_parts i + some_parts e + update_parts u + n) b
for_fits i e u ws n b h = omega (arith, limit_both (init_works i) (work.Test (condition e) ∷ (update_works u ++ ws)), limit_both (update_works u) ws, init_fits i, update_fits u, condition_parts e)

sum_cons : (n : ℕ) (ns : List ℕ) → sum (n ∷ ns) ≡ n + sum ns
sum_cons n ns = sum_by-cons (λ x. x) n ns

-- one layer of a statement, over children that were seen to
module _ (X X' Y Y' : Type 0) (p : X → Y) (q : X' → Y') (f1 : Y → ℕ) (g1 : Y' → ℕ) (f2 : Y → ℕ) (g2 : Y' → ℕ) (f3 : Y → Works) (g3 : Y' → Works)
    (hf : (x : X) → FitsParts (f3 (p x)) (f1 (p x)) (f2 (p x))) (hg : (x : X') → FitsParts (g3 (q x)) (g1 (q x)) (g2 (q x))) where
  all_fit : (xs : List X) → FitsParts (all_works (map f3 (map p xs))) (sum (map f1 (map p xs))) (sum (map f2 (map p xs)))
  all_fit [] = omega arith
  all_fit (x ∷ xs) = omega (arith, limit_both (f3 (p x)) (all_works (map f3 (map p xs))), hf x, all_fit xs, sum_cons (f1 (p x)) (map f1 (map p xs)), sum_cons (f2 (p x)) (map f2 (map p xs)))

  arms_fit : (xs : List X') → FitsParts (all_works (map g3 (map q xs))) (sum (map g1 (map q xs))) (sum (map g2 (map q xs)))
  arms_fit [] = omega arith
  arms_fit (x ∷ xs) = omega (arith, limit_both (g3 (q x)) (all_works (map g3 (map q xs))), hg x, arms_fit xs, sum_cons (g1 (q x)) (map g1 (map q xs)), sum_cons (g2 (q x)) (map g2 (map q xs)))

  layer_fits : (y : RStmt-F X X') → FitsParts (works_at (map-RStmt Y Y' Works Works f3 g3 (map-RStmt X X' Y Y' p q y))) (stmt_parts_at (map-RStmt Y Y' ℕ ℕ f1 g1 (map-RStmt X X' Y Y' p q y))) (written_at (map-RStmt Y Y' ℕ ℕ f2 g2 (map-RStmt X X' Y Y' p q y)))
  layer_fits RStmt-F.Empty = omega arith
  layer_fits RStmt-F.Break = omega arith
  layer_fits RStmt-F.Continue = omega arith
  layer_fits (RStmt-F.Declare a e) = omega arith
  layer_fits (RStmt-F.Set a e) = omega arith
  layer_fits (RStmt-F.Call a h es) = omega arith
  layer_fits (RStmt-F.Input a) = omega arith
  layer_fits (RStmt-F.Return e) = omega arith
  layer_fits (RStmt-F.ReturnCall h es) = omega arith
  layer_fits RStmt-F.ReturnInput = omega arith
  layer_fits (RStmt-F.Put e) = omega arith
  layer_fits (RStmt-F.Print ps es) = omega arith
  layer_fits RStmt-F.Checkpoint = omega arith
  layer_fits (RStmt-F.Exclude k) = omega arith
  layer_fits (RStmt-F.Block ss) = omega (arith, all_fit ss)
  layer_fits (RStmt-F.If arms None) = omega (arith, arms_fit arms, limit_both (all_works (map g3 (map q arms))) [])
  layer_fits (RStmt-F.If arms (Some x)) = omega (arith, arms_fit arms, hf x, limit_both (all_works (map g3 (map q arms))) (f3 (p x)))
  layer_fits (RStmt-F.While e x) = omega (arith, hf x)
  layer_fits (RStmt-F.Do x e) = omega (arith, hf x, limit_both (f3 (p x)) (work.Test e ∷ []))
  layer_fits (RStmt-F.For init e update x) = for_fits init e update (f3 (p x)) (f1 (p x)) (f2 (p x)) (hf x)

abbrev arm_parts : RArm → ℕ
arm_parts = fold-RArm ℕ ℕ stmt_parts_at arm_parts_at

abbrev arm_written : RArm → ℕ
arm_written = fold-RArm ℕ ℕ written_at arm_written_at

stmt_fits : (s : RStmt) → FitsParts (works s) (stmt_parts s) (stmt_written s)
stmt_fits = ind-RStmt (λ s. FitsParts (works s) (stmt_parts s) (stmt_written s)) (λ a. FitsParts (arm_works a) (arm_parts a) (arm_written a))
    (λ x y is.
    let l = layer_fits _ _ RStmt _ (λ e. e.0) (λ e. e.0) stmt_parts arm_parts stmt_written arm_written works arm_works (λ e. e.1) (λ e. e.1) y in
    let k = subst (λ z. FitsParts (works_at (map-RStmt RStmt _ Works Works works arm_works z)) (stmt_parts_at (map-RStmt RStmt _ ℕ ℕ stmt_parts arm_parts z)) (written_at (map-RStmt RStmt _ ℕ ℕ stmt_written arm_written z))) is l in
    let k1 = subst (λ z. FitsParts z (stmt_parts_at (map-RStmt RStmt _ ℕ ℕ stmt_parts arm_parts x)) (written_at (map-RStmt RStmt _ ℕ ℕ stmt_written arm_written x))) (sym (fold-roll-RStmt Works Works works_at arm_works_at x)) k in
    let k2 = subst (λ z. FitsParts (works (roll-RStmt x)) z (written_at (map-RStmt RStmt _ ℕ ℕ stmt_written arm_written x))) (sym (fold-roll-RStmt ℕ ℕ stmt_parts_at arm_parts_at x)) k1 in
    subst (λ z. FitsParts (works (roll-RStmt x)) (stmt_parts (roll-RStmt x)) z) (sym (fold-roll-RStmt ℕ ℕ written_at arm_written_at x)) k2)
    (λ x y is.
    let k : FitsParts (works x.body) (stmt_parts x.body) (stmt_written x.body) = subst (λ (z : RArm-F RStmt RArm). FitsParts (works z.body) (stmt_parts z.body) (stmt_written z.body)) is y.body.1 in
    let one = (expr_small x.test).0 in
    let g : FitsParts (work.Test x.test ∷ works x.body) (expr_parts x.test + stmt_parts x.body) (stmt_written x.body) = omega arith in
    let g1 = subst (λ z. FitsParts z (expr_parts x.test + stmt_parts x.body) (stmt_written x.body)) (sym (fold-roll-RArm Works Works works_at arm_works_at x)) g in
    let g2 = subst (λ z. FitsParts (arm_works (roll-RArm x)) z (stmt_written x.body)) (sym (fold-roll-RArm ℕ ℕ stmt_parts_at arm_parts_at x)) g1 in
    subst (λ z. FitsParts (arm_works (roll-RArm x)) (arm_parts (roll-RArm x)) z) (sym (fold-roll-RArm ℕ ℕ written_at arm_written_at x)) g2)

-- ---- functions and programs

entry_small : (st : ℕ → ℕ) (entry : ℕ) → length (entry_jump st entry) ≤ 1
entry_small st entry = by_test (entry == 0)
  where
    by_test : (b : Bool) → length (if b then [] else instr.Jump (st entry) ∷ []) ≤ 1
    by_test true = omega arith
    by_test false = omega arith

graph_small : (w : Rules) (locals : ℕ) (body : RStmt) → list_all (work_keeps w) (works_of_body body) ≡ true → (q : ℕ) → length (graph_block (graph_of locals body) q) ≤ body_limit body
graph_small w locals body h q =
    let g = graph_of locals body in
    let st = start_in g q in
    let e = entry_jump st g.entry in
    omega (arith, length-append e (segments st 0 g.edges g.works (q + length e)), entry_small st g.entry, segments_small w st g.edges g.works h 0 (q + length e), limit_both (works body) (work.End ∷ []), stmt_fits body)

functions_small : (fs : List RFunction) → ((h : ℕ) (f : RFunction) → slice_get fs h ≡ Some f → (q : ℕ) → length (graph_block (graph_of_function f) q) ≤ body_limit f.body) → (q : ℕ)
    → length (graphs_block (map graph_of_function fs) q) ≤ sum (map (λ f. body_limit f.body) fs)
functions_small [] each q = omega arith
functions_small (f ∷ fs) each q =
    let b = graph_block (graph_of_function f) q in
    let z = q + length b in
    omega (arith, length-append b (graphs_block (map graph_of_function fs) z), each 0 f refl q, functions_small fs (λ h g is. each (suc h) g is) z, sum_cons (body_limit f.body) (map (λ f. body_limit f.body) fs))

pub code_small : (p : Resolved) → IsChecked p → length (code_of p).instrs ≤ instr_limit p
code_small p checked =
    let b = graph_block (graphs_of p).main 0 in
    let z = 0 + length b in
    let main = graph_small (in_main p) 0 p.main.body (main_works_keep p checked) 0 in
    let others = functions_small p.functions (λ h f is q. graph_small (in_function p f) (length f.locals) f.body (function_works_keep p h f checked is) q) z in
    omega (arith, length-append b (graphs_block (graphs_of p).functions z), main, others)
