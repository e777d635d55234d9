-- The works of what keeps the rules keep them.
use Rattle.std.proofs.Common.{◌≡◌, ℕ, zero, suc, Bool, true, false, ◌&&◌, List, [], ◌∷◌, ◌++◌, map, Option, Some, None, pos, refl, sym, ap, ◌∙◌, subst}
use Rattle.std.specs.Prelude.{slice_get}
use Rattle.std.specs.List.{list_all}
use Rattle.std.proofs.lemmas.Bool.{and_from}
use Rattle.std.proofs.lemmas.List.Folds.{list_all-append}
use Rattle.c_tree.specs.declared.resolved.RExpr.{RExpr}
use Rattle.c_tree.specs.declared.resolved.RExpr.TheVariants as expr
use Rattle.c_tree.specs.declared.resolved.RExpr.TheOpen.{RExpr-F}
use Rattle.c_tree.specs.declared.resolved.RExpr.TheFolds.{fold-roll-RExpr}
use Rattle.c_tree.specs.declared.resolved.RAssign.{RAssign}
use Rattle.c_tree.specs.declared.resolved.RInit.{RInit}
use Rattle.c_tree.specs.declared.resolved.RInit.TheVariants as init'
use Rattle.c_tree.specs.declared.resolved.RStmt.{RStmt}
use Rattle.c_tree.specs.declared.resolved.RStmt.TheViews.{roll-RStmt, roll-RArm}
use Rattle.c_tree.specs.declared.resolved.RStmt.TheOpen.{RStmt-F, RArm-F}
use Rattle.c_tree.specs.declared.resolved.RStmt.TheFolds.{fold-RArm, map-RStmt, fold-roll-RStmt, fold-roll-RArm, ind-RStmt}
use Rattle.c_tree.specs.declared.resolved.RArm.{RArm}
use Rattle.c_tree.specs.declared.resolved.RFunction.{RFunction}
use Rattle.c_tree.specs.declared.resolved.Resolved.{Resolved}
use Rattle.c_tree.specs.Kinds.{World, kind_at, kind, agree, is_number, is_test, updates, begins, keeps_rules_at, arm_keeps_rules_at, keeps_rules}
use Rattle.c_tree.specs.Checked.{IsChecked, in_main, in_function}
use Rattle.flow_graph.specs.declared.node.NodeWork.{NodeWork}
use Rattle.flow_graph.specs.declared.node.NodeWork.TheVariants as work
use Rattle.flow_graph.specs.Works.{Works, all_works, update_works, init_works, condition, works_at, arm_works_at, works, arm_works, works_of_body}
use Rattle.flow_graph.specs.WorkRules.{work_keeps}

pub first_of_both : (a b : Bool) → (a && b) ≡ true → a ≡ true
first_of_both true b h = refl
first_of_both false b h = h

pub second_of_both : (a b : Bool) → (a && b) ≡ true → b ≡ true
second_of_both true b h = h
second_of_both false b h = absurd cc

some_same : {A : Type 0} {x y : A} → Some x ≡ Some y → x ≡ y
some_same e = cc

pub all_at : {A : Type 0} (p : A → Bool) (xs : List A) (i : ℕ) (x : A) → list_all p xs ≡ true → slice_get xs i ≡ Some x → p x ≡ true
all_at p [] i x h e = absurd cc
all_at {A} p (y ∷ xs) zero x h e = subst (λ (z : A). p z ≡ true) (some_same e) (first_of_both (p y) (list_all p xs) h)
all_at p (y ∷ xs) (suc i) x h e = all_at p xs i x (second_of_both (p y) (list_all p xs) h) e

module _ (w : World) where
  abbrev AllKeep : Works → Type 0
  AllKeep ws = list_all (work_keeps w) ws ≡ true

  all_of_both : (xs ys : Works) → AllKeep xs → AllKeep ys → AllKeep (xs ++ ys)
  all_of_both xs ys h k = list_all-append (work_keeps w) xs ys ∙ and_from (list_all (work_keeps w) xs) (list_all (work_keeps w) ys) h k

  one_keeps : (x : NodeWork) → work_keeps w x ≡ true → AllKeep (x ∷ [])
  one_keeps x h = and_from (work_keeps w x) true h refl

  -- where a statement keeps the rules, its works do
  abbrev Kept : (Bool → Bool) → Works → Type 0
  Kept k ws = (b : Bool) → k b ≡ true → AllKeep ws

  condition_keeps : (e : Option RExpr) → is_test w e ≡ true → work_keeps w (work.Test (condition e)) ≡ true
  condition_keeps None h = ap (agree (Some false)) (ap (kind w) (sym (expr.rolls-Num (pos 1))) ∙ fold-roll-RExpr (Option Bool) (kind_at w) (RExpr-F.Num (pos 1)))
  condition_keeps (Some e) h = h

  update_keeps : (a : Option RAssign) → updates w a ≡ true → AllKeep (update_works a)
  update_keeps None h = refl
  update_keeps (Some a) h = one_keeps (work.Set a.place a.value) h

  init_keeps : (a : Option RInit) → begins w a ≡ true → AllKeep (init_works a)
  init_keeps None h = refl
  init_keeps (Some (init'.Declare a)) h = one_keeps (work.Declare a.place (Some a.value)) h
  init_keeps (Some (init'.Set a)) h = one_keeps (work.Set a.place a.value) h

  -- one layer of a statement, over children that were seen to
  module _ (X X' Y Y' : Type 0) (p : X → Y) (q : X' → Y') (f1 : Y → Bool → Bool) (g1 : Y' → Bool → Bool) (f2 : Y → Works) (g2 : Y' → Works)
      (hf : (x : X) → Kept (f1 (p x)) (f2 (p x))) (hg : (x : X') → Kept (g1 (q x)) (g2 (q x))) where
    abbrev Ks : Bool → List X → Bool
    Ks b xs = list_all (λ s. s b) (map f1 (map p xs))

    abbrev Ks' : Bool → List X' → Bool
    Ks' b xs = list_all (λ s. s b) (map g1 (map q xs))

    abbrev ws : List X → Works
    ws xs = all_works (map f2 (map p xs))

    abbrev ws' : List X' → Works
    ws' xs = all_works (map g2 (map q xs))

    all_keep : (xs : List X) (b : Bool) → Ks b xs ≡ true → AllKeep (ws xs)
    all_keep [] b h = refl
    all_keep (x ∷ xs) b h = all_of_both (f2 (p x)) (ws xs) (hf x b (first_of_both (f1 (p x) b) (Ks b xs) h)) (all_keep xs b (second_of_both (f1 (p x) b) (Ks b xs) h))

    arms_keep : (xs : List X') (b : Bool) → Ks' b xs ≡ true → AllKeep (ws' xs)
    arms_keep [] b h = refl
    arms_keep (x ∷ xs) b h = all_of_both (g2 (q x)) (ws' xs) (hg x b (first_of_both (g1 (q x) b) (Ks' b xs) h)) (arms_keep xs b (second_of_both (g1 (q x) b) (Ks' b xs) h))

    for_keeps : (init : Option RInit) (e : Option RExpr) (update : Option RAssign) (x : X) → (begins w init && is_test w e && updates w update && f1 (p x) true) ≡ true → AllKeep (init_works init ++ work.Test (condition e) ∷ (update_works update ++ f2 (p x)))
    for_keeps init e update x h =
        let body = f1 (p x) true in
        let h3 = first_of_both (begins w init && is_test w e && updates w update) body h in
        let h2 = first_of_both (begins w init && is_test w e) (updates w update) h3 in
        all_of_both (init_works init) (work.Test (condition e) ∷ (update_works update ++ f2 (p x))) (init_keeps init (first_of_both (begins w init) (is_test w e) h2))
        (and_from (work_keeps w (work.Test (condition e))) (list_all (work_keeps w) (update_works update ++ f2 (p x))) (condition_keeps e (second_of_both (begins w init) (is_test w e) h2))
        (all_of_both (update_works update) (f2 (p x)) (update_keeps update (second_of_both (begins w init && is_test w e) (updates w update) h3)) (hf x true (second_of_both (begins w init && is_test w e && updates w update) body h))))

    layer_keeps : (y : RStmt-F X X') → Kept (keeps_rules_at w (map-RStmt Y Y' (Bool → Bool) (Bool → Bool) f1 g1 (map-RStmt X X' Y Y' p q y))) (works_at (map-RStmt Y Y' Works Works f2 g2 (map-RStmt X X' Y Y' p q y)))
    layer_keeps RStmt-F.Empty b h = refl
    layer_keeps RStmt-F.Break b h = refl
    layer_keeps RStmt-F.Continue b h = refl
    layer_keeps (RStmt-F.Declare a e) b h = one_keeps (work.Declare a e) h
    layer_keeps (RStmt-F.Set a e) b h = one_keeps (work.Set a e) h
    layer_keeps (RStmt-F.Call a f es) b h = one_keeps (work.Call a f es) h
    layer_keeps (RStmt-F.Input a) b h = one_keeps (work.Input a) h
    layer_keeps (RStmt-F.Return e) b h = one_keeps (work.Return e) h
    layer_keeps (RStmt-F.ReturnCall f es) b h = one_keeps (work.ReturnCall f es) h
    layer_keeps RStmt-F.ReturnInput b h = one_keeps work.ReturnInput h
    layer_keeps (RStmt-F.Put e) b h = one_keeps (work.Put e) h
    layer_keeps (RStmt-F.Print ps es) b h = one_keeps (work.Print ps es) h
    layer_keeps RStmt-F.Checkpoint b h = one_keeps work.Checkpoint h
    layer_keeps (RStmt-F.Exclude k) b h = one_keeps (work.Exclude k) h
    layer_keeps (RStmt-F.Block ss) b h = all_keep ss b h
    layer_keeps (RStmt-F.If arms None) b h = all_of_both (ws' arms) [] (arms_keep arms b (first_of_both (Ks' b arms) true h)) refl
    layer_keeps (RStmt-F.If arms (Some x)) b h = all_of_both (ws' arms) (f2 (p x)) (arms_keep arms b (first_of_both (Ks' b arms) (f1 (p x) b) h)) (hf x b (second_of_both (Ks' b arms) (f1 (p x) b) h))
    layer_keeps (RStmt-F.While e x) b h = and_from (work_keeps w (work.Test e)) (list_all (work_keeps w) (f2 (p x))) (first_of_both (is_number w e) (f1 (p x) true) h) (hf x true (second_of_both (is_number w e) (f1 (p x) true) h))
    layer_keeps (RStmt-F.Do x e) b h = all_of_both (f2 (p x)) (work.Test e ∷ []) (hf x true (first_of_both (f1 (p x) true) (is_number w e) h)) (one_keeps (work.Test e) (second_of_both (f1 (p x) true) (is_number w e) h))
    layer_keeps (RStmt-F.For init e update x) b h = for_keeps init e update x h

  abbrev arm_keeps_rules : RArm → Bool → Bool
  arm_keeps_rules = fold-RArm (Bool → Bool) (Bool → Bool) (keeps_rules_at w) (arm_keeps_rules_at w)

  pub works_keep : (s : RStmt) → Kept (keeps_rules w s) (works s)
  works_keep = ind-RStmt (λ s. Kept (keeps_rules w s) (works s)) (λ a. Kept (arm_keeps_rules a) (arm_works a))
      (λ x y is.
      let l = layer_keeps _ _ RStmt _ (λ e. e.0) (λ e. e.0) (keeps_rules w) arm_keeps_rules works arm_works (λ e. e.1) (λ e. e.1) y in
      let k = subst (λ z. Kept (keeps_rules_at w (map-RStmt RStmt _ (Bool → Bool) (Bool → Bool) (keeps_rules w) arm_keeps_rules z)) (works_at (map-RStmt RStmt _ Works Works works arm_works z))) is l in
      let k1 = subst (λ z. Kept z (works_at (map-RStmt RStmt _ Works Works works arm_works x))) (sym (fold-roll-RStmt (Bool → Bool) (Bool → Bool) (keeps_rules_at w) (arm_keeps_rules_at w) x)) k in
      subst (λ z. Kept (keeps_rules w (roll-RStmt x)) z) (sym (fold-roll-RStmt Works Works works_at arm_works_at x)) k1)
      (λ x y is.
      let k : Kept (keeps_rules w x.body) (works x.body) = subst (λ (z : RArm-F RStmt RArm). Kept (keeps_rules w z.body) (works z.body)) is y.body.1 in
      let g : Kept (arm_keeps_rules_at w (record { test = x.test; body = keeps_rules w x.body })) (work.Test x.test ∷ works x.body)
      = λ b h. and_from (work_keeps w (work.Test x.test)) (list_all (work_keeps w) (works x.body)) (first_of_both (is_number w x.test) (keeps_rules w x.body b) h) (k b (second_of_both (is_number w x.test) (keeps_rules w x.body b) h)) in
      let g1 = subst (λ z. Kept z (work.Test x.test ∷ works x.body)) (sym (fold-roll-RArm (Bool → Bool) (Bool → Bool) (keeps_rules_at w) (arm_keeps_rules_at w) x)) g in
      subst (λ z. Kept (arm_keeps_rules (roll-RArm x)) z) (sym (fold-roll-RArm Works Works works_at arm_works_at x)) g1)

  pub body_works_keep : (s : RStmt) → keeps_rules w s false ≡ true → list_all (work_keeps w) (works_of_body s) ≡ true
  body_works_keep s h = all_of_both (works s) (work.End ∷ []) (works_keep s false h) refl

pub main_works_keep : (p : Resolved) → IsChecked p → list_all (work_keeps (in_main p)) (works_of_body p.main.body) ≡ true
main_works_keep p h = body_works_keep (in_main p) p.main.body h.main_rules

pub function_works_keep : (p : Resolved) (f : ℕ) (g : RFunction) → IsChecked p → slice_get p.functions f ≡ Some g → list_all (work_keeps (in_function p g)) (works_of_body g.body) ≡ true
function_works_keep p f g h is = body_works_keep (in_function p g) g.body (all_at (λ (f : RFunction). keeps_rules (in_function p f) f.body false) p.functions f g h.rules is)
