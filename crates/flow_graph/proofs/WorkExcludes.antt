-- The numbers of the EXCLUDE_HERE among what the nodes of a statement do are those of the statement.
use Rattle.std.proofs.Common.{◌≡◌, ℕ, List, [], ◌∷◌, ◌++◌, map, Option, Some, None, refl, sym, ap, ◌∙◌, subst}
use Rattle.std.specs.List.{concat}
use Rattle.c_tree.specs.declared.resolved.RExpr.{RExpr}
use Rattle.c_tree.specs.declared.resolved.RStmt.{RStmt}
use Rattle.c_tree.specs.declared.resolved.RStmt.TheViews.{roll-RStmt, roll-RArm}
use Rattle.c_tree.specs.declared.resolved.RStmt.TheOpen.{RStmt-F, RArm-F}
use Rattle.c_tree.specs.declared.resolved.RStmt.TheFolds.{map-RStmt, fold-roll-RStmt, fold-roll-RArm, ind-RStmt}
use Rattle.c_tree.specs.declared.resolved.RArm.{RArm}
use Rattle.c_tree.specs.declared.resolved.RAssign.{RAssign}
use Rattle.c_tree.specs.declared.resolved.RInit.{RInit}
use Rattle.c_tree.specs.declared.resolved.RInit.TheVariants as init'
use Rattle.c_tree.specs.Excludes.{excludes_at, arm_excludes_at, excludes, arm_excludes}
use Rattle.flow_graph.specs.declared.node.NodeWork.{NodeWork}
use Rattle.flow_graph.specs.declared.node.NodeWork.TheVariants as work
use Rattle.flow_graph.specs.Works.{Works, all_works, works_at, arm_works_at, works, arm_works, works_of_body}
use Rattle.flow_graph.specs.MainGraph.{mark}
use Rattle.flow_graph.proofs.Marks.{numbers, numbers_both}

abbrev pub work_numbers : Works → List ℕ
work_numbers = numbers NodeWork mark

-- these are the numbers of the works
abbrev Numbered : Works → List ℕ → Type 0
Numbered ws ks = work_numbers ws ≡ ks

append_none : (ks : List ℕ) → ks ++ [] ≡ ks
append_none [] = refl
append_none (k ∷ ks) = ap (λ ls. k ∷ ls) (append_none ks)

numbered_both : (ws vs : Works) (ks ls : List ℕ) → Numbered ws ks → Numbered vs ls → Numbered (ws ++ vs) (ks ++ ls)
numbered_both ws vs ks ls h g = numbers_both NodeWork mark ws vs ∙ (ap (λ xs. xs ++ work_numbers vs) h ∙ ap (λ xs. ks ++ xs) g)

numbered_front : (ws vs : Works) (ks : List ℕ) → Numbered ws ks → Numbered vs [] → Numbered (ws ++ vs) ks
numbered_front ws vs ks h g = numbered_both ws vs ks [] h g ∙ append_none ks

numbered_for : (i : Option RInit) (e : Option RExpr) (u : Option RAssign) (ws : Works) (ks : List ℕ) → Numbered ws ks → Numbered (works_at (RStmt-F.For i e u ws)) ks
numbered_for None e None ws ks h = h
numbered_for None e (Some u) ws ks h = h
numbered_for (Some (init'.Declare a)) e None ws ks h = h
numbered_for (Some (init'.Declare a)) e (Some u) ws ks h = h
numbered_for (Some (init'.Set a)) e None ws ks h = h
numbered_for (Some (init'.Set a)) e (Some u) ws ks h = h

-- one layer of a statement, over children that were seen to
module _ (X X' Y Y' : Type 0) (p : X → Y) (q : X' → Y') (f2 : Y → List ℕ) (g2 : Y' → List ℕ) (f3 : Y → Works) (g3 : Y' → Works) (hf : (x : X) → Numbered (f3 (p x)) (f2 (p x))) (hg : (x : X') → Numbered (g3 (q x)) (g2 (q x))) where
  numbered_all : (xs : List X) → Numbered (all_works (map f3 (map p xs))) (concat (map f2 (map p xs)))
  numbered_all [] = refl
  numbered_all (x ∷ xs) = numbered_both (f3 (p x)) (all_works (map f3 (map p xs))) (f2 (p x)) (concat (map f2 (map p xs))) (hf x) (numbered_all xs)

  numbered_arms : (xs : List X') → Numbered (all_works (map g3 (map q xs))) (concat (map g2 (map q xs)))
  numbered_arms [] = refl
  numbered_arms (x ∷ xs) = numbered_both (g3 (q x)) (all_works (map g3 (map q xs))) (g2 (q x)) (concat (map g2 (map q xs))) (hg x) (numbered_arms xs)

  numbered_layer : (y : RStmt-F X X') → Numbered (works_at (map-RStmt Y Y' Works Works f3 g3 (map-RStmt X X' Y Y' p q y))) (excludes_at (map-RStmt Y Y' (List ℕ) (List ℕ) f2 g2 (map-RStmt X X' Y Y' p q y)))
  numbered_layer RStmt-F.Empty = refl
  numbered_layer RStmt-F.Break = refl
  numbered_layer RStmt-F.Continue = refl
  numbered_layer (RStmt-F.Declare a e) = refl
  numbered_layer (RStmt-F.Set a e) = refl
  numbered_layer (RStmt-F.Call a h es) = refl
  numbered_layer (RStmt-F.Input a) = refl
  numbered_layer (RStmt-F.Return e) = refl
  numbered_layer (RStmt-F.ReturnCall h es) = refl
  numbered_layer RStmt-F.ReturnInput = refl
  numbered_layer (RStmt-F.Put e) = refl
  numbered_layer (RStmt-F.Print ps es) = refl
  numbered_layer RStmt-F.Checkpoint = refl
  numbered_layer (RStmt-F.Exclude k) = refl
  numbered_layer (RStmt-F.Block ss) = numbered_all ss
  numbered_layer (RStmt-F.If arms None) = numbered_front (all_works (map g3 (map q arms))) [] (concat (map g2 (map q arms))) (numbered_arms arms) refl
  numbered_layer (RStmt-F.If arms (Some x)) = numbered_both (all_works (map g3 (map q arms))) (f3 (p x)) (concat (map g2 (map q arms))) (f2 (p x)) (numbered_arms arms) (hf x)
  numbered_layer (RStmt-F.While e x) = hf x
  numbered_layer (RStmt-F.Do x e) = numbered_front (f3 (p x)) (work.Test e ∷ []) (f2 (p x)) (hf x) refl
  numbered_layer (RStmt-F.For init e update x) = numbered_for init e update (f3 (p x)) (f2 (p x)) (hf x)

abbrev Seen : RStmt → Type 0
Seen s = Numbered (works s) (excludes s)

pub numbered : (s : RStmt) → Seen s
numbered = ind-RStmt Seen (λ a. Numbered (arm_works a) (arm_excludes a))
    (λ x y is.
    let l = numbered_layer _ _ RStmt _ (λ e. e.0) (λ e. e.0) excludes arm_excludes works arm_works (λ e. e.1) (λ e. e.1) y in
    let k = subst (λ z. Numbered (works_at (map-RStmt RStmt _ Works Works works arm_works z)) (excludes_at (map-RStmt RStmt _ (List ℕ) (List ℕ) excludes arm_excludes z))) is l in
    let k2 = subst (λ z. Numbered z (excludes_at (map-RStmt RStmt _ (List ℕ) (List ℕ) excludes arm_excludes x))) (sym (fold-roll-RStmt Works Works works_at arm_works_at x)) k in
    subst (λ z. Numbered (works (roll-RStmt x)) z) (sym (fold-roll-RStmt (List ℕ) (List ℕ) excludes_at arm_excludes_at x)) k2)
    (λ x y is.
    let k : Seen x.body = subst (λ (z : RArm-F RStmt RArm). Seen z.body) is y.body.1 in
    let g : Numbered (work.Test x.test ∷ works x.body) (excludes x.body) = k in
    let g2 = subst (λ z. Numbered z (excludes x.body)) (sym (fold-roll-RArm Works Works works_at arm_works_at x)) g in
    subst (λ z. Numbered (arm_works (roll-RArm x)) z) (sym (fold-roll-RArm (List ℕ) (List ℕ) excludes_at arm_excludes_at x)) g2)

-- the numbers of the EXCLUDE_HERE of a body, in the order of its nodes
pub body_numbers : (body : RStmt) → work_numbers (works_of_body body) ≡ excludes body
body_numbers body = numbered_front (works body) (work.End ∷ []) (excludes body) (numbered body) refl
