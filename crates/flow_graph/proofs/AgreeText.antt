-- What a text has is what its nodes have, one after the other.
use Rattle.std.proofs.Common.{◌≡◌, ℕ, List, [], ◌∷◌, ◌++◌, map, Option, Some, None, pos, refl, sym, ap, ◌∙◌, subst, append_assoc}
use Rattle.c_tree.specs.declared.resolved.RExpr.{RExpr}
use Rattle.c_tree.specs.declared.resolved.RExpr.TheVariants as expr
use Rattle.c_tree.specs.declared.resolved.RExpr.TheOpen.{RExpr-F}
use Rattle.c_tree.specs.declared.resolved.RExpr.TheFolds.{fold-roll-RExpr}
use Rattle.c_tree.specs.declared.resolved.RAssign.{RAssign}
use Rattle.c_tree.specs.declared.resolved.RInit.{RInit}
use Rattle.c_tree.specs.declared.resolved.RInit.TheVariants as init'
use Rattle.c_tree.specs.declared.resolved.RStmt.{RStmt}
use Rattle.c_tree.specs.declared.resolved.RStmt.TheOpen.{RStmt-F, RArm-F}
use Rattle.c_tree.specs.declared.resolved.RStmt.TheFolds.{fold-RStmt, fold-RArm, map-RStmt, fold-roll-RStmt, fold-roll-RArm, ind-RStmt}
use Rattle.c_tree.specs.declared.resolved.RArm.{RArm}
use Rattle.alias_sets.specs.declared.flows.Flow.{Flow}
use Rattle.alias_sets.specs.Flows.{perhaps_variable, assigned, declared, called, goes, source, answer_of, assignment, beginning, all_flows, flows_at, arm_flows_at, stmt_flows}
use Rattle.access_summary.specs.declared.effects.Effect.{Effect}
use Rattle.access_summary.specs.Effects.{Seen, seen, seen_at, expr_effects, test_effects, update_effects, init_effects, all_parts, effects_at, arm_effects_at, stmt_effects}
use Rattle.flow_graph.specs.declared.node.NodeWork.{NodeWork}
use Rattle.flow_graph.specs.declared.node.NodeWork.TheVariants as work
use Rattle.flow_graph.specs.Works.{Works, all_works, update_works, init_works, condition, works_at, arm_works_at, works, arm_works}
use Rattle.flow_graph.specs.NodeEffects.{work_effects}

module _ {A : Type 0} (h : NodeWork → List A) where
  -- what each node has, one after the other
  abbrev pub each : Works → List A
  each [] = []
  each (w ∷ ws) = h w ++ each ws

module _ {A : Type 0} (h : NodeWork → List A) where
  pub each_both : (xs ys : Works) → each h (xs ++ ys) ≡ each h xs ++ each h ys
  each_both [] ys = refl
  each_both (x ∷ xs) ys = ap (λ l. h x ++ l) (each_both xs ys) ∙ sym (append_assoc (h x) (each h xs) (each h ys))

  -- children first, then each layer
  module _ (at : RStmt-F (List A) (List A) → List A) (arm_at : RArm-F (List A) (List A) → List A) where
    -- one layer has what its nodes have
    abbrev pub Along : Type 0
    Along = (y : RStmt-F Works Works) → at (map-RStmt Works Works (List A) (List A) (each h) (each h) y) ≡ each h (works_at y)

    abbrev pub AlongArms : Type 0
    AlongArms = (e : RExpr) (ws : Works) → arm_at (record { test = e; body = each h ws }) ≡ each h (work.Test e ∷ ws)

    abbrev pub had : RStmt → List A
    had = fold-RStmt (List A) (List A) at arm_at

    abbrev pub arm_had : RArm → List A
    arm_had = fold-RArm (List A) (List A) at arm_at

    module _ (X X' : Type 0) (p : X → RStmt) (q : X' → RArm) (hf : (x : X) → had (p x) ≡ each h (works (p x))) (hg : (x : X') → arm_had (q x) ≡ each h (arm_works (q x))) where
      all_had : (xs : List X) → map had (map p xs) ≡ map (each h) (map works (map p xs))
      all_had [] = refl
      all_had (x ∷ xs) = λ i. hf x i ∷ all_had xs i

      arms_had : (xs : List X') → map arm_had (map q xs) ≡ map (each h) (map arm_works (map q xs))
      arms_had [] = refl
      arms_had (x ∷ xs) = λ i. hg x i ∷ arms_had xs i

      layer : (y : RStmt-F X X') → map-RStmt RStmt RArm (List A) (List A) had arm_had (map-RStmt X X' RStmt RArm p q y) ≡ map-RStmt Works Works (List A) (List A) (each h) (each h) (map-RStmt RStmt RArm Works Works works arm_works (map-RStmt X X' RStmt RArm p q y))
      layer (RStmt-F.Block ss) = ap (λ (l : List (List A)). RStmt-F.Block l) (all_had ss)
      layer (RStmt-F.If arms None) = ap (λ (l : List (List A)). RStmt-F.If l None) (arms_had arms)
      layer (RStmt-F.If arms (Some x)) = λ i. RStmt-F.If (arms_had arms i) (Some (hf x i))
      layer (RStmt-F.While e x) = ap (λ (l : List A). RStmt-F.While e l) (hf x)
      layer (RStmt-F.Do x e) = ap (λ (l : List A). RStmt-F.Do l e) (hf x)
      layer (RStmt-F.For i e u x) = ap (λ (l : List A). RStmt-F.For i e u l) (hf x)
      layer y = refl

    pub all_have : Along → AlongArms → (s : RStmt) → had s ≡ each h (works s)
    all_have along along_arms = ind-RStmt (λ s. had s ≡ each h (works s)) (λ a. arm_had a ≡ each h (arm_works a))
        (λ x y is.
        let l = layer _ _ (λ e. e.0) (λ e. e.0) (λ e. e.1) (λ e. e.1) y in
        let k = subst (λ z. map-RStmt RStmt RArm (List A) (List A) had arm_had z ≡ map-RStmt Works Works (List A) (List A) (each h) (each h) (map-RStmt RStmt RArm Works Works works arm_works z)) is l in
        fold-roll-RStmt (List A) (List A) at arm_at x ∙ ap at k ∙ along (map-RStmt RStmt RArm Works Works works arm_works x) ∙ ap (each h) (sym (fold-roll-RStmt Works Works works_at arm_works_at x)))
        (λ x y is.
        let k : had x.body ≡ each h (works x.body) = subst (λ (z : RArm-F RStmt RArm). had z.body ≡ each h (works z.body)) is y.body.1 in
        fold-roll-RArm (List A) (List A) at arm_at x ∙ ap (λ (l : List A). arm_at (record { test = x.test; body = l })) k ∙ along_arms x.test (works x.body) ∙ ap (each h) (sym (fold-roll-RArm Works Works works_at arm_works_at x)))

-- ---- flows

-- where pointers flow at a node
abbrev pub work_flows : Option ℕ → NodeWork → List Flow
work_flows f (work.Declare p e) = declared f p e
work_flows f (work.Set p e) = assigned f p e
work_flows f (work.Call p g es) = called f (perhaps_variable f p) g es
work_flows f (work.Return e) = goes (source f e) (answer_of f)
work_flows f (work.ReturnCall g es) = called f (answer_of f) g es
work_flows f w = []

module _ (f : Option ℕ) where
  abbrev fl : Works → List Flow
  fl = each (work_flows f)

  pub nothing_more : {A : Type 0} (xs : List A) → xs ++ [] ≡ xs
  nothing_more [] = refl
  nothing_more (x ∷ xs) = ap (λ l. x ∷ l) (nothing_more xs)

  parts_flow : (wss : List Works) → all_flows (map fl wss) ≡ fl (all_works wss)
  parts_flow [] = refl
  parts_flow (ws ∷ wss) = ap (λ l. fl ws ++ l) (parts_flow wss) ∙ sym (each_both (work_flows f) ws (all_works wss))

  beginning_flows : (i : Option RInit) → beginning f i ≡ fl (init_works i)
  beginning_flows None = refl
  beginning_flows (Some (init'.Declare a)) = sym (nothing_more (assigned f a.place a.value))
  beginning_flows (Some (init'.Set a)) = sym (nothing_more (assigned f a.place a.value))

  update_flows : (u : Option RAssign) → assignment f u ≡ fl (update_works u)
  update_flows None = refl
  update_flows (Some a) = sym (nothing_more (assigned f a.place a.value))

  along_flows : Along (work_flows f) (flows_at f) arm_flows_at
  along_flows (RStmt-F.Declare p e) = sym (nothing_more (declared f p e))
  along_flows (RStmt-F.Set p e) = sym (nothing_more (assigned f p e))
  along_flows (RStmt-F.Call p g es) = sym (nothing_more (called f (perhaps_variable f p) g es))
  along_flows (RStmt-F.Return e) = sym (nothing_more (goes (source f e) (answer_of f)))
  along_flows (RStmt-F.ReturnCall g es) = sym (nothing_more (called f (answer_of f) g es))
  along_flows (RStmt-F.Block wss) = parts_flow wss
  along_flows (RStmt-F.If arms None) = parts_flow arms ∙ sym (nothing_more (fl (all_works arms))) ∙ sym (each_both (work_flows f) (all_works arms) [])
  along_flows (RStmt-F.If arms (Some ws)) = ap (λ l. l ++ fl ws) (parts_flow arms) ∙ sym (each_both (work_flows f) (all_works arms) ws)
  along_flows (RStmt-F.While e ws) = refl
  along_flows (RStmt-F.Do ws e) = sym (nothing_more (fl ws)) ∙ sym (each_both (work_flows f) ws (work.Test e ∷ []))
  along_flows (RStmt-F.For i e u ws) =
      (λ j. beginning_flows i j ++ (update_flows u j ++ fl ws))
      ∙ ap (λ l. fl (init_works i) ++ l) (sym (each_both (work_flows f) (update_works u) ws))
      ∙ sym (each_both (work_flows f) (init_works i) (work.Test (condition e) ∷ (update_works u ++ ws)))
  along_flows y = refl

  pub flows_of_nodes : (s : RStmt) → stmt_flows f s ≡ each (work_flows f) (works s)
  flows_of_nodes = all_have (work_flows f) (flows_at f) arm_flows_at along_flows (λ e ws. refl)

-- ---- effects

module _ (f : Option ℕ) where
  abbrev ef : Works → List Effect
  ef = each (work_effects f)

  parts_effects : (wss : List Works) → all_parts (map ef wss) ≡ ef (all_works wss)
  parts_effects [] = refl
  parts_effects (ws ∷ wss) = ap (λ l. ef ws ++ l) (parts_effects wss) ∙ sym (each_both (work_effects f) ws (all_works wss))

  init_has : (i : Option RInit) → init_effects f i ≡ ef (init_works i)
  init_has None = refl
  init_has (Some (init'.Declare a)) = sym (nothing_more f (init_effects f (Some (init'.Declare a))))
  init_has (Some (init'.Set a)) = sym (nothing_more f (init_effects f (Some (init'.Set a))))

  update_has : (u : Option RAssign) → update_effects f u ≡ ef (update_works u)
  update_has None = refl
  update_has (Some a) = sym (nothing_more f (update_effects f (Some a)))

  test_has : (e : Option RExpr) → test_effects f e ≡ expr_effects f (condition e)
  test_has None = ap (λ (s : Seen). s.effects) (sym (ap (seen f) (sym (expr.rolls-Num (pos 1))) ∙ fold-roll-RExpr Seen (seen_at f) (RExpr-F.Num (pos 1))))
  test_has (Some e) = refl

  along_effects : Along (work_effects f) (effects_at f) (arm_effects_at f)
  along_effects (RStmt-F.Block wss) = parts_effects wss
  along_effects (RStmt-F.If arms None) = parts_effects arms ∙ sym (nothing_more f (ef (all_works arms))) ∙ sym (each_both (work_effects f) (all_works arms) [])
  along_effects (RStmt-F.If arms (Some ws)) = ap (λ l. l ++ ef ws) (parts_effects arms) ∙ sym (each_both (work_effects f) (all_works arms) ws)
  along_effects (RStmt-F.While e ws) = refl
  along_effects (RStmt-F.Do ws e) = ap (λ l. ef ws ++ l) (sym (nothing_more f (expr_effects f e))) ∙ sym (each_both (work_effects f) ws (work.Test e ∷ []))
  along_effects (RStmt-F.For i e u ws) =
      (λ j. (init_has i j ++ (test_has e j ++ update_has u j)) ++ ef ws)
      ∙ append_assoc (ef (init_works i)) (expr_effects f (condition e) ++ ef (update_works u)) (ef ws)
      ∙ ap (λ l. ef (init_works i) ++ l) (append_assoc (expr_effects f (condition e)) (ef (update_works u)) (ef ws) ∙ ap (λ l. expr_effects f (condition e) ++ l) (sym (each_both (work_effects f) (update_works u) ws)))
      ∙ sym (each_both (work_effects f) (init_works i) (work.Test (condition e) ∷ (update_works u ++ ws)))
  along_effects (RStmt-F.Declare p e) = sym (nothing_more f (work_effects f (work.Declare p e)))
  along_effects (RStmt-F.Set p e) = sym (nothing_more f (work_effects f (work.Set p e)))
  along_effects (RStmt-F.Call p g es) = sym (nothing_more f (work_effects f (work.Call p g es)))
  along_effects (RStmt-F.Input p) = sym (nothing_more f (work_effects f (work.Input p)))
  along_effects (RStmt-F.Return e) = sym (nothing_more f (work_effects f (work.Return e)))
  along_effects (RStmt-F.ReturnCall g es) = sym (nothing_more f (work_effects f (work.ReturnCall g es)))
  along_effects (RStmt-F.Put e) = sym (nothing_more f (work_effects f (work.Put e)))
  along_effects (RStmt-F.Print ps es) = sym (nothing_more f (work_effects f (work.Print ps es)))
  along_effects y = refl

  pub effects_of_nodes : (s : RStmt) → stmt_effects f s ≡ each (work_effects f) (works s)
  effects_of_nodes = all_have (work_effects f) (effects_at f) (arm_effects_at f) along_effects (λ e ws. refl)
