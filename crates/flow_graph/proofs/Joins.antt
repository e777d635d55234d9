-- The edges of the nodes of a statement fit what the nodes do.
use Rattle.std.proofs.Common.{◌≡◌, ℕ, zero, suc, ◌+◌, ◌<◌, List, [], ◌∷◌, ◌++◌, length, map, Option, Some, None, refl, sym, ap, ◌∙◌, subst, arith, length-append, append_assoc, slice_get}
use Rattle.c_tree.specs.declared.resolved.RExpr.{RExpr}
use Rattle.c_tree.specs.declared.resolved.RStmt.{RStmt}
use Rattle.c_tree.specs.declared.resolved.RStmt.TheViews.{roll-RStmt, roll-RArm}
use Rattle.c_tree.specs.declared.resolved.RStmt.TheOpen.{RStmt-F, RArm-F}
use Rattle.c_tree.specs.declared.resolved.RStmt.TheFolds.{map-RStmt, fold-roll-RStmt, fold-roll-RArm, ind-RStmt}
use Rattle.c_tree.specs.declared.resolved.RArm.{RArm}
use Rattle.c_tree.specs.declared.resolved.RAssign.{RAssign}
use Rattle.c_tree.specs.declared.resolved.RInit.{RInit}
use Rattle.c_tree.specs.declared.resolved.RInit.TheVariants as init'
use Rattle.c_tree.specs.Nodes.{init_count, assign_count}
use Rattle.access_summary.specs.declared.edge_list.Targets.{Targets}
use Rattle.access_summary.specs.Edges as laid'
use Rattle.access_summary.specs.Edges.{Edge, Laid, laid_at, laid, edge, test, loop_targets, to_end}
use Rattle.flow_graph.specs.declared.node.NodeWork.{NodeWork}
use Rattle.flow_graph.specs.declared.node.NodeWork.TheVariants as work
use Rattle.flow_graph.specs.Works as works'
use Rattle.flow_graph.specs.Works.{Works, all_works, works_at, arm_works_at, works, works_of_body, condition}
use Rattle.flow_graph.specs.Run.{graph_of}
use Rattle.flow_graph.specs.Joined.{FitsWork, IsJoined}

abbrev pub NotEnd : NodeWork → Type 0
NotEnd work.End = ⊥
NotEnd w = Unit {0}

-- there are as many edges as works, and they fit; none is an end
abbrev pub AllFit : ℕ → Works → List Edge → Type 0
AllFit size [] [] = Unit {0}
AllFit size [] (e ∷ es) = ⊥
AllFit size (w ∷ ws) [] = ⊥
AllFit size (w ∷ ws) (e ∷ es) = FitsWork size w e × NotEnd w × AllFit size ws es

pub fit_both : (size : ℕ) (ws ws' : Works) (es es' : List Edge) → AllFit size ws es → AllFit size ws' es' → AllFit size (ws ++ ws') (es ++ es')
fit_both size [] ws' [] es' h h' = h'
fit_both size [] ws' (e ∷ es) es' h h' = absurd h
fit_both size (w ∷ ws) ws' [] es' h h' = absurd h
fit_both size (w ∷ ws) ws' (e ∷ es) es' h h' = (h.0, h.1, fit_both size ws ws' es es' h.2 h')

fit_long : (size : ℕ) (ws : Works) (es : List Edge) → AllFit size ws es → length es ≡ length ws
fit_long size [] [] h = refl
fit_long size [] (e ∷ es) h = absurd h
fit_long size (w ∷ ws) [] h = absurd h
fit_long size (w ∷ ws) (e ∷ es) h = ap suc (fit_long size ws es h.2)

length_both : {A : Type 0} → (xs ys : List A) (a b : ℕ) → length xs ≡ a → length ys ≡ b → length (xs ++ ys) ≡ a + b
length_both xs ys a b p q = omega (arith, length-append xs ys)

pub record TargetsBelow (size : ℕ) (t : Targets) : Type 0 where
  pub next : t.next < size
  pub out_of_loop : t.out_of_loop < size
  pub again : t.again < size
  pub end : t.end < size

module _ (size : ℕ) where
  -- a statement with nodes below size begins below it, and its edges fit
  pub record Joins (l : Laid) (ws : Works) : Type 0 where
    pub worked : length ws ≡ l.size
    pub begins : (m : ℕ) (t : Targets) → TargetsBelow size t → m + l.size < size → l.entry m t < size
    pub fits : (m : ℕ) (t : Targets) → TargetsBelow size t → m + l.size < size → AllFit size ws (l.edges m t)

  pub record JoinsArm (l : Laid) (ws : Works) : Type 0 where
    pub test : RExpr
    pub body : Works
    pub is : ws ≡ work.Test test ∷ body
    pub joins : Joins l body

  joins_nothing : (to : Targets → ℕ) → ((t : Targets) → TargetsBelow size t → to t < size) → Joins (laid'.nothing to) []
  joins_nothing to h = record { worked = refl; begins = λ m t b le. h t b; fits = λ m t b le. tt }

  joins_one : (to : Targets → ℕ) (w : NodeWork) → ((a : ℕ) → a < size → FitsWork size w (edge a)) → NotEnd w → ((t : Targets) → TargetsBelow size t → to t < size) → Joins (laid'.one to) (w ∷ [])
  joins_one to w f e h = record { worked = refl; begins = λ m t b le. omega arith; fits = λ m t b le. (f (to t) (h t b), e, tt) }

  abbrev all_laid : List Laid → Laid
  all_laid ls = record { size = laid'.size_all ls; entry = laid'.entry_all ls; edges = laid'.edges_all ls }

  abbrev arms_laid : List Laid → Laid → Laid
  arms_laid ls l = record { size = laid'.size_arms ls + l.size; entry = laid'.entry_arms ls l; edges = laid'.edges_arms ls l }

  joins_more : (l : Laid) (ws : Works) (ls : List Laid) (wss : List Works) → Joins l ws → Joins (all_laid ls) (all_works wss) → Joins (all_laid (l ∷ ls)) (all_works (ws ∷ wss))
  joins_more l ws ls wss g g' = record {
    worked = length_both ws (all_works wss) _ _ g.worked g'.worked;
    begins = λ m t b le. g.begins m (record t { next = laid'.entry_all ls (m + l.size) t })
        (record { next = g'.begins (m + l.size) t b (omega arith); out_of_loop = b.out_of_loop; again = b.again; end = b.end }) (omega arith);
    fits = λ m t b le. fit_both size ws (all_works wss) (l.edges m (record t { next = laid'.entry_all ls (m + l.size) t })) (laid'.edges_all ls (m + l.size) t)
        (g.fits m (record t { next = laid'.entry_all ls (m + l.size) t }) (record { next = g'.begins (m + l.size) t b (omega arith); out_of_loop = b.out_of_loop; again = b.again; end = b.end }) (omega arith))
        (g'.fits (m + l.size) t b (omega arith));
  }

  joins_tests : (b : Laid) (aw : Works) (ls : List Laid) (wss : List Works) (l : Laid) (ws : Works) → JoinsArm b aw → Joins (arms_laid ls l) (all_works wss ++ ws) → Joins (arms_laid (b ∷ ls) l) (all_works (aw ∷ wss) ++ ws)
  joins_tests b aw ls wss l ws g g' =
      let ws_are : (aw ++ all_works wss) ++ ws ≡ work.Test g.test ∷ (g.body ++ (all_works wss ++ ws)) =
      ap (λ (v : Works). (v ++ all_works wss) ++ ws) g.is ∙ ap (λ (v : Works). work.Test g.test ∷ v) (append_assoc g.body (all_works wss) ws) in
      record {
        worked = ap length ws_are ∙ (let e = length_both g.body (all_works wss ++ ws) _ _ g.joins.worked g'.worked in omega (arith, e));
        begins = λ m t below le. omega arith;
        fits = λ m t below le.
            subst (λ (v : Works). AllFit size v (laid'.edges_arms (b ∷ ls) l m t)) (sym ws_are) (
              (b.entry (m + 1) t, laid'.entry_arms ls l (m + 1 + b.size) t, refl, g.joins.begins (m + 1) t below (omega arith), g'.begins (m + 1 + b.size) t below (omega arith)),
              tt,
              fit_both size g.body (all_works wss ++ ws) (b.edges (m + 1) t) (laid'.edges_arms ls l (m + 1 + b.size) t) (g.joins.fits (m + 1) t below (omega arith)) (g'.fits (m + 1 + b.size) t below (omega arith)),
            );
      }

  loop_below : (k : ℕ) (t : Targets) → k < size → TargetsBelow size t → TargetsBelow size (loop_targets k t)
  loop_below k t lt b = record { next = lt; out_of_loop = b.next; again = lt; end = b.end }

  joins_while : (e : RExpr) (l : Laid) (ws : Works) → Joins l ws → Joins (laid_at (RStmt-F.While e l)) (work.Test e ∷ ws)
  joins_while e l ws g = record {
    worked = omega (arith, g.worked);
    begins = λ m t b le. omega arith;
    fits = λ m t b le.
        let u = loop_below m t (omega arith) b in
        ((l.entry (m + 1) (loop_targets m t), t.next, refl, g.begins (m + 1) (loop_targets m t) u (omega arith), b.next), tt, g.fits (m + 1) (loop_targets m t) u (omega arith));
  }

  joins_do : (e : RExpr) (l : Laid) (ws : Works) → Joins l ws → Joins (laid_at (RStmt-F.Do l e)) (ws ++ work.Test e ∷ [])
  joins_do e l ws g = record {
    worked = let z = length_both ws (work.Test e ∷ []) l.size 1 g.worked refl in omega (arith, z);
    begins = λ m t b le. g.begins m (loop_targets (m + l.size) t) (loop_below (m + l.size) t (omega arith) b) (omega arith);
    fits = λ m t b le.
        let k = m + l.size in
        let u = loop_below k t (omega arith) b in
        fit_both size ws (work.Test e ∷ []) (l.edges m (loop_targets k t)) (test (l.entry m (loop_targets k t)) t.next ∷ []) (g.fits m (loop_targets k t) u (omega arith))
        ((l.entry m (loop_targets k t), t.next, refl, g.begins m (loop_targets k t) u (omega arith), b.next), tt, tt);
  }

  update_fits : (a : Option RAssign) (to : ℕ) → to < size → AllFit size (works'.update_works a) (laid'.perhaps a to)
  update_fits None to lt = tt
  update_fits (Some a) to lt = ((to, refl, lt), tt, tt)

  update_long : (a : Option RAssign) → length (works'.update_works a) ≡ assign_count a
  update_long None = refl
  update_long (Some a) = refl

  init_fits : (a : Option RInit) (to : ℕ) → to < size → AllFit size (works'.init_works a) (laid'.perhaps a to)
  init_fits None to lt = tt
  init_fits (Some (init'.Declare a)) to lt = ((to, refl, lt), tt, tt)
  init_fits (Some (init'.Set a)) to lt = ((to, refl, lt), tt, tt)

  init_long : (a : Option RInit) → length (works'.init_works a) ≡ init_count a
  init_long None = refl
  init_long (Some (init'.Declare a)) = refl
  init_long (Some (init'.Set a)) = refl

  joins_for : (init : Option RInit) (e : Option RExpr) (update : Option RAssign) (l : Laid) (ws : Works) → Joins l ws → Joins (laid_at (RStmt-F.For init e update l)) (works_at (RStmt-F.For init e update ws))
  joins_for init e update l ws g = record {
    worked =
        let q = length_both (works'.update_works update) ws _ _ (update_long update) g.worked in
        let r = length_both (works'.init_works init) (work.Test (condition e) ∷ (works'.update_works update ++ ws)) (init_count init) (1 + (assign_count update + l.size)) (init_long init) (omega (arith, q)) in
        omega (arith, r);
    begins = λ m t b le. omega arith;
    fits = λ m t below le.
        let k = m + init_count init in
        let u = loop_targets (k + assign_count update) t in
        let b = k + 1 + assign_count update in
        let ub = loop_below (k + assign_count update) t (omega arith) below in
        fit_both size (works'.init_works init) (work.Test (condition e) ∷ (works'.update_works update ++ ws)) (laid'.perhaps init k) (test (l.entry b u) t.next ∷ (laid'.perhaps update k ++ l.edges b u))
        (init_fits init k (omega arith)) (
          (l.entry b u, t.next, refl, g.begins b u ub (omega arith), below.next),
          tt,
          fit_both size (works'.update_works update) ws (laid'.perhaps update k) (l.edges b u) (update_fits update k (omega arith)) (g.fits b u ub (omega arith)),
        );
  }

  -- one layer of a statement, over children that were seen to
  module _ (X X' Y Y' : Type 0) (p : X → Y) (q : X' → Y') (f2 : Y → Laid) (g2 : Y' → Laid) (f3 : Y → Works) (g3 : Y' → Works) (hf : (x : X) → Joins (f2 (p x)) (f3 (p x))) (hg : (x : X') → JoinsArm (g2 (q x)) (g3 (q x))) where
    joins_all : (xs : List X) → Joins (all_laid (map f2 (map p xs))) (all_works (map f3 (map p xs)))
    joins_all [] = record { worked = refl; begins = λ m t b le. b.next; fits = λ m t b le. tt }
    joins_all (x ∷ xs) = joins_more (f2 (p x)) (f3 (p x)) (map f2 (map p xs)) (map f3 (map p xs)) (hf x) (joins_all xs)

    joins_arms : (xs : List X') (b : Laid) (ws : Works) → Joins b ws → Joins (arms_laid (map g2 (map q xs)) b) (all_works (map g3 (map q xs)) ++ ws)
    joins_arms [] b ws g = record { worked = omega (arith, g.worked); begins = λ m t h le. g.begins m t h (omega arith); fits = λ m t h le. g.fits m t h (omega arith) }
    joins_arms (x ∷ xs) b ws g = joins_tests (g2 (q x)) (g3 (q x)) (map g2 (map q xs)) (map g3 (map q xs)) b ws (hg x) (joins_arms xs b ws g)

    joins_layer : (y : RStmt-F X X') → Joins (laid_at (map-RStmt Y Y' Laid Laid f2 g2 (map-RStmt X X' Y Y' p q y))) (works_at (map-RStmt Y Y' Works Works f3 g3 (map-RStmt X X' Y Y' p q y)))
    joins_layer RStmt-F.Empty = joins_nothing (λ t. t.next) (λ t b. b.next)
    joins_layer RStmt-F.Break = joins_nothing (λ t. t.out_of_loop) (λ t b. b.out_of_loop)
    joins_layer RStmt-F.Continue = joins_nothing (λ t. t.again) (λ t b. b.again)
    joins_layer (RStmt-F.Declare a e) = joins_one (λ t. t.next) (work.Declare a e) (λ k lt. (k, refl, lt)) tt (λ t b. b.next)
    joins_layer (RStmt-F.Set a e) = joins_one (λ t. t.next) (work.Set a e) (λ k lt. (k, refl, lt)) tt (λ t b. b.next)
    joins_layer (RStmt-F.Call a h es) = joins_one (λ t. t.next) (work.Call a h es) (λ k lt. (k, refl, lt)) tt (λ t b. b.next)
    joins_layer (RStmt-F.Input a) = joins_one (λ t. t.next) (work.Input a) (λ k lt. (k, refl, lt)) tt (λ t b. b.next)
    joins_layer (RStmt-F.Return e) = joins_one (λ t. t.end) (work.Return e) (λ k lt. (k, refl, lt)) tt (λ t b. b.end)
    joins_layer (RStmt-F.ReturnCall h es) = joins_one (λ t. t.end) (work.ReturnCall h es) (λ k lt. (k, refl, lt)) tt (λ t b. b.end)
    joins_layer RStmt-F.ReturnInput = joins_one (λ t. t.end) work.ReturnInput (λ k lt. (k, refl, lt)) tt (λ t b. b.end)
    joins_layer (RStmt-F.Put e) = joins_one (λ t. t.next) (work.Put e) (λ k lt. (k, refl, lt)) tt (λ t b. b.next)
    joins_layer (RStmt-F.Print ps es) = joins_one (λ t. t.next) (work.Print ps es) (λ k lt. (k, refl, lt)) tt (λ t b. b.next)
    joins_layer RStmt-F.Checkpoint = joins_one (λ t. t.next) work.Checkpoint (λ k lt. (k, refl, lt)) tt (λ t b. b.next)
    joins_layer (RStmt-F.Exclude k) = joins_one (λ t. t.next) (work.Exclude k) (λ k lt. (k, refl, lt)) tt (λ t b. b.next)
    joins_layer (RStmt-F.Block ss) = joins_all ss
    joins_layer (RStmt-F.If arms None) = joins_arms arms (laid'.nothing (λ t. t.next)) [] (joins_nothing (λ t. t.next) (λ t b. b.next))
    joins_layer (RStmt-F.If arms (Some x)) = joins_arms arms (f2 (p x)) (f3 (p x)) (hf x)
    joins_layer (RStmt-F.While e x) = joins_while e (f2 (p x)) (f3 (p x)) (hf x)
    joins_layer (RStmt-F.Do x e) = joins_do e (f2 (p x)) (f3 (p x)) (hf x)
    joins_layer (RStmt-F.For init e update x) = joins_for init e update (f2 (p x)) (f3 (p x)) (hf x)

  abbrev Seen : RStmt → Type 0
  Seen s = Joins (laid s) (works s)

  pub joins : (s : RStmt) → Seen s
  joins = ind-RStmt Seen (λ a. JoinsArm (laid'.arm_laid a) (works'.arm_works a))
      (λ x y is.
      let l = joins_layer _ _ RStmt _ (λ e. e.0) (λ e. e.0) laid laid'.arm_laid works works'.arm_works (λ e. e.1) (λ e. e.1) y in
      let k = subst (λ z. Joins (laid_at (map-RStmt RStmt _ Laid Laid laid laid'.arm_laid z)) (works_at (map-RStmt RStmt _ Works Works works works'.arm_works z))) is l in
      let k2 = subst (λ z. Joins z (works_at (map-RStmt RStmt _ Works Works works works'.arm_works x))) (sym (fold-roll-RStmt Laid Laid laid_at laid'.arm_at x)) k in
      subst (λ z. Joins (laid (roll-RStmt x)) z) (sym (fold-roll-RStmt Works Works works_at arm_works_at x)) k2)
      (λ x y is.
      let k : Seen x.body = subst (λ (z : RArm-F RStmt RArm). Seen z.body) is y.body.1 in
      let g : JoinsArm (laid x.body) (work.Test x.test ∷ works x.body) = record { test = x.test; body = works x.body; is = refl; joins = k } in
      let g2 = subst (λ z. JoinsArm z (work.Test x.test ∷ works x.body)) (sym (fold-roll-RArm Laid Laid laid_at laid'.arm_at x)) g in
      subst (λ z. JoinsArm (laid'.arm_laid (roll-RArm x)) z) (sym (fold-roll-RArm Works Works works_at arm_works_at x)) g2)

-- ---- with the end node

abbrev pub IfWork : (NodeWork → Type 0) → Option NodeWork → Type 0
IfWork P None = Unit {0}
IfWork P (Some w) = P w

abbrev pub IfEdge : (Edge → Type 0) → Option Edge → Type 0
IfEdge P None = Unit {0}
IfEdge P (Some to) = P to

each_fits : (size : ℕ) (ws : Works) (es : List Edge) → AllFit size ws es → (n : ℕ) (w : NodeWork) (to : Edge) → slice_get (ws ++ work.End ∷ []) n ≡ Some w → slice_get (es ++ (None, None) ∷ []) n ≡ Some to → FitsWork size w to
each_fits size [] [] h zero w to p q = subst (λ o. IfWork (λ u. FitsWork size u to) o) p (subst (λ o. IfEdge (λ e. FitsWork size work.End e) o) q refl)
each_fits size [] [] h (suc n) w to p q = absurd cc
each_fits size [] (e ∷ es) h n w to p q = absurd h
each_fits size (v ∷ ws) [] h n w to p q = absurd h
each_fits size (v ∷ ws) (e ∷ es) h zero w to p q = subst (λ o. IfWork (λ u. FitsWork size u to) o) p (subst (λ o. IfEdge (λ e. FitsWork size v e) o) q h.0)
each_fits size (v ∷ ws) (e ∷ es) h (suc n) w to p q = each_fits size ws es h.2 n w to p q

end_last : (size : ℕ) (ws : Works) (es : List Edge) → AllFit size ws es → (n : ℕ) → slice_get (ws ++ work.End ∷ []) n ≡ Some work.End → n + 1 ≡ length (ws ++ work.End ∷ [])
end_last size [] [] h zero p = refl
end_last size [] [] h (suc n) p = absurd cc
end_last size [] (e ∷ es) h n p = absurd h
end_last size (w ∷ ws) [] h n p = absurd h
end_last size (w ∷ ws) (e ∷ es) h zero p = absurd (subst (λ o. IfWork NotEnd o) p h.1)
end_last size (w ∷ ws) (e ∷ es) h (suc n) p = omega (arith, end_last size ws es h.2 n p)

-- the graph of a body
pub graph_is_joined : (locals : ℕ) (body : RStmt) → IsJoined (graph_of locals body)
graph_is_joined locals body =
    let l = laid body in
    let size = l.size + 1 in
    let g = joins size body in
    let t = to_end l.size in
    let b : TargetsBelow size t = record { next = omega arith; out_of_loop = omega arith; again = omega arith; end = omega arith } in
    let f = g.fits 0 t b (omega arith) in
    let e : length (works_of_body body) ≡ size = length_both (works body) (work.End ∷ []) l.size 1 g.worked refl in
    record {
      same = length_both (l.edges 0 t) ((None, None) ∷ []) l.size 1 (fit_long size (works body) (l.edges 0 t) f ∙ g.worked) refl ∙ sym e;
      entry = subst (λ k. l.entry 0 t < k) (sym e) (g.begins 0 t b (omega arith));
      each = λ n w to p q. subst (λ k. FitsWork k w to) (sym e) (each_fits size (works body) (l.edges 0 t) f n w to p q);
      ends = end_last size (works body) (l.edges 0 t) f;
    }
