-- A statement does what its nodes do.
use Rattle.std.proofs.Common.{◌≡◌, ℕ, suc, ◌+◌, List, [], ◌∷◌, ◌++◌, length, map, Option, Some, None, pos, refl, sym, ap, ◌∙◌, subst, arith, length-append, append_assoc}
use Rattle.c_tree.specs.declared.resolved.RExpr.{RExpr}
use Rattle.c_tree.specs.declared.resolved.RExpr.TheVariants as expr
use Rattle.c_tree.specs.declared.resolved.RExpr.TheOpen.{RExpr-F}
use Rattle.c_tree.specs.declared.resolved.RExpr.TheFolds.{fold-roll-RExpr}
use Rattle.c_tree.specs.declared.resolved.RPlace.{RPlace}
use Rattle.c_tree.specs.declared.resolved.RStmt.{RStmt}
use Rattle.c_tree.specs.declared.resolved.RStmt.TheViews.{roll-RStmt, roll-RArm}
use Rattle.c_tree.specs.declared.resolved.RStmt.TheOpen.{RStmt-F, RArm-F}
use Rattle.c_tree.specs.declared.resolved.RStmt.TheFolds.{fold-RArm, map-RStmt, fold-roll-RStmt, fold-roll-RArm, ind-RStmt}
use Rattle.c_tree.specs.declared.resolved.RArm.{RArm}
use Rattle.c_tree.specs.declared.resolved.RAssign.{RAssign}
use Rattle.c_tree.specs.declared.resolved.RInit.{RInit}
use Rattle.c_tree.specs.declared.resolved.RInit.TheVariants as init'
use Rattle.c_tree.specs.Nodes.{init_count, assign_count}
use Rattle.c_tree.specs.State.{Variables, Value, Action, value_at, value, test_value, declare, set, put, write_out, input, checkpoint, exclude, store, with_locals}
use Rattle.c_tree.specs.Meaning as tree
use Rattle.c_tree.specs.Meaning.{Then, Ways, Calls, Piece, ArmPiece, piece_at, arm_at, piece, single, loop_ways, loop, stored, handed_on}
use Rattle.access_summary.specs.declared.edge_list.Targets.{Targets}
use Rattle.access_summary.specs.Edges as laid'
use Rattle.access_summary.specs.Edges.{Edge, Laid, laid_at, laid, edge, test, loop_targets}
use Rattle.flow_graph.specs.declared.node.NodeWork.{NodeWork}
use Rattle.flow_graph.specs.declared.node.NodeWork.TheVariants as work
use Rattle.flow_graph.specs.Works as works'
use Rattle.flow_graph.specs.Works.{Works, all_works, works_at, arm_works_at, works, condition}
use Rattle.flow_graph.specs.Run as r
use Rattle.flow_graph.specs.Run.{Graphs, Frame, Waits, Store, Return, spot, after, run, answers, goes, does, graph_at, edge_in, work_in, made}
use Rattle.flow_graph.proofs.Follow.{Has, has_parts, Follows, FollowsWays, CallsFollow, single_follows, test_follows, turns_follow, return_follows, return_input_follows, call_follows, given_alike}

length_both : {A : Type 0} → (xs ys : List A) (a b : ℕ) → length xs ≡ a → length ys ≡ b → length (xs ++ ys) ≡ a + b
length_both xs ys a b p q = omega (arith, length-append xs ys)

module _ (gs : Graphs) (calls : Calls) where
  pub record Good (a : Piece) (b : Laid) (ws : Works) : Type 0 where
    pub same_size : a.size ≡ b.size
    pub sized : (m : ℕ) (t : Targets) → length (b.edges m t) ≡ b.size
    pub worked : length ws ≡ b.size
    pub follows : (f : Option ℕ) (frs : List Frame) (n m m' : ℕ) (t : Targets) (w : Ways) → CallsFollow gs frs calls → m ≡ m' → Has gs f m' (b.edges m' t) ws → FollowsWays gs f frs n w t
        → Follows gs f frs n (a.does m w) (b.entry m' t)

  pub record GoodArm (a : ArmPiece) (b : Laid) (ws : Works) : Type 0 where
    pub test : RExpr
    pub body : Works
    pub is : ws ≡ work.Test test ∷ body
    pub same_test : (vs : Variables) → a.test vs ≡ value test vs
    pub good : Good a.body b body

  -- no node
  good_nothing : (way : Ways → Then) (to : Targets → ℕ) → ((f : Option ℕ) (frs : List Frame) (n : ℕ) (t : Targets) (w : Ways) → FollowsWays gs f frs n w t → Follows gs f frs n (way w) (to t))
      → Good (record { size = 0; does = λ m w. way w }) (laid'.nothing to) []
  good_nothing way to h = record {
    same_size = refl;
    sized = λ m t. refl;
    worked = refl;
    follows = λ f frs n m m' t w cf e has fw. h f frs n t w fw;
  }

  -- one node
  good_one : (act : ℕ → Action) (w : NodeWork) → ((f : Option ℕ) (frs : List Frame) (m x : ℕ) → does gs (spot f m frs) (edge x) w ≡ r.single (act m) (goes f frs (Some x)))
      → Good (tree.one (λ m w. single (act m) w.next)) (laid'.one (λ t. t.next)) (w ∷ [])
  good_one act w h = record {
    same_size = refl;
    sized = λ m t. refl;
    worked = refl;
    follows = λ f frs n m m' t u cf e has fw.
        subst (λ k. Follows gs f frs n (single (act k) u.next) m') (sym e) (single_follows gs f frs (act m') m' t.next w u.next n has.edges.0 has.works.0 (h f frs m' t.next) fw.next);
  }

  good_return : (e : RExpr) → Good (piece_at calls (RStmt-F.Return e)) (laid_at (RStmt-F.Return e)) (work.Return e ∷ [])
  good_return e = record {
    same_size = refl;
    sized = λ m t. refl;
    worked = refl;
    follows = λ f frs n m m' t u cf eq has fw. return_follows gs f frs e m' (edge t.end) u.back n has.edges.0 has.works.0 fw.back;
  }

  good_return_input : Good (piece_at calls RStmt-F.ReturnInput) (laid_at RStmt-F.ReturnInput) (work.ReturnInput ∷ [])
  good_return_input = record {
    same_size = refl;
    sized = λ m t. refl;
    worked = refl;
    follows = λ f frs n m m' t u cf eq has fw. return_input_follows gs f frs m' (edge t.end) u.back n has.edges.0 has.works.0 fw.back;
  }

  good_call : (p : Option RPlace) (h : ℕ) (es : List RExpr) → Good (piece_at calls (RStmt-F.Call p h es)) (laid_at (RStmt-F.Call p h es)) (work.Call p h es ∷ [])
  good_call p h es = record {
    same_size = refl;
    sized = λ m t. refl;
    worked = refl;
    follows = λ f frs n m m' t u cf eq has fw. call_follows gs f frs calls cf (Store p) (edge t.next) (work.Call p h es) h es m'
        (stored (store p) u.next) n has.edges.0 has.works.0 refl
        (λ ls v s i b le lt. given_alike gs f frs (store p v (with_locals ls s)) (with_locals ls s) b _ _ (λ z. fw.next z i b le lt));
  }

  good_return_call : (h : ℕ) (es : List RExpr) → Good (piece_at calls (RStmt-F.ReturnCall h es)) (laid_at (RStmt-F.ReturnCall h es)) (work.ReturnCall h es ∷ [])
  good_return_call h es = record {
    same_size = refl;
    sized = λ m t. refl;
    worked = refl;
    follows = λ f frs n m m' t u cf eq has fw. call_follows gs f frs calls cf Return (edge t.end) (work.ReturnCall h es) h es m'
        (handed_on u.back) n has.edges.0 has.works.0 refl
        (λ ls v s i b le lt. fw.back v (with_locals ls s) i b le (omega arith));
  }

  abbrev all_piece : List Piece → Piece
  all_piece ps = record { size = tree.size_all ps; does = tree.all_of ps }

  abbrev all_laid : List Laid → Laid
  all_laid ls = record { size = laid'.size_all ls; entry = laid'.entry_all ls; edges = laid'.edges_all ls }

  abbrev arms_piece : List ArmPiece → Piece → Piece
  arms_piece ps p = record { size = tree.size_arms ps + p.size; does = tree.tests ps p }

  abbrev arms_laid : List Laid → Laid → Laid
  arms_laid ls l = record { size = laid'.size_arms ls + l.size; entry = laid'.entry_arms ls l; edges = laid'.edges_arms ls l }

  good_none : Good (all_piece []) (all_laid []) []
  good_none = record { same_size = refl; sized = λ m t. refl; worked = refl; follows = λ f frs n m m' t u cf e has fw. fw.next }

  good_more : (p : Piece) (l : Laid) (ws : Works) (ps : List Piece) (ls : List Laid) (wss : List Works) → Good p l ws → Good (all_piece ps) (all_laid ls) (all_works wss) → Good (all_piece (p ∷ ps)) (all_laid (l ∷ ls)) (all_works (ws ∷ wss))
  good_more p l ws ps ls wss g gs' = record {
    same_size = omega (arith, g.same_size, gs'.same_size);
    sized = λ m t. length_both _ _ _ _ (g.sized m (record t { next = laid'.entry_all ls (m + l.size) t })) (gs'.sized (m + l.size) t);
    worked = length_both ws (all_works wss) _ _ g.worked gs'.worked;
    follows = λ f frs n m m' t u cf e has fw.
        let t' : Targets = record t { next = laid'.entry_all ls (m' + l.size) t } in
        let z = g.sized m' t' in
        let h = has_parts gs f (l.edges m' t') (laid'.edges_all ls (m' + l.size) t) ws (all_works wss) m' (m' + l.size) (omega (arith, z)) (omega (arith, z, g.worked)) has in
        g.follows f frs n m m' t' (record u { next = tree.all_of ps (m + p.size) u }) cf e h.0 (record {
          next = gs'.follows f frs n (m + p.size) (m' + l.size) t u cf (omega (arith, g.same_size)) h.1 fw;
          out_of_loop = fw.out_of_loop;
          again = fw.again;
          back = fw.back;
        });
  }

  good_tests : (a : ArmPiece) (b : Laid) (aw : Works) (ps : List ArmPiece) (ls : List Laid) (wss : List Works) (p : Piece) (l : Laid) (ws : Works) → GoodArm a b aw → Good (arms_piece ps p) (arms_laid ls l) (all_works wss ++ ws)
      → Good (arms_piece (a ∷ ps) p) (arms_laid (b ∷ ls) l) (all_works (aw ∷ wss) ++ ws)
  good_tests a b aw ps ls wss p l ws g g' =
      let ws_are : (aw ++ all_works wss) ++ ws ≡ work.Test g.test ∷ (g.body ++ (all_works wss ++ ws)) =
      ap (λ (v : Works). (v ++ all_works wss) ++ ws) g.is ∙ ap (λ (v : Works). work.Test g.test ∷ v) (append_assoc g.body (all_works wss) ws) in
      record {
        same_size = omega (arith, g.good.same_size, g'.same_size);
        sized = λ m t. let e = length_both _ _ _ _ (g.good.sized (m + 1) t) (g'.sized (m + 1 + b.size) t) in omega (arith, e);
        worked = ap length ws_are ∙ (let e = length_both g.body (all_works wss ++ ws) _ _ g.good.worked g'.worked in omega (arith, e));
        follows = λ f frs n m m' t u cf e has fw s i fuel le lt.
            let k = m' + 1 + b.size in
            let has' = subst (λ (v : Works). Has gs f m' (laid'.edges_arms (b ∷ ls) l m' t) v) ws_are has in
            let z = g.good.sized (m' + 1) t in
            let h = has_parts gs f (b.edges (m' + 1) t) (laid'.edges_arms ls l k t) g.body (all_works wss ++ ws) (m' + 1) k (omega (arith, z)) (omega (arith, z, g.good.worked)) (record { edges = has'.edges.1; works = has'.works.1 }) in
            test_follows gs f frs a.test g.test g.same_test m' (b.entry (m' + 1) t) (laid'.entry_arms ls l k t) has'.edges.0 has'.works.0 (a.body.does (m + 1) u) (tree.tests ps p (m + 1 + a.body.size) u) i
            (λ z j d lj q. g.good.follows f frs n (m + 1) (m' + 1) t u cf (omega arith) h.0 fw z j d (omega arith) q)
            (λ z j d lj q. g'.follows f frs n (m + 1 + a.body.size) k t u cf (omega (arith, g.good.same_size)) h.1 fw z j d (omega arith) q)
            s fuel lt;
      }

  good_while : (e : RExpr) (p : Piece) (l : Laid) (ws : Works) → Good p l ws → Good (piece_at calls (RStmt-F.While e p)) (laid_at (RStmt-F.While e l)) (work.Test e ∷ ws)
  good_while e p l ws g = record {
    same_size = omega (arith, g.same_size);
    sized = λ m t. omega (arith, g.sized (m + 1) (loop_targets m t));
    worked = omega (arith, g.worked);
    follows = λ f frs n m m' t u cf eq has fw s i b le lt.
        turns_follow gs f frs (test_value (Some e)) e (λ vs. refl) (p.does (m + 1)) (tree.perhaps None) u t m' (l.entry (m' + 1) (loop_targets m' t)) m' n has.edges.0 has.works.0
        (λ k v fv. g.follows f frs k (m + 1) (m' + 1) (loop_targets m' t) v cf (omega arith) (record { edges = has.edges.1; works = has.works.1 }) fv)
        (λ k h fh. fh)
        fw (suc i) s i b le (omega arith) lt;
  }

  good_do : (e : RExpr) (p : Piece) (l : Laid) (ws : Works) → Good p l ws → Good (piece_at calls (RStmt-F.Do p e)) (laid_at (RStmt-F.Do l e)) (ws ++ work.Test e ∷ [])
  good_do e p l ws g = record {
    same_size = omega (arith, g.same_size);
    sized = λ m t.
        let u = loop_targets (m + l.size) t in
        let z = length_both (l.edges m u) (test (l.entry m u) t.next ∷ []) l.size 1 (g.sized m u) refl in
        omega (arith, z);
    worked = let z = length_both ws (work.Test e ∷ []) l.size 1 g.worked refl in omega (arith, z);
    follows = λ f frs n m m' t u cf eq has fw.
        let y = m' + l.size in
        let t' = loop_targets y t in
        let z = g.sized m' t' in
        let h = has_parts gs f (l.edges m' t') (test (l.entry m' t') t.next ∷ []) ws (work.Test e ∷ []) m' y (omega (arith, z)) (omega (arith, z, g.worked)) has in
        let turn : Follows gs f frs n (loop (test_value (Some e)) (p.does m) (tree.perhaps None) u) y = λ s i b le lt.
        turns_follow gs f frs (test_value (Some e)) e (λ vs. refl) (p.does m) (tree.perhaps None) u t y (l.entry m' t') y n h.1.edges.0 h.1.works.0
        (λ k v fv. g.follows f frs k m m' t' v cf eq h.0 fv)
        (λ k z fz. fz)
        fw (suc i) s i b le (omega arith) lt in
        g.follows f frs n m m' t' (loop_ways (loop (test_value (Some e)) (p.does m) (tree.perhaps None) u) u) cf eq h.0 (record { next = turn; out_of_loop = fw.next; again = turn; back = fw.back });
  }

  -- where something that may be absent is come to
  abbrev ComesTo : {A : Type 0} → Option A → ℕ → ℕ → ℕ → Type 0
  ComesTo None x y to = y ≡ to
  ComesTo (Some a) x y to = y ≡ x

  update_follows : (f : Option ℕ) (frs : List Frame) (n x y to : ℕ) (a : Option RAssign) (k : Then) → ComesTo a x y to → Has gs f x (laid'.perhaps a to) (works'.update_works a) → Follows gs f frs n k to → Follows gs f frs n (tree.perhaps a k) y
  update_follows f frs n x y to None k e has h = subst (λ z. Follows gs f frs n k z) (sym e) h
  update_follows f frs n x y to (Some a) k e has h =
      subst (λ z. Follows gs f frs n (tree.perhaps (Some a) k) z) (sym e) (single_follows gs f frs (set a.place a.value) x to (work.Set a.place a.value) k n has.edges.0 has.works.0 refl h)

  init_follows : (f : Option ℕ) (frs : List Frame) (n x y to : ℕ) (a : Option RInit) (k : Then) → ComesTo a x y to → Has gs f x (laid'.perhaps a to) (works'.init_works a) → Follows gs f frs n k to → Follows gs f frs n (tree.begins a k) y
  init_follows f frs n x y to None k e has h = subst (λ z. Follows gs f frs n k z) (sym e) h
  init_follows f frs n x y to (Some (init'.Declare a)) k e has h =
      subst (λ z. Follows gs f frs n (tree.begins (Some (init'.Declare a)) k) z) (sym e) (single_follows gs f frs (declare a.place (Some a.value)) x to (work.Declare a.place (Some a.value)) k n has.edges.0 has.works.0 refl h)
  init_follows f frs n x y to (Some (init'.Set a)) k e has h =
      subst (λ z. Follows gs f frs n (tree.begins (Some (init'.Set a)) k) z) (sym e) (single_follows gs f frs (set a.place a.value) x to (work.Set a.place a.value) k n has.edges.0 has.works.0 refl h)

  comes_first : (a : Option RInit) (m : ℕ) → ComesTo a m m (m + init_count a)
  comes_first None m = omega arith
  comes_first (Some a) m = refl

  comes_update : (a : Option RAssign) (k : ℕ) → ComesTo a (k + 1) (k + assign_count a) k
  comes_update None k = omega arith
  comes_update (Some a) k = refl

  update_edges : (a : Option RAssign) (to : ℕ) → length (laid'.perhaps a to) ≡ assign_count a
  update_edges None to = refl
  update_edges (Some a) to = refl

  update_long : (a : Option RAssign) → length (works'.update_works a) ≡ assign_count a
  update_long None = refl
  update_long (Some a) = refl

  init_edges : (a : Option RInit) (to : ℕ) → length (laid'.perhaps a to) ≡ init_count a
  init_edges None to = refl
  init_edges (Some a) to = refl

  init_long : (a : Option RInit) → length (works'.init_works a) ≡ init_count a
  init_long None = refl
  init_long (Some (init'.Declare a)) = refl
  init_long (Some (init'.Set a)) = refl

  same_condition : (e : Option RExpr) (vs : Variables) → test_value e vs ≡ value (condition e) vs
  same_condition None vs = ap (λ (v : Value). v vs) (sym (fold-roll-RExpr Value value_at (RExpr-F.Num (pos 1)))) ∙ ap (λ x. value x vs) (expr.rolls-Num (pos 1))
  same_condition (Some e) vs = refl

  module _ (init : Option RInit) (e : Option RExpr) (update : Option RAssign) (p : Piece) (l : Laid) (ws : Works) (g : Good p l ws) where
    good_for : Good (piece_at calls (RStmt-F.For init e update p)) (laid_at (RStmt-F.For init e update l)) (works_at (RStmt-F.For init e update ws))
    good_for = record {
      same_size = omega (arith, g.same_size);
      sized = λ m t.
          let k = m + init_count init in
          let u = loop_targets (k + assign_count update) t in
          let b = k + 1 + assign_count update in
          let q = length_both (laid'.perhaps update k) (l.edges b u) _ _ (update_edges update k) (g.sized b u) in
          let r = length_both (laid'.perhaps init k) (test (l.entry b u) t.next ∷ (laid'.perhaps update k ++ l.edges b u)) (init_count init) (1 + (assign_count update + l.size)) (init_edges init k) (omega (arith, q)) in
          omega (arith, r);
      worked =
          let q = length_both (works'.update_works update) ws _ _ (update_long update) g.worked in
          let r = length_both (works'.init_works init) (work.Test (condition e) ∷ (works'.update_works update ++ ws)) (init_count init) (1 + (assign_count update + l.size)) (init_long init) (omega (arith, q)) in
          omega (arith, r);
      follows = λ f frs n m m' t w cf eq has fw.
          let k = m' + init_count init in
          let u = loop_targets (k + assign_count update) t in
          let b = k + 1 + assign_count update in
          let h = has_parts gs f (laid'.perhaps init k) (test (l.entry b u) t.next ∷ (laid'.perhaps update k ++ l.edges b u)) (works'.init_works init) (work.Test (condition e) ∷ (works'.update_works update ++ ws)) m' k
          (omega (arith, init_edges init k)) (omega (arith, init_edges init k, init_long init)) has in
          let h' = has_parts gs f (laid'.perhaps update k) (l.edges b u) (works'.update_works update) ws (k + 1) b
          (omega (arith, update_edges update k)) (omega (arith, update_edges update k, update_long update)) (record { edges = h.1.edges.1; works = h.1.works.1 }) in
          let body = p.does (m + init_count init + 1 + assign_count update) in
          let turn : Follows gs f frs n (loop (test_value e) body (tree.perhaps update) w) k = λ s i fuel le lt.
          turns_follow gs f frs (test_value e) (condition e) (same_condition e) body (tree.perhaps update) w t k (l.entry b u) (k + assign_count update) n h.1.edges.0 h.1.works.0
          (λ j v fv. g.follows f frs j (m + init_count init + 1 + assign_count update) b u v cf (omega (arith)) h'.1 fv)
          (λ j z fz. update_follows f frs j (k + 1) (k + assign_count update) k update z (comes_update update k) h'.0 fz)
          fw (suc i) s i fuel le (omega arith) lt in
          init_follows f frs n m' m' k init _ (comes_first init m') h.0 turn;
    }

  -- one layer of a statement, over children that were seen to
  module _ (X X' Y Y' : Type 0) (p : X → Y) (q : X' → Y') (f1 : Y → Piece) (g1 : Y' → ArmPiece) (f2 : Y → Laid) (g2 : Y' → Laid) (f3 : Y → Works) (g3 : Y' → Works)
      (hf : (x : X) → Good (f1 (p x)) (f2 (p x)) (f3 (p x))) (hg : (x : X') → GoodArm (g1 (q x)) (g2 (q x)) (g3 (q x))) where
    good_all : (xs : List X) → Good (all_piece (map f1 (map p xs))) (all_laid (map f2 (map p xs))) (all_works (map f3 (map p xs)))
    good_all [] = good_none
    good_all (x ∷ xs) = good_more (f1 (p x)) (f2 (p x)) (f3 (p x)) (map f1 (map p xs)) (map f2 (map p xs)) (map f3 (map p xs)) (hf x) (good_all xs)

    good_arms : (xs : List X') (a : Piece) (b : Laid) (ws : Works) → Good a b ws → Good (arms_piece (map g1 (map q xs)) a) (arms_laid (map g2 (map q xs)) b) (all_works (map g3 (map q xs)) ++ ws)
    good_arms [] a b ws g = record { same_size = omega (arith, g.same_size); sized = λ m t. omega (arith, g.sized m t); worked = omega (arith, g.worked); follows = g.follows }
    good_arms (x ∷ xs) a b ws g = good_tests (g1 (q x)) (g2 (q x)) (g3 (q x)) (map g1 (map q xs)) (map g2 (map q xs)) (map g3 (map q xs)) a b ws (hg x) (good_arms xs a b ws g)

    good_layer : (y : RStmt-F X X') → Good (piece_at calls (map-RStmt Y Y' Piece ArmPiece f1 g1 (map-RStmt X X' Y Y' p q y))) (laid_at (map-RStmt Y Y' Laid Laid f2 g2 (map-RStmt X X' Y Y' p q y))) (works_at (map-RStmt Y Y' Works Works f3 g3 (map-RStmt X X' Y Y' p q y)))
    good_layer RStmt-F.Empty = good_nothing (λ w. w.next) (λ t. t.next) (λ f frs n t w fw. fw.next)
    good_layer RStmt-F.Break = good_nothing (λ w. w.out_of_loop) (λ t. t.out_of_loop) (λ f frs n t w fw. fw.out_of_loop)
    good_layer RStmt-F.Continue = good_nothing (λ w. w.again) (λ t. t.again) (λ f frs n t w fw. fw.again)
    good_layer (RStmt-F.Declare a e) = good_one (λ m. declare a e) (work.Declare a e) (λ f frs m x. refl)
    good_layer (RStmt-F.Set a e) = good_one (λ m. set a e) (work.Set a e) (λ f frs m x. refl)
    good_layer (RStmt-F.Call a h es) = good_call a h es
    good_layer (RStmt-F.Input a) = good_one (λ m. input a) (work.Input a) (λ f frs m x. refl)
    good_layer (RStmt-F.Return e) = good_return e
    good_layer (RStmt-F.ReturnCall h es) = good_return_call h es
    good_layer RStmt-F.ReturnInput = good_return_input
    good_layer (RStmt-F.Put e) = good_one (λ m. put e) (work.Put e) (λ f frs m x. refl)
    good_layer (RStmt-F.Print ps es) = good_one (λ m. write_out ps es) (work.Print ps es) (λ f frs m x. refl)
    good_layer RStmt-F.Checkpoint = good_one checkpoint work.Checkpoint (λ f frs m x. refl)
    good_layer (RStmt-F.Exclude k) = good_one (λ m. exclude k) (work.Exclude k) (λ f frs m x. refl)
    good_layer (RStmt-F.Block ss) = good_all ss
    good_layer (RStmt-F.If arms None) = good_arms arms tree.nothing (laid'.nothing (λ t. t.next)) [] (good_nothing (λ w. w.next) (λ t. t.next) (λ f frs n t w fw. fw.next))
    good_layer (RStmt-F.If arms (Some x)) = good_arms arms (f1 (p x)) (f2 (p x)) (f3 (p x)) (hf x)
    good_layer (RStmt-F.While e x) = good_while e (f1 (p x)) (f2 (p x)) (f3 (p x)) (hf x)
    good_layer (RStmt-F.Do x e) = good_do e (f1 (p x)) (f2 (p x)) (f3 (p x)) (hf x)
    good_layer (RStmt-F.For init e update x) = good_for init e update (f1 (p x)) (f2 (p x)) (f3 (p x)) (hf x)

  abbrev arm_piece : RArm → ArmPiece
  arm_piece = fold-RArm Piece ArmPiece (piece_at calls) (arm_at calls)

  abbrev Seen : RStmt → Type 0
  Seen s = Good (piece calls s) (laid s) (works s)

  pub good : (s : RStmt) → Seen s
  good = ind-RStmt Seen (λ a. GoodArm (arm_piece a) (laid'.arm_laid a) (works'.arm_works a))
      (λ x y is.
      let l = good_layer _ _ RStmt _ (λ e. e.0) (λ e. e.0) (piece calls) arm_piece laid laid'.arm_laid works works'.arm_works (λ e. e.1) (λ e. e.1) y in
      let k = subst (λ z. Good (piece_at calls (map-RStmt RStmt _ Piece ArmPiece (piece calls) arm_piece z)) (laid_at (map-RStmt RStmt _ Laid Laid laid laid'.arm_laid z)) (works_at (map-RStmt RStmt _ Works Works works works'.arm_works z))) is l in
      let k1 = subst (λ z. Good z (laid_at (map-RStmt RStmt _ Laid Laid laid laid'.arm_laid x)) (works_at (map-RStmt RStmt _ Works Works works works'.arm_works x))) (sym (fold-roll-RStmt Piece ArmPiece (piece_at calls) (arm_at calls) x)) k in
      let k2 = subst (λ z. Good (piece calls (roll-RStmt x)) z (works_at (map-RStmt RStmt _ Works Works works works'.arm_works x))) (sym (fold-roll-RStmt Laid Laid laid_at laid'.arm_at x)) k1 in
      subst (λ z. Good (piece calls (roll-RStmt x)) (laid (roll-RStmt x)) z) (sym (fold-roll-RStmt Works Works works_at arm_works_at x)) k2)
      (λ x y is.
      let k : Seen x.body = subst (λ (z : RArm-F RStmt RArm). Seen z.body) is y.body.1 in
      let g : GoodArm (arm_at calls (record { test = x.test; body = piece calls x.body })) (laid x.body) (work.Test x.test ∷ works x.body)
      = record { test = x.test; body = works x.body; is = refl; same_test = λ vs. refl; good = k } in
      let g1 = subst (λ z. GoodArm z (laid x.body) (work.Test x.test ∷ works x.body)) (sym (fold-roll-RArm Piece ArmPiece (piece_at calls) (arm_at calls) x)) g in
      let g2 = subst (λ z. GoodArm (arm_piece (roll-RArm x)) z (work.Test x.test ∷ works x.body)) (sym (fold-roll-RArm Laid Laid laid_at laid'.arm_at x)) g1 in
      subst (λ z. GoodArm (arm_piece (roll-RArm x)) (laid'.arm_laid (roll-RArm x)) z) (sym (fold-roll-RArm Works Works works_at arm_works_at x)) g2)
