-- The graph of `main` while its nodes are added.
use Rattle.std.proofs.Common.{◌≡◌, ℕ, zero, suc, ◌+◌, ◌<◌, List, [], ◌∷◌, ◌++◌, length, Option, Some, None, true, refl, sym, ap, ◌∙◌, subst, arith, inl, inr, length-append}
use Rattle.std.proofs.lemmas.Bool.{cases_lt}
use Rattle.std.proofs.lemmas.Option.{same_Some, slice_get_within}
use Rattle.std.specs.Prelude.{slice_get, ◌↔◌, IfSome}
use Rattle.std.specs.Option.{option_map_or}
use Rattle.cell_sets.specs.Sets.{has}
use Rattle.path_laws.specs.declared.graph.Mark.TheVariants.{Plain}
use Rattle.path_laws.specs.declared.graph.Node.{Node}
use Rattle.path_laws.specs.Graph.{Graph}
use Rattle.c_tree.specs.declared.resolved.RStmt.{RStmt}
use Rattle.c_tree.specs.declared.resolved.Resolved.{Resolved}
use Rattle.c_tree.specs.Layout.{cell_count}
use Rattle.access_summary.specs.Edges.{Edge, FunctionEdges, entry_in, edges_in, edges_of_body}
use Rattle.flow_graph.specs.declared.node.NodeWork.{NodeWork}
use Rattle.flow_graph.specs.Works.{works_of_body}
use Rattle.flow_graph.specs.NodeEffects.{NodeReads, NodeWrites, NodeKills}
use Rattle.flow_graph.specs.MainGraph.{IsNode, IsMainGraph}
use Rattle.flow_graph.specs.Building.{Does, AddsNode}
use Rattle.flow_graph.proofs.Joins.{graph_is_joined}

get_front : {A : Type 0} → (xs ys : List A) (k : ℕ) → k < length xs → slice_get (xs ++ ys) k ≡ slice_get xs k
get_front [] ys k lt = absurd (omega arith)
get_front (x ∷ xs) ys zero lt = refl
get_front (x ∷ xs) ys (suc k) lt = get_front xs ys k (omega arith)

get_last : {A : Type 0} → (xs : List A) (x : A) → slice_get (xs ++ x ∷ []) (length xs) ≡ Some x
get_last [] x = refl
get_last (y ∷ xs) x = get_last xs x

-- the nodes below n were added
pub record IsBuilt (p : Resolved) (entry : ℕ) (es : List Edge) (ws : List NodeWork) (n : ℕ) (g : Graph) : Type 0 where
  pub cells : g.cells ≡ cell_count p
  pub entry_is : g.entry ≡ entry
  pub count : length g.nodes ≡ n
  pub nodes : (k : ℕ) (to : Edge) (w : NodeWork) → k < n → slice_get es k ≡ Some to → slice_get ws k ≡ Some w → (d : Node) × (slice_get g.nodes k ≡ Some d) × Does p to w d

module _ (p : Resolved) (entry : ℕ) (es : List Edge) (ws : List NodeWork) where
  pub built_none : IsBuilt p entry es ws 0 (record { cells = cell_count p; entry = entry; nodes = [] })
  built_none = record { cells = refl; entry_is = refl; count = refl; nodes = λ k to w lt e f. absurd (omega arith) }

  pub built_more : (n : ℕ) (g g' : Graph) (to : Edge) (w : NodeWork) → slice_get es n ≡ Some to → slice_get ws n ≡ Some w → IsBuilt p entry es ws n g → AddsNode p to w g g' → IsBuilt p entry es ws (n + 1) g'
  built_more n g g' to w e f b a =
      let nodes = ap (λ (h : Graph). h.nodes) a.new_is in
      record {
        cells = ap (λ (h : Graph). h.cells) a.new_is ∙ b.cells;
        entry_is = ap (λ (h : Graph). h.entry) a.new_is ∙ b.entry_is;
        count = omega (arith, ap length nodes, length-append g.nodes (a.node ∷ []), b.count);
        nodes = λ k to' w' lt e' f'. elim (cases_lt k n) [
          | inl old ↦ let d = b.nodes k to' w' old e' f' in (d.0, ap (λ ds. slice_get ds k) nodes ∙ get_front g.nodes (a.node ∷ []) k (omega (arith, old, b.count)) ∙ d.1, d.2)
          | inr new ↦
              let at : n ≡ k = omega arith in
              let to_is : to ≡ to' = same_Some to to' (sym e ∙ ap (slice_get es) at ∙ e') in
              let w_is : w ≡ w' = same_Some w w' (sym f ∙ ap (slice_get ws) at ∙ f') in (
                a.node,
                ap (slice_get g'.nodes) (sym at ∙ sym b.count) ∙ ap (λ ds. slice_get ds (length g.nodes)) nodes ∙ get_last g.nodes a.node,
                subst (λ v. Does p to' v a.node) w_is (subst (λ v. Does p v w a.node) to_is a.does),
              )
        ];
      }

  pub node_is : (g : Graph) (k : ℕ) (to : Edge) (w : NodeWork) (d : Node) → slice_get g.nodes k ≡ Some d → Does p to w d → IsNode p g k to w
  node_is g k to w d e h = record {
    next = ap (λ (o : Option Node). option_map_or (λ d. d.next) o (None, None)) e ∙ h.next;
    marked = ap (λ (o : Option Node). option_map_or (λ d. d.mark) o Plain) e ∙ h.marked;
    reads = λ c lt. subst (λ (o : Option Node). (has (option_map_or (λ d. d.reads) o []) c ≡ true) ↔ NodeReads p None w c) (sym e) (h.reads.exact c lt);
    writes = λ c lt. subst (λ (o : Option Node). (has (option_map_or (λ d. d.writes) o []) c ≡ true) ↔ NodeWrites p None w c) (sym e) (h.writes.exact c lt);
    kills = λ c lt. subst (λ (o : Option Node). (has (option_map_or (λ d. d.kills) o []) c ≡ true) ↔ NodeKills p None w c) (sym e) (h.kills.exact c lt);
  }

-- all were added
pub built_all : (p : Resolved) (g : Graph) → IsBuilt p (entry_in (edges_of_body p.main.body)) (edges_in (edges_of_body p.main.body)) (works_of_body p.main.body) (length (edges_in (edges_of_body p.main.body))) g → IsMainGraph p g
built_all p g b =
    let es = edges_in (edges_of_body p.main.body) in
    let ws = works_of_body p.main.body in
    let joined = graph_is_joined 0 p.main.body in
    record {
      cells = b.cells;
      entry = b.entry_is;
      count = b.count ∙ joined.same;
      nodes = λ n to w e f. let d = b.nodes n to w (slice_get_within es n to e) e f in node_is p (entry_in (edges_of_body p.main.body)) es ws g n to w d.0 d.1 d.2;
    }

module _ (p : Resolved) (e : FunctionEdges) (ws : List NodeWork) (edges : e ≡ edges_of_body p.main.body) (works : ws ≡ works_of_body p.main.body) where
  pub as_many : length (edges_in e) ≡ length ws
  as_many = ap (λ (e : FunctionEdges). length (edges_in e)) edges ∙ ((graph_is_joined 0 p.main.body).same ∙ ap length (sym works))

  pub built_done : (n : ℕ) (g : Graph) → n ≡ length (edges_in e) → IsBuilt p (entry_in e) (edges_in e) ws n g → IsMainGraph p g
  built_done n g at b =
      let b1 = subst (λ k. IsBuilt p (entry_in e) (edges_in e) ws k g) at b in
      let b2 = subst (λ vs. IsBuilt p (entry_in e) (edges_in e) vs (length (edges_in e)) g) works b1 in
      built_all p g (subst (λ (f : FunctionEdges). IsBuilt p (entry_in f) (edges_in f) (works_of_body p.main.body) (length (edges_in f)) g) edges b2)

-- there are as many works as edges
module _ (o : Option RStmt) (body : RStmt) (e : FunctionEdges) (ws : List NodeWork) (is : o ≡ Some body) (edges : IfSome o (λ b. e ≡ edges_of_body b)) (works : ws ≡ works_of_body body) where
  pub same_number : length (edges_in e) ≡ length ws
  same_number =
      let e_is : e ≡ edges_of_body body = subst (λ o. IfSome o (λ b. e ≡ edges_of_body b)) is edges in
      omega (arith, ap (λ (f : FunctionEdges). length (edges_in f)) e_is, ap length works, (graph_is_joined 0 body).same)

  pub few_works : (limit : ℕ) → length (edges_in e) < limit → length ws < limit
  few_works limit lt = omega (arith, lt, same_number)
