-- Graphs of `main` of one program do the same.
use Rattle.std.proofs.Common.{◌≡◌, ◌<◌, ℕ, [], length, Option, Some, None, sym, ap, ◌∙◌, subst, inl, inr, arith}
use Rattle.std.specs.Prelude.{slice_get}
use Rattle.std.specs.Option.{option_map_or}
use Rattle.std.proofs.lemmas.Option.{slice_get_cases, slice_get_past}
use Rattle.std.proofs.lemmas.Bool.Decides.{same_from_decides}
use Rattle.path_laws.specs.declared.graph.Mark.TheVariants.{Plain}
use Rattle.path_laws.specs.declared.graph.Node.{Node}
use Rattle.path_laws.specs.Graph.{Graph, next_of, mark_of, may_read, may_write, kills}
use Rattle.cell_sets.specs.Sets.{has}
use Rattle.c_tree.specs.declared.resolved.Resolved.{Resolved}
use Rattle.c_tree.specs.Layout.{cell_count}
use Rattle.exclusion_equations.specs.SameGraphs.{DoTheSame}
use Rattle.access_summary.specs.Edges.{Edge}
use Rattle.flow_graph.specs.declared.node.NodeWork.{NodeWork}
use Rattle.flow_graph.specs.MainGraph.{main_of, IsNode, IsMainGraph}
use Rattle.flow_graph.proofs.Joins.{graph_is_joined}

-- what two graphs have at a node
record SameNode (p : Resolved) (g h : Graph) (n : ℕ) : Type 0 where
  next : next_of g n ≡ next_of h n
  marked : mark_of g n ≡ mark_of h n
  reads : (c : ℕ) → c < cell_count p → may_read g n c ≡ may_read h n c
  writes : (c : ℕ) → c < cell_count p → may_write g n c ≡ may_write h n c
  kills' : (c : ℕ) → c < cell_count p → kills g n c ≡ kills h n c

within : (p : Resolved) (g h : Graph) (n : ℕ) (to : Edge) (w : NodeWork) → IsNode p g n to w → IsNode p h n to w → SameNode p g h n
within p g h n to w a b = record {
  next = a.next ∙ sym b.next;
  marked = a.marked ∙ sym b.marked;
  reads = λ c below. same_from_decides (may_read g n c) (may_read h n c) (a.reads c below) (b.reads c below);
  writes = λ c below. same_from_decides (may_write g n c) (may_write h n c) (a.writes c below) (b.writes c below);
  kills' = λ c below. same_from_decides (kills g n c) (kills h n c) (a.kills c below) (b.kills c below);
}

past : (p : Resolved) (g h : Graph) (n : ℕ) → slice_get g.nodes n ≡ None → slice_get h.nodes n ≡ None → SameNode p g h n
past p g h n a b =
    let same : slice_get g.nodes n ≡ slice_get h.nodes n = a ∙ sym b in
    record {
      next = ap (λ (d : Option Node). option_map_or (λ d. d.next) d (None, None)) same;
      marked = ap (λ (d : Option Node). option_map_or (λ d. d.mark) d Plain) same;
      reads = λ c below. ap (λ (d : Option Node). has (option_map_or (λ d. d.reads) d []) c) same;
      writes = λ c below. ap (λ (d : Option Node). has (option_map_or (λ d. d.writes) d []) c) same;
      kills' = λ c below. ap (λ (d : Option Node). has (option_map_or (λ d. d.kills) d []) c) same;
    }

-- an edge for each node of `main`
edge_there : (p : Resolved) (n : ℕ) → n < length (main_of p).works → (to : Edge) × (slice_get (main_of p).edges n ≡ Some to)
edge_there p n below = elim (slice_get_cases (main_of p).edges n).1 [
  | inl found ↦ (found.0, found.2)
  | inr none ↦ absurd (omega (arith, none.0, below, (graph_is_joined 0 p.main.body).same))
]

same_node : (p : Resolved) (g h : Graph) → IsMainGraph p g → IsMainGraph p h → (n : ℕ) → SameNode p g h n
same_node p g h a b n = elim (slice_get_cases (main_of p).works n).1 [
  | inl found ↦
      let edge = edge_there p n found.1 in
      within p g h n edge.0 found.0 (a.nodes n edge.0 found.0 edge.1 found.2) (b.nodes n edge.0 found.0 edge.1 found.2)
  | inr none ↦ past p g h n (slice_get_past g.nodes n (omega (arith, none.0, a.count))) (slice_get_past h.nodes n (omega (arith, none.0, b.count)))
]

pub same_main : (p : Resolved) (g h : Graph) → IsMainGraph p g → IsMainGraph p h → DoTheSame g h
same_main p g h a b =
    let small : (c : ℕ) → c < g.cells → c < cell_count p = λ c lt. subst (λ (k : ℕ). c < k) a.cells lt in
    record {
      cells = a.cells ∙ sym b.cells;
      count = a.count ∙ sym b.count;
      next = λ n. (same_node p g h a b n).next;
      marked = λ n. (same_node p g h a b n).marked;
      reads = λ n c lt. (same_node p g h a b n).reads c (small c lt);
      writes = λ n c lt. (same_node p g h a b n).writes c (small c lt);
      kills = λ n c lt. (same_node p g h a b n).kills' c (small c lt);
    }
