-- The graph of `main` with the effects of its nodes.
use Rattle.std.specs.Prelude.{◌≡◌, ◌↔◌, ℕ, ◌<◌, true, length, Some, None, slice_get}
use Rattle.path_laws.specs.declared.graph.Mark.{Mark}
use Rattle.path_laws.specs.declared.graph.Mark.TheVariants as mark'
use Rattle.path_laws.specs.Graph as effects
use Rattle.path_laws.specs.Graph.{next_of, mark_of, may_read, may_write, kills}
use Rattle.c_tree.specs.declared.resolved.Resolved.{Resolved}
use Rattle.c_tree.specs.Layout.{cell_count}
use Rattle.access_summary.specs.Edges.{Edge}
use Rattle.flow_graph.specs.declared.node.NodeWork.{NodeWork}
use Rattle.flow_graph.specs.declared.node.NodeWork.TheVariants as work
use Rattle.flow_graph.specs.Run.{Graph, graph_of}
use Rattle.flow_graph.specs.NodeEffects.{NodeReads, NodeWrites, NodeKills}

-- what a node is besides its effects
abbrev pub mark : NodeWork → Mark
mark work.Checkpoint = mark'.Checkpoint
mark (work.Exclude k) = mark'.Exclude k
mark w = mark'.Plain

-- node n of a graph has these edges and what this work of `main` may do
pub record IsNode (p : Resolved) (g : effects.Graph) (n : ℕ) (to : Edge) (w : NodeWork) : Type 0 where
  pub next : next_of g n ≡ to
  pub marked : mark_of g n ≡ mark w
  pub reads : (c : ℕ) → c < cell_count p → (may_read g n c ≡ true) ↔ NodeReads p None w c
  pub writes : (c : ℕ) → c < cell_count p → (may_write g n c ≡ true) ↔ NodeWrites p None w c
  pub kills : (c : ℕ) → c < cell_count p → (kills g n c ≡ true) ↔ NodeKills p None w c

-- the graph of `main`: its cells, its entry, and its nodes in the order of the text
abbrev pub main_of : Resolved → Graph
main_of p = graph_of 0 p.main.body

pub record IsMainGraph (p : Resolved) (g : effects.Graph) : Type 0 where
  pub cells : g.cells ≡ cell_count p
  pub entry : g.entry ≡ (main_of p).entry
  pub count : length g.nodes ≡ length (main_of p).works
  pub nodes : (n : ℕ) (to : Edge) (w : NodeWork) → slice_get (main_of p).edges n ≡ Some to → slice_get (main_of p).works n ≡ Some w → IsNode p g n to w
