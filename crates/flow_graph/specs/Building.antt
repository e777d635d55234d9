-- The graph of `main` while its nodes are added.
use Rattle.std.specs.Prelude.{◌≡◌, [], ◌∷◌, ◌++◌, None}
use Rattle.path_laws.specs.declared.graph.Node.{Node}
use Rattle.path_laws.specs.Graph.{Graph}
use Rattle.c_tree.specs.declared.resolved.Resolved.{Resolved}
use Rattle.access_summary.specs.Edges.{Edge}
use Rattle.flow_graph.specs.declared.node.NodeWork.{NodeWork}
use Rattle.flow_graph.specs.NodeEffects.{NodeReads, NodeWrites, NodeKills}
use Rattle.flow_graph.specs.EffectCells.{IsSetOf}
use Rattle.flow_graph.specs.MainGraph.{mark}

-- a node has these edges and what this work of `main` may do
pub record Does (p : Resolved) (to : Edge) (w : NodeWork) (d : Node) : Type 0 where
  pub next : d.next ≡ to
  pub marked : d.mark ≡ mark w
  pub reads : IsSetOf p (NodeReads p None w) d.reads
  pub writes : IsSetOf p (NodeWrites p None w) d.writes
  pub kills : IsSetOf p (NodeKills p None w) d.kills

-- such a node stands behind those that were there
pub record AddsNode (p : Resolved) (to : Edge) (w : NodeWork) (old new : Graph) : Type 0 where
  pub node : Node
  pub does : Does p to w node
  pub new_is : new ≡ record old { nodes = old.nodes ++ node ∷ [] }
