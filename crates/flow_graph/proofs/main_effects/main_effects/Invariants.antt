use Rattle.access_summary.specs.Edges.{entry_in, edges_in}
use Rattle.flow_graph.proofs.Built.{IsBuilt}
use Rattle.flow_graph.proofs.main_effects.main_effects.Given as goal

-- the nodes below n were added
abbrev pub invariant-nodes : goal.invariant-nodes
invariant-nodes l = IsBuilt l.program (entry_in l.edges) (edges_in l.edges) l.works l.n l.graph
