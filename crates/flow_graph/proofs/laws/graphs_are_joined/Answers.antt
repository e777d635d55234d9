use Rattle.flow_graph.proofs.Joins.{graph_is_joined}
use Rattle.flow_graph.proofs.laws.graphs_are_joined.Goals as goal

pub returns : goal.returns
returns c = record { law = graph_is_joined }
