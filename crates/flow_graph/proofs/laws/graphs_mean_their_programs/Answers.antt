use Rattle.flow_graph.proofs.Whole.{same_meaning}
use Rattle.flow_graph.proofs.laws.graphs_mean_their_programs.Goals as goal

pub returns : goal.returns
returns c = record { law = same_meaning }
