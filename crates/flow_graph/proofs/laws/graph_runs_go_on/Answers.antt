use Rattle.flow_graph.proofs.Steps.{one_step, goes_on}
use Rattle.flow_graph.proofs.laws.graph_runs_go_on.Goals as goal

pub returns : goal.returns
returns c = record { step = one_step; law = goes_on }
