use Rattle.flow_graph.proofs.RunEvents.{runs_along}
use Rattle.flow_graph.proofs.events.runs_go_along_walks.Goals as goal

pub returns : goal.returns
returns c = record { law = λ p g input n h mg. runs_along p h g mg input n }
