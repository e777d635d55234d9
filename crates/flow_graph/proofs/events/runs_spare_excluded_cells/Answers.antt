use Rattle.flow_graph.proofs.RunEvents.{runs_spare}
use Rattle.flow_graph.proofs.events.runs_spare_excluded_cells.Goals as goal

pub returns : goal.returns
returns c' = record { law = λ p g input n c h mg lt. runs_spare p h g mg input n c lt }
