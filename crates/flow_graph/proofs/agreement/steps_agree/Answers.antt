use Rattle.flow_graph.proofs.AgreeRuns.{step_agrees_at}
use Rattle.flow_graph.proofs.agreement.steps_agree.Goals as goal

pub returns : goal.returns
returns c = record { law = λ p g l x s t n h mg a. step_agrees_at p h g mg l x s t a n }
