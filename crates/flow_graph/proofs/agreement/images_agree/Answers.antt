use Rattle.flow_graph.proofs.AgreeRuns as runs
use Rattle.flow_graph.proofs.agreement.images_agree.Goals as goal

pub returns : goal.returns
returns c = record { law = runs.images_agree }
