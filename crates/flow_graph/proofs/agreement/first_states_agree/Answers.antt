use Rattle.flow_graph.proofs.AgreeFirst.{first_agrees}
use Rattle.flow_graph.proofs.agreement.first_states_agree.Goals as goal

pub returns : goal.returns
returns c = record { law = first_agrees }
