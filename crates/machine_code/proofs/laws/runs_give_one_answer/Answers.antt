use Rattle.machine_code.proofs.RunLaws.{one_answer}
use Rattle.machine_code.proofs.laws.runs_give_one_answer.Goals as goal

pub returns : goal.returns
returns c = record { law = one_answer }
