use Rattle.machine_code.proofs.PassLaws.{passes}
use Rattle.machine_code.proofs.laws.runs_pass_what_they_reach.Goals as goal

pub returns : goal.returns
returns c = record { law = passes }
