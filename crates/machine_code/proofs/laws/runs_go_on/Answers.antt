use Rattle.machine_code.proofs.RunLaws.{reaches_on, reaches_fed, reaches_row}
use Rattle.machine_code.proofs.laws.runs_go_on.Goals as goal

pub returns : goal.returns
returns c = record { joined = reaches_on; fed = reaches_fed; row = reaches_row }
