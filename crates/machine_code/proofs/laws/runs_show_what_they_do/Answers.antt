use Rattle.machine_code.proofs.PassLaws.{reaches_shows}
use Rattle.machine_code.proofs.laws.runs_show_what_they_do.Goals as goal

pub returns : goal.returns
returns c = record { law = reaches_shows }
