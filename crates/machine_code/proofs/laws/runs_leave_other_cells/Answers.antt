use Rattle.machine_code.proofs.LongerLaws.{after_longer}
use Rattle.machine_code.proofs.laws.runs_leave_other_cells.Goals as goal

pub returns : goal.returns
returns c = record { law = after_longer }
