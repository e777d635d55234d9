use Rattle.machine_code.proofs.RunLaws.{row_plain}
use Rattle.machine_code.proofs.laws.rows_are_plain.Goals as goal

pub returns : goal.returns
returns c = record { law = row_plain }
