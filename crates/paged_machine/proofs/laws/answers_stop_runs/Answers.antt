use Rattle.paged_machine.proofs.StopLaws.{ends, traps, goes}
use Rattle.paged_machine.proofs.laws.answers_stop_runs.Goals as goal

pub returns : goal.returns
returns c = record { ended = ends; trapped = traps; going = goes }
