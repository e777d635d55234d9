use Rattle.ckpt_runner.proofs.PaceLaws.{sum_come, sum_to_come}
use Rattle.ckpt_runner.proofs.pace_laws.calls_come_by_sums.Goals as goal

pub returns : goal.returns
returns c = record { done = sum_come; to_come = sum_to_come }
