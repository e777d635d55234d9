use Rattle.std.proofs.Common.{◌≡◌, ◌*◌, length}
use Rattle.ckpt_program.proofs.machine_run.first_frames.Given as goal

abbrev pub invariant-loop-cell : goal.invariant-loop-cell
invariant-loop-cell l = length l.frames ≡ 512 * l.fn.count
