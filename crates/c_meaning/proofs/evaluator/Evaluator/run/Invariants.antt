use Rattle.std.proofs.Common.{◌≤◌, ◌-◌}
use Rattle.ckpt_base.specs.Run.{Run}
use Rattle.c_meaning.specs.Working.{Stands}
use Rattle.c_meaning.proofs.evaluator.Evaluator.run.Given as goal

-- the run goes on with the ticks that are left below the bound
abbrev pub invariant-steps : goal.invariant-steps
invariant-steps l = (l.self.progress.ticks ≤ l.until) × ((r : Run) → Stands l.fn.self l.until r → Stands l.self (l.until - l.self.progress.ticks) r)

abbrev pub decreases-steps : goal.decreases-steps
decreases-steps l = l.until - l.self.progress.ticks
