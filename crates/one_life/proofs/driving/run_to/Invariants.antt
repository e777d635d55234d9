use Rattle.std.proofs.Common.{◌-◌}
use Rattle.one_life.proofs.DriveLaws.{Driven}
use Rattle.one_life.proofs.driving.run_to.Given as goal

abbrev pub invariant-calls : goal.invariant-calls
invariant-calls g l = Driven l.fn.life (g.D.Disk.view l.fn.disk) l.life (g.D.Disk.view l.disk) l.bound l.until l.fn.steps l.steps

abbrev pub decreases-calls : goal.decreases-calls
decreases-calls g l = l.bound - l.until
