use Rattle.paged_machine.specs.Rest.{rest}
use Rattle.ckpt_runner.proofs.TurnLaws.{Turned}
use Rattle.ckpt_runner.proofs.life.Life.go.Given as goal

abbrev pub invariant-turns : goal.invariant-turns
invariant-turns g l = Turned l.fn.self (g.D.Disk.view l.fn.disk) l.self (g.D.Disk.view l.disk) l.until l.fn.steps l.steps

abbrev pub decreases-turns : goal.decreases-turns
decreases-turns g l = rest l.fn.self.compiled.code l.until l.self.machine.state
