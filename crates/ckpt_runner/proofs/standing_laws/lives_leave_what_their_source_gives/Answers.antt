use Rattle.ckpt_runner.proofs.GoodEnds.{ends, all_end}
use Rattle.ckpt_runner.proofs.standing_laws.lives_leave_what_their_source_gives.Goals as goal

pub returns-clause-ends : goal.returns-clause-ends
returns-clause-ends g c = λ s o es until ending life of le stops. ends s o es until ending life (g.D.Disk.view c.args.disk.now) of le stops

pub returns-clause-left : goal.returns-clause-left
returns-clause-left g c = λ s o es until ending life of le stops good there.
    all_end s o es until ending life (g.D.Disk.view c.args.disk.now) of le stops good there (g.met.D.Disk.lawful c.args.disk.now c.requires.told)
