use Rattle.ckpt_runner.proofs.GoodCalls.{plain_moments, behind_stand, bytes_good}
use Rattle.ckpt_runner.proofs.standing_laws.bytes_keep_good.Goals as goal

pub returns-clause-moments : goal.returns-clause-moments
returns-clause-moments g c = λ s o es old m run good.
    let u = g.D.Disk.view c.args.before.now in
    let v = g.D.Disk.view c.args.after.now in
    plain_moments s old.output.lasting u v (behind_stand s o es old m u v run good)

pub returns-clause-good : goal.returns-clause-good
returns-clause-good g c = λ s o es bytes old new m chain lasting holds run good.
    bytes_good s o es bytes old new m (g.D.Disk.view c.args.before.now) (g.D.Disk.view c.args.after.now) c.requires.told chain lasting holds run good
