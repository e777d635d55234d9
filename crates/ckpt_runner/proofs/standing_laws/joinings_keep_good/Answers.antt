use Rattle.ckpt_runner.proofs.GoodCalls.{plain_moments, room_stand, room_good}
use Rattle.ckpt_runner.proofs.standing_laws.joinings_keep_good.Goals as goal

pub returns-clause-moments : goal.returns-clause-moments
returns-clause-moments g c = λ s o es old m run good.
    let u = g.D.Disk.view c.args.before.now in
    let v = g.D.Disk.view c.args.after.now in
    plain_moments s old.output.lasting u v (room_stand s o es old m u v run good)

pub returns-clause-good : goal.returns-clause-good
returns-clause-good g c = λ s o es old new m output every holds run good.
    room_good s o es old new m (g.D.Disk.view c.args.before.now) (g.D.Disk.view c.args.after.now) c.requires.told output every holds run good
