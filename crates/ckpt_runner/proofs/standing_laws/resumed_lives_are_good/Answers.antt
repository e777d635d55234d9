use Rattle.ckpt_runner.proofs.GoodCalls.{plain_moments}
use Rattle.ckpt_runner.proofs.GoodStarts.{resumed_stand, resumed_good}
use Rattle.ckpt_runner.proofs.standing_laws.resumed_lives_are_good.Goals as goal

pub returns-clause-moments : goal.returns-clause-moments
returns-clause-moments g c = λ s code fill rs o chain is resumed run.
    let u = g.D.Disk.view c.args.before.now in
    let v = g.D.Disk.view c.args.after.now in
    let newest = resumed.at.newest in
    plain_moments s newest.output_length u v (resumed_stand c.newest_images_need_most.ensures.law s chain rs newest u v is resumed.at.newest_is resumed.stand resumed.rests run)

pub returns-clause-good : goal.returns-clause-good
returns-clause-good g c = λ s code fill rs o chain new is compiled of resumed run chained output holds.
    resumed_good c.newest_images_need_most.ensures.law (record { stand = c.resumed_lives_hold_their_records.ensures.stand; held = c.resumed_lives_hold_their_records.ensures.held })
    s code fill rs o chain new (g.D.Disk.view c.args.before.now) (g.D.Disk.view c.args.after.now) c.requires.told (g.met.D.Disk.lawful c.args.before.now c.requires.told) is compiled resumed.stand resumed.rests resumed.at of chained output holds run
