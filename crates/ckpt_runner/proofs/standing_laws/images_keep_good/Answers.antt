use Rattle.ckpt_runner.proofs.GoodCalls.{plain_moments}
use Rattle.ckpt_runner.proofs.GoodImages.{image_stand, image_good}
use Rattle.ckpt_runner.proofs.standing_laws.images_keep_good.Goals as goal

pub returns-clause-moments : goal.returns-clause-moments
returns-clause-moments g c = λ s o es node life old r is of good passes p flush follows run.
    let u = g.D.Disk.view c.args.before.now in
    let v = g.D.Disk.view c.args.after.now in
    plain_moments s old.output.lasting u v
    (image_stand c.images_of_lives_stand.ensures.law s o es node life old u r is of passes.served good p flush passes.due passes.image passes.words follows v run)

pub returns-clause-good : goal.returns-clause-good
returns-clause-good g c = λ s o es node life old new r is of good passes p flush follows run output every holds.
    image_good c.images_of_lives_stand.ensures.law s o es node life old (g.D.Disk.view c.args.before.now) r is of passes.served good p flush passes.due passes.image passes.words follows new (g.D.Disk.view c.args.after.now) c.requires.told output every holds run
