use Rattle.ckpt_runner.proofs.GoodStarts.{begun_moments, begun_good}
use Rattle.ckpt_runner.proofs.standing_laws.begun_lives_are_good.Goals as goal

pub returns-clause-moments : goal.returns-clause-moments
returns-clause-moments g c = λ s run. begun_moments s (g.D.Disk.view c.args.before.now) (g.D.Disk.view c.args.after.now) run

pub returns-clause-good : goal.returns-clause-good
returns-clause-good g c = λ s code marks every input m new of same holds run.
    begun_good s code marks every input m new (g.D.Disk.view c.args.before.now) (g.D.Disk.view c.args.after.now) c.requires.told of same holds run
