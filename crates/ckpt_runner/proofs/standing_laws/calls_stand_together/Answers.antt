use Rattle.ckpt_runner.proofs.GoingLaws.{on_then}
use Rattle.ckpt_runner.proofs.StandingThen.{standing_then, images_after}
use Rattle.ckpt_runner.proofs.standing_laws.calls_stand_together.Goals as goal

pub returns-clause-good : goal.returns-clause-good
returns-clause-good g c = λ o es a b d x y. on_then o es a b d (g.D.Disk.view c.args.first.now) (g.D.Disk.view c.args.mid.now) (g.D.Disk.view c.args.last.now) c.requires.tells x y

pub returns-clause-standing : goal.returns-clause-standing
returns-clause-standing g c = λ a b goes x y.
    standing_then a b (g.D.Disk.view c.args.first.now) (g.D.Disk.view c.args.mid.now) (g.D.Disk.view c.args.last.now) (g.met.D.Disk.tells_all c.args.first.now) c.requires.tells goes x y

pub returns-clause-images : goal.returns-clause-images
returns-clause-images g c = λ x y. images_after (g.D.Disk.view c.args.first.now) (g.D.Disk.view c.args.mid.now) (g.D.Disk.view c.args.last.now) (g.met.D.Disk.tells_all c.args.first.now) c.requires.tells x y
