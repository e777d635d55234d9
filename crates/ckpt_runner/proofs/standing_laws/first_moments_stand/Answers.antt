use Rattle.std.proofs.Common.{[]}
use Rattle.ckpt_runner.proofs.GoingLaws.{on_first}
use Rattle.ckpt_runner.proofs.StandingThen.{standing_first, images_first}
use Rattle.ckpt_runner.proofs.standing_laws.first_moments_stand.Goals as goal

pub returns-clause-good : goal.returns-clause-good
returns-clause-good g c = λ o es life lives. on_first o es life (g.D.Disk.view c.args.disk.now) lives

pub returns-clause-standing : goal.returns-clause-standing
returns-clause-standing g c = λ life. standing_first [] life (g.D.Disk.view c.args.disk.now) (g.met.D.Disk.lawful c.args.disk.now) (g.met.D.Disk.tells_all c.args.disk.now)

pub returns-clause-images : goal.returns-clause-images
returns-clause-images g c = images_first (g.D.Disk.view c.args.disk.now) (g.met.D.Disk.lawful c.args.disk.now) (g.met.D.Disk.tells_all c.args.disk.now)
