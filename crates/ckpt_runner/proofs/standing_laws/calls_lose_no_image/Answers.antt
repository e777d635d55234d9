use Rattle.ckpt_runner.proofs.GoodTaking.{images_beside, images_joined, images_saved}
use Rattle.ckpt_runner.proofs.standing_laws.calls_lose_no_image.Goals as goal

pub returns-clause-output : goal.returns-clause-output
returns-clause-output g c = λ old run. images_beside old (g.D.Disk.view c.args.before.now) (g.D.Disk.view c.args.after.now) run

pub returns-clause-joined : goal.returns-clause-joined
returns-clause-joined g c = λ old fits run. images_joined old (g.D.Disk.view c.args.before.now) (g.D.Disk.view c.args.after.now) fits run

pub returns-clause-saved : goal.returns-clause-saved
returns-clause-saved g c = λ old r fits follows run. images_saved old r (g.D.Disk.view c.args.before.now) (g.D.Disk.view c.args.after.now) fits follows run
