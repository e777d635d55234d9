use Rattle.ckpt_runner.proofs.GoodTaking.{images_begun, images_resumed}
use Rattle.ckpt_runner.proofs.standing_laws.beginnings_lose_no_image.Goals as goal

pub returns-clause-begun : goal.returns-clause-begun
returns-clause-begun g c = λ none. images_begun (g.D.Disk.view c.args.before.now) (g.D.Disk.view c.args.after.now) (g.met.D.Disk.lawful c.args.before.now) none

pub returns-clause-resumed : goal.returns-clause-resumed
returns-clause-resumed g c = λ n chain rs rest run. images_resumed n chain rs (g.D.Disk.view c.args.before.now) (g.D.Disk.view c.args.after.now) rest run
