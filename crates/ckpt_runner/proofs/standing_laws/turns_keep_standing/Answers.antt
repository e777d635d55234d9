use Rattle.ckpt_runner.proofs.StandingThen.{turn_stands}
use Rattle.ckpt_runner.proofs.standing_laws.turns_keep_standing.Goals as goal

pub returns : goal.returns
returns g c = record { law = λ old t n pages answer fits few r serves. turn_stands old answer t n pages (g.D.Disk.view c.args.before.now) (g.D.Disk.view c.args.after.now) fits few r serves }
