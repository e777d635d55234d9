use Rattle.ckpt_runner.proofs.OverServed.{over_served}
use Rattle.ckpt_runner.proofs.laws.lives_go_on.Goals as goal

pub returns : goal.returns
returns c = record { law = λ o es old t n pages answer fits few lives r. over_served o es old answer t n pages fits few lives r }
