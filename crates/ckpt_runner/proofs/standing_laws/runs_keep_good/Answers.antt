use Rattle.ckpt_runner.proofs.GoodRuns.{run_good}
use Rattle.ckpt_runner.proofs.standing_laws.runs_keep_good.Goals as goal

pub returns : goal.returns
returns g c = record { law = λ s o es old t n pages a fits few lives r good. run_good s o es old a t n pages (g.D.Disk.view c.args.disk.now) fits few lives r good }
