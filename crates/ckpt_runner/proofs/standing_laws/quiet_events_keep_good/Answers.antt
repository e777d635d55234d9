use Rattle.ckpt_runner.proofs.GoodRuns.{quiet_good}
use Rattle.ckpt_runner.proofs.standing_laws.quiet_events_keep_good.Goals as goal

pub returns : goal.returns
returns g c = record { law = λ s o es shown old new silent still none journal frames good. quiet_good s o es shown old new (g.D.Disk.view c.args.disk.now) silent still none journal frames good }
