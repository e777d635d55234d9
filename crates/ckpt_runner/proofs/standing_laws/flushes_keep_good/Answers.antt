use Rattle.ckpt_runner.proofs.GoodCalls.{flush_good}
use Rattle.ckpt_runner.proofs.standing_laws.flushes_keep_good.Goals as goal

pub returns : goal.returns
returns g c = record {
  law = λ s o es old new m chain all holds run good.
      flush_good s o es old new m (g.D.Disk.view c.args.before.now) (g.D.Disk.view c.args.after.now) c.requires.told chain all holds run good;
}
