use Rattle.ckpt_program.proofs.Looking.{looked_stays}
use Rattle.ckpt_program.proofs.disk_stages.enter_store.Goals as goal

pub returns-in_err-enter-clause-stays : goal.returns-in_err-enter-clause-stays
returns-in_err-enter-clause-stays g c = looked_stays c.enter.result (g.D.Disk.view c.args.disk.now) (g.D.Disk.view c.enter.new.self) (g.met.D.Disk.lawful c.args.disk.now) c.enter.ensures.same

pub returns-clause-stays : goal.returns-clause-stays
returns-clause-stays g c = looked_stays c.enter.result (g.D.Disk.view c.args.disk.now) (g.D.Disk.view c.enter.new.self) (g.met.D.Disk.lawful c.args.disk.now) c.enter.ensures.same
