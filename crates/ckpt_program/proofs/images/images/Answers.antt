use Rattle.ckpt_program.proofs.Looking.{stays_twice}
use Rattle.ckpt_program.proofs.images.images.Goals as goal

pub returns-in_err-text-clause-stays : goal.returns-in_err-text-clause-stays
returns-in_err-text-clause-stays g c = stays_twice (g.D.Disk.view c.args.disk.now) (g.D.Disk.view c.enter_store.new.disk) (g.D.Disk.view c.list_store.new.disk) c.enter_store.ensures.stays c.list_store.ensures.stays

pub returns-clause-stays : goal.returns-clause-stays
returns-clause-stays g c = stays_twice (g.D.Disk.view c.args.disk.now) (g.D.Disk.view c.enter_store.new.disk) (g.D.Disk.view c.list_store.new.disk) c.enter_store.ensures.stays c.list_store.ensures.stays
