use Rattle.std.proofs.Common.{◌≡◌, sym, subst, length}
use Rattle.disk_model.specs.Store.{file_of}
use Rattle.parity_store.specs.Layout.{pool_length}
use Rattle.parity_store.specs.OnDisk.{PoolView}
use Rattle.parity_store.proofs.SlotLaws.{lost_alone}
use Rattle.parity_store.proofs.LengthLaws.{stands_length}
use Rattle.parity_store.proofs.pool.Pool.lost.Goals as goal

pub find_lost-requires-clause-whole : goal.find_lost-requires-clause-whole
find_lost-requires-clause-whole g c = λ tells.
    subst (λ (p : PoolView). length (file_of p.file (g.D.Disk.view c.args.disk.now).seen) ≡ pool_length p.header) (sym c.self.view_is) (stands_length c.args.self.now (g.D.Disk.view c.args.disk.now) (c.requires.stands tells))

pub returns-clause-alone : goal.returns-clause-alone
returns-clause-alone g c = rw (← c.self.view_is) (λ tells list k is.
    lost_alone k c.self.inside.header list (file_of c.self.inside.file (g.D.Disk.view c.args.disk.now).seen) c.in_ok-lost.lost.first c.in_ok-lost.lost.second is (c.in_ok-lost.ensures.answer tells))
