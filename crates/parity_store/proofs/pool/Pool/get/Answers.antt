use Rattle.std.proofs.Common.{◌≡◌, ◌≤◌, ◌-◌, sym, subst, arith, length, IsTrue}
use Rattle.disk_model.specs.Store.{file_of}
use Rattle.disk_model.proofs.Keeping.{untouched_twice}
use Rattle.parity_store.specs.Layout.{pool_length}
use Rattle.parity_store.specs.OnDisk.{PoolView}
use Rattle.parity_store.proofs.LengthLaws.{stands_length}
use Rattle.parity_store.proofs.SlotLaws.{got_all}
use Rattle.parity_store.proofs.ReadyLaws.{looked_length}
use Rattle.parity_store.proofs.pool.Pool.get.Goals as goal

pub one_lost-requires-clause-whole : goal.one_lost-requires-clause-whole
one_lost-requires-clause-whole g c = λ tells.
    subst (λ (p : PoolView). length (file_of p.file (g.D.Disk.view c.args.disk.now).seen) ≡ pool_length p.header) (sym c.self.view_is) (stands_length c.args.self.now (g.D.Disk.view c.args.disk.now) (c.requires.stands tells))

pub bring-requires-clause-whole : goal.bring-requires-clause-whole
bring-requires-clause-whole g c = λ mid.
    subst (λ (p : PoolView). length (file_of p.file (g.D.Disk.view c.one_lost.new.disk).seen) ≡ pool_length p.header) (sym c.self.view_is) (looked_length c.args.self.now (g.D.Disk.view c.args.disk.now) (g.D.Disk.view c.one_lost.new.disk) c.one_lost.ensures.looked c.requires.stands mid)

pub kept_length-requires-clause-whole : goal.kept_length-requires-clause-whole
kept_length-requires-clause-whole g c = λ end.
    subst (λ (p : PoolView). length (file_of p.file (g.D.Disk.view c.bring.new.disk).seen) ≡ pool_length p.header) (sym c.self.view_is) (looked_length c.args.self.now (g.D.Disk.view c.args.disk.now) (g.D.Disk.view c.bring.new.disk) (untouched_twice _ _ _ c.one_lost.ensures.looked c.bring.ensures.looked) c.requires.stands end)

pub returns-clause-answer : goal.returns-clause-answer
returns-clause-answer g c = rw (← c.self.view_is) (λ tells list k pool i job.
    let h = c.self.inside.header in
    let l1 = c.one_lost.ensures.looked in
    let t1 = subst IsTrue (sym l1.tells) tells in
    let l2 = c.bring.ensures.looked in
    let t2 = subst IsTrue (sym l2.tells) t1 in
    let most = subst (λ (p : PoolView). c.args.job ≤ p.header.jobs) (sym c.self.view_is) c.requires.most in
    got_all k h list c.self.inside.file _ _ _ c.bring.new.slots.read.items (c.args.job - 1) i c.in_ok-n.n c.in_ok-lost.lost (l1.seen tells) (l2.seen t1) pool (c.in_ok-lost.ensures.answer tells) (c.in_ok-bring.ensures.answer t1) (c.in_ok-n.ensures.answer t2) (omega (arith, most, job)) (omega (arith, job)))
