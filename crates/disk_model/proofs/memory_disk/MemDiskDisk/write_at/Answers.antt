use Rattle.std.proofs.Common.{sym, subst, ◌≡◌, true}
use Rattle.ckpt_base.specs.Faults.{Counts}
use Rattle.disk_model.specs.Change.{Write}
use Rattle.disk_model.specs.View.{IsRefused}
use Rattle.disk_model.specs.MemoryDisk.{MemoryDisk, view_of, is_refused}
use Rattle.disk_model.proofs.DiskLaws.{refused_looks, refused_fails}
use Rattle.disk_model.proofs.memory_disk.MemDiskDisk.write_at.Goals as goal

pub returns-clause-err : goal.returns-clause-err
returns-clause-err c = λ past.
    let m = c.args.self.now in
    let change = Write c.args.at c.args.bytes.now in
    let refused : is_refused m c.args.file change ≡ true = c.run.ensures.err past in
    let counts = subst (λ (x : MemoryDisk). Counts c.run.result m.faults x.faults) c.run.ensures.state c.run.ensures.answer.counts in
    subst (λ (x : MemoryDisk). IsRefused c.run.result (view_of m) (view_of x)) (sym c.run.ensures.state)
    (record { failed = refused_fails m c.args.file change c.run.result refused c.run.ensures.exact; same = refused_looks m c.args.file change c.run.result refused counts })
