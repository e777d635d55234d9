use Rattle.std.proofs.Common.{◌≤◌, sym, subst}
use Rattle.disk_model.specs.View.{Looks}
use Rattle.disk_model.specs.MemoryDisk.{MemoryDisk, view_of}
use Rattle.disk_model.proofs.DiskLaws.{looks_law}
use Rattle.disk_model.proofs.memory_disk.MemDiskDisk.enter.Goals as goal

pub returns-clause-same : goal.returns-clause-same
returns-clause-same c = subst (λ (x : MemoryDisk). Looks c.count_look.result (view_of c.args.self.now) (view_of x)) (sym c.count_look.ensures.state) (looks_law c.args.self.now c.count_look.result c.count_look.ensures.exact (subst (λ (x : MemoryDisk). c.args.self.now.faults ≤ x.faults) c.count_look.ensures.state c.count_look.ensures.rises))
