use Rattle.std.proofs.Common.{rules, ◌≤◌, sym, subst}
use Rattle.disk_model.specs.View.{Looks}
use Rattle.disk_model.specs.MemoryDisk.{MemoryDisk, view_of, call_fails, FailsExactly}
use Rattle.disk_model.proofs.DiskLaws.{looks_law}
use Rattle.disk_model.proofs.memory_disk.MemDiskDisk.length.Goals as goal

pub returns-in_err-count_look-clause-same : goal.returns-in_err-count_look-clause-same
returns-in_err-count_look-clause-same c =
    let exact : FailsExactly (call_fails c.args.self.now) c.from_residual.result = search rules in
    subst (λ (x : MemoryDisk). Looks c.from_residual.result (view_of c.args.self.now) (view_of x)) (sym c.count_look.ensures.state) (looks_law c.args.self.now c.from_residual.result exact (subst (λ (x : MemoryDisk). c.args.self.now.faults ≤ x.faults) c.count_look.ensures.state c.count_look.ensures.rises))
