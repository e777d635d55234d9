use Rattle.std.proofs.Common.{◌-◌, ◌*◌, ◌≡◌, ◌≤◌, ◌+◌, ◌++◌, List, ℕ, IsTrue}
use Rattle.std.specs.Prelude.{replicate}
use Rattle.disk_model.specs.View.{Steady}
use Rattle.parity_store.specs.declared.header.PoolHeader.{PoolHeader}
use Rattle.parity_store.specs.Writing.{IsWriting, Wrote, joined}
use Rattle.parity_store.proofs.make.write_empty_slots.Given as goal

abbrev pub invariant-loop-i : goal.invariant-loop-i
invariant-loop-i g l = record {
  within : l.i ≤ l.jobs + 1;
  file : l.pieces.file ≡ l.fn.pieces.file;
  place : l.pieces.at + l.pieces.held ≤ 700 + 16777216 * l.i;
  steady : Steady (g.D.Disk.view l.fn.disk) (g.D.Disk.view l.disk);
  counts : (g.D.Disk.view l.disk).faults ≡ (g.D.Disk.view l.fn.disk).faults;
  so_far : IsTrue (g.D.Disk.view l.fn.disk).tells → (h : PoolHeader) (text : List ℕ) → IsWriting l.fn.pieces h (g.D.Disk.view l.fn.disk) text → IsWriting l.pieces h (g.D.Disk.view l.disk) (text ++ joined (λ _. replicate l.size 0) l.i) × Wrote l.fn.pieces.file h (g.D.Disk.view l.fn.disk) (g.D.Disk.view l.disk);
}

abbrev pub decreases-loop-i : goal.decreases-loop-i
decreases-loop-i g l = l.jobs + 1 - l.i
