use Rattle.std.proofs.Common.{◌-◌, ◌*◌, ◌≡◌, ◌≤◌, ◌+◌, ◌++◌, List, ℕ, IsTrue}
use Rattle.disk_model.specs.Store.{file_of}
use Rattle.disk_model.specs.View.{Steady}
use Rattle.parity_store.specs.declared.header.PoolHeader.{PoolHeader}
use Rattle.parity_store.specs.Writing.{IsWriting, Wrote, joined, put_entry}
use Rattle.parity_store.proofs.rewrite.write_job_entries.Given as goal

abbrev pub invariant-loop-i : goal.invariant-loop-i
invariant-loop-i g l = record {
  within : l.i ≤ l.h.jobs;
  file : l.pieces.file ≡ l.fn.pieces.file;
  place : l.pieces.at + l.pieces.held ≤ 16 + 36 * l.i;
  steady : Steady (g.D.Disk.view l.fn.disk) (g.D.Disk.view l.disk);
  counts : (g.D.Disk.view l.disk).faults ≡ (g.D.Disk.view l.fn.disk).faults;
  so_far : IsTrue (g.D.Disk.view l.fn.disk).tells → (h : PoolHeader) (text : List ℕ) → IsWriting l.fn.pieces h (g.D.Disk.view l.fn.disk) text → IsWriting l.pieces h (g.D.Disk.view l.disk) (text ++ joined (put_entry (file_of l.file (g.D.Disk.view l.fn.disk).seen) l.job l.entry) l.i) × Wrote l.fn.pieces.file h (g.D.Disk.view l.fn.disk) (g.D.Disk.view l.disk);
}

abbrev pub decreases-loop-i : goal.decreases-loop-i
decreases-loop-i g l = l.h.jobs - l.i
