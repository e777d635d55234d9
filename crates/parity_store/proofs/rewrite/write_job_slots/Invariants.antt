use Rattle.std.proofs.Common.{length, ◌-◌, ◌*◌, ◌≡◌, ◌≤◌, ◌+◌, ◌++◌, List, ℕ, IsTrue}
use Rattle.disk_model.specs.Store.{file_of}
use Rattle.disk_model.specs.View.{Steady}
use Rattle.parity_store.specs.declared.header.PoolHeader.{PoolHeader}
use Rattle.parity_store.specs.Writing.{IsWriting, Wrote, joined, put_slot}
use Rattle.parity_store.proofs.rewrite.write_job_slots.Given as goal

abbrev pub invariant-loop-i : goal.invariant-loop-i
invariant-loop-i g l = record {
  within : l.i ≤ l.h.jobs;
  file : l.pieces.file ≡ l.fn.pieces.file;
  place : l.pieces.at + l.pieces.held ≤ 700 + 16777216 * l.i;
  size : length l.slots.read.items ≡ l.h.size;
  kept : (l.slots.rebuilt ≡ l.fn.slots.rebuilt) × (l.slots.parity ≡ l.fn.slots.parity);
  steady : Steady (g.D.Disk.view l.fn.disk) (g.D.Disk.view l.disk);
  counts : (g.D.Disk.view l.disk).faults ≡ (g.D.Disk.view l.fn.disk).faults;
  so_far : IsTrue (g.D.Disk.view l.fn.disk).tells → (h : PoolHeader) (text : List ℕ) → IsWriting l.fn.pieces h (g.D.Disk.view l.fn.disk) text → IsWriting l.pieces h (g.D.Disk.view l.disk) (text ++ joined (put_slot l.h (file_of l.file (g.D.Disk.view l.fn.disk).seen) l.put.job l.put.bytes.now l.put.lost l.fn.slots.rebuilt.items) l.i) × Wrote l.fn.pieces.file h (g.D.Disk.view l.fn.disk) (g.D.Disk.view l.disk);
}

abbrev pub decreases-loop-i : goal.decreases-loop-i
decreases-loop-i g l = l.h.jobs - l.i
