use Rattle.std.proofs.Common.{length, ◌-◌, ◌≡◌, ◌≤◌, ◌+◌, ◌++◌, List, ℕ, take, IsTrue}
use Rattle.disk_model.specs.View.{Steady}
use Rattle.parity_store.specs.declared.header.PoolHeader.{PoolHeader}
use Rattle.parity_store.specs.Writing.{IsWriting, Wrote}
use Rattle.parity_store.proofs.piece.Pieces.push.Given as goal

abbrev pub invariant-loop-done : goal.invariant-loop-done
invariant-loop-done g l = record {
  within : l.done ≤ length l.bytes;
  file : l.self.file ≡ l.fn.self.file;
  place : l.self.at + l.self.held ≡ l.fn.self.at + l.fn.self.held + l.done;
  steady : Steady (g.D.Disk.view l.fn.disk) (g.D.Disk.view l.disk);
  counts : (g.D.Disk.view l.disk).faults ≡ (g.D.Disk.view l.fn.disk).faults;
  so_far : IsTrue (g.D.Disk.view l.fn.disk).tells → (h : PoolHeader) (text : List ℕ) → IsWriting l.fn.self h (g.D.Disk.view l.fn.disk) text → IsWriting l.self h (g.D.Disk.view l.disk) (text ++ take l.done l.bytes) × Wrote l.fn.self.file h (g.D.Disk.view l.fn.disk) (g.D.Disk.view l.disk);
}

abbrev pub decreases-loop-done : goal.decreases-loop-done
decreases-loop-done g l = length l.bytes - l.done
