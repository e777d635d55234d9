use Rattle.std.proofs.Common.{◌-◌, ◌≡◌, ◌≤◌, ◌+◌, ◌++◌, List, ℕ, IsTrue}
use Rattle.std.specs.Prelude.{replicate}
use Rattle.disk_model.specs.View.{Steady}
use Rattle.parity_store.specs.declared.header.PoolHeader.{PoolHeader}
use Rattle.parity_store.specs.Writing.{IsWriting, Wrote}
use Rattle.parity_store.proofs.make.push_zeros.Given as goal

abbrev pub invariant-loop-done : goal.invariant-loop-done
invariant-loop-done g l = record {
  within : l.done ≤ l.size;
  file : l.pieces.file ≡ l.fn.pieces.file;
  place : l.pieces.at + l.pieces.held ≡ l.fn.pieces.at + l.fn.pieces.held + l.done;
  steady : Steady (g.D.Disk.view l.fn.disk) (g.D.Disk.view l.disk);
  counts : (g.D.Disk.view l.disk).faults ≡ (g.D.Disk.view l.fn.disk).faults;
  so_far : IsTrue (g.D.Disk.view l.fn.disk).tells → (h : PoolHeader) (text : List ℕ) → IsWriting l.fn.pieces h (g.D.Disk.view l.fn.disk) text → IsWriting l.pieces h (g.D.Disk.view l.disk) (text ++ replicate l.done 0) × Wrote l.fn.pieces.file h (g.D.Disk.view l.fn.disk) (g.D.Disk.view l.disk);
}

abbrev pub decreases-loop-done : goal.decreases-loop-done
decreases-loop-done g l = l.size - l.done
