use Rattle.std.proofs.Common.{◌+◌, ◌-◌, ◌≡◌, ◌≤◌, IsTrue, length}
use Rattle.disk_model.specs.Store.{file_of}
use Rattle.disk_model.specs.View.{Steady}
use Rattle.disk_model.specs.Keeps.{Untouched}
use Rattle.parity_store.specs.Layout.{slot_in}
use Rattle.parity_store.specs.Writing.{parity_but}
use Rattle.parity_store.proofs.xor.rebuild.Given as goal

abbrev pub invariant-loop-i : goal.invariant-loop-i
invariant-loop-i g l = record {
  within : l.i ≤ l.h.jobs + 1;
  sizes : (length l.sum ≡ l.h.size) × (length l.slot ≡ l.h.size);
  looked : Untouched (g.D.Disk.view l.fn.disk) (g.D.Disk.view l.disk);
  steady : Steady (g.D.Disk.view l.fn.disk) (g.D.Disk.view l.disk);
  counts : (g.D.Disk.view l.disk).faults ≡ (g.D.Disk.view l.fn.disk).faults;
  so_far : IsTrue (g.D.Disk.view l.fn.disk).tells → l.sum ≡ parity_but l.k l.h.size (slot_in l.h (file_of l.file (g.D.Disk.view l.fn.disk).seen)) l.i;
}

abbrev pub decreases-loop-i : goal.decreases-loop-i
decreases-loop-i g l = l.h.jobs + 1 - l.i
