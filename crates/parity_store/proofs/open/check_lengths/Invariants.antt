use Rattle.std.proofs.Common.{◌+◌, ◌-◌, ◌≡◌, ◌≤◌, IsTrue}
use Rattle.disk_model.specs.Store.{file_of}
use Rattle.disk_model.specs.View.{Steady}
use Rattle.disk_model.specs.Keeps.{Untouched}
use Rattle.parity_store.proofs.LengthLaws.{Tested}
use Rattle.parity_store.proofs.open.check_lengths.Given as goal

abbrev pub invariant-loop-i : goal.invariant-loop-i
invariant-loop-i g l = record {
  within : l.i ≤ l.h.jobs + 1;
  looked : Untouched (g.D.Disk.view l.fn.disk) (g.D.Disk.view l.disk);
  steady : Steady (g.D.Disk.view l.fn.disk) (g.D.Disk.view l.disk);
  counts : (g.D.Disk.view l.disk).faults ≡ (g.D.Disk.view l.fn.disk).faults;
  tested : IsTrue (g.D.Disk.view l.fn.disk).tells → Tested l.file l.h (file_of l.file (g.D.Disk.view l.fn.disk).seen) l.i;
}

abbrev pub decreases-loop-i : goal.decreases-loop-i
decreases-loop-i g l = l.h.jobs + 1 - l.i
