use Rattle.std.proofs.Common.{◌+◌, ◌-◌, ◌≡◌, ◌≤◌, ◌<◌, ℕ, IsTrue, length}
use Rattle.disk_model.specs.Store.{file_of}
use Rattle.disk_model.specs.View.{Steady}
use Rattle.disk_model.specs.Keeps.{Untouched}
use Rattle.parity_store.specs.Slots.{Matches}
use Rattle.parity_store.proofs.lost.next_lost.Given as goal

abbrev pub invariant-loop-i : goal.invariant-loop-i
invariant-loop-i g l = record {
  least : l.fn.from ≤ l.i;
  within : l.i ≤ l.h.jobs + 1;
  size : length l.slot ≡ l.h.size;
  looked : Untouched (g.D.Disk.view l.fn.disk) (g.D.Disk.view l.disk);
  steady : Steady (g.D.Disk.view l.fn.disk) (g.D.Disk.view l.disk);
  counts : (g.D.Disk.view l.disk).faults ≡ (g.D.Disk.view l.fn.disk).faults;
  matched : IsTrue (g.D.Disk.view l.fn.disk).tells → (j : ℕ) → l.fn.from ≤ j → j < l.i → Matches l.h (file_of l.file (g.D.Disk.view l.fn.disk).seen) j;
}

abbrev pub decreases-loop-i : goal.decreases-loop-i
decreases-loop-i g l = l.h.jobs + 1 - l.i
