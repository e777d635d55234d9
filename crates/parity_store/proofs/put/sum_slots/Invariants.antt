use Rattle.std.proofs.Common.{length, ◌-◌, ◌≡◌, ◌≤◌, IsTrue}
use Rattle.disk_model.specs.Store.{file_of}
use Rattle.disk_model.specs.View.{Steady}
use Rattle.disk_model.specs.Keeps.{Untouched}
use Rattle.parity_store.specs.Slots.{parity}
use Rattle.parity_store.specs.Writing.{put_slot}
use Rattle.parity_store.proofs.put.sum_slots.Given as goal

abbrev pub invariant-loop-i : goal.invariant-loop-i
invariant-loop-i g l = record {
  within : l.i ≤ l.h.jobs;
  size : length l.slots.read.items ≡ l.h.size;
  kept : l.slots.rebuilt ≡ l.fn.slots.rebuilt;
  looked : Untouched (g.D.Disk.view l.fn.disk) (g.D.Disk.view l.disk);
  steady : Steady (g.D.Disk.view l.fn.disk) (g.D.Disk.view l.disk);
  counts : (g.D.Disk.view l.disk).faults ≡ (g.D.Disk.view l.fn.disk).faults;
  so_far : IsTrue (g.D.Disk.view l.fn.disk).tells → l.slots.parity.items ≡ parity l.h.size (put_slot l.h (file_of l.file (g.D.Disk.view l.fn.disk).seen) l.put.job l.put.bytes.now l.put.lost l.fn.slots.rebuilt.items) l.i;
}

abbrev pub decreases-loop-i : goal.decreases-loop-i
decreases-loop-i g l = l.h.jobs - l.i
