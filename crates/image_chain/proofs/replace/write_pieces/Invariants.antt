use Rattle.std.proofs.Common.{◌≡◌, ◌≤◌, ◌-◌, IsTrue, List, [], length, take}
use Rattle.disk_model.specs.declared.disk_file.DiskFile.TheVariants.{Output}
use Rattle.disk_model.specs.View.{SameFile, Steady}
use Rattle.disk_model.specs.Moments.{Among, LeavesOnly}
use Rattle.image_format.specs.Image.{Image}
use Rattle.image_chain.specs.Replace.{IsBegun, IsWritten}
use Rattle.image_chain.proofs.replace.write_pieces.Given as goal

abbrev pub invariant-loop-from : goal.invariant-loop-from
invariant-loop-from g l = record {
  inside : l.from ≤ length l.image;
  steady : Steady (g.D.Disk.view l.fn.disk) (g.D.Disk.view l.disk);
  counts : (g.D.Disk.view l.disk).faults ≡ (g.D.Disk.view l.fn.disk).faults;
  output : IsTrue (g.D.Disk.view l.fn.disk).tells → SameFile Output (g.D.Disk.view l.fn.disk) (g.D.Disk.view l.disk);
  so_far : IsTrue (g.D.Disk.view l.fn.disk).tells → (rs : List Image) → IsWritten l.chain (g.D.Disk.view l.fn.disk) rs [] → IsWritten l.chain (g.D.Disk.view l.disk) rs (take l.from l.image) × LeavesOnly (g.D.Disk.view l.fn.disk) (g.D.Disk.view l.disk) (Among (g.D.Disk.view l.fn.disk).may_leave (IsBegun l.chain rs));
}

abbrev pub decreases-loop-from : goal.decreases-loop-from
decreases-loop-from g l = length l.image - l.from
