use Rattle.std.proofs.Common.{◌≡◌, ◌-◌, ◌≤◌, length, IsTrue, List}
use Rattle.std.specs.Prelude.{slice_index}
use Rattle.disk_model.specs.Store.{file_of}
use Rattle.image_format.specs.Image.{Image}
use Rattle.image_format.specs.Spelling.{is_open}
use Rattle.image_chain.specs.Sound.{HasNewest}
use Rattle.image_chain.specs.Append.{header_of}
use Rattle.image_chain.specs.Looking.{OnlyLooked}
use Rattle.image_chain.specs.Walk.{Walked}
use Rattle.image_chain.proofs.open.walk.Given as goal

abbrev pub invariant-loop-open : goal.invariant-loop-open
invariant-loop-open g l = record {
  header : header_of l.current ≡ header_of l.fn.current;
  file : l.current.file ≡ l.fn.current.file;
  newest : HasNewest l.current.newest;
  some : 1 ≤ l.current.count;
  looked : OnlyLooked (g.D.Disk.view l.fn.disk) (g.D.Disk.view l.disk);
  counts : (g.D.Disk.view l.disk).faults ≡ (g.D.Disk.view l.fn.disk).faults;
  walked : IsTrue (g.D.Disk.view l.fn.disk).tells → (rs : List Image) × Walked l.current l.kept rs (file_of l.fn.current.file (g.D.Disk.view l.fn.disk).seen) × (is_open (slice_index (file_of l.fn.current.file (g.D.Disk.view l.fn.disk).seen) l.current.gate) ≡ l.open) × (1 ≤ length rs);
}

abbrev pub decreases-loop-open : goal.decreases-loop-open
decreases-loop-open g l = l.current.max - l.current.count
