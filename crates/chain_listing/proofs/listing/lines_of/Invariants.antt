use Rattle.std.proofs.Common.{◌≡◌, ◌++◌, IsTrue, List, drop, string_bytes}
use Rattle.image_format.specs.Image.{Image}
use Rattle.image_chain.specs.Lists.{Rests}
use Rattle.image_chain.specs.Looking.{OnlyLooked}
use Rattle.chain_listing.specs.Lines.{record_lines}
use Rattle.chain_listing.proofs.listing.lines_of.Given as goal

-- the records that are left give the rest of the text
abbrev pub invariant-records : goal.invariant-records
invariant-records g l = record {
  looked : OnlyLooked (g.D.Disk.view l.fn.disk) (g.D.Disk.view l.disk);
  counts : (g.D.Disk.view l.disk).faults ≡ (g.D.Disk.view l.fn.disk).faults;
  told : IsTrue (g.D.Disk.view l.fn.disk).tells → (rs : List Image) → Rests l.chain (g.D.Disk.view l.fn.disk) rs → string_bytes l.text ++ record_lines (drop l.i rs) ≡ record_lines rs;
}
