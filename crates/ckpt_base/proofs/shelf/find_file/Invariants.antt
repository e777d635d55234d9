use Rattle.std.proofs.Common.{◌≡◌, ◌+◌, ℕ, length}
use Rattle.ckpt_base.specs.Shelf.{file_named}
use Rattle.ckpt_base.specs.ShelfFiles.{files_of, bytes_at}
use Rattle.ckpt_base.proofs.shelf.find_file.Given as goal

abbrev pub invariant-files : goal.invariant-files
invariant-files l = record {
  index : l.i + length l.left ≡ length l.fn.files;
  same : file_named (files_of l.fn.files) l.name ≡ file_named (files_of l.left) l.name;
  behind : (k : ℕ) → bytes_at l.left k ≡ bytes_at l.fn.files (l.i + k);
}

abbrev pub decreases-files : goal.decreases-files
decreases-files l = length l.left
