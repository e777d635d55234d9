-- The memory of a checkpoint, kept while the program runs on.
use Rattle.std.specs.Prelude.{◌≡◌, ℕ, ◌/◌, Bool, true, false, List, slice_index}
use Rattle.dirty_pages.specs.Pages.{PageStates, in_snapshot, is_dirty}

-- a page of the snapshot is protected
abbrev pub IsApart : PageStates → Type 0
IsApart pages = (page : ℕ) → in_snapshot pages page ≡ true → is_dirty pages page ≡ false

-- Each page of the image, which takes those pages, has the words of its checkpoint: in its frame as long as it is in the snapshot, and then in its copy.
pub record IsSnapped (takes : ℕ → Bool) (memory : List ℕ) (pages : PageStates) (frames copies : List ℕ) : Type 0 where
  pub marked : (cell : ℕ) → takes (cell / 512) ≡ true → in_snapshot pages (cell / 512) ≡ true → slice_index frames cell ≡ slice_index memory cell
  pub copied : (cell : ℕ) → takes (cell / 512) ≡ true → in_snapshot pages (cell / 512) ≡ false → slice_index copies cell ≡ slice_index memory cell
