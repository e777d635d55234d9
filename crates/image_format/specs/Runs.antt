-- A run that is read or shown.
use Rattle.std.specs.Prelude.{◌≡◌, ℕ, ◌+◌, ◌*◌, ◌≤◌, List, ◌∷◌, length}
use Rattle.page_frames.specs.Words.{words_of}
use Rattle.image_format.specs.Image.{WordRun}

-- a run that was read from `before` bytes and left `after` of them
pub record IsWithin (least first count after before : ℕ) : Type 0 where
  pub rises : least ≤ first
  pub some : 1 ≤ count
  pub within : first + count ≤ 262144
  pub size : after + 8 + 8 * count ≡ before

-- a run that is shown by its cells and the bytes of its words was the first of these runs, and those are left
pub record Shows (first count : ℕ) (bytes : List ℕ) (before after : List WordRun) : Type 0 where
  pub run : before ≡ record { first = first; words = words_of bytes count } ∷ after
  pub some : 1 ≤ count
  pub within : first + count ≤ 262144
  pub size : length bytes ≡ 8 * count
