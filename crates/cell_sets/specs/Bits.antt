-- Bits in words of 64.
use Rattle.std.specs.Prelude.{ℕ, ◌+◌, ◌/◌, ◌%◌, ◌≤◌, ◌≡◌, Bool, false, ◌==◌, List, slice_index, length}
use Rattle.std.specs.Int.{bit_at}

-- bit b of the words, the lowest bit of the first word counted as 0
abbrev pub bit_of : List ℕ → ℕ → Bool
bit_of words b = bit_at (slice_index words (b / 64)) (b % 64) == 1

-- as many words as the width needs, and no bit from the width on
pub record IsRow (width : ℕ) (words : List ℕ) : Type 0 where
  pub words_needed : length words ≡ (width + 63) / 64
  pub none_above : (b : ℕ) → width ≤ b → bit_of words b ≡ false
