-- The pages of a memory that is seen as a list of words.
use Rattle.std.specs.Prelude.{◌≡◌, ◌≢◌, ◌≤◌, ◌<◌, ◌⊎◌, ℕ, ◌+◌, ◌*◌, ◌/◌, List, length, slice_index, slice_range}
use Rattle.std.specs.Int.{w64, to_be_bytes}
use Rattle.std.specs.List.{flat_map}

-- the memory has a page p
abbrev pub HasPage : List ℕ → ℕ → Type 0
HasPage words p = 512 * p + 512 ≤ length words

-- the 512 words of page p
abbrev pub page_words : List ℕ → ℕ → List ℕ
page_words words p = slice_range words (512 * p) (512 * p + 512)

-- the 4,096 bytes of page p: those of its words, of each the highest first
abbrev pub frame_bytes : List ℕ → ℕ → List ℕ
frame_bytes words p = flat_map (to_be_bytes w64) (page_words words p)

-- every page other than p is the same
abbrev pub SameElsewhere : ℕ → List ℕ → List ℕ → Type 0
SameElsewhere p old new = (c : ℕ) → c / 512 ≢ p → slice_index new c ≡ slice_index old c

-- the cell is none of the n cells from the first on
abbrev pub IsElsewhere : (first n c : ℕ) → Type 0
IsElsewhere first n c = (c < first) ⊎ (first + n ≤ c)
