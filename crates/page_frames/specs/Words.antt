-- Words and their bytes.
use Rattle.std.specs.Prelude.{ℕ, zero, suc, ◌+◌, ◌*◌, List, [], ◌∷◌, slice_index, replicate}
use Rattle.std.specs.Int.{w64, from_be_bytes}

-- the eight bytes from place a on
abbrev pub eight : List ℕ → ℕ → List ℕ
eight bs a = slice_index bs a ∷ slice_index bs (a + 1) ∷ slice_index bs (a + 2) ∷ slice_index bs (a + 3) ∷ slice_index bs (a + 4) ∷ slice_index bs (a + 5) ∷ slice_index bs (a + 6) ∷ slice_index bs (a + 7) ∷ []

-- the word of cell c: its eight bytes as one number, the highest first
unfoldable pub word_at : List ℕ → ℕ → ℕ
word_at bytes c = from_be_bytes w64 (eight bytes (c * 8))

-- the words of n cells from cell c on
abbrev pub words_from : List ℕ → ℕ → ℕ → List ℕ
words_from bytes c zero = []
words_from bytes c (suc n) = word_at bytes c ∷ words_from bytes (c + 1) n

-- the words of the first n cells
abbrev pub words_of : List ℕ → ℕ → List ℕ
words_of bytes n = words_from bytes 0 n

-- the word each of whose bytes is b
abbrev pub fill_word : ℕ → ℕ
fill_word b = from_be_bytes w64 (replicate 8 b)
