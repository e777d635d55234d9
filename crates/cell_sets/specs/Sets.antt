-- A set of numbers below a universe.
use Rattle.std.specs.Prelude.{ℕ, Bool, false, List, [], ◌∷◌, ◌++◌, length, slice_index_or, zero, suc}

-- for each number below the universe, whether it is in the set
abbrev pub Cells : Type 0
Cells = List Bool

-- the number that all members are below
abbrev pub universe_of : Cells → ℕ
universe_of s = length s

-- whether q is in the set; no number from the universe on is
abbrev pub has : Cells → ℕ → Bool
has s q = slice_index_or s q false

-- the set of the numbers below `universe` that pass the test
unfoldable pub passing : (ℕ → Bool) → ℕ → Cells
passing test zero = []
passing test (suc universe) = passing test universe ++ test universe ∷ []
