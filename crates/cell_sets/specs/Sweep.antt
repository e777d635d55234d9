-- Two lists of runs, swept from left to right.
use Rattle.std.specs.Prelude.{ℕ, ◌+◌, ◌<◌, ◌≤◌, Bool, ◌&&◌, ◌||◌, not, List, [], ◌∷◌}
use Rattle.cell_sets.specs.declared.sweep.Operation.{Operation}
use Rattle.cell_sets.specs.declared.sweep.Operation.TheVariants.{Union, Minus}
use Rattle.cell_sets.specs.declared.runs.Run.{Run}

-- whether an operation keeps a cell, by whether it is in the one set and in the other
abbrev pub kept : Operation → Bool → Bool → Bool
kept Union x y = x || y
kept Minus x y = x && not y

-- the first run, if there is one, ends past `position`
abbrev pub IsAhead : ℕ → List Run → Type 0
IsAhead position [] = Unit {0}
IsAhead position (r ∷ rs) = position < r.first + r.count

-- the first run, if there is one, does not end before `position`
abbrev pub IsNear : ℕ → List Run → Type 0
IsNear position [] = Unit {0}
IsNear position (r ∷ rs) = position ≤ r.first + r.count
