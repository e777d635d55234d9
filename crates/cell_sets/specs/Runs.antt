-- Runs of cells, in rising order.
use Rattle.std.specs.Prelude.{ℕ, ◌+◌, ◌<◌, ◌≤◌, Bool, ◌&&◌, nat_le, nat_lt, List, [], ◌∷◌}
use Rattle.std.specs.List.{list_any}
use Rattle.cell_sets.specs.declared.runs.Run.{Run}

-- whether the run has cell q
abbrev pub in_run : Run → ℕ → Bool
in_run r q = nat_le r.first q && nat_lt q (r.first + r.count)

-- whether some run of the list has cell q
abbrev pub in_runs : List Run → ℕ → Bool
in_runs rs q = list_any (λ r. in_run r q) rs

-- the runs rise from `low` on, none is empty, none touches the one after it, and none reaches `high`
abbrev pub IsRising : ℕ → List Run → ℕ → Type 0
IsRising low [] high = low ≤ high
IsRising low (r ∷ rs) high = (low ≤ r.first) × (0 < r.count) × IsRising (r.first + r.count + 1) rs high
