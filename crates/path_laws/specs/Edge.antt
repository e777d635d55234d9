-- One edge, if it is there.
use Rattle.std.specs.Prelude.{ℕ, Bool, false, ◌==◌, Option, Some, None}

-- whether the edge is there and goes to m
abbrev pub is_at : Option ℕ → ℕ → Bool
is_at None m = false
is_at (Some k) m = k == m
