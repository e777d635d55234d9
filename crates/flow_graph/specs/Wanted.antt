-- Cells that some walk wants.
use Rattle.std.specs.Prelude.{ℕ, List}
use Rattle.path_laws.specs.Graph.{Graph}
use Rattle.path_laws.specs.Walks.{IsWalkFrom}
use Rattle.path_laws.specs.Forgettable.{ReadsUnkilled}

-- cell c is wanted before node n: some walk that begins at n comes to a node that may read c, n itself counted, with no node before it that kills c
abbrev pub IsWanted : Graph → ℕ → ℕ → Type 0
IsWanted g c n = (w : List ℕ) × IsWalkFrom g n w × ReadsUnkilled g c n w
