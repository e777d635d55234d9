-- Cells that no walk wants.
use Rattle.std.specs.Prelude.{ℕ, List, ◌∷◌}
use Rattle.path_laws.specs.Graph.{Graph, may_read, kills}
use Rattle.path_laws.specs.Walks.{IsWalk}
use Rattle.path_laws.specs.Reaching.{Until}

-- the last node of n ∷ w may read c, and no node before it kills c
abbrev pub ReadsUnkilled : Graph → ℕ → ℕ → List ℕ → Type 0
ReadsUnkilled g c n w = Until (λ k. may_read g k c) (λ k. kills g k c) n w

-- no walk that leaves n reaches a node that may read c with no node before it that kills c, where n itself is not counted
abbrev pub IsForgettable : Graph → ℕ → ℕ → Type 0
IsForgettable g c n = (m : ℕ) (w : List ℕ) → IsWalk g (n ∷ m ∷ w) → ReadsUnkilled g c m w → ⊥
