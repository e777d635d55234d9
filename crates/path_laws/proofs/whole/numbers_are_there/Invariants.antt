use Rattle.std.proofs.Common.{ℕ, ◌≡◌, ◌≤◌, true}
use Rattle.path_laws.specs.Graph.{is_directive}
use Rattle.path_laws.proofs.whole.numbers_are_there.Given as goal

abbrev pub invariant-numbers : goal.invariant-numbers
invariant-numbers l = (j : ℕ) → 1 ≤ j → j ≤ l.k → (n : ℕ) × (is_directive l.graph j n ≡ true)
