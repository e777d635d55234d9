use Rattle.std.proofs.Common.{ℕ, ◌≡◌, ◌<◌, true}
use Rattle.path_laws.specs.Graph.{is_directive}
use Rattle.path_laws.proofs.whole.numbers_are_apart.Given as goal

abbrev pub invariant-nodes : goal.invariant-nodes
invariant-nodes l = (k i j : ℕ) → i < l.n → j < i → is_directive l.graph k i ≡ true → is_directive l.graph k j ≡ true → ⊥
