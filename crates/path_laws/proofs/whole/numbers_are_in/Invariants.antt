use Rattle.std.proofs.Common.{ℕ, ◌≡◌, ◌<◌, ◌≤◌, true}
use Rattle.path_laws.specs.Graph.{is_directive, exclude_count}
use Rattle.path_laws.proofs.whole.numbers_are_in.Given as goal

abbrev pub invariant-nodes : goal.invariant-nodes
invariant-nodes l = (k j : ℕ) → j < l.n → is_directive l.graph k j ≡ true → (1 ≤ k) × (k ≤ exclude_count l.graph)
