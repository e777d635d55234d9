use Rattle.std.proofs.Common.{ℕ, ◌≡◌, ◌<◌, false}
use Rattle.path_laws.specs.Graph.{is_directive}
use Rattle.exclusion_reason.proofs.reason.node_of.Given as goal

abbrev pub invariant-nodes : goal.invariant-nodes
invariant-nodes l = (j : ℕ) → j < l.n → is_directive l.graph l.k j ≡ false
