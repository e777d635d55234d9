use Rattle.std.proofs.Common.{ℕ, ◌≡◌, ◌<◌, length, true}
use Rattle.path_laws.specs.Graph.{has_edge}
use Rattle.path_laws.proofs.whole.edges_are_in.Given as goal

abbrev pub invariant-nodes : goal.invariant-nodes
invariant-nodes l = (j m : ℕ) → j < l.n → has_edge l.graph j m ≡ true → m < length l.graph.nodes
