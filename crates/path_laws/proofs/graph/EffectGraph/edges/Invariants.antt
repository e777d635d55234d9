use Rattle.std.proofs.Common.{ℕ, ◌≡◌, ◌&&◌, ltb}
use Rattle.path_laws.specs.Graph.{has_edge}
use Rattle.path_laws.specs.Reaching.{joins}
use Rattle.path_laws.proofs.graph.EffectGraph.edges.Given as goal

abbrev pub invariant-nodes : goal.invariant-nodes
invariant-nodes l = (k m : ℕ) → joins l.all.items k m ≡ (ltb k l.n && has_edge l.self k m)
