use Rattle.std.proofs.Common.{ℕ, ◌≡◌, ltb}
use Rattle.path_laws.specs.Solving.{listed}
use Rattle.path_laws.proofs.solver.all_nodes.Given as goal

abbrev pub invariant-nodes : goal.invariant-nodes
invariant-nodes l = (k : ℕ) → listed l.all.items k ≡ ltb k l.n
