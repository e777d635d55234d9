use Rattle.std.proofs.Common.{ℕ, ◌≡◌, ◌<◌, ◌+◌, length, get_or, []}
use Rattle.exclusion_equations.specs.Excluded.{IsDead, IsReadOnly, IsExactly}
use Rattle.exclusion_equations.proofs.exclusions.collect.Given as goal

abbrev pub invariant-numbers : goal.invariant-numbers
invariant-numbers l = record {
  dead_len : length l.dead.items ≡ l.k;
  read_only_len : length l.read_only.items ≡ l.k;
  dead_so_far : (j : ℕ) → j < l.k → IsExactly l.graph.cells (IsDead l.graph (j + 1)) (get_or l.dead.items j []);
  read_only_so_far : (j : ℕ) → j < l.k → IsExactly l.graph.cells (IsReadOnly l.graph (j + 1)) (get_or l.read_only.items j []);
}
