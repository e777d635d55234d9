use Rattle.std.proofs.Common.{ℕ, ◌≡◌, ◌<◌, ◌+◌, false, length}
use Rattle.cell_sets.specs.Sets.{has}
use Rattle.path_laws.specs.Graph.{may_read, may_write, kills}
use Rattle.exclusion_equations.proofs.borders.borders.Given as goal

abbrev pub invariant-nodes : goal.invariant-nodes
invariant-nodes l = record {
  universe : length l.row ≡ l.graph.cells;
  reads : (m q : ℕ) → m < l.n → q + 1 < l.graph.cells → has l.row (q + 1) ≡ false → may_read l.graph m q ≡ may_read l.graph m (q + 1);
  writes : (m q : ℕ) → m < l.n → q + 1 < l.graph.cells → has l.row (q + 1) ≡ false → may_write l.graph m q ≡ may_write l.graph m (q + 1);
  kills : (m q : ℕ) → m < l.n → q + 1 < l.graph.cells → has l.row (q + 1) ≡ false → kills l.graph m q ≡ kills l.graph m (q + 1);
}
