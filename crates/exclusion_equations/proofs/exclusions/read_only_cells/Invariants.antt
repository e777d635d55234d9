use Rattle.std.proofs.Common.{ℕ, ◌≡◌, ◌&&◌, not, ltb, length}
use Rattle.cell_sets.specs.Sets.{has}
use Rattle.exclusion_equations.specs.Classes.{class_of}
use Rattle.exclusion_equations.proofs.exclusions.read_only_cells.Given as goal

abbrev pub invariant-cells : goal.invariant-cells
invariant-cells l = record {
  universe : length l.row ≡ l.cells;
  so_far : (q : ℕ) → has l.row q ≡ (ltb q l.c && (has l.spoiled (class_of l.classes q) && not (has l.written (class_of l.classes q))));
}
