use Rattle.std.proofs.Common.{ℕ, ◌≡◌, ◌&&◌, ltb, length}
use Rattle.cell_sets.specs.Sets.{has}
use Rattle.exclusion_equations.specs.Classes.{class_count, first_of}
use Rattle.exclusion_equations.proofs.equations.class_row.Given as goal

abbrev pub invariant-classes : goal.invariant-classes
invariant-classes l = record {
  universe : length l.row ≡ class_count l.classes;
  so_far : (q : ℕ) → has l.row q ≡ (ltb q l.k && has l.set (first_of l.classes q));
}
