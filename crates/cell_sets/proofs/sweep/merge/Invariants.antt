use Rattle.std.proofs.Common.{◌≡◌, ℕ, ◌+◌, ◌-◌, ◌<◌, ◌≤◌}
use Rattle.cell_sets.specs.Runs.{in_runs, IsRising}
use Rattle.cell_sets.specs.Sweep.{IsAhead, kept}
use Rattle.cell_sets.proofs.sweep.merge.Given as goal

abbrev pub invariant-cells : goal.invariant-cells
invariant-cells l = record {
  within : l.position ≤ l.universe;
  out_rising : IsRising 0 l.out.items (l.position + 1);
  so_far : (q : ℕ) → q < l.position → in_runs l.out.items q ≡ kept l.operation (in_runs l.fn.a q) (in_runs l.fn.b q);
  left_rising : (low : ℕ) × IsRising low l.left (l.universe + 1);
  left_ahead : IsAhead l.position l.left;
  left_same : (q : ℕ) → l.position ≤ q → in_runs l.left q ≡ in_runs l.fn.a q;
  right_rising : (low : ℕ) × IsRising low l.right (l.universe + 1);
  right_ahead : IsAhead l.position l.right;
  right_same : (q : ℕ) → l.position ≤ q → in_runs l.right q ≡ in_runs l.fn.b q;
}

abbrev pub decreases-cells : goal.decreases-cells
decreases-cells l = l.universe - l.position
