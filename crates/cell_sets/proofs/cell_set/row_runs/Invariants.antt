use Rattle.std.proofs.Common.{◌≡◌, ℕ, ◌<◌, ◌≤◌, ◌+◌, ◌-◌, length}
use Rattle.cell_sets.specs.Sets.{has}
use Rattle.cell_sets.specs.Runs.{in_runs, IsRising}
use Rattle.cell_sets.proofs.cell_set.row_runs.Given as goal

abbrev pub invariant-stretches : goal.invariant-stretches
invariant-stretches l = record {
  within : l.position ≤ length l.row;
  rising : IsRising 0 l.runs.items (l.position + 1);
  so_far : (q : ℕ) → q < l.position → in_runs l.runs.items q ≡ has l.row q;
}

abbrev pub decreases-stretches : goal.decreases-stretches
decreases-stretches l = length l.row - l.position
