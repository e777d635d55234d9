use Rattle.std.proofs.Common.{◌≡◌, ℕ, ◌<◌, ◌≤◌, ◌+◌, ◌-◌}
use Rattle.cell_sets.specs.Runs.{in_runs, IsRising}
use Rattle.cell_sets.proofs.run_list.RunList.fill.Given as goal

abbrev pub invariant-stretches : goal.invariant-stretches
invariant-stretches g l = record {
  within : l.position ≤ l.cells;
  rising : IsRising 0 l.self (l.position + 1);
  so_far : (q : ℕ) → q < l.position → in_runs l.self q ≡ g.T.CellTest.passes l.test q;
}

abbrev pub decreases-stretches : goal.decreases-stretches
decreases-stretches g l = l.cells - l.position
