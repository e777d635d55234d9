use Rattle.std.proofs.Common.{◌≡◌, ℕ, take, length}
use Rattle.cell_sets.specs.Sets.{has}
use Rattle.cell_sets.specs.Runs.{in_runs}
use Rattle.cell_sets.proofs.bit_row.BitRow.of_runs.Given as goal

abbrev pub invariant-runs : goal.invariant-runs
invariant-runs l = record {
  universe : length l.row ≡ l.width;
  so_far : (q : ℕ) → has l.row q ≡ in_runs (take l.run-index l.runs) q;
}
