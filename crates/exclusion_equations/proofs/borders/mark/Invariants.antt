use Rattle.std.proofs.Common.{ℕ, ◌≡◌, ◌<◌, ◌+◌, false, take, length}
use Rattle.cell_sets.specs.Sets.{has}
use Rattle.cell_sets.specs.Runs.{in_runs}
use Rattle.exclusion_equations.proofs.borders.mark.Given as goal

abbrev pub invariant-runs : goal.invariant-runs
invariant-runs l = record {
  universe : length l.borders ≡ length l.fn.borders;
  kept : (q : ℕ) → has l.borders q ≡ false → has l.fn.borders q ≡ false;
  marked : (q : ℕ) → q + 1 < length l.set → has l.borders (q + 1) ≡ false → in_runs (take l.run-index l.run-items) q ≡ in_runs (take l.run-index l.run-items) (q + 1);
}
