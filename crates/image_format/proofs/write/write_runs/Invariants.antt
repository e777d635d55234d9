use Rattle.std.proofs.Common.{◌≡◌, ℕ, ◌+◌, ◌++◌, length, drop}
use Rattle.std.specs.List.{flat_map}
use Rattle.cell_sets.specs.Runs.{IsRising}
use Rattle.image_format.specs.Spelling.{run_bytes}
use Rattle.image_format.specs.Written.{filled, size_of_runs, HasWords}
use Rattle.image_format.proofs.write.write_runs.Given as goal

abbrev pub invariant-loop-run : goal.invariant-loop-run
invariant-loop-run l = record {
  rising : (low : ℕ) × IsRising low (drop l.run-index l.runs) 262145;
  cells : (low : ℕ) × IsRising low (drop l.run-index l.runs) (length l.words + 1);
  list : l.out.list ++ flat_map run_bytes (filled l.words (drop l.run-index l.runs)) ≡ l.fn.out.list ++ flat_map run_bytes (filled l.words l.runs);
  spare : l.out.spare + size_of_runs l.runs ≡ l.fn.out.spare + size_of_runs (drop l.run-index l.runs);
  words : HasWords l.words (drop l.run-index l.runs) → HasWords l.words l.runs;
}
