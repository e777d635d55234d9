use Rattle.std.proofs.Common.{◌≡◌, ℕ, length}
use Rattle.std.specs.Option.{option_or}
use Rattle.image_format.specs.Image.{AreRuns, word_in_runs}
use Rattle.image_chain.specs.Memory.{joined, kept_word}
use Rattle.image_chain.proofs.kept.add_runs.Given as goal

abbrev pub invariant-loop-run : goal.invariant-loop-run
invariant-loop-run l = record {
  rising : (low : ℕ) × AreRuns low l.run-iterator;
  size : length l.words ≡ length l.fn.words;
  so_far : (cell : ℕ) → option_or (word_in_runs l.run-iterator cell) (kept_word (joined l.words l.listed) cell) ≡ option_or (word_in_runs l.view.runs cell) (kept_word (joined l.fn.words l.fn.listed) cell);
}
