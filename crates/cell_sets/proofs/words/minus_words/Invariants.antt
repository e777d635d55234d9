use Rattle.std.proofs.Common.{◌≡◌, ℕ, ◌<◌, ◌≤◌, get_or, bit_and, w64}
use Rattle.std.specs.Int.{bit_not}
use Rattle.cell_sets.proofs.words.minus_words.Given as goal

abbrev pub invariant-words : goal.invariant-words
invariant-words l = record {
  done : (k : ℕ) → k < l.i → get_or l.words k 0 ≡ bit_and (get_or l.fn.words k 0) (bit_not w64 (get_or l.fn.other k 0));
  left : (k : ℕ) → l.i ≤ k → get_or l.words k 0 ≡ get_or l.fn.words k 0;
}
