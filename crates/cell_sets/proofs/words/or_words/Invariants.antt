use Rattle.std.proofs.Common.{◌≡◌, ℕ, ◌<◌, ◌≤◌, get_or, bit_or, true, false}
use Rattle.cell_sets.specs.Bits.{bit_of}
use Rattle.cell_sets.proofs.words.or_words.Given as goal

abbrev pub invariant-words : goal.invariant-words
invariant-words l = record {
  done : (k : ℕ) → k < l.i → get_or l.words k 0 ≡ bit_or (get_or l.fn.words k 0) (get_or l.fn.other k 0);
  left : (k : ℕ) → l.i ≤ k → get_or l.words k 0 ≡ get_or l.fn.words k 0;
  some : l.added ≡ true → (q : ℕ) × ((bit_of l.fn.other q ≡ true) × (bit_of l.fn.words q ≡ false));
  none : l.added ≡ false → (k : ℕ) → k < l.i → get_or l.words k 0 ≡ get_or l.fn.words k 0;
}
