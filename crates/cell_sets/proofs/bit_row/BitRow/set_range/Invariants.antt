use Rattle.std.proofs.Common.{◌≡◌, ℕ, ◌||◌, ◌&&◌, leb, ltb, length}
use Rattle.cell_sets.specs.Sets.{has}
use Rattle.cell_sets.proofs.bit_row.BitRow.set_range.Given as goal

abbrev pub invariant-numbers : goal.invariant-numbers
invariant-numbers l = record {
  universe : length l.self ≡ length l.fn.self;
  so_far : (q : ℕ) → has l.self q ≡ (has l.fn.self q || (leb l.first q && ltb q l.b));
}
