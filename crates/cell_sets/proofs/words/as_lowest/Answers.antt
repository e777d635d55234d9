use Rattle.std.proofs.Common.{arith, ◌∙◌, sym}
use Rattle.std.proofs.lemmas.Nat.Bits.{bit_at_lowest}
use Rattle.cell_sets.proofs.BitRuns.{below_lowest_one, below_lowest_zero, ends_in_one, ends_in_zero, ones_counted, zeros_counted}
use Rattle.cell_sets.proofs.words.as_lowest.Goals as goal

pub returns-then-word-eq1-clause-some : goal.returns-then-word-eq1-clause-some
returns-then-word-eq1-clause-some c = omega (arith, ones_counted c.args.word c.ranges.word.fits (ends_in_one c.args.word c.if-word-eq1.true), c.trailing_ones.ensures)

pub returns-then-word-eq1-clause-same : goal.returns-then-word-eq1-clause-same
returns-then-word-eq1-clause-same c = λ k l m.
    below_lowest_zero c.args.word k c.ranges.word.fits (omega (arith, c.trailing_ones.ensures)) m ∙ sym (bit_at_lowest c.args.word ∙ ends_in_one c.args.word c.if-word-eq1.true)

pub returns-else-word-eq1-clause-some : goal.returns-else-word-eq1-clause-some
returns-else-word-eq1-clause-some c = zeros_counted c.args.word c.ranges.word.fits (ends_in_zero c.args.word c.if-word-eq1.false)

pub returns-else-word-eq1-clause-same : goal.returns-else-word-eq1-clause-same
returns-else-word-eq1-clause-same c = λ k l m.
    below_lowest_one c.args.word k c.ranges.word.fits l ∙ sym (bit_at_lowest c.args.word ∙ ends_in_zero c.args.word c.if-word-eq1.false)
