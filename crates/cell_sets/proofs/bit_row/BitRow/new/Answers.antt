use Rattle.std.proofs.Common.{◌∙◌}
use Rattle.cell_sets.specs.Bits.{bit_of}
use Rattle.cell_sets.proofs.SetLaws.{length-passing, has-passing}
use Rattle.cell_sets.proofs.RowLaws.{at_zero}
use Rattle.cell_sets.proofs.bit_row.BitRow.new.Goals as goal

pub returns-clause-universe : goal.returns-clause-universe
returns-clause-universe c = length-passing (bit_of c.in_ok-words.words.items) c.args.width

pub returns-clause-answer : goal.returns-clause-answer
returns-clause-answer c = λ q.
    has-passing (bit_of c.in_ok-words.words.items) c.args.width q
    (λ b l. at_zero c.in_ok-words.words.items _ b (c.in_ok-words.ensures.items_if_clones_equal (λ y e. e)))
    ∙ at_zero c.in_ok-words.words.items _ q (c.in_ok-words.ensures.items_if_clones_equal (λ y e. e))
