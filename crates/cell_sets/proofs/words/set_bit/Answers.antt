use Rattle.std.proofs.Common.{arith}
use Rattle.cell_sets.proofs.BitLaws.{bit_of-set_same, bit_of-set_other}
use Rattle.cell_sets.proofs.words.set_bit.Goals as goal

pub returns-clause-same : goal.returns-clause-same
returns-clause-same c = bit_of-set_same c.args.words.now c.args.b (omega arith)

pub returns-clause-others : goal.returns-clause-others
returns-clause-others c = λ q ne. bit_of-set_other c.args.words.now c.args.b q (omega arith) ne
