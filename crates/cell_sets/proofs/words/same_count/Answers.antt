use Rattle.std.proofs.Common.{arith}
use Rattle.cell_sets.proofs.BitRuns.{same_in_word}
use Rattle.cell_sets.proofs.words.same_count.Goals as goal

pub returns-clause-same : goal.returns-clause-same
returns-clause-same c = same_in_word c.args.words.now c.args.b c.min.result (omega (arith, c.min.ensures)) (λ k l. c.as_lowest.ensures.same k (omega (arith, c.min.ensures)) (omega (arith, c.min.ensures)))
