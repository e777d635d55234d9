use Rattle.std.proofs.Common.{◌+◌, ◌∙◌, arith}
use Rattle.cell_sets.specs.Runs.{in_runs}
use Rattle.cell_sets.proofs.SetLaws.{length-passing}
use Rattle.cell_sets.proofs.RunLaws.{has-runs, rising_above}
use Rattle.cell_sets.proofs.cell_set.CellSet.range.Goals as goal

pub invariant_of-result : goal.invariant_of-result
invariant_of-result c = rising_above 0 c.in_ok-runs.runs.items (c.args.first + c.args.count + 1) (c.args.universe + 1) (omega arith) c.in_ok-runs.ensures.rising

pub returns-clause-universe : goal.returns-clause-universe
returns-clause-universe c = length-passing (in_runs c.in_ok-runs.runs.items) c.args.universe

pub returns-clause-answer : goal.returns-clause-answer
returns-clause-answer c = λ q.
    has-runs c.in_ok-runs.runs.items c.args.universe q (rising_above 0 c.in_ok-runs.runs.items (c.args.first + c.args.count + 1) (c.args.universe + 1) (omega arith) c.in_ok-runs.ensures.rising)
    ∙ c.in_ok-runs.ensures.same q
