use Rattle.std.proofs.Common.{◌∙◌, ap}
use Rattle.cell_sets.specs.Runs.{in_runs}
use Rattle.cell_sets.proofs.SetLaws.{length-passing, has-passing}
use Rattle.cell_sets.proofs.cell_set.CellSet.empty.Goals as goal

pub returns-clause-universe : goal.returns-clause-universe
returns-clause-universe c = length-passing (in_runs c.new.result.items) c.args.universe

pub returns-clause-answer : goal.returns-clause-answer
returns-clause-answer c = λ q.
    has-passing (in_runs c.new.result.items) c.args.universe q (λ b l. ap (λ rs. in_runs rs b) c.new.ensures.items)
    ∙ ap (λ rs. in_runs rs q) c.new.ensures.items
