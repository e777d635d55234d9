use Rattle.std.proofs.Common.{◌∙◌, length, get_or, ap}
use Rattle.std.proofs.lemmas.Bool.{eqb-true, eqb-false}
use Rattle.cell_sets.specs.declared.runs.Run.{Run}
use Rattle.flow_graph.proofs.OneCell.{one_cell, other_cell, first_alone}
use Rattle.flow_graph.proofs.node_effects.is_one_cell.Goals as goal

pub returns-then-runs-eq1-clause-one : goal.returns-then-runs-eq1-clause-one
returns-then-runs-eq1-clause-one c = λ e. let r : Run = get_or c.args.runs.now 0 (record { first = 0; count = 0 }) in one_cell c.args.runs.now r (first_alone c.args.runs.now (record { first = 0; count = 0 }) c.if-runs-eq1.true) (eqb-true r.count 1 e)

pub returns-then-runs-eq1-clause-other : goal.returns-then-runs-eq1-clause-other
returns-then-runs-eq1-clause-other c = λ e.
    let d : Run = record { first = 0; count = 0 } in
    other_cell c.args.runs.now c.requires.rising.0 c.requires.rising.1 (λ r is one. eqb-false (get_or c.args.runs.now 0 d).count 1 e (ap (λ rs. (get_or rs 0 d).count) is ∙ one))

pub returns-else-runs-eq1-clause-other : goal.returns-else-runs-eq1-clause-other
returns-else-runs-eq1-clause-other c = λ e. other_cell c.args.runs.now c.requires.rising.0 c.requires.rising.1 (λ r is one. c.if-runs-eq1.false (ap (λ rs. length rs) is))
