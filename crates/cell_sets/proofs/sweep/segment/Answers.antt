use Rattle.std.proofs.Common.{◌+◌, arith}
use Rattle.cell_sets.proofs.RunLaws.{head_within, outside_head}
use Rattle.cell_sets.proofs.sweep.segment.Goals as goal

pub overflow_add-result : goal.overflow_add-result
overflow_add-result c =
    let h = head_within c.args.left.now c.in-Some.run'.now c.in-Some.field-0-1.now (c.args.universe + 1) c.in-Some.ensures.cases.0 c.requires.rising in omega arith

pub returns-then-run-position-clause-within : goal.returns-then-run-position-clause-within
returns-then-run-position-clause-within c =
    let h = head_within c.args.left.now c.in-Some.run'.now c.in-Some.field-0-1.now (c.args.universe + 1) c.in-Some.ensures.cases.0 c.requires.rising in omega arith

pub returns-else-run-position-clause-within : goal.returns-else-run-position-clause-within
returns-else-run-position-clause-within c =
    let h = head_within c.args.left.now c.in-Some.run'.now c.in-Some.field-0-1.now (c.args.universe + 1) c.in-Some.ensures.cases.0 c.requires.rising in omega arith

pub returns-else-run-position-clause-same : goal.returns-else-run-position-clause-same
returns-else-run-position-clause-same c =
    λ q a b. outside_head c.args.left.now c.in-Some.run'.now c.in-Some.field-0-1.now (c.args.universe + 1) q c.in-Some.ensures.cases.0 c.requires.rising b
