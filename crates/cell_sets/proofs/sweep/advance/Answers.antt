use Rattle.std.proofs.Common.{◌+◌, arith}
use Rattle.cell_sets.proofs.RunLaws.{head_within}
use Rattle.cell_sets.proofs.sweep.advance.Goals as goal

pub overflow_add-run : goal.overflow_add-run
overflow_add-run c =
    let h = head_within c.args.left.now c.in-Some.run'.now c.in-Some.rest.now (c.args.universe + 1) c.in-Some.ensures.cases.0 c.requires.rising in omega arith
