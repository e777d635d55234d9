use Rattle.std.proofs.Common.{◌≤◌, ◌-◌, rules, arith}
use Rattle.code_maker.specs.Depths.{values_depth}
use Rattle.code_maker.proofs.ValueDepths.{at_least}
use Rattle.code_maker.proofs.depths.values_depth.Goals as goal

pub returns-in_err-expr_depth-clause-err : goal.returns-in_err-expr_depth-clause-err
returns-in_err-expr_depth-clause-err c =
    let least = at_least c.args.exprs.now c.exprs.i (c.exprs.i - 1) c.index-exprs-i.result c.exprs.depth (omega arith) (omega arith) c.index-exprs-i.is c.exprs.invariant in
    let deep : 4294967296 ≤ values_depth c.args.exprs.now = omega (arith, least, c.in_err-expr_depth.ensures.err) in
    search rules

pub returns-in_err-depth-clause-err : goal.returns-in_err-depth-clause-err
returns-in_err-depth-clause-err c =
    let least = at_least c.args.exprs.now c.exprs.i (c.exprs.i - 1) c.index-exprs-i.result c.exprs.depth (omega arith) (omega arith) c.index-exprs-i.is c.exprs.invariant in
    let deep : 4294967296 ≤ values_depth c.args.exprs.now = omega (arith, least, c.in_ok-expr_depth.ensures.answer, c.in_err-depth.ensures.err) in
    search rules
