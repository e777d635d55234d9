use Rattle.std.proofs.Common.{sym, arith}
use Rattle.c_reader.proofs.Turns.{too_deep}
use Rattle.c_reader.proofs.expressions.+expr.Goals as goal

pub expr-returns-then-left_depth-depth-clause-answer : goal.expr-returns-then-left_depth-depth-clause-answer
expr-returns-then-left_depth-depth-clause-answer t c = too_deep _ _ _ _ c.loop-op.invariant.1 c.in-Some.op (sym c.in-Some.ensures.answer) (omega (arith, c.if-level-least.false, c.binds-level.ensures.answer)) c.if-left_depth-depth.true
