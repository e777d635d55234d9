use Rattle.std.proofs.Common.{◌≡◌, ◌++◌, length, drop}
use Rattle.code_maker.specs.ExprCode.{values_block}
use Rattle.code_maker.proofs.expressions.emit_values.Given as goal

abbrev pub invariant-exprs : goal.invariant-exprs
invariant-exprs l = l.code.items ++ values_block (drop l.i l.exprs) (length l.code.items) ≡ l.initial.code.items ++ values_block l.exprs (length l.initial.code.items)
