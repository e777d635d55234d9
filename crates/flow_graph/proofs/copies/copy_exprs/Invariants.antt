use Rattle.std.proofs.Common.{◌≡◌, ◌++◌, drop}
use Rattle.flow_graph.proofs.copies.copy_exprs.Given as goal

-- the expressions that are still to be copied make the list whole
abbrev pub invariant-exprs : goal.invariant-exprs
invariant-exprs l = l.copies ++ drop l.expr-index l.exprs ≡ l.exprs
