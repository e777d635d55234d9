use Rattle.c_types.specs.Names as spec
use Rattle.c_types.proofs.Loops.{Ongoing}
use Rattle.c_types.proofs.named_statements.exprs.Given as goal

abbrev pub invariant-loop-e : goal.invariant-loop-e
invariant-loop-e l = Ongoing (spec.expr l.constants) l.es l.e-index l.fn.known l.known
