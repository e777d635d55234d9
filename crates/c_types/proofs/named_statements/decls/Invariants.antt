use Rattle.c_types.specs.Names as spec
use Rattle.c_types.proofs.Loops.{Ongoing}
use Rattle.c_types.proofs.named_statements.decls.Given as goal

abbrev pub invariant-loop-d : goal.invariant-loop-d
invariant-loop-d l = Ongoing (spec.decl l.constants) l.decls l.d-index l.fn.known l.known
