use Rattle.c_types.specs.Names as spec
use Rattle.c_types.proofs.Loops.{Ongoing}
use Rattle.c_types.proofs.named_statements.+named.Given as goal

abbrev pub invariant-stmts-loop-s : goal.invariant-stmts-loop-s
invariant-stmts-loop-s l = Ongoing (spec.stmt l.constants) l.stmts l.s-index l.fn.known l.known

abbrev pub invariant-arms-loop-a : goal.invariant-arms-loop-a
invariant-arms-loop-a l = Ongoing (spec.arm l.constants) l.arms l.a-index l.fn.known l.known
