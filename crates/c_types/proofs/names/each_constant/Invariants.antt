use Rattle.c_types.specs.Names as spec
use Rattle.c_types.proofs.Loops.{Ongoing}
use Rattle.c_types.proofs.names.each_constant.Given as goal

abbrev pub invariant-loop-c : goal.invariant-loop-c
invariant-loop-c l = Ongoing spec.constant l.constants l.c-index l.fn.known l.known
