use Rattle.c_types.proofs.Arguments.{Passing}
use Rattle.c_types.proofs.places.args.Given as goal

abbrev pub invariant-loop-i : goal.invariant-loop-i
invariant-loop-i l = Passing l.file l.frame l.scope l.line l.parameters l.es l.i l.done
