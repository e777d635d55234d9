use Rattle.c_meaning.specs.Memory.{variables}
use Rattle.c_meaning.proofs.Values.{FoundSoFar}
use Rattle.c_meaning.proofs.value.values.Given as goal

abbrev pub invariant-exprs : goal.invariant-exprs
invariant-exprs l = FoundSoFar l.exprs (variables l.memory) l.expr-index l.found
