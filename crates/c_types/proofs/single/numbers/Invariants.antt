use Rattle.c_types.proofs.Numbers.{Numbered}
use Rattle.c_types.proofs.single.numbers.Given as goal

abbrev pub invariant-loop-e : goal.invariant-loop-e
invariant-loop-e l = Numbered l.file l.frame l.scope l.line l.es l.e-index l.done
