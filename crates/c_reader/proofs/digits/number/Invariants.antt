use Rattle.c_reader.proofs.Numbers.{Counting}
use Rattle.c_reader.proofs.digits.number.Given as goal

abbrev pub invariant-loop-b : goal.invariant-loop-b
invariant-loop-b l = Counting l.bytes l.value l.b-index
