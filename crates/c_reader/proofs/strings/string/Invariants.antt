use Rattle.c_reader.proofs.Quotes.{InString}
use Rattle.c_reader.proofs.strings.string.Given as goal

abbrev pub invariant-loop-b : goal.invariant-loop-b
invariant-loop-b l = InString l.bytes l.within l.pieces l.read l.b-index
