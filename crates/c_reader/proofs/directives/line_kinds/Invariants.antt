use Rattle.std.proofs.Common.{length}
use Rattle.c_reader.proofs.Lines.{GoingLine}
use Rattle.c_reader.proofs.directives.line_kinds.Given as goal

abbrev pub invariant-pieces : goal.invariant-pieces
invariant-pieces l = GoingLine l.fn.line l.kinds l.rest

abbrev pub decreases-pieces : goal.decreases-pieces
decreases-pieces l = length l.rest
