use Rattle.std.proofs.Common.{length}
use Rattle.c_reader.proofs.Files.{GoingFile}
use Rattle.c_reader.proofs.items.program.Given as goal

abbrev pub invariant-items : goal.invariant-items
invariant-items l = GoingFile l.fn.tokens l.items l.rest

abbrev pub decreases-items : goal.decreases-items
decreases-items l = length l.rest
