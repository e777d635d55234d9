use Rattle.std.proofs.Common.{length}
use Rattle.c_reader.proofs.Scans.{Going}
use Rattle.c_reader.proofs.scan.scan.Given as goal

abbrev pub invariant-pieces : goal.invariant-pieces
invariant-pieces l = Going l.fn.text l.scanned l.rest

abbrev pub decreases-pieces : goal.decreases-pieces
decreases-pieces l = length l.rest
