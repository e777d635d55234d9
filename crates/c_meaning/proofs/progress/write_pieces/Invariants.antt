use Rattle.std.proofs.Common.{◌≡◌, ◌++◌, drop}
use Rattle.c_tree.specs.State.{printed}
use Rattle.c_meaning.proofs.progress.write_pieces.Given as goal

-- the pieces that are still to come make the list whole
abbrev pub invariant-pieces : goal.invariant-pieces
invariant-pieces l = l.output ++ printed (drop l.piece-index l.pieces) l.rest ≡ l.fn.output ++ printed l.pieces l.fn.numbers
