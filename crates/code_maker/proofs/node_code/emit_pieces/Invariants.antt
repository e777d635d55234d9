use Rattle.std.proofs.Common.{◌≡◌, ◌++◌, drop}
use Rattle.code_maker.proofs.Emitted.{pieces_from}
use Rattle.code_maker.proofs.node_code.emit_pieces.Given as goal

abbrev pub invariant-pieces : goal.invariant-pieces
invariant-pieces l = l.code.items ++ pieces_from l.left (drop l.piece-index l.pieces) ≡ l.initial.code.items ++ pieces_from l.n l.pieces
