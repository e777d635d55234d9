use Rattle.std.proofs.Common.{arith}
use Rattle.code_maker.proofs.Emitted.{pieces_done}
use Rattle.code_maker.proofs.node_code.emit_pieces.Goals as goal

pub returns : goal.returns
returns c = record { code = pieces_done c.pieces.code.items c.args.code.now.items c.args.n c.pieces.left c.pieces.piece-index c.args.pieces.now (omega arith) c.pieces.invariant }
