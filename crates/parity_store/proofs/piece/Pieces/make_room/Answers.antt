use Rattle.parity_store.proofs.WritingLaws.{wrote_none}
use Rattle.parity_store.proofs.piece.Pieces.make_room.Goals as goal

pub returns-else-self-eq-PIECE_BYTES-clause-wrote : goal.returns-else-self-eq-PIECE_BYTES-clause-wrote
returns-else-self-eq-PIECE_BYTES-clause-wrote g c = λ tells h text so_far. wrote_none c.args.self.now.file h _ tells (g.met.D.Disk.lawful c.args.disk.now tells) so_far.left
