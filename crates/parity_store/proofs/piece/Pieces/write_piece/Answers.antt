use Rattle.std.proofs.Common.{refl, arith}
use Rattle.parity_store.proofs.WritingLaws.{piece_wrote, piece_made}
use Rattle.parity_store.proofs.piece.Pieces.write_piece.Goals as goal

pub returns-in_err-write_at-clause-wrote : goal.returns-in_err-write_at-clause-wrote
returns-in_err-write_at-clause-wrote g c = λ tells h text so_far.
    piece_wrote c.args.self.now h text _ c.write_at.result _ _ c.write_at.ensures.answer tells (g.met.D.Disk.lawful c.args.disk.now tells) so_far

pub returns-clause-answer : goal.returns-clause-answer
returns-clause-answer g c = λ tells h text so_far.
    let b = c.args.self.now.bounds in
    piece_made c.args.self.now _ h text _ _ (c.in_ok-write_at.ensures.answer.does tells) (omega (arith, b.0, b.1)) refl refl refl so_far

pub returns-clause-wrote : goal.returns-clause-wrote
returns-clause-wrote g c = λ tells h text so_far.
    piece_wrote c.args.self.now h text _ c.write_at.result _ _ c.write_at.ensures.answer tells (g.met.D.Disk.lawful c.args.disk.now tells) so_far
