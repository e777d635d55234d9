use Rattle.parity_store.proofs.WritingLaws.{writing_kept}
use Rattle.parity_store.proofs.piece.Pieces.push_some.Goals as goal

pub returns-clause-answer : goal.returns-clause-answer
returns-clause-answer g c = λ tells h text so_far.
    writing_kept c.make_room.new.self _ h _ text _ c.keep-n.ensures.same.0 c.keep-n.ensures.same.1 c.keep-n.ensures.kept (c.in_ok-make_room.ensures.answer tells h text so_far)
