use Rattle.std.proofs.Common.{sym, ◌∙◌}
use Rattle.c_reader.proofs.Marks.{name_takes}
use Rattle.c_reader.proofs.pieces.piece.Goals as goal

pub returns-in_ok-piece-in-len1-up-clause-takes : goal.returns-in_ok-piece-in-len1-up-clause-takes
returns-in_ok-piece-in-len1-up-clause-takes c =
    name_takes c.in_ok-piece-in-len1-up.piece c.args.bytes.now c.run-then-is_word.result.now c.in_ok-piece-in-len1-up.ensures.answer c.run-then-is_word.ensures.value (sym c.is_word.ensures ∙ c.if-is_word.true) c.in-len1-up.len_at_least c.run-then-is_word.ensures.within
