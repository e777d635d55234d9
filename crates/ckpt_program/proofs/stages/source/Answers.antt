use Rattle.std.proofs.Common.{subst, ℕ, List}
use Rattle.ckpt_program.specs.Accepted.{Accepted}
use Rattle.ckpt_program.specs.Sight.{sight}
use Rattle.ckpt_program.specs.Stage.{Comes}
use Rattle.ckpt_program.proofs.SourceRead.{source_read}
use Rattle.ckpt_program.proofs.stages.source.Goals as goal

pub returns-clause-answer : goal.returns-clause-answer
returns-clause-answer g c = source_read c.args.name.now (sight (g.H.Shelf.view c.args.shelf.now)) (sight (g.H.Shelf.view c.file.new.shelf)) c.in_ok-text.text.list c.accept_text.result c.in_ok-text.ensures.answer (subst (λ (t : List ℕ). Comes (Accepted t) c.accept_text.result) c.as_slice.ensures.answer c.accept_text.ensures.answer)
