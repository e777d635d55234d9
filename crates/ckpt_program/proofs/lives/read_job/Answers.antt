use Rattle.std.proofs.Common.{subst}
use Rattle.ckpt_program.specs.Sight.{Sight, sight}
use Rattle.ckpt_program.specs.Stage.{Comes}
use Rattle.ckpt_program.specs.Stages.{File}
use Rattle.ckpt_program.specs.LifeRow as row
use Rattle.ckpt_program.specs.declared.stop.Document.TheVariants as document
use Rattle.ckpt_program.proofs.Joining.{went}
use Rattle.ckpt_program.proofs.lives.read_job.Goals as goal

pub returns-clause-answer : goal.returns-clause-answer
returns-clause-answer g c =
    let view = g.H.Shelf.view in
    let old = sight (view c.args.shelf.now) in
    let new = sight (view c.read_accepted.new.shelf) in
    let next = λ (s : Sight). Comes (row.ReadsProgram c.in_ok-text.text c.args.input_name.now s new) c.read_accepted.result in
    went (File document.Source c.args.source_name.now old new) (λ t. row.ReadsProgram t c.args.input_name.now old new) c.in_ok-text.text c.read_accepted.result c.in_ok-text.ensures.answer (subst next c.in_ok-text.ensures.calm c.read_accepted.ensures.answer)
