use Rattle.std.proofs.Common.{subst}
use Rattle.ckpt_program.specs.Sight.{Sight, sight}
use Rattle.ckpt_program.specs.Stage.{Comes}
use Rattle.ckpt_program.specs.Stages.{Source}
use Rattle.ckpt_program.specs.Rows as row
use Rattle.ckpt_program.proofs.Joining.{went}
use Rattle.ckpt_program.proofs.plain.plain.Goals as goal

pub returns-clause-answer : goal.returns-clause-answer
returns-clause-answer g c =
    let view = g.H.Shelf.view in
    let old = sight (view c.args.shelf.now) in
    let new = sight (view c.evaluate.new.shelf) in
    let next = λ (s : Sight). Comes (row.OnInput c.in_ok-program.program c.args.input_name.now c.args.until s new) c.evaluate.result in
    went (Source c.args.source_name.now old new) (λ tree. row.OnInput tree c.args.input_name.now c.args.until old new) c.in_ok-program.program c.evaluate.result c.in_ok-program.ensures.answer (subst next c.in_ok-program.ensures.calm c.evaluate.ensures.answer)
