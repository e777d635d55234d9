use Rattle.ckpt_program.specs.Rows as row
use Rattle.ckpt_program.specs.Sight.{sight}
use Rattle.ckpt_program.specs.Stages.{Source}
use Rattle.ckpt_program.proofs.Joining.{went}
use Rattle.ckpt_program.proofs.why.why.Goals as goal

pub returns-clause-answer : goal.returns-clause-answer
returns-clause-answer g c =
    let view = g.H.Shelf.view in
    let read = Source c.args.name.now (sight (view c.args.shelf.now)) (sight (view c.source.new.shelf)) in
    went read (λ tree. row.Explained tree c.args.exclude c.args.cell) c.in_ok-program.program c.explained.result c.in_ok-program.ensures.answer c.explained.ensures.answer
