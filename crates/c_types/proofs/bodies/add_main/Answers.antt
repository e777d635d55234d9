use Rattle.c_types.specs.Bodies.{made_main}
use Rattle.c_types.proofs.BodyLaws.{main_kept, bodies_main}
use Rattle.c_types.proofs.bodies.add_main.Goals as goal

pub returns-clause-kept : goal.returns-clause-kept
returns-clause-kept c ss b =
    let k = rw (c.cell_number.ensures.answer, c.cells.ensures.answer, c.entry-scope.ensures.answer) at c.in_ok-resolved.ensures.kept in
    rw c.in_ok-push_main.ensures.answer (bodies_main c.args.file.now ss c.args.done.now (made_main c.in_ok-resolved.resolved c.body.new.scope) (main_kept c.args.file.now c.body.new.scope c.in_ok-resolved.resolved k) b)
