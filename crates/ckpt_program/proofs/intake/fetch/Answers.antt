use Rattle.std.proofs.Common.{◌≤◌, sym, subst, arith, IsTrue, length, ◌+◌}
use Rattle.ckpt_program.proofs.Choices.{on_true, on_false}
use Rattle.ckpt_program.proofs.intake.fetch.Goals as goal

pub returns-in-Ok-false-read_up_to-clause-err : goal.returns-in-Ok-false-read_up_to-clause-err
returns-in-Ok-false-read_up_to-clause-err g c =
    let opened = c.in-Ok-true.ensures.answer in
    let read = c.in-Ok-false-read_up_to.ensures in
    λ tells.
    let most : c.args.limit + 1 ≤ length (g.H.Shelf.view c.open.new.self).rest = on_false _ _ _ c.in-Ok-false-read_up_to.field-0-test read.answer (subst IsTrue (sym opened.same.tells) tells) in
    ((g.H.Shelf.view c.open.new.self).rest, on_true _ _ _ c.in-Ok-true.field-0-test (opened.found tells), omega arith)
