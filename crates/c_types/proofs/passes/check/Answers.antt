use Rattle.std.proofs.lemmas.Result.{err_from_is_err_and}
use Rattle.c_types.proofs.Passing.{first_fails, then_tree, then_fault}
use Rattle.c_types.proofs.passes.check.Goals as goal

pub returns-in_err-file-clause-err : goal.returns-in_err-file-clause-err
returns-in_err-file-clause-err c =
    let p = err_from_is_err_and c.from_residual.result c.from_residual.ensures.1 in
    rw (p.1, p.2) (first_fails c.args.program _ (rw (c.as_slice-items.ensures, c.as_slice.ensures) at c.in_err-file.ensures.gets))

pub returns-clause-answer : goal.returns-clause-answer
returns-clause-answer c = then_tree c.args.program c.in_ok-file.file c.resolved.result (rw (c.as_slice-items.ensures, c.as_slice.ensures) at c.in_ok-file.ensures.gets) (rw c.as_slice-items.ensures at c.resolved.ensures.gets)

pub returns-clause-err : goal.returns-clause-err
returns-clause-err c = then_fault c.args.program c.in_ok-file.file c.resolved.result (rw (c.as_slice-items.ensures, c.as_slice.ensures) at c.in_ok-file.ensures.gets) (rw c.as_slice-items.ensures at c.resolved.ensures.gets)
