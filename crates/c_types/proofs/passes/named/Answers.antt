use Rattle.std.proofs.Common.{refl}
use Rattle.std.proofs.lemmas.Result.{err_from_is_err_and}
use Rattle.c_types.proofs.Passing.{named_fails}
use Rattle.c_types.proofs.passes.named.Goals as goal

pub returns-in_err-items-clause-gets : goal.returns-in_err-items-clause-gets
returns-in_err-items-clause-gets c =
    let p = err_from_is_err_and c.from_residual-in_err-items.result c.from_residual-in_err-items.ensures.1 in
    rw (p.1, p.2) (named_fails c.args.constants.now c.args.items.now _ _ (rw (c.in_ok-add_functions.ensures.answer, c.new.ensures.answer, c.entry.ensures.answer) refl) c.in_err-items.ensures.passes)
