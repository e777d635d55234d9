use Rattle.std.proofs.lemmas.Result.{err_from_is_err_and}
use Rattle.ckpt_program.proofs.Joining.{breaks_rule}
use Rattle.ckpt_program.proofs.stages.checked.Goals as goal

pub returns-in_err-checked : goal.returns-in_err-checked
returns-in_err-checked c =
    let told = err_from_is_err_and c.from_residual.result c.from_residual.ensures.1 in
    record { answer = rw told.1 (breaks_rule c.args.program told.0 c.in_err-checked.field-0.0 told.2 c.in_err-checked.ensures.err) }
