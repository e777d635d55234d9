use Rattle.std.proofs.lemmas.Result.{err_from_is_err_and}
use Rattle.ckpt_program.proofs.Joining.{unspelled}
use Rattle.ckpt_program.proofs.stages.spelled.Goals as goal

pub returns-in_err-read : goal.returns-in_err-read
returns-in_err-read c =
    let told = err_from_is_err_and c.from_residual.result c.from_residual.ensures.1 in
    record { answer = rw told.1 (unspelled c.args.text.now told.0 c.in_err-read.field-0.0 told.2 c.in_err-read.ensures.err c.in_err-read.ensures.only) }
