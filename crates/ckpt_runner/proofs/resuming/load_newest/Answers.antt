use Rattle.std.proofs.Common.{refl, ◌<◌, length, arith}
use Rattle.std.proofs.lemmas.Result.{err_from_is_err_and}
use Rattle.recovery.specs.declared.shape.Shape.{Shape}
use Rattle.ckpt_runner.specs.Arguments.{given_as}
use Rattle.ckpt_runner.proofs.RecoveredLaws.{IsShape, behind_refuses, recovery_refuses}
use Rattle.ckpt_runner.proofs.resuming.load_newest.Goals as goal

pub returns-in_err-newest-clause-err : goal.returns-in_err-newest-clause-err
returns-in_err-newest-clause-err c =
    let p = err_from_is_err_and c.from_residual.result c.from_residual.ensures.1 in
    let given = c.args.given.now in
    let shape : Shape = record { cells = c.cells.result; checkpoints = c.checkpoints.result; excludes = c.excludes.result; input_length = length given.input.now; output_length = c.args.written } in
    let by : IsShape given.compiled.now (length given.input.now) c.args.written shape = record { cells = c.cells.ensures.answer; checkpoints = c.checkpoints.ensures.answer; excludes = c.excludes.ensures.answer; input_length = refl; output_length = refl } in
    rw (p.1, p.2) (recovery_refuses c.in_err-newest.field-0.0 (given_as given) c.args.chain.now c.args.kept.now shape c.args.written by c.requires.mode c.in_err-newest.ensures.err)

pub returns-then-given-newest-clause-err : goal.returns-then-given-newest-clause-err
returns-then-given-newest-clause-err c =
    let given = c.args.given.now in
    let shape : Shape = record { cells = c.cells.result; checkpoints = c.checkpoints.result; excludes = c.excludes.result; input_length = length given.input.now; output_length = c.args.written } in
    let by : IsShape given.compiled.now (length given.input.now) c.args.written shape = record { cells = c.cells.ensures.answer; checkpoints = c.checkpoints.ensures.answer; excludes = c.excludes.ensures.answer; input_length = refl; output_length = refl } in
    let below = c.if-given-newest.true in
    let less : given.how.until < c.in_ok-newest.newest.steps = omega (arith, below) in
    behind_refuses (given_as given) c.args.chain.now c.args.kept.now shape c.args.written c.in_ok-newest.newest by c.requires.mode c.in_ok-newest.ensures.answer.0 c.in_ok-newest.ensures.answer.1 less
