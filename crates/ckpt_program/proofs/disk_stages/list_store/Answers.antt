use Rattle.std.proofs.lemmas.Result.{err_from_is_err_and}
use Rattle.ckpt_program.proofs.Looking.{told_listed, unlisted, calm_unlisted}
use Rattle.ckpt_program.proofs.disk_stages.list_store.Goals as goal

pub returns-in_err-list_records-clause-answer : goal.returns-in_err-list_records-clause-answer
returns-in_err-list_records-clause-answer g c =
    let told = err_from_is_err_and c.from_residual.result c.from_residual.ensures.1 in
    rw told.1 (unlisted (g.D.Disk.view c.args.disk.now) (g.D.Disk.view c.list_records.new.disk) told.0 c.in_err-list_records.field-0.0 told.2 c.in_err-list_records.ensures.failed c.in_err-list_records.ensures.err)

pub returns-in_err-list_records-clause-count : goal.returns-in_err-list_records-clause-count
returns-in_err-list_records-clause-count g c =
    let told = err_from_is_err_and c.from_residual.result c.from_residual.ensures.1 in
    rw told.1 (calm_unlisted (g.D.Disk.view c.args.disk.now).faults (g.D.Disk.view c.list_records.new.disk).faults told.0 c.in_err-list_records.field-0.0 told.2 c.in_err-list_records.ensures.failed c.list_records.ensures.steady.faults)

pub returns-clause-answer : goal.returns-clause-answer
returns-clause-answer g c = told_listed (g.D.Disk.view c.args.disk.now) c.in_ok-list_records.field-0 c.in_ok-list_records.ensures.answer
