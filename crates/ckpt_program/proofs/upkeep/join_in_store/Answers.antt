use Rattle.std.proofs.lemmas.Result.{err_from_is_err_and}
use Rattle.ckpt_program.proofs.Ordering.{unjoined, calm_unjoined, keeps_unjoined, of_store}
use Rattle.ckpt_program.proofs.upkeep.join_in_store.Goals as goal

pub returns-in_err-join_records-clause-answer : goal.returns-in_err-join_records-clause-answer
returns-in_err-join_records-clause-answer g c =
    let told = err_from_is_err_and c.from_residual.result c.from_residual.ensures.1 in
    rw told.1 (unjoined (g.D.Disk.view c.args.disk.now) (g.D.Disk.view c.join_records.new.disk) told.0 c.in_err-join_records.field-0.0 told.2 c.in_err-join_records.ensures.leaves c.in_err-join_records.ensures.err)

pub returns-in_err-join_records-clause-count : goal.returns-in_err-join_records-clause-count
returns-in_err-join_records-clause-count g c =
    let told = err_from_is_err_and c.from_residual.result c.from_residual.ensures.1 in
    rw told.1 (calm_unjoined (g.D.Disk.view c.args.disk.now) (g.D.Disk.view c.join_records.new.disk) told.0 c.in_err-join_records.field-0.0 told.2 c.in_err-join_records.ensures.leaves c.join_records.ensures.steady.faults)

pub returns-in_err-join_records-clause-keeps : goal.returns-in_err-join_records-clause-keeps
returns-in_err-join_records-clause-keeps g c =
    let told = err_from_is_err_and c.from_residual.result c.from_residual.ensures.1 in
    rw told.1 (keeps_unjoined (g.D.Disk.view c.args.disk.now) (g.D.Disk.view c.join_records.new.disk) told.0 c.in_err-join_records.field-0.0 told.2 c.in_err-join_records.ensures.leaves c.join_records.ensures.steady)

pub returns-clause-answer : goal.returns-clause-answer
returns-clause-answer g c = of_store (g.D.Disk.view c.args.disk.now) (g.D.Disk.view c.join_records.new.disk) c.in_ok-join_records.field-0 c.in_ok-join_records.ensures.answer
