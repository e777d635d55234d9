use Rattle.std.proofs.lemmas.Result.{err_from_is_err_and}
use Rattle.ckpt_program.proofs.Ordering.{keeps_failed}
use Rattle.ckpt_program.proofs.upkeep.clear_in_store.Goals as goal

pub returns-in_err-clear_store-clause-keeps : goal.returns-in_err-clear_store-clause-keeps
returns-in_err-clear_store-clause-keeps g c =
    let told = err_from_is_err_and c.from_residual.result c.from_residual.ensures.1 in
    rw told.1 (keeps_failed {A = Unit {0}} (g.D.Disk.view c.args.disk.now) (g.D.Disk.view c.clear_store.new.disk) told.0 told.2 c.clear_store.ensures.steady)
