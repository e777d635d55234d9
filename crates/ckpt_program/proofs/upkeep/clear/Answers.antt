use Rattle.std.proofs.Common.{sym, subst, Err}
use Rattle.std.proofs.lemmas.Result.{err_from_is_err_and}
use Rattle.run_images.specs.Source.{IsSource}
use Rattle.ckpt_program.specs.LifeStages.{KeepsRefused}
use Rattle.ckpt_program.specs.declared.stop.Stop.{Stop}
use Rattle.ckpt_program.proofs.Disks.{stays_still}
use Rattle.ckpt_program.proofs.Living.{keeps_still, keeps_stays, keeps_done, keeps_stopped, standing_stays, standing_then}
use Rattle.ckpt_program.proofs.Ordering.{clears_stays}
use Rattle.ckpt_program.proofs.upkeep.clear.Goals as goal

pub returns-in_err-room-clause-keeps : goal.returns-in_err-room-clause-keeps
returns-in_err-room-clause-keeps g c = keeps_still c.from_residual.result (g.D.Disk.view c.args.disk.now)

pub returns-in_err-room-clause-moments : goal.returns-in_err-room-clause-moments
returns-in_err-room-clause-moments g c = standing_stays IsSource (g.D.Disk.view c.args.disk.now) (g.D.Disk.view c.args.disk.now) (g.met.D.Disk.tells_all c.args.disk.now) (stays_still (g.D.Disk.view c.args.disk.now) (g.met.D.Disk.lawful c.args.disk.now))

pub returns-in_err-enter_store-clause-keeps : goal.returns-in_err-enter_store-clause-keeps
returns-in_err-enter_store-clause-keeps g c = keeps_stays c.from_residual-in_err-enter_store.result (g.D.Disk.view c.args.disk.now) (g.D.Disk.view c.enter_store.new.disk) c.enter_store.ensures.stays

pub returns-in_err-enter_store-clause-moments : goal.returns-in_err-enter_store-clause-moments
returns-in_err-enter_store-clause-moments g c = standing_stays IsSource (g.D.Disk.view c.args.disk.now) (g.D.Disk.view c.enter_store.new.disk) (g.met.D.Disk.tells_all c.args.disk.now) c.enter_store.ensures.stays

pub returns-in_err-clear_in_store-clause-keeps : goal.returns-in_err-clear_in_store-clause-keeps
returns-in_err-clear_in_store-clause-keeps g c =
    let told = err_from_is_err_and c.from_residual-in_err-clear_in_store.result c.from_residual-in_err-clear_in_store.ensures.1 in
    rw told.1 (keeps_stopped {A = Unit {0}} (g.D.Disk.view c.args.disk.now) (g.D.Disk.view c.enter_store.new.disk) (g.D.Disk.view c.clear_in_store.new.disk) told.0 c.enter_store.ensures.stays (subst (λ (e : Stop). KeepsRefused {A = Unit {0}} (Err e) (g.D.Disk.view c.enter_store.new.disk) (g.D.Disk.view c.clear_in_store.new.disk)) (sym told.2) c.in_err-clear_in_store.ensures.keeps))

pub returns-in_err-clear_in_store-clause-moments : goal.returns-in_err-clear_in_store-clause-moments
returns-in_err-clear_in_store-clause-moments g c = standing_then IsSource (g.D.Disk.view c.args.disk.now) (g.D.Disk.view c.enter_store.new.disk) (g.D.Disk.view c.clear_in_store.new.disk) (g.met.D.Disk.tells_all c.args.disk.now) c.enter_store.ensures.stays c.clear_in_store.ensures.moments

pub returns-clause-keeps : goal.returns-clause-keeps
returns-clause-keeps g c = keeps_done {A = Unit {0}} (g.D.Disk.view c.args.disk.now) (g.D.Disk.view c.enter_store.new.disk) (g.D.Disk.view c.clear_in_store.new.disk) tt c.tell_cleared.result c.enter_store.ensures.stays c.in_ok-clear_in_store.ensures.keeps

pub returns-clause-moments : goal.returns-clause-moments
returns-clause-moments g c = standing_then IsSource (g.D.Disk.view c.args.disk.now) (g.D.Disk.view c.enter_store.new.disk) (g.D.Disk.view c.clear_in_store.new.disk) (g.met.D.Disk.tells_all c.args.disk.now) c.enter_store.ensures.stays c.clear_in_store.ensures.moments

pub returns-clause-clears : goal.returns-clause-clears
returns-clause-clears g c = clears_stays (g.D.Disk.view c.args.disk.now) (g.D.Disk.view c.enter_store.new.disk) (g.D.Disk.view c.clear_in_store.new.disk) c.enter_store.ensures.stays c.in_ok-clear_in_store.ensures.clears
