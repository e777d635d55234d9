use Rattle.std.proofs.Common.{sym, subst, Err}
use Rattle.std.proofs.lemmas.Result.{err_from_is_err_and}
use Rattle.run_images.specs.Source.{IsSource}
use Rattle.store_upkeep.specs.declared.coalesced.Coalesced.{Coalesced}
use Rattle.ckpt_program.specs.LifeStages.{KeepsRefused}
use Rattle.ckpt_program.specs.declared.stop.Stop.{Stop}
use Rattle.ckpt_program.proofs.Disks.{stays_still}
use Rattle.ckpt_program.proofs.Living.{keeps_still, keeps_stays, keeps_done, keeps_stopped, standing_stays, standing_then, images_stay, images_lived}
use Rattle.ckpt_program.proofs.Ordering.{joins_as_told}
use Rattle.ckpt_program.proofs.upkeep.coalesce.Goals as goal

pub returns-in_err-room-clause-keeps : goal.returns-in_err-room-clause-keeps
returns-in_err-room-clause-keeps g c = keeps_still c.from_residual.result (g.D.Disk.view c.args.disk.now)

pub returns-in_err-room-clause-moments : goal.returns-in_err-room-clause-moments
returns-in_err-room-clause-moments g c = standing_stays IsSource (g.D.Disk.view c.args.disk.now) (g.D.Disk.view c.args.disk.now) (g.met.D.Disk.tells_all c.args.disk.now) (stays_still (g.D.Disk.view c.args.disk.now) (g.met.D.Disk.lawful c.args.disk.now))

pub returns-in_err-room-clause-later : goal.returns-in_err-room-clause-later
returns-in_err-room-clause-later g c = images_stay (g.D.Disk.view c.args.disk.now) (g.D.Disk.view c.args.disk.now) (g.met.D.Disk.tells_all c.args.disk.now) (stays_still (g.D.Disk.view c.args.disk.now) (g.met.D.Disk.lawful c.args.disk.now))

pub returns-in_err-enter_store-clause-keeps : goal.returns-in_err-enter_store-clause-keeps
returns-in_err-enter_store-clause-keeps g c = keeps_stays c.from_residual-in_err-enter_store.result (g.D.Disk.view c.args.disk.now) (g.D.Disk.view c.enter_store.new.disk) c.enter_store.ensures.stays

pub returns-in_err-enter_store-clause-moments : goal.returns-in_err-enter_store-clause-moments
returns-in_err-enter_store-clause-moments g c = standing_stays IsSource (g.D.Disk.view c.args.disk.now) (g.D.Disk.view c.enter_store.new.disk) (g.met.D.Disk.tells_all c.args.disk.now) c.enter_store.ensures.stays

pub returns-in_err-enter_store-clause-later : goal.returns-in_err-enter_store-clause-later
returns-in_err-enter_store-clause-later g c = images_stay (g.D.Disk.view c.args.disk.now) (g.D.Disk.view c.enter_store.new.disk) (g.met.D.Disk.tells_all c.args.disk.now) c.enter_store.ensures.stays

pub returns-in_err-joined-clause-keeps : goal.returns-in_err-joined-clause-keeps
returns-in_err-joined-clause-keeps g c =
    let told = err_from_is_err_and c.from_residual-in_err-joined.result c.from_residual-in_err-joined.ensures.1 in
    rw told.1 (keeps_stopped {A = Coalesced} (g.D.Disk.view c.args.disk.now) (g.D.Disk.view c.enter_store.new.disk) (g.D.Disk.view c.join_in_store.new.disk) told.0 c.enter_store.ensures.stays (subst (λ (e : Stop). KeepsRefused {A = Coalesced} (Err e) (g.D.Disk.view c.enter_store.new.disk) (g.D.Disk.view c.join_in_store.new.disk)) (sym told.2) c.in_err-joined.ensures.keeps))

pub returns-in_err-joined-clause-moments : goal.returns-in_err-joined-clause-moments
returns-in_err-joined-clause-moments g c = standing_then IsSource (g.D.Disk.view c.args.disk.now) (g.D.Disk.view c.enter_store.new.disk) (g.D.Disk.view c.join_in_store.new.disk) (g.met.D.Disk.tells_all c.args.disk.now) c.enter_store.ensures.stays c.join_in_store.ensures.moments

pub returns-clause-keeps : goal.returns-clause-keeps
returns-clause-keeps g c = keeps_done {A = Coalesced} (g.D.Disk.view c.args.disk.now) (g.D.Disk.view c.enter_store.new.disk) (g.D.Disk.view c.join_in_store.new.disk) c.in_ok-joined.joined c.tell_joined.result c.enter_store.ensures.stays c.in_ok-joined.ensures.keeps

pub returns-clause-moments : goal.returns-clause-moments
returns-clause-moments g c = standing_then IsSource (g.D.Disk.view c.args.disk.now) (g.D.Disk.view c.enter_store.new.disk) (g.D.Disk.view c.join_in_store.new.disk) (g.met.D.Disk.tells_all c.args.disk.now) c.enter_store.ensures.stays c.join_in_store.ensures.moments

pub returns-in_err-joined-clause-later : goal.returns-in_err-joined-clause-later
returns-in_err-joined-clause-later g c = images_lived (g.D.Disk.view c.args.disk.now) (g.D.Disk.view c.enter_store.new.disk) (g.D.Disk.view c.join_in_store.new.disk) (g.met.D.Disk.tells_all c.args.disk.now) c.enter_store.ensures.stays c.join_in_store.ensures.later

pub returns-clause-later : goal.returns-clause-later
returns-clause-later g c = images_lived (g.D.Disk.view c.args.disk.now) (g.D.Disk.view c.enter_store.new.disk) (g.D.Disk.view c.join_in_store.new.disk) (g.met.D.Disk.tells_all c.args.disk.now) c.enter_store.ensures.stays c.join_in_store.ensures.later

pub returns-clause-joins : goal.returns-clause-joins
returns-clause-joins g c = joins_as_told (g.D.Disk.view c.args.disk.now) (g.D.Disk.view c.enter_store.new.disk) (g.D.Disk.view c.join_in_store.new.disk) c.in_ok-joined.joined c.tell_joined.result c.enter_store.ensures.stays c.in_ok-joined.ensures.joins c.join_in_store.ensures.output c.tell_joined.ensures.answer
