use Rattle.std.proofs.Common.{sym, subst, Err}
use Rattle.std.proofs.lemmas.Result.{err_from_is_err_and}
use Rattle.ckpt_runner.specs.Standing.{IsGivenSource}
use Rattle.one_life.specs.declared.living.Lived.{Lived}
use Rattle.ckpt_program.specs.LifeStages.{KeepsRefused, given_with}
use Rattle.ckpt_program.specs.declared.stop.Stop.{Stop}
use Rattle.ckpt_program.proofs.Disks.{stays_still}
use Rattle.ckpt_program.proofs.Living.{keeps_still, keeps_stays, keeps_done, keeps_stopped, standing_stays, images_stay, standing_lived, images_lived, told_as_source}
use Rattle.ckpt_program.proofs.lives.live_compiled.Goals as goal

pub returns-in_err-room-clause-keeps : goal.returns-in_err-room-clause-keeps
returns-in_err-room-clause-keeps g c = keeps_still c.from_residual.result (g.D.Disk.view c.args.disk.now)

pub returns-in_err-room-clause-moments : goal.returns-in_err-room-clause-moments
returns-in_err-room-clause-moments g c =
    let v = g.D.Disk.view c.args.disk.now in
    standing_stays (IsGivenSource (given_with c.args.compiled.now c.args.marks.now c.args.input.now c.args.asked)) v v (g.met.D.Disk.tells_all c.args.disk.now) (stays_still v (g.met.D.Disk.lawful c.args.disk.now))

pub returns-in_err-room-clause-later : goal.returns-in_err-room-clause-later
returns-in_err-room-clause-later g c = let v = g.D.Disk.view c.args.disk.now in images_stay v v (g.met.D.Disk.tells_all c.args.disk.now) (stays_still v (g.met.D.Disk.lawful c.args.disk.now))

pub returns-in_err-enter_store-clause-keeps : goal.returns-in_err-enter_store-clause-keeps
returns-in_err-enter_store-clause-keeps g c = keeps_stays c.from_residual-in_err-enter_store.result (g.D.Disk.view c.args.disk.now) (g.D.Disk.view c.enter_store.new.disk) c.enter_store.ensures.stays

pub returns-in_err-enter_store-clause-moments : goal.returns-in_err-enter_store-clause-moments
returns-in_err-enter_store-clause-moments g c =
    standing_stays (IsGivenSource (given_with c.args.compiled.now c.args.marks.now c.args.input.now c.args.asked)) (g.D.Disk.view c.args.disk.now) (g.D.Disk.view c.enter_store.new.disk) (g.met.D.Disk.tells_all c.args.disk.now) c.enter_store.ensures.stays

pub returns-in_err-enter_store-clause-later : goal.returns-in_err-enter_store-clause-later
returns-in_err-enter_store-clause-later g c = images_stay (g.D.Disk.view c.args.disk.now) (g.D.Disk.view c.enter_store.new.disk) (g.met.D.Disk.tells_all c.args.disk.now) c.enter_store.ensures.stays

pub returns-in_err-lived-clause-keeps : goal.returns-in_err-lived-clause-keeps
returns-in_err-lived-clause-keeps g c =
    let told = err_from_is_err_and c.from_residual-in_err-lived.result c.from_residual-in_err-lived.ensures.1 in
    let v = g.D.Disk.view c.enter_store.new.disk in
    let w = g.D.Disk.view c.live_in_store.new.disk in
    rw told.1 (keeps_stopped (g.D.Disk.view c.args.disk.now) v w told.0 c.enter_store.ensures.stays (subst (λ (e : Stop). KeepsRefused {A = Lived} (Err e) v w) (sym told.2) c.in_err-lived.ensures.keeps))

pub returns-in_err-lived-clause-moments : goal.returns-in_err-lived-clause-moments
returns-in_err-lived-clause-moments g c =
    standing_lived (given_with c.args.compiled.now c.args.marks.now c.args.input.now c.args.asked) (g.D.Disk.view c.args.disk.now) (g.D.Disk.view c.enter_store.new.disk) (g.D.Disk.view c.live_in_store.new.disk) (g.met.D.Disk.tells_all c.args.disk.now) c.enter_store.ensures.stays c.live_in_store.ensures.moments

pub returns-in_err-lived-clause-later : goal.returns-in_err-lived-clause-later
returns-in_err-lived-clause-later g c = images_lived (g.D.Disk.view c.args.disk.now) (g.D.Disk.view c.enter_store.new.disk) (g.D.Disk.view c.live_in_store.new.disk) (g.met.D.Disk.tells_all c.args.disk.now) c.enter_store.ensures.stays c.live_in_store.ensures.later

pub returns-clause-keeps : goal.returns-clause-keeps
returns-clause-keeps g c = keeps_done (g.D.Disk.view c.args.disk.now) (g.D.Disk.view c.enter_store.new.disk) (g.D.Disk.view c.live_in_store.new.disk) c.in_ok-lived.lived c.tell_life.result c.enter_store.ensures.stays c.in_ok-lived.ensures.keeps

pub returns-clause-moments : goal.returns-clause-moments
returns-clause-moments g c =
    standing_lived (given_with c.args.compiled.now c.args.marks.now c.args.input.now c.args.asked) (g.D.Disk.view c.args.disk.now) (g.D.Disk.view c.enter_store.new.disk) (g.D.Disk.view c.live_in_store.new.disk) (g.met.D.Disk.tells_all c.args.disk.now) c.enter_store.ensures.stays c.live_in_store.ensures.moments

pub returns-clause-later : goal.returns-clause-later
returns-clause-later g c = images_lived (g.D.Disk.view c.args.disk.now) (g.D.Disk.view c.enter_store.new.disk) (g.D.Disk.view c.live_in_store.new.disk) (g.met.D.Disk.tells_all c.args.disk.now) c.enter_store.ensures.stays c.live_in_store.ensures.later

pub returns-clause-told : goal.returns-clause-told
returns-clause-told g c =
    told_as_source c.args.compiled.now c.args.marks.now c.args.input.now c.args.asked (g.D.Disk.view c.args.disk.now) (g.D.Disk.view c.enter_store.new.disk) (g.D.Disk.view c.live_in_store.new.disk) c.in_ok-lived.lived c.tell_life.result c.enter_store.ensures.stays c.in_ok-lived.ensures.as_source c.tell_life.ensures.answer
