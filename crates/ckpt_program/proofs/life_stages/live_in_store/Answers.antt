use Rattle.std.proofs.lemmas.Result.{err_from_is_err_and}
use Rattle.ckpt_program.specs.LifeStages.{given_with}
use Rattle.ckpt_program.proofs.Living.{unlived, calm_unlived, keeps_unlived, lived_in, output_lasts}
use Rattle.ckpt_program.proofs.life_stages.live_in_store.Goals as goal

pub returns-in_err-live-clause-answer : goal.returns-in_err-live-clause-answer
returns-in_err-live-clause-answer g c =
    let told = err_from_is_err_and c.from_residual.result c.from_residual.ensures.1 in
    let fault = c.in_err-live.ensures in
    rw told.1 (unlived (given_with c.args.compiled.now c.args.marks.now c.args.input.now c.args.asked) (g.D.Disk.view c.args.disk.now) (g.D.Disk.view c.live.new.disk) told.0 c.in_err-live.field-0.0 told.2 fault.leaves fault.err)

pub returns-in_err-live-clause-count : goal.returns-in_err-live-clause-count
returns-in_err-live-clause-count g c =
    let told = err_from_is_err_and c.from_residual.result c.from_residual.ensures.1 in
    rw told.1 (calm_unlived (g.D.Disk.view c.args.disk.now) (g.D.Disk.view c.live.new.disk) told.0 c.in_err-live.field-0.0 told.2 c.in_err-live.ensures.leaves c.live.ensures.steady.faults)

pub returns-in_err-live-clause-keeps : goal.returns-in_err-live-clause-keeps
returns-in_err-live-clause-keeps g c =
    let told = err_from_is_err_and c.from_residual.result c.from_residual.ensures.1 in
    rw told.1 (keeps_unlived (g.D.Disk.view c.args.disk.now) (g.D.Disk.view c.live.new.disk) told.0 c.in_err-live.field-0.0 told.2 c.in_err-live.ensures.leaves c.live.ensures.steady)

pub returns-clause-answer : goal.returns-clause-answer
returns-clause-answer g c = lived_in (given_with c.args.compiled.now c.args.marks.now c.args.input.now c.args.asked) (g.D.Disk.view c.args.disk.now) (g.D.Disk.view c.live.new.disk) c.in_ok-live.field-0 c.in_ok-live.ensures.ran c.in_ok-live.ensures.told

pub returns-clause-lasting : goal.returns-clause-lasting
returns-clause-lasting g c = output_lasts (given_with c.args.compiled.now c.args.marks.now c.args.input.now c.args.asked) (g.D.Disk.view c.args.disk.now) (g.D.Disk.view c.live.new.disk) c.in_ok-live.field-0 c.live.ensures.steady.tells c.in_ok-live.ensures.told
