use Rattle.ckpt_runner.proofs.StandingThen.{standing_then, images_after}
use Rattle.one_life.proofs.LiveLaws.{drive_lives}
use Rattle.one_life.proofs.SourceLaws.{drive_ends}
use Rattle.one_life.proofs.living.live_on.Goals as goal
use Rattle.std.proofs.Common.{[], subst, sym, IsTrue, ◌∙◌}

pub returns-clause-goes : goal.returns-clause-goes
returns-clause-goes g c = λ o lives.
    let u = g.D.Disk.view c.args.disk.now in
    let v = g.D.Disk.view c.run_to.new.disk in
    let w = g.D.Disk.view c.finish.new.disk in
    drive_lives o c.args.bound c.ticks-steps.result c.started-started.result c.in_ok-ending.ending c.args.life.now c.run_to.new.life c.finish.new.self u v w c.run_to.ensures.steady.tells
    (λ told. g.met.D.Disk.lawful c.finish.new.disk (subst IsTrue (sym (c.finish.ensures.steady.tells ∙ c.run_to.ensures.steady.tells)) told)) c.ticks-steps.ensures.answer
    (c.in_ok-ending.ensures.goes o [] lives) c.in_ok-finish.ensures.kept c.in_ok-finish.ensures.idle

pub returns-clause-ends : goal.returns-clause-ends
returns-clause-ends g c =
    let u = g.D.Disk.view c.args.disk.now in
    let v = g.D.Disk.view c.run_to.new.disk in
    let w = g.D.Disk.view c.finish.new.disk in
    drive_ends c.args.bound c.ticks-steps.result c.started-started.result c.in_ok-ending.ending c.args.life.now c.run_to.new.life u v w c.run_to.ensures.steady.tells c.ticks-steps.ensures.answer
    (λ o lives. c.in_ok-ending.ensures.goes o [] lives) c.in_ok-finish.ensures.ends

pub returns-clause-moments : goal.returns-clause-moments
returns-clause-moments g c =
    standing_then c.args.life.now c.run_to.new.life (g.D.Disk.view c.args.disk.now) (g.D.Disk.view c.run_to.new.disk) (g.D.Disk.view c.finish.new.disk) (g.met.D.Disk.tells_all c.args.disk.now) c.run_to.ensures.steady.tells
    (λ o es lives. (c.in_ok-ending.ensures.goes o es lives).on) c.run_to.ensures.moments c.finish.ensures.moments

pub returns-clause-later : goal.returns-clause-later
returns-clause-later g c =
    images_after (g.D.Disk.view c.args.disk.now) (g.D.Disk.view c.run_to.new.disk) (g.D.Disk.view c.finish.new.disk) (g.met.D.Disk.tells_all c.args.disk.now) c.run_to.ensures.steady.tells c.run_to.ensures.later c.finish.ensures.later

pub returns-in_err-finish-clause-moments : goal.returns-in_err-finish-clause-moments
returns-in_err-finish-clause-moments g c =
    standing_then c.args.life.now c.run_to.new.life (g.D.Disk.view c.args.disk.now) (g.D.Disk.view c.run_to.new.disk) (g.D.Disk.view c.finish.new.disk) (g.met.D.Disk.tells_all c.args.disk.now) c.run_to.ensures.steady.tells
    (λ o es lives. (c.in_ok-ending.ensures.goes o es lives).on) c.run_to.ensures.moments c.finish.ensures.moments

pub returns-in_err-finish-clause-later : goal.returns-in_err-finish-clause-later
returns-in_err-finish-clause-later g c =
    images_after (g.D.Disk.view c.args.disk.now) (g.D.Disk.view c.run_to.new.disk) (g.D.Disk.view c.finish.new.disk) (g.met.D.Disk.tells_all c.args.disk.now) c.run_to.ensures.steady.tells c.run_to.ensures.later c.finish.ensures.later
