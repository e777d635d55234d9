use Rattle.std.proofs.Common.{◌∙◌, ap}
use Rattle.ckpt_runner.specs.Arguments.{given_by}
use Rattle.drilled_lives.specs.Courses.{ticks_of}
use Rattle.drilled_lives.proofs.GoingLaws.{loses_none, loses_twice}
use Rattle.drilled_lives.proofs.LivingLaws.{fits_opened, going_stands, lives_to, opened_stands}
use Rattle.drilled_lives.proofs.living.live_to.Goals as goal

pub go_to-requires-clause-fits : goal.go_to-requires-clause-fits
go_to-requires-clause-fits g c =
    let given = given_by c.args.compiled.now c.args.marks.now c.args.input.now c.args.how in
    fits_opened given c.in_ok-life.life (g.D.Disk.view c.args.disk.now) (g.D.Disk.view c.open.new.disk) c.open.ensures.steady.tells c.in_ok-life.ensures.opens

pub returns-in-Ok-clause-lives : goal.returns-in-Ok-clause-lives
returns-in-Ok-clause-lives g c = λ told s given spaced stand.
    let args = given_by c.args.compiled.now c.args.marks.now c.args.input.now c.args.how in
    lives_to args s c.in_ok-life.life (g.D.Disk.view c.args.disk.now) (g.D.Disk.view c.open.new.disk) c.open.ensures.steady.tells c.in_ok-life.ensures.good c.in_ok-life.ensures.ticks told given stand
    (g.D.Disk.view c.go_to.new.disk) c.args.step c.stop_at-stop.result c.in-Ok.course spaced (c.stop_at-stop.ensures.answer ∙ ap (ticks_of c.args.step) c.ticks.ensures.answer) c.in-Ok.ensures.started c.in-Ok.ensures.comes

pub returns-in-Ok-clause-stand : goal.returns-in-Ok-clause-stand
returns-in-Ok-clause-stand g c = λ told s given stand.
    let args = given_by c.args.compiled.now c.args.marks.now c.args.input.now c.args.how in
    going_stands args s c.in_ok-life.life (g.D.Disk.view c.args.disk.now) (g.D.Disk.view c.open.new.disk) c.open.ensures.steady.tells c.in_ok-life.ensures.good c.in_ok-life.ensures.ticks told given stand
    (g.D.Disk.view c.go_to.new.disk) c.go_to.ensures.stand

pub returns-in-Ok-clause-later : goal.returns-in-Ok-clause-later
returns-in-Ok-clause-later g c =
    let u = g.D.Disk.view c.args.disk.now in
    let v = g.D.Disk.view c.open.new.disk in
    loses_twice u v (g.D.Disk.view c.go_to.new.disk) c.open.ensures.steady.tells (loses_none u v c.open.ensures.later) c.go_to.ensures.later

pub returns-clause-stand : goal.returns-clause-stand
returns-clause-stand g c = λ told s given stand.
    let args = given_by c.args.compiled.now c.args.marks.now c.args.input.now c.args.how in
    going_stands args s c.in_ok-life.life (g.D.Disk.view c.args.disk.now) (g.D.Disk.view c.open.new.disk) c.open.ensures.steady.tells c.in_ok-life.ensures.good c.in_ok-life.ensures.ticks told given stand
    (g.D.Disk.view c.go_to.new.disk) c.go_to.ensures.stand

pub returns-clause-later : goal.returns-clause-later
returns-clause-later g c =
    let u = g.D.Disk.view c.args.disk.now in
    let v = g.D.Disk.view c.open.new.disk in
    loses_twice u v (g.D.Disk.view c.go_to.new.disk) c.open.ensures.steady.tells (loses_none u v c.open.ensures.later) c.go_to.ensures.later

pub returns-in_err-life-clause-stand : goal.returns-in_err-life-clause-stand
returns-in_err-life-clause-stand g c = λ told s given stand.
    opened_stands s (given_by c.args.compiled.now c.args.marks.now c.args.input.now c.args.how) (g.D.Disk.view c.args.disk.now) (g.D.Disk.view c.open.new.disk) c.open.ensures.moments told given stand

pub returns-in_err-life-clause-later : goal.returns-in_err-life-clause-later
returns-in_err-life-clause-later g c = loses_none (g.D.Disk.view c.args.disk.now) (g.D.Disk.view c.open.new.disk) c.open.ensures.later
