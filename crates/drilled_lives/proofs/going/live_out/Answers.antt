use Rattle.std.proofs.Common.{arith}
use Rattle.drilled_lives.proofs.GoingLaws.{fits_to, life_on, loses_none, loses_twice, run_stops, stands_then}
use Rattle.drilled_lives.proofs.going.live_out.Goals as goal

pub finish-requires-clause-fits : goal.finish-requires-clause-fits
finish-requires-clause-fits g c =
    let u = g.D.Disk.view c.args.disk.now in
    let v = g.D.Disk.view c.run_to.new.disk in
    fits_to c.args.until c.in_ok-ending.ending c.args.life.now c.run_to.new.life u v c.run_to.ensures.steady.tells c.requires.fits c.in_ok-ending.ensures.goes

pub returns-clause-comes : goal.returns-clause-comes
returns-clause-comes g c = λ s o l from.
    let u = g.D.Disk.view c.args.disk.now in
    let v = g.D.Disk.view c.run_to.new.disk in
    let x = c.in_ok-ending.ensures.goes o _ l.lives in
    c.in_ok-lived.ensures.comes s o x.on.more c.args.until
    (run_stops s o c.args.until c.in_ok-ending.ending c.args.life.now c.run_to.new.life u v c.run_to.ensures.steady.tells (omega (arith, from, c.requires.bound)) x l)

pub returns-clause-stand : goal.returns-clause-stand
returns-clause-stand g c = λ s o l.
    let u = g.D.Disk.view c.args.disk.now in
    let v = g.D.Disk.view c.run_to.new.disk in
    let x = c.in_ok-ending.ensures.goes o _ l.lives in
    c.finish.ensures.stand s o x.on.more (life_on s o _ c.args.until c.in_ok-ending.ending c.args.life.now c.run_to.new.life u v c.run_to.ensures.steady.tells x l)

pub returns-clause-later : goal.returns-clause-later
returns-clause-later g c =
    let u = g.D.Disk.view c.args.disk.now in
    let v = g.D.Disk.view c.run_to.new.disk in
    loses_twice u v (g.D.Disk.view c.finish.new.disk) c.run_to.ensures.steady.tells (loses_none u v c.run_to.ensures.later) c.finish.ensures.later

pub returns-in_err-lived-clause-stand : goal.returns-in_err-lived-clause-stand
returns-in_err-lived-clause-stand g c = λ s o l.
    let u = g.D.Disk.view c.args.disk.now in
    let v = g.D.Disk.view c.run_to.new.disk in
    let x = c.in_ok-ending.ensures.goes o _ l.lives in
    c.finish.ensures.stand s o x.on.more (life_on s o _ c.args.until c.in_ok-ending.ending c.args.life.now c.run_to.new.life u v c.run_to.ensures.steady.tells x l)

pub returns-in_err-lived-clause-later : goal.returns-in_err-lived-clause-later
returns-in_err-lived-clause-later g c =
    let u = g.D.Disk.view c.args.disk.now in
    let v = g.D.Disk.view c.run_to.new.disk in
    loses_twice u v (g.D.Disk.view c.finish.new.disk) c.run_to.ensures.steady.tells (loses_none u v c.run_to.ensures.later) c.finish.ensures.later

pub returns-in_err-ending-clause-stand : goal.returns-in_err-ending-clause-stand
returns-in_err-ending-clause-stand g c = λ s o l. stands_then s o _ c.args.life.now (g.D.Disk.view c.args.disk.now) (g.D.Disk.view c.run_to.new.disk) c.run_to.ensures.moments l

pub returns-in_err-ending-clause-later : goal.returns-in_err-ending-clause-later
returns-in_err-ending-clause-later g c = loses_none (g.D.Disk.view c.args.disk.now) (g.D.Disk.view c.run_to.new.disk) c.run_to.ensures.later
