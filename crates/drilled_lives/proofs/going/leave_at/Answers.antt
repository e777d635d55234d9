use Rattle.std.proofs.Common.{rules, ◌≤◌, ap, ◌∙◌, arith, Some}
use Rattle.disk_model.proofs.Calls.{steady_twice}
use Rattle.drilled_lives.proofs.GoingLaws.{going_comes, life_on, loses_none, loses_twice, over_not, over_stops, stands_then}
use Rattle.drilled_lives.proofs.going.leave_at.Goals as goal

pub returns-in_err-ending-clause-stand : goal.returns-in_err-ending-clause-stand
returns-in_err-ending-clause-stand g c = λ s o l. stands_then s o _ c.args.life.now (g.D.Disk.view c.args.disk.now) (g.D.Disk.view c.run_to.new.disk) c.run_to.ensures.moments l

pub returns-in-Going-clause-comes : goal.returns-in-Going-clause-comes
returns-in-Going-clause-comes g c = λ s o l from.
    let u = g.D.Disk.view c.args.disk.now in
    let v = g.D.Disk.view c.run_to.new.disk in
    going_comes c.lives_end_as_their_source.ensures.law s o c.args.tick c.args.until c.in_ok-ending.ending c.args.life.now c.run_to.new.life u v c.run_to.ensures.steady.tells (g.met.D.Disk.lawful c.run_to.new.disk)
    (omega (arith, from, c.requires.tick)) c.requires.within c.in-Going.is (c.in_ok-ending.ensures.goes o _ l.lives) l

pub returns-in-Going-clause-stand : goal.returns-in-Going-clause-stand
returns-in-Going-clause-stand g c = λ s o l. stands_then s o _ c.args.life.now (g.D.Disk.view c.args.disk.now) (g.D.Disk.view c.run_to.new.disk) c.run_to.ensures.moments l

pub returns-in_err-lived-in_default : goal.returns-in_err-lived-in_default
returns-in_err-lived-in_default g c =
    let a = c.args.life.now in
    let b = c.run_to.new.life in
    let u = g.D.Disk.view c.args.disk.now in
    let v = g.D.Disk.view c.run_to.new.disk in
    let w = g.D.Disk.view c.finish.new.disk in
    let same = c.run_to.ensures.steady.tells in
    record {
      started = search rules;
      comes = search rules;
      stand = λ s o l. let x = c.in_ok-ending.ensures.goes o _ l.lives in c.finish.ensures.stand s o x.on.more (life_on s o _ c.args.tick c.in_ok-ending.ending a b u v same x l);
      later = loses_twice u v w same (loses_none u v c.run_to.ensures.later) c.finish.ensures.later;
      steady = steady_twice u v w c.run_to.ensures.steady c.finish.ensures.steady;
    }

pub returns-in_ok-lived-in_default : goal.returns-in_ok-lived-in_default
returns-in_ok-lived-in_default g c =
    let a = c.args.life.now in
    let b = c.run_to.new.life in
    let u = g.D.Disk.view c.args.disk.now in
    let v = g.D.Disk.view c.run_to.new.disk in
    let w = g.D.Disk.view c.finish.new.disk in
    let same = c.run_to.ensures.steady.tells in
    record {
      started = ap (λ x. Some x) (c.in_ok-lived-in_default.ensures.started ∙ c.started-started.ensures.answer);
      comes = λ s o l from.
          let x = c.in_ok-ending.ensures.goes o _ l.lives in
          let before : o.state.ticks ≤ c.args.tick = omega (arith, from, c.requires.tick) in (
            over_not c.lives_end_as_their_source.ensures.law s o c.args.tick c.args.until c.in_ok-ending.ending a b u v before c.in_default.not-Going x l,
            c.in_ok-lived-in_default.ensures.comes s o x.on.more c.args.until (over_stops s o c.args.tick c.args.until c.in_ok-ending.ending a b u v same before c.requires.within c.in_default.not-Going x l),
          );
      stand = λ s o l. let x = c.in_ok-ending.ensures.goes o _ l.lives in c.finish.ensures.stand s o x.on.more (life_on s o _ c.args.tick c.in_ok-ending.ending a b u v same x l);
      later = loses_twice u v w same (loses_none u v c.run_to.ensures.later) c.finish.ensures.later;
      steady = steady_twice u v w c.run_to.ensures.steady c.finish.ensures.steady;
    }
