use Rattle.std.proofs.Common.{rules, arith, refl, sym, [], ◌∙◌, subst, inl, inr, ◌≤◌}
use Rattle.disk_model.proofs.Calls.{steady_twice}
use Rattle.ckpt_runner.specs.Calls.{GoesTo}
use Rattle.ckpt_runner.proofs.StandingThen.{standing_first, standing_then, images_first, images_after}
use Rattle.one_life.proofs.DriveLaws.{on_first, on_then, to_then, over_to, fits_on}
use Rattle.one_life.proofs.driving.run_to.Goals as goal

pub calls-init : goal.calls-init
calls-init g c =
    let a = c.args.life.now in
    let u = g.D.Disk.view c.args.disk.now in
    record {
      ready = c.requires.live;
      next = inl c.ticks-until.ensures.answer;
      within = subst (λ n. n ≤ c.args.bound) (sym c.ticks-until.ensures.answer) c.requires.bound;
      compiled = refl;
      goes = λ o es. on_first o es a u;
      moments = standing_first [] a u (g.met.D.Disk.lawful c.args.disk.now) (g.met.D.Disk.tells_all c.args.disk.now);
      later = images_first u (g.met.D.Disk.lawful c.args.disk.now) (g.met.D.Disk.tells_all c.args.disk.now);
      steps = refl;
      faults = refl;
      steady = record { tells = refl; tells_past = refl; faults = omega arith };
    }

pub go-requires-clause-fits : goal.go-requires-clause-fits
go-requires-clause-fits g c = fits_on c.args.life.now c.calls.life (g.D.Disk.view c.args.disk.now) (g.D.Disk.view c.calls.disk) c.calls.invariant.steady.tells c.requires.fits c.calls.invariant.goes

pub returns-then-until-bound-clause-goes : goal.returns-then-until-bound-clause-goes
returns-then-until-bound-clause-goes g c = λ o es lives.
    let on = c.calls.invariant.goes o es lives in
    let a = c.args.life.now in
    let u = g.D.Disk.view c.args.disk.now in
    subst (λ n. GoesTo o es n c.in_ok-ending.ending a u c.go.new.self (g.D.Disk.view c.go.new.disk)) c.if-until-bound.true
    (to_then o es c.calls.until c.in_ok-ending.ending a c.calls.life c.go.new.self u (g.D.Disk.view c.calls.disk) (g.D.Disk.view c.go.new.disk)
    c.calls.invariant.steady.tells on (c.in_ok-ending.ensures.goes o _ on.lives))

pub calls-preserved : goal.calls-preserved
calls-preserved g c =
    let a = c.args.life.now in
    let b = c.calls.life in
    let d = c.go.new.self in
    let u = g.D.Disk.view c.args.disk.now in
    let v = g.D.Disk.view c.calls.disk in
    let w = g.D.Disk.view c.go.new.disk in
    let h = c.calls.invariant in
    let going = c.in_ok-ending.ensures.going c.in-Going.is in
    record {
      ready = (going.1, going.2, going.3);
      next = inr (omega (arith, going.0));
      within = omega (arith, h.within, c.if-until-bound.false);
      compiled = c.go.ensures.same ∙ h.compiled;
      goes = λ o es lives. let on = h.goes o es lives in on_then o es a b d u v w h.steady.tells on (c.in_ok-ending.ensures.goes o _ on.lives).on;
      moments = standing_then a b u v w (g.met.D.Disk.tells_all c.args.disk.now) h.steady.tells h.goes h.moments c.go.ensures.moments;
      later = images_after u v w (g.met.D.Disk.tells_all c.args.disk.now) h.steady.tells h.later c.go.ensures.later;
      steps = omega (arith, h.steps, c.in_ok-ending.ensures.steps);
      faults = c.in_ok-ending.ensures.counts ∙ h.faults;
      steady = steady_twice u v w h.steady c.go.ensures.steady;
    }

pub returns-in_default : goal.returns-in_default
returns-in_default g c =
    let a = c.args.life.now in
    let b = c.calls.life in
    let d = c.go.new.self in
    let u = g.D.Disk.view c.args.disk.now in
    let v = g.D.Disk.view c.calls.disk in
    let w = g.D.Disk.view c.go.new.disk in
    let h = c.calls.invariant in
    record {
      goes = λ o es lives.
          let on = h.goes o es lives in
          over_to o es c.calls.until c.args.bound c.in_ok-ending.ending a d u w c.in_default.not-Going h.within
          (to_then o es c.calls.until c.in_ok-ending.ending a b d u v w h.steady.tells on (c.in_ok-ending.ensures.goes o _ on.lives));
      moments = standing_then a b u v w (g.met.D.Disk.tells_all c.args.disk.now) h.steady.tells h.goes h.moments c.go.ensures.moments;
      later = images_after u v w (g.met.D.Disk.tells_all c.args.disk.now) h.steady.tells h.later c.go.ensures.later;
      well = c.in_ok-ending.ensures.well;
      steps = omega (arith, h.steps, c.in_ok-ending.ensures.steps);
      failed = search rules;
      counts = c.in_ok-ending.ensures.counts ∙ h.faults;
      steady = steady_twice u v w h.steady c.go.ensures.steady;
    }

pub returns-in_err-ending-clause-moments : goal.returns-in_err-ending-clause-moments
returns-in_err-ending-clause-moments g c =
    let h = c.calls.invariant in
    standing_then c.args.life.now c.calls.life (g.D.Disk.view c.args.disk.now) (g.D.Disk.view c.calls.disk) (g.D.Disk.view c.go.new.disk) (g.met.D.Disk.tells_all c.args.disk.now) h.steady.tells h.goes h.moments c.go.ensures.moments

pub returns-in_err-ending-clause-later : goal.returns-in_err-ending-clause-later
returns-in_err-ending-clause-later g c =
    let h = c.calls.invariant in
    images_after (g.D.Disk.view c.args.disk.now) (g.D.Disk.view c.calls.disk) (g.D.Disk.view c.go.new.disk) (g.met.D.Disk.tells_all c.args.disk.now) h.steady.tells h.later c.go.ensures.later

pub returns-then-until-bound-clause-moments : goal.returns-then-until-bound-clause-moments
returns-then-until-bound-clause-moments g c =
    let h = c.calls.invariant in
    standing_then c.args.life.now c.calls.life (g.D.Disk.view c.args.disk.now) (g.D.Disk.view c.calls.disk) (g.D.Disk.view c.go.new.disk) (g.met.D.Disk.tells_all c.args.disk.now) h.steady.tells h.goes h.moments c.go.ensures.moments

pub returns-then-until-bound-clause-later : goal.returns-then-until-bound-clause-later
returns-then-until-bound-clause-later g c =
    let h = c.calls.invariant in
    images_after (g.D.Disk.view c.args.disk.now) (g.D.Disk.view c.calls.disk) (g.D.Disk.view c.go.new.disk) (g.met.D.Disk.tells_all c.args.disk.now) h.steady.tells h.later c.go.ensures.later
