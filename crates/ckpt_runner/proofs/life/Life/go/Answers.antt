use Rattle.std.proofs.Common.{◌∙◌, refl, ap, subst, ℕ, ◌<◌, [], ◌++◌, Option, Some, ⊎_elim, arith}
use Rattle.ckpt_base.specs.declared.ending.Ending.{Ending}
use Rattle.ckpt_base.specs.Faults.{Rose}
use Rattle.disk_model.proofs.Calls.{steady_twice}
use Rattle.paged_machine.specs.Rest.{rest}
use Rattle.run_images.specs.Compiled.{CompiledView}
use Rattle.ckpt_runner.specs.LifeView.{LifeView, is_idle}
use Rattle.ckpt_runner.specs.Serving.{TurnsTo}
use Rattle.ckpt_runner.proofs.GoingLaws.{on_first, on_then, turns_then, fits_on}
use Rattle.ckpt_runner.proofs.TurnLaws.{on_err_always}
use Rattle.ckpt_runner.proofs.StandingThen.{standing_first, standing_then, images_first, images_after}
use Rattle.ckpt_runner.proofs.life.Life.go.Goals as goal

pub turns-init : goal.turns-init
turns-init g c = record {
  live = c.requires.live;
  within = ⊎_elim (λ e. omega (arith, e)) (λ e. omega (arith, e)) c.requires.until;
  compiled = refl;
  writer = refl;
  goes = λ o es. on_first o es c.args.self.now (g.D.Disk.view c.args.disk.now);
  moments = standing_first [] c.args.self.now (g.D.Disk.view c.args.disk.now) (g.met.D.Disk.lawful c.args.disk.now) (g.met.D.Disk.tells_all c.args.disk.now);
  later = images_first (g.D.Disk.view c.args.disk.now) (g.met.D.Disk.lawful c.args.disk.now) (g.met.D.Disk.tells_all c.args.disk.now);
  steps = refl;
  counts = refl;
  steady = record { tells = refl; tells_past = refl; faults = omega arith };
}

pub turn-requires-clause-live : goal.turn-requires-clause-live
turn-requires-clause-live g c = (c.turns.invariant.live.0, c.turns.invariant.live.1)

pub turn-requires-clause-until : goal.turn-requires-clause-until
turn-requires-clause-until g c = c.turns.invariant.within

pub turn-requires-clause-fits : goal.turn-requires-clause-fits
turn-requires-clause-fits g c = fits_on c.args.self.now c.turns.self (g.D.Disk.view c.args.disk.now) (g.D.Disk.view c.turns.disk) c.turns.invariant.steady.tells c.requires.fits c.turns.invariant.goes

pub returns-in_err-ending-clause-same : goal.returns-in_err-ending-clause-same
returns-in_err-ending-clause-same g c = ap (λ (l : LifeView). l.compiled) c.turn.ensures.same ∙ c.turns.invariant.compiled

pub returns-in_err-ending-clause-failed : goal.returns-in_err-ending-clause-failed
returns-in_err-ending-clause-failed g c =
    on_err_always c.from_residual.result (subst (λ (n : ℕ). Rose n (g.D.Disk.view c.turn.new.disk).faults) c.turns.invariant.counts c.in_err-ending.ensures.failed)

pub returns-in_err-ending-clause-steady : goal.returns-in_err-ending-clause-steady
returns-in_err-ending-clause-steady g c = steady_twice (g.D.Disk.view c.args.disk.now) (g.D.Disk.view c.turns.disk) (g.D.Disk.view c.turn.new.disk) c.turns.invariant.steady c.turn.ensures.steady

pub returns-in-Some-clause-goes : goal.returns-in-Some-clause-goes
returns-in-Some-clause-goes g c = λ o es lives.
    let a = c.args.self.now in
    let b = c.turns.self in
    let d = c.turn.new.self in
    let u = g.D.Disk.view c.args.disk.now in
    let v = g.D.Disk.view c.turns.disk in
    let w = g.D.Disk.view c.turn.new.disk in
    let on = c.turns.invariant.goes o es lives in
    let turned = subst (λ (over : Option Ending). TurnsTo o (es ++ on.more) c.args.until over b v d w) c.in-Some.is (c.in_ok-ending.ensures.goes o (es ++ on.more) on.lives) in
    turns_then o es c.args.until c.in-Some.ending a b d u v w c.turns.invariant.steady.tells on turned

pub returns-in-Some-clause-steps : goal.returns-in-Some-clause-steps
returns-in-Some-clause-steps g c = omega (arith, c.turns.invariant.steps, c.turn.ensures.steps)

pub returns-in-Some-clause-going : goal.returns-in-Some-clause-going
returns-in-Some-clause-going g c = λ e.
    let at = c.in_ok-ending.ensures.going (c.in-Some.is ∙ ap (λ (x : Ending). Some x) e) in
    (at.0, at.1, c.in_ok-ending.ensures.well, ap (λ (l : LifeView). l.finished) c.turn.ensures.same ∙ c.turns.invariant.live.2)

pub returns-in-Some-clause-well : goal.returns-in-Some-clause-well
returns-in-Some-clause-well g c = c.in_ok-ending.ensures.well

pub returns-in-Some-clause-same : goal.returns-in-Some-clause-same
returns-in-Some-clause-same g c = ap (λ (l : LifeView). l.compiled) c.turn.ensures.same ∙ c.turns.invariant.compiled

pub returns-in-Some-clause-at_once : goal.returns-in-Some-clause-at_once
returns-in-Some-clause-at_once g c = λ at_once idle. ap (λ (l : LifeView). is_idle l.writer) c.turn.ensures.same ∙ ap is_idle c.turns.invariant.writer ∙ idle

pub returns-in-Some-clause-counts : goal.returns-in-Some-clause-counts
returns-in-Some-clause-counts g c = c.in_ok-ending.ensures.counts ∙ c.turns.invariant.counts

pub returns-in-Some-clause-steady : goal.returns-in-Some-clause-steady
returns-in-Some-clause-steady g c = steady_twice (g.D.Disk.view c.args.disk.now) (g.D.Disk.view c.turns.disk) (g.D.Disk.view c.turn.new.disk) c.turns.invariant.steady c.turn.ensures.steady

pub turns-smaller : goal.turns-smaller
turns-smaller g c =
    let less = (c.in_ok-ending.ensures.on c.in_default.is).1 in
    subst (λ (k : CompiledView). rest k.code c.args.until c.turn.new.self.machine.state < rest k.code c.args.until c.turns.self.machine.state) c.turns.invariant.compiled less

pub turns-preserved : goal.turns-preserved
turns-preserved g c =
    let a = c.args.self.now in
    let b = c.turns.self in
    let d = c.turn.new.self in
    let u = g.D.Disk.view c.args.disk.now in
    let v = g.D.Disk.view c.turns.disk in
    let w = g.D.Disk.view c.turn.new.disk in
    let h = c.turns.invariant in
    let done = c.in_ok-ending.ensures in
    record {
      live = ((done.on c.in_default.is).0, done.well, ap (λ (l : LifeView). l.finished) c.turn.ensures.same ∙ h.live.2);
      within = c.turn.ensures.within;
      compiled = ap (λ (l : LifeView). l.compiled) c.turn.ensures.same ∙ h.compiled;
      writer = ap (λ (l : LifeView). l.writer) c.turn.ensures.same ∙ h.writer;
      goes = λ o es lives. let on = h.goes o es lives in on_then o es a b d u v w h.steady.tells on (done.goes o (es ++ on.more) on.lives).0;
      moments = standing_then a b u v w (g.met.D.Disk.tells_all c.args.disk.now) h.steady.tells h.goes h.moments c.turn.ensures.moments;
      later = images_after u v w (g.met.D.Disk.tells_all c.args.disk.now) h.steady.tells h.later c.turn.ensures.later;
      steps = omega (arith, h.steps, c.turn.ensures.steps);
      counts = done.counts ∙ h.counts;
      steady = steady_twice u v w h.steady c.turn.ensures.steady;
    }

pub returns-in_err-ending-clause-moments : goal.returns-in_err-ending-clause-moments
returns-in_err-ending-clause-moments g c =
    let h = c.turns.invariant in
    standing_then c.args.self.now c.turns.self (g.D.Disk.view c.args.disk.now) (g.D.Disk.view c.turns.disk) (g.D.Disk.view c.turn.new.disk) (g.met.D.Disk.tells_all c.args.disk.now) h.steady.tells h.goes h.moments c.turn.ensures.moments

pub returns-in_err-ending-clause-later : goal.returns-in_err-ending-clause-later
returns-in_err-ending-clause-later g c =
    let h = c.turns.invariant in
    images_after (g.D.Disk.view c.args.disk.now) (g.D.Disk.view c.turns.disk) (g.D.Disk.view c.turn.new.disk) (g.met.D.Disk.tells_all c.args.disk.now) h.steady.tells h.later c.turn.ensures.later

pub returns-in-Some-clause-moments : goal.returns-in-Some-clause-moments
returns-in-Some-clause-moments g c =
    let h = c.turns.invariant in
    standing_then c.args.self.now c.turns.self (g.D.Disk.view c.args.disk.now) (g.D.Disk.view c.turns.disk) (g.D.Disk.view c.turn.new.disk) (g.met.D.Disk.tells_all c.args.disk.now) h.steady.tells h.goes h.moments c.turn.ensures.moments

pub returns-in-Some-clause-later : goal.returns-in-Some-clause-later
returns-in-Some-clause-later g c =
    let h = c.turns.invariant in
    images_after (g.D.Disk.view c.args.disk.now) (g.D.Disk.view c.turns.disk) (g.D.Disk.view c.turn.new.disk) (g.met.D.Disk.tells_all c.args.disk.now) h.steady.tells h.later c.turn.ensures.later
