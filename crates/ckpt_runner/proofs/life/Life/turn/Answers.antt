use Rattle.std.proofs.Common.{◌≡◌, ◌∙◌, sym, ap, subst, ℕ, ◌≤◌, [], Some, None, arith}
use Rattle.ckpt_base.specs.declared.ending.Ending.TheVariants as ending
use Rattle.machine_code.specs.declared.event.Event.{Event}
use Rattle.machine_code.specs.declared.event.Event.TheVariants as machine
use Rattle.paged_machine.specs.RunOn.{Answers, live_behind}
use Rattle.compiled_program.specs.CanRun.{CanRun}
use Rattle.ckpt_runner.specs.LifeView.{LifeView}
use Rattle.ckpt_runner.proofs.StoppedLaws.{asks_life, served_live, value_back}
use Rattle.ckpt_runner.proofs.TurnLaws.{going_turn, ended_turn, trapped_turn, asked_here, asked_fits, served_turn, ran_stands, less_turn, same_turn}
use Rattle.ckpt_runner.proofs.StandingThen.{standing_first, images_first}
use Rattle.ckpt_runner.proofs.life.Life.turn.Goals as goal

pub returns-in_default-clause-goes : goal.returns-in_default-clause-goes
returns-in_default-clause-goes g c = λ o es lives.
    let stop = c.run.ensures.stopped c.in_default.is in
    let at : c.run.new.self.machine.state.ticks ≡ c.args.until = omega (arith, stop.1, c.run.ensures.within, c.requires.until) in
    going_turn c.args.self.now c.run.new.self c.run.ensures.same c.keeps_sound.ensures.sound o es c.args.until (g.D.Disk.view c.args.disk.now) c.run.result c.in_default.is c.run.ensures.goes at stop.0 lives

pub returns-in-Ended-clause-goes : goal.returns-in-Ended-clause-goes
returns-in-Ended-clause-goes g c = λ o es lives.
    let a = c.args.self.now in
    let b = c.run.new.self in
    let x = c.in-Ended.value in
    let is : c.run.result ≡ Some (machine.Ended x) = c.in-Some.is ∙ ap (λ (e : Event). Some e) c.in-Ended.is in
    let at = subst (Answers a.compiled.code b.pages b.machine.state b.frames) is c.run.ensures.answer in
    let within : b.machine.state.ticks ≤ c.args.until = omega (arith, c.run.ensures.within, c.requires.until) in
    ended_turn a b c.run.ensures.same c.keeps_sound.ensures.sound o es c.args.until (g.D.Disk.view c.args.disk.now) c.run.result x _ (value_back a.compiled.code b.pages b.machine.state b.frames x at) is c.run.ensures.goes within at lives

pub returns-in-Trapped-clause-goes : goal.returns-in-Trapped-clause-goes
returns-in-Trapped-clause-goes g c = λ o es lives.
    let a = c.args.self.now in
    let b = c.run.new.self in
    let is : c.run.result ≡ Some (machine.Trapped c.in-Trapped.trap) = c.in-Some.is ∙ ap (λ (e : Event). Some e) c.in-Trapped.is in
    let at = subst (Answers a.compiled.code b.pages b.machine.state b.frames) is c.run.ensures.answer in
    let within : b.machine.state.ticks ≤ c.args.until = omega (arith, c.run.ensures.within, c.requires.until) in
    trapped_turn a b c.run.ensures.same c.keeps_sound.ensures.sound o es c.args.until (g.D.Disk.view c.args.disk.now) c.run.result c.in-Trapped.trap is c.run.ensures.goes within at lives

pub serve-requires : goal.serve-requires
serve-requires g c =
    let a = c.args.self.now in
    let b = c.run.new.self in
    let e = c.in-Some.event in
    let same = c.run.ensures.same in
    let at = subst (Answers a.compiled.code b.pages b.machine.state b.frames) c.in-Some.is c.run.ensures.answer in
    let fault : (p : ℕ) → e ≡ machine.WriteFault p → ⊥ = λ p f. c.run.ensures.served p (c.in-Some.is ∙ ap (λ (x : Event). Some x) f) in
    let asks = asks_life a.compiled.code b.pages b.machine.state b.frames e at fault c.in_default-event.not-Ended c.in_default-event.not-Trapped in
    record {
      live = (ap (λ (l : LifeView). l.failed) same ∙ c.requires.live.1, c.run.ensures.live ∙ ap live_behind c.in-Some.is ∙ served_live e asks);
      runs = subst CanRun (sym (ap (λ (l : LifeView). l.compiled) same)) c.keeps_sound.ensures.sound.runs;
      asks = asks;
      answers = asked_here a b same c.keeps_sound.ensures.sound c.run.result e c.in-Some.is c.run.ensures.answer;
      fits = asked_fits a b same c.keeps_sound.ensures.sound (g.D.Disk.view c.args.disk.now) c.run.result e c.in-Some.is c.run.ensures.goes c.requires.fits;
    }

pub returns-in_ok-serve-in_default-event : goal.returns-in_ok-serve-in_default-event
returns-in_ok-serve-in_default-event g c =
    let a = c.args.self.now in
    let b = c.run.new.self in
    let d = c.serve.new.self in
    let e = c.in-Some.event in
    let same = c.run.ensures.same in
    let sound = c.keeps_sound.ensures.sound in
    let done = c.in_ok-serve-in_default-event.ensures in
    let u = g.D.Disk.view c.args.disk.now in
    let w = g.D.Disk.view c.serve.new.disk in
    let at = subst (Answers a.compiled.code b.pages b.machine.state b.frames) c.in-Some.is c.run.ensures.answer in
    let fault : (p : ℕ) → e ≡ machine.WriteFault p → ⊥ = λ p f. c.run.ensures.served p (c.in-Some.is ∙ ap (λ (x : Event). Some x) f) in
    let asks = asks_life a.compiled.code b.pages b.machine.state b.frames e at fault c.in_default-event.not-Ended c.in_default-event.not-Trapped in
    record {
      same = same_turn a b d same c.serve.ensures.same;
      well = done.well;
      goes = λ o es lives. (served_turn a b same sound o es d u w c.run.result e c.in-Some.is c.run.ensures.goes done.goes lives, tt);
      moments = ran_stands a b same sound u w c.run.result e c.in-Some.is c.run.ensures.goes c.serve.ensures.moments;
      later = c.serve.ensures.later;
      steps = omega (arith, c.run.ensures.steps, c.serve.ensures.ticks);
      within = omega (arith, c.run.ensures.within, c.requires.until, c.serve.ensures.ticks);
      going = λ none. absurd (let z : None ≡ Some ending.Going = none in cc);
      on = λ none. (
        ap (λ (l : LifeView). l.machine.live) c.serve.ensures.same ∙ c.run.ensures.live ∙ ap live_behind c.in-Some.is ∙ served_live e asks,
        less_turn a b same sound c.args.until d.machine.state c.run.result e c.in-Some.is c.run.ensures.shrinks done.shrinks,
      );
      failed = tt;
      counts = done.counts;
      steady = c.serve.ensures.steady;
    }

pub returns-in_default-clause-moments : goal.returns-in_default-clause-moments
returns-in_default-clause-moments g c = standing_first [] c.args.self.now (g.D.Disk.view c.args.disk.now) (g.met.D.Disk.lawful c.args.disk.now) (g.met.D.Disk.tells_all c.args.disk.now)

pub returns-in_default-clause-later : goal.returns-in_default-clause-later
returns-in_default-clause-later g c = images_first (g.D.Disk.view c.args.disk.now) (g.met.D.Disk.lawful c.args.disk.now) (g.met.D.Disk.tells_all c.args.disk.now)

pub returns-in-Ended-clause-moments : goal.returns-in-Ended-clause-moments
returns-in-Ended-clause-moments g c = standing_first [] c.args.self.now (g.D.Disk.view c.args.disk.now) (g.met.D.Disk.lawful c.args.disk.now) (g.met.D.Disk.tells_all c.args.disk.now)

pub returns-in-Ended-clause-later : goal.returns-in-Ended-clause-later
returns-in-Ended-clause-later g c = images_first (g.D.Disk.view c.args.disk.now) (g.met.D.Disk.lawful c.args.disk.now) (g.met.D.Disk.tells_all c.args.disk.now)

pub returns-in-Trapped-clause-moments : goal.returns-in-Trapped-clause-moments
returns-in-Trapped-clause-moments g c = standing_first [] c.args.self.now (g.D.Disk.view c.args.disk.now) (g.met.D.Disk.lawful c.args.disk.now) (g.met.D.Disk.tells_all c.args.disk.now)

pub returns-in-Trapped-clause-later : goal.returns-in-Trapped-clause-later
returns-in-Trapped-clause-later g c = images_first (g.D.Disk.view c.args.disk.now) (g.met.D.Disk.lawful c.args.disk.now) (g.met.D.Disk.tells_all c.args.disk.now)

pub returns-in_err-serve-in_default-event-clause-moments : goal.returns-in_err-serve-in_default-event-clause-moments
returns-in_err-serve-in_default-event-clause-moments g c =
    ran_stands c.args.self.now c.run.new.self c.run.ensures.same c.keeps_sound.ensures.sound (g.D.Disk.view c.args.disk.now) (g.D.Disk.view c.serve.new.disk) c.run.result c.in-Some.event c.in-Some.is c.run.ensures.goes c.serve.ensures.moments
