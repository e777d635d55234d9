-- Calls on a life, one after another.
use Rattle.std.proofs.Common.{◌≡◌, ◌⊎◌, sym, ap, subst, ℕ, ◌+◌, ◌≤◌, true, false, IsTrue, List, [], ◌++◌, append_assoc, append-nil, arith}
use Rattle.ckpt_base.specs.Event.{Event}
use Rattle.ckpt_base.specs.declared.ending.Ending.{Ending}
use Rattle.ckpt_base.specs.declared.ending.Ending.TheVariants.{Going}
use Rattle.ckpt_base.specs.Run.{Run}
use Rattle.machine_code.specs.declared.event.Event as of_machine
use Rattle.machine_code.specs.declared.event.Event.TheVariants as answer
use Rattle.machine_code.specs.Run.{World, StopsBy, next_row, unprotected}
use Rattle.disk_model.specs.View.{View, Steady}
use Rattle.run_images.specs.Origin.{Origin, ticks_ahead}
use Rattle.ckpt_runner.specs.LifeView.{LifeView}
use Rattle.ckpt_runner.specs.Lives.{Lives, StopsAt, run_now}
use Rattle.ckpt_runner.specs.Good.{IsGood}
use Rattle.ckpt_runner.specs.Keeps.{Kept}
use Rattle.ckpt_runner.specs.Calls.{FitsDisk, GoesOn, GoesTo}
use Rattle.ckpt_runner.specs.Standing.{KeepsStanding, KeepsImages}

pub on_first : (o : Origin) (es : List Event) (a : LifeView) (u : View) → Lives o es a → GoesOn o es a u a u
on_first o es a u lives = record {
  more = [];
  lives = subst (λ l. Lives o l a) (sym (append-nil es)) lives;
  kept = λ told k. subst (λ l. Kept o l a u) (sym (append-nil es)) k;
  good = λ told s is of k. subst (λ (l : List Event). IsGood s o l a u) (sym (append-nil es)) k;
}

pub on_then : (o : Origin) (es : List Event) (a b c : LifeView) (u v w : View) → v.tells ≡ u.tells → (x : GoesOn o es a u b v) → GoesOn o (es ++ x.more) b v c w → GoesOn o es a u c w
on_then o es a b c u v w tells x y =
    let e = append_assoc es x.more y.more in
    record {
      more = x.more ++ y.more;
      lives = subst (λ l. Lives o l c) e y.lives;
      kept = λ told k. subst (λ l. Kept o l c w) e (y.kept (subst IsTrue (sym tells) told) (x.kept told k));
      good = λ told s is of k. subst (λ (l : List Event). IsGood s o l c w) e (y.good (subst IsTrue (sym tells) told) s is of (x.good told s is of k));
    }

-- a life was driven from one moment to another
pub record Driven (a : LifeView) (u : View) (b : LifeView) (v : View) (bound until first counted : ℕ) : Type 0 where
  pub ready : (b.machine.live ≡ true) × (b.failed ≡ false) × (b.finished ≡ false)
  pub next : (until ≡ b.machine.state.ticks) ⊎ (until ≡ b.machine.state.ticks + 1)
  pub within : until ≤ bound
  pub compiled : b.compiled ≡ a.compiled
  pub goes : (o : Origin) (es : List Event) → Lives o es a → GoesOn o es a u b v
  pub moments : KeepsStanding a u v
  pub later : KeepsImages u v
  pub steps : counted + a.machine.state.ticks ≡ first + b.machine.state.ticks
  pub faults : v.faults ≡ u.faults
  pub steady : Steady u v

pub fits_on : (a b : LifeView) (u v : View) → v.tells ≡ u.tells → FitsDisk a u → ((o : Origin) (es : List Event) → Lives o es a → GoesOn o es a u b v) → FitsDisk b v
fits_on a b u v tells fits goes told =
    let was = fits (subst IsTrue tells told) in
    let o = was.0 in
    let es = was.1 in
    let on = goes o es was.2 in
    (o, es ++ on.more, on.lives, on.kept (subst IsTrue tells told) was.3)

pub to_then : (o : Origin) (es : List Event) (until : ℕ) (e : Ending) (a b c : LifeView) (u v w : View) → v.tells ≡ u.tells → (x : GoesOn o es a u b v) → GoesTo o (es ++ x.more) until e b v c w → GoesTo o es until e a u c w
unfolding on_then
to_then o es until e a b c u v w tells x y = record {
  on = on_then o es a b c u v w tells x y.on;
  stops = subst (λ l. StopsAt o l until e c) (append_assoc es x.more y.on.more) y.stops;
}

-- a run that is over stays so with more ticks
over_by : (e : of_machine.Event) (v : World) (n m : ℕ) (r : Run) → (r.ending ≡ Going → ⊥) → n ≤ m → StopsBy e v n r → StopsBy e v m r
over_by (answer.Ended x) v n m r not le h = (omega (arith, h.0), h.1)
over_by (answer.Trapped t) v n m r not le h = (omega (arith, h.0), h.1)
over_by answer.Ticked v n m r not le h = absurd (not (ap (λ (q : Run). q.ending) h.1))
over_by answer.Ran v n m r not le h = absurd h
over_by (answer.WriteFault p) v n m r not le h = absurd h
over_by (answer.Out b) v n m r not le h = absurd h
over_by (answer.OutNumber x) v n m r not le h = absurd h
over_by answer.WantsInput v n m r not le h = absurd h
over_by (answer.Checkpoint k) v n m r not le h = absurd h
over_by (answer.Exclude k) v n m r not le h = absurd h

pub over_more : (o : Origin) (es : List Event) (until bound : ℕ) (e : Ending) (life : LifeView) → (e ≡ Going → ⊥) → until ≤ bound → StopsAt o es until e life → StopsAt o es bound e life
over_more o es until bound e life not le h = (h.0, h.1, over_by (next_row o.code unprotected h.0.state h.0.memory).event h.0 (o.state.ticks + ticks_ahead o until) (o.state.ticks + ticks_ahead o bound) (run_now o es e life) not (omega (arith, le)) h.2)

pub over_to : (o : Origin) (es : List Event) (until bound : ℕ) (e : Ending) (a c : LifeView) (u w : View) → (e ≡ Going → ⊥) → until ≤ bound → GoesTo o es until e a u c w → GoesTo o es bound e a u c w
over_to o es until bound e a c u w not le x = record { on = x.on; stops = over_more o (es ++ x.on.more) until bound e c not le x.stops }
