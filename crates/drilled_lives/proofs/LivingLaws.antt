-- A life of a source that was opened on a store, and goes on.
use Rattle.std.proofs.Common.{◌≡◌, refl, sym, ◌∙◌, ap, subst, ℕ, ◌≤◌, le_of_eq, IsTrue, List, [], Option, Some, None}
use Rattle.disk_model.specs.Store.{Store}
use Rattle.disk_model.specs.View.{View}
use Rattle.image_format.specs.declared.fields.Fields.{Fields}
use Rattle.machine_code.specs.State.{State}
use Rattle.run_images.specs.Origin.{Origin}
use Rattle.run_images.specs.Source.{Source}
use Rattle.run_images.specs.Stands.{AllStand}
use Rattle.ckpt_runner.specs.declared.started.Started.{Started}
use Rattle.ckpt_runner.specs.declared.started.Started.TheVariants.{Begun, Resumed}
use Rattle.ckpt_runner.specs.LifeView.{LifeView}
use Rattle.ckpt_runner.specs.Lives.{Lives}
use Rattle.ckpt_runner.specs.Keeps.{Kept}
use Rattle.ckpt_runner.specs.Calls.{FitsDisk}
use Rattle.ckpt_runner.specs.Opening.{Given, Opens, ticks_at}
use Rattle.ckpt_runner.specs.Standing.{IsGivenSource, OpensGood, OpensStanding}
use Rattle.drilled_lives.specs.declared.course.Course.{Course}
use Rattle.drilled_lives.specs.Courses.{start_of, ticks_of}
use Rattle.drilled_lives.specs.Between.{IsSpacedBy}
use Rattle.drilled_lives.specs.Going.{ComesAsRun, IsLifeOf}
use Rattle.drilled_lives.specs.Living.{LivesTo}

some_same : {X : Type 0} (x y : X) → Some x ≡ Some y → x ≡ y
some_same x y e = cc

pub opens_ticks : (g : Given) (c : Store) (started : Started) (o : Origin) → Opens g c started o → o.state.ticks ≡ ticks_at started
opens_ticks g c Begun o opens = ap (λ (x : Origin). x.state.ticks) opens.1
opens_ticks g c (Resumed image step) o opens =
    let at = opens.6 in
    let same : at.newest ≡ opens.1 = some_same at.newest opens.1 (sym at.newest_is ∙ opens.2.has.newest_is) in
    ap (λ (x : State). x.ticks) at.place.2 ∙ ap (λ (f : Fields). f.steps) same ∙ sym opens.5

-- what the store and the life that was opened on it are to each other
abbrev pub Opened : Given → LifeView → View → View → Type 0
Opened g a u v = IsTrue u.tells → (o : Origin) × Opens g u.seen a.started o × Lives o [] a × Kept o [] a v

pub fits_opened : (g : Given) (a : LifeView) (u v : View) → v.tells ≡ u.tells → Opened g a u v → FitsDisk a v
fits_opened g a u v same opens told = let x = opens (subst IsTrue same told) in (x.0, [], x.2, x.3)

pub opened_stands : (s : Source) (g : Given) (u v : View) → OpensStanding u v → IsTrue u.tells → IsGivenSource g s → AllStand s u → AllStand s v
opened_stands s g u v moments told given stand c left = (moments told s given.source stand).now told c left

module _ (g : Given) (s : Source) (a : LifeView) (u v : View) (same : v.tells ≡ u.tells) (good : OpensGood g a u v) (ticks : a.machine.state.ticks ≡ ticks_at a.started) (told : IsTrue u.tells) (given : IsGivenSource g s) (stand : AllStand s u) where
  the_origin : Origin
  the_origin = (good told s given stand).0

  opens : Opens g u.seen a.started the_origin
  unfolding the_origin
  opens = (good told s given stand).1

  life_of : IsLifeOf s the_origin [] a v
  unfolding the_origin
  life_of = let x = good told s given stand in record { told = subst IsTrue (sym same) told; source = given.source; origin = x.4; lives = x.2; good = x.5 }

  from : the_origin.state.ticks ≤ a.machine.state.ticks
  from = le_of_eq (opens_ticks g u.seen a.started the_origin opens ∙ sym ticks)

  pub going_stands : (w : View) → ((s : Source) (o : Origin) → IsLifeOf s o [] a v → AllStand s w) → AllStand s w
  going_stands w stands = stands s the_origin life_of

  pub lives_to : (w : View) (step stop : Option ℕ) (c : Course) → IsSpacedBy s g.every → stop ≡ ticks_of step a.machine.state.ticks → start_of c ≡ Some a.started
      → ((s : Source) (o : Origin) → IsLifeOf s o [] a v → o.state.ticks ≤ a.machine.state.ticks → ComesAsRun s o.taking.every g.until stop c w) → LivesTo g s step u c w
  lives_to w step stop c spaced stop_is start comes =
      let e : the_origin.taking.every ≡ g.every = spaced the_origin.taking.every life_of.origin.spaced in
      let came : ComesAsRun s the_origin.taking.every g.until stop c w = comes s the_origin life_of from in
      record {
        started = a.started;
        start = start;
        origin = the_origin;
        opens = opens;
        comes = subst (λ k. ComesAsRun s k g.until (ticks_of step (ticks_at a.started)) c w) e (subst (λ (x : Option ℕ). ComesAsRun s the_origin.taking.every g.until x c w) (stop_is ∙ ap (ticks_of step) ticks) came);
      }
