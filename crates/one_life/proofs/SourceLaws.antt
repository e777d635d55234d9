-- A life whose store stood for its source, opened, driven and finished.
use Rattle.std.proofs.Common.{◌≡◌, sym, ◌∙◌, ap, subst, ℕ, ◌≤◌, IsTrue, [], Option, unwrap_or, arith}
use Rattle.ckpt_base.specs.declared.ending.Ending.{Ending}
use Rattle.disk_model.specs.Store.{Store}
use Rattle.disk_model.specs.View.{View}
use Rattle.disk_model.proofs.Calls.{joined}
use Rattle.image_format.specs.declared.fields.Fields.{Fields}
use Rattle.run_images.specs.Origin.{Origin}
use Rattle.run_images.specs.Stands.{Stands}
use Rattle.ckpt_runner.specs.declared.started.Started.{Started}
use Rattle.ckpt_runner.specs.declared.started.Started.TheVariants.{Begun, Resumed}
use Rattle.ckpt_runner.specs.LifeView.{LifeView}
use Rattle.ckpt_runner.specs.Lives.{Lives}
use Rattle.ckpt_runner.specs.Calls.{GoesTo}
use Rattle.ckpt_runner.specs.Opening.{Given, Opens}
use Rattle.ckpt_runner.specs.Standing.{EndsGood, KeepsStanding, OpensGood, OpensStanding}
use Rattle.one_life.specs.declared.living.Lived.{Lived}
use Rattle.one_life.specs.AsSource.{LivesStanding, LivesAsSource, EndsLikeSources}

-- a life that was driven to a bound and finished ends like its sources
pub drive_ends : (until steps : ℕ) (started : Started) (e : Ending) (a b : LifeView) (u v w : View) → v.tells ≡ u.tells → steps ≡ b.machine.state.ticks
    → ((o : Origin) → Lives o [] a → GoesTo o [] until e a u b v) → EndsGood b v w → EndsLikeSources until a u (record { started = started; ending = e; steps = steps }) w
drive_ends until steps started e a b u v w same count goes ends s o lives of le =
    let way = goes o lives in
    let end = ends s o way.on.more until e of le way.stops in
    record {
      ending = sym end.0.ending;
      steps = count ∙ sym end.0.ticks;
      store = λ told is good. end.1 (subst IsTrue (sym same) told) (way.on.good told s is of good);
    }

-- the bound is not below where a life begins
pub opens_within : (g : Given) (seen : Store) (x : Started) (o : Origin) → Opens g seen x o → o.state.ticks ≤ g.until
opens_within g seen Begun o opens = let e = ap (λ (p : Origin). p.state.ticks) opens.1 in omega (arith, e)
opens_within g seen (Resumed image step) o opens =
    let at = opens.6 in
    let same = ap (λ (f : Option Fields). (unwrap_or f at.newest).steps) (sym at.newest_is ∙ opens.2.has.newest_is) in
    let place = ap (λ t. t.ticks) at.place.2 in
    let within = opens.3 in
    omega (arith, same, place, within)

-- it is opened, and then goes on
pub opens_standing : (u v : View) (g : Given) → OpensStanding u v → LivesStanding g u v
opens_standing u v g opens told s is stand = opens told s is.source stand

pub lives_standing : (g : Given) (a : LifeView) (u v w : View) → (IsTrue u.tells_past → IsTrue u.tells) → v.tells ≡ u.tells → OpensStanding u v → OpensGood g a u v → KeepsStanding a v w → LivesStanding g u w
lives_standing g a u v w all same opens good keeps told s is stand =
    let start = good told s is stand in
    joined u v w (Stands s) (Stands s) all (opens told s is.source stand) (keeps (subst IsTrue (sym same) told) s start.0 [] is.source start.4 start.2 start.5) (λ _ c h. h)

pub lives_as_source : (g : Given) (a : LifeView) (l : Lived) (u v w : View) → v.tells ≡ u.tells → l.started ≡ a.started → OpensGood g a u v → EndsLikeSources g.until a v l w → LivesAsSource g u l w
lives_as_source g a l u v w same started good ends told s is stand =
    let start = good told s is stand in
    let end = ends s start.0 start.2 start.4 (opens_within g u.seen a.started start.0 start.1) in
    record {
      origin = start.0;
      opens = subst (λ (x : Started). Opens g u.seen x start.0) (sym started) start.1;
      ending = end.ending;
      steps = end.steps;
      store = end.store (subst IsTrue (sym same) told) is.source start.5;
    }
