-- A life of a source that goes on to a tick, and is finished.
use Rattle.std.proofs.Common.{◌≡◌, sym, ◌∙◌, subst, ℕ, ◌≤◌, IsTrue, List, [], ◌++◌, arith}
use Rattle.ckpt_base.specs.Event.{Event}
use Rattle.ckpt_base.specs.Run.{Run}
use Rattle.ckpt_base.specs.declared.ending.Ending.{Ending}
use Rattle.ckpt_base.specs.declared.ending.Ending.TheVariants.{Going}
use Rattle.disk_model.specs.Store.{Store}
use Rattle.disk_model.specs.View.{View, IsDisk}
use Rattle.machine_code.specs.Run.{CodeRun}
use Rattle.run_images.specs.JoinedList.{IsJoinedList}
use Rattle.run_images.specs.Origin.{Origin, IsOfSource, origin_world, ticks_ahead}
use Rattle.run_images.specs.Shown.{HasShown, EndsAsSource}
use Rattle.run_images.specs.Source.{Source}
use Rattle.run_images.specs.Stands.{AllStand}
use Rattle.ckpt_runner.specs.LifeView.{LifeView}
use Rattle.ckpt_runner.specs.Lives.{run_now}
use Rattle.ckpt_runner.specs.Keeps.{bytes_now}
use Rattle.ckpt_runner.specs.Calls.{FitsDisk, GoesTo}
use Rattle.ckpt_runner.specs.Good.{IsGood}
use Rattle.ckpt_runner.specs.Standing.{EndsGood, KeepsImages, KeepsStanding}
use Rattle.ckpt_runner.proofs.GoodLaws.{journal_lists}
use Rattle.one_life.specs.declared.living.Lived.{Lived}
use Rattle.one_life.specs.Ends.{GoesToBound}
use Rattle.one_life.proofs.DriveLaws.{over_more, fits_on}
use Rattle.drilled_lives.specs.Courses.{WouldGoOn}
use Rattle.drilled_lives.specs.Between.{HasImages}
use Rattle.drilled_lives.specs.Going.{EndsWith, IsLifeOf, IsStoppedAt, LosesNone}

-- what a life of a source has on its disk are the images of the run
has_images : (s : Source) (o : Origin) (es : List Event) (n : ℕ) (life : LifeView) (v : View) → IsDisk v → IsGood s o es life v → HasShown s o es n → HasImages s o.taking.every n v
has_images s o es n life v disk g shown =
    let lists = journal_lists life.journal v g.records (bytes_now o es) g.holds in
    (g.records, (life.journal.chain.current, lists v.seen disk.seen_stays, lists), subst (IsJoinedList g.records) (sym shown.images) g.images)

-- ---- one call

pub stands_then : (s : Source) (o : Origin) (es : List Event) (a : LifeView) (u v : View) → KeepsStanding a u v → IsLifeOf s o es a u → AllStand s v
stands_then s o es a u v moments l c left = (moments l.told s o es l.source l.origin l.lives l.good).now l.told c left

pub loses_none : (u v : View) → KeepsImages u v → LosesNone u v
loses_none u v later told j all c left = (later told j all).now told c left

pub loses_twice : (u v w : View) → v.tells ≡ u.tells → LosesNone u v → LosesNone v w → LosesNone u w
loses_twice u v w same first second told j all = second (subst IsTrue (sym same) told) j (first told j all)

-- a life that went on to a bound is still of its source
pub life_on : (s : Source) (o : Origin) (es : List Event) (until : ℕ) (ending : Ending) (a b : LifeView) (u v : View) → v.tells ≡ u.tells → (x : GoesTo o es until ending a u b v) → IsLifeOf s o es a u → IsLifeOf s o (es ++ x.on.more) b v
life_on s o es until ending a b u v same x l = record {
  told = subst IsTrue (sym same) l.told;
  source = l.source;
  origin = l.origin;
  lives = x.on.lives;
  good = x.on.good l.told s l.source l.origin l.good;
}

-- a life that stopped at a bound is finished
pub finish_ends : (s : Source) (o : Origin) (es : List Event) (until : ℕ) (ending : Ending) (l : Lived) (b c : LifeView) (v w : View) → w.tells ≡ v.tells → (IsTrue w.tells → IsDisk w) → l.ending ≡ ending → l.steps ≡ b.machine.state.ticks
    → EndsGood b v w → (IsTrue v.tells → (s : Source) (o : Origin) (es : List Event) → IsGood s o es b v → IsGood s o es c w) → IsStoppedAt s o es until ending b v → EndsWith s o.taking.every until l w
finish_ends s o es until ending l b c v w same disk ending_is steps_is ends good at =
    let told = at.life_of.told in
    let e = ends s o es until ending at.life_of.origin at.from at.stops in
    let all = e.1 told at.life_of.good in
    record {
      as_run = (ending_is ∙ sym e.0.ending, steps_is ∙ sym e.0.ticks);
      images = has_images s o es until c w (disk (subst IsTrue (sym same) told)) (good told s o es at.life_of.good) e.0.shown;
      output = all.reads.output;
    }

-- ---- run to a bound, and then

abbrev pub EndLaw : Type 0
EndLaw = (s : Source) (o : Origin) (until : ℕ) (r : Run) → IsOfSource s o → o.state.ticks ≤ until → CodeRun o.code (origin_world o []) (ticks_ahead o until) r → EndsAsSource s o until r

-- the run would go on there
pub going_comes : EndLaw → (s : Source) (o : Origin) (tick until : ℕ) (ending : Ending) (a b : LifeView) (u v : View) → v.tells ≡ u.tells → (IsTrue v.tells → IsDisk v) → o.state.ticks ≤ tick → tick ≤ until → ending ≡ Going
    → GoesTo o [] tick ending a u b v → IsLifeOf s o [] a u → WouldGoOn s until tick × HasImages s o.taking.every tick v
going_comes law s o tick until ending a b u v same disk from within is x l =
    let e = law s o tick (run_now o x.on.more ending b) l.origin from x.stops in
    let on = life_on s o [] tick ending a b u v same x l in
    ((within, e.ending ∙ is), has_images s o x.on.more tick b v (disk on.told) on.good e.shown)

-- it is over there
pub over_not : EndLaw → (s : Source) (o : Origin) (tick until : ℕ) (ending : Ending) (a b : LifeView) (u v : View) → o.state.ticks ≤ tick → (ending ≡ Going → ⊥) → GoesTo o [] tick ending a u b v → IsLifeOf s o [] a u → WouldGoOn s until tick → ⊥
over_not law s o tick until ending a b u v from not x l would = not (sym (law s o tick (run_now o x.on.more ending b) l.origin from x.stops).ending ∙ would.1)

pub over_stops : (s : Source) (o : Origin) (tick until : ℕ) (ending : Ending) (a b : LifeView) (u v : View) → v.tells ≡ u.tells → o.state.ticks ≤ tick → tick ≤ until → (ending ≡ Going → ⊥) → (x : GoesTo o [] tick ending a u b v) → IsLifeOf s o [] a u → IsStoppedAt s o x.on.more until ending b v
over_stops s o tick until ending a b u v same from within not x l = record {
  life_of = life_on s o [] tick ending a b u v same x l;
  from = omega (arith, from, within);
  stops = over_more o x.on.more tick until ending b not within x.stops;
}

pub run_stops : (s : Source) (o : Origin) (until : ℕ) (ending : Ending) (a b : LifeView) (u v : View) → v.tells ≡ u.tells → o.state.ticks ≤ until → (x : GoesTo o [] until ending a u b v) → IsLifeOf s o [] a u → IsStoppedAt s o x.on.more until ending b v
run_stops s o until ending a b u v same from x l = record { life_of = life_on s o [] until ending a b u v same x l; from = from; stops = x.stops }

-- a life that went to a bound fits its disk
pub fits_to : (until : ℕ) (ending : Ending) (a b : LifeView) (u v : View) → v.tells ≡ u.tells → FitsDisk a u → GoesToBound until ending a u b v → FitsDisk b v
fits_to until ending a b u v same fits goes = fits_on a b u v same fits (λ o es lives. (goes o es lives).on)
