-- What a life of a source comes to that is left at a tick, or not.
use Rattle.std.specs.Prelude.{◌≡◌, ℕ, ◌≤◌, List, [], Option, Some, None, IsTrue}
use Rattle.ckpt_base.specs.declared.ending.Ending.{Ending}
use Rattle.ckpt_base.specs.Event.{Event}
use Rattle.disk_model.specs.View.{View}
use Rattle.run_images.specs.Origin.{Origin, IsOfSource}
use Rattle.run_images.specs.Later.{AllLater}
use Rattle.run_images.specs.Source.{Source, IsSource, output_of}
use Rattle.ckpt_runner.specs.LifeView.{LifeView}
use Rattle.ckpt_runner.specs.Lives.{Lives, StopsAt}
use Rattle.ckpt_runner.specs.Good.{IsGood}
use Rattle.one_life.specs.declared.living.Lived.{Lived}
use Rattle.drilled_lives.specs.declared.course.Course.{Course}
use Rattle.drilled_lives.specs.declared.course.Course.TheVariants as course
use Rattle.drilled_lives.specs.Courses.{WouldGoOn, EndsAsRun}
use Rattle.drilled_lives.specs.Between.{HasImages}

-- ending and steps are those of the source's run within the bound, and so are the images and the output of the store
pub record EndsWith (s : Source) (every until : ℕ) (l : Lived) (v : View) : Type 0 where
  pub as_run : EndsAsRun s until l
  pub images : HasImages s every until v
  pub output : v.seen.output ≡ output_of s until

-- It is left at the tick exactly where the run would go on there, with the images up to there; and else it ends as the run.
abbrev pub ComesAsRun : Source → (every until : ℕ) → Option ℕ → Course → View → Type 0
ComesAsRun s every until stop course.Opening v = ⊥
ComesAsRun s every until None (course.Left started) v = ⊥
ComesAsRun s every until (Some tick) (course.Left started) v = WouldGoOn s until tick × HasImages s every tick v
ComesAsRun s every until None (course.Lived l) v = EndsWith s every until l v
ComesAsRun s every until (Some tick) (course.Lived l) v = (WouldGoOn s until tick → ⊥) × EndsWith s every until l v

-- where every crash leaves image j or a later one, so it does then
abbrev pub LosesNone : View → View → Type 0
LosesNone old new = IsTrue old.tells → (j : ℕ) → AllLater j old → AllLater j new

-- The life is of the source, behind these events, and what it keeps on its disk is good.
pub record IsLifeOf (s : Source) (o : Origin) (es : List Event) (life : LifeView) (v : View) : Type 0 where
  pub told : IsTrue v.tells
  pub source : IsSource s
  pub origin : IsOfSource s o
  pub lives : Lives o es life
  pub good : IsGood s o es life v

-- it stops at a bound, with this ending
pub record IsStoppedAt (s : Source) (o : Origin) (es : List Event) (until : ℕ) (ending : Ending) (life : LifeView) (v : View) : Type 0 where
  pub life_of : IsLifeOf s o es life v
  pub from : o.state.ticks ≤ until
  pub stops : StopsAt o es until ending life
