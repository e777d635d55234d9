-- What a life comes to whose store stood, when it was opened, for the source of what was given.
use Rattle.std.specs.Prelude.{◌≡◌, ℕ, ◌≤◌, [], IsTrue}
use Rattle.disk_model.specs.Moments.{LeavesOnly}
use Rattle.disk_model.specs.Store.{Store}
use Rattle.disk_model.specs.View.{View}
use Rattle.run_images.specs.Origin.{Origin, IsOfSource}
use Rattle.run_images.specs.Source.{Source, IsSource, run_of}
use Rattle.run_images.specs.Stands.{Stands, AllStand}
use Rattle.ckpt_runner.specs.Good.{IsGood}
use Rattle.ckpt_runner.specs.LifeView.{LifeView}
use Rattle.ckpt_runner.specs.Lives.{Lives}
use Rattle.ckpt_runner.specs.Opening.{Given, Opens}
use Rattle.ckpt_runner.specs.Standing.{IsGivenSource, AllEnd}
use Rattle.one_life.specs.declared.living.Lived.{Lived}

-- At every moment of a life on a store that stands for the source of what was given, a crash leaves a store that stands for it.
abbrev pub LivesStanding : Given → (old new : View) → Type 0
LivesStanding g old new = IsTrue old.tells → (s : Source) → IsGivenSource g s → AllStand s old → LeavesOnly old new (Stands s)

-- A life that was opened on such a store came to what the source's run is within the bound: the ending and the steps, and, for reads and after every crash, the output and the images.
pub record LivedAsSource (s : Source) (g : Given) (seen : Store) (l : Lived) (new : View) : Type 0 where
  pub origin : Origin
  pub opens : Opens g seen l.started origin
  pub ending : l.ending ≡ (run_of s g.until).ending
  pub steps : l.steps ≡ (run_of s g.until).ticks
  pub store : AllEnd s origin.taking.every g.until new

-- so it is for each source of what was given
abbrev pub LivesAsSource : Given → View → Lived → View → Type 0
LivesAsSource g old l new = IsTrue old.tells → (s : Source) → IsGivenSource g s → AllStand s old → LivedAsSource s g old.seen l new

-- A life at its origin that is driven to a bound and finished comes to what the run is of each source that it is of; the store too, where what it kept was good.
pub record EndsLike (s : Source) (o : Origin) (until : ℕ) (life : LifeView) (old : View) (l : Lived) (new : View) : Type 0 where
  pub ending : l.ending ≡ (run_of s until).ending
  pub steps : l.steps ≡ (run_of s until).ticks
  pub store : IsTrue old.tells → IsSource s → IsGood s o [] life old → AllEnd s o.taking.every until new

abbrev pub EndsLikeSources : (until : ℕ) → LifeView → View → Lived → View → Type 0
EndsLikeSources until life old l new = (s : Source) (o : Origin) → Lives o [] life → IsOfSource s o → o.state.ticks ≤ until → EndsLike s o until life old l new
