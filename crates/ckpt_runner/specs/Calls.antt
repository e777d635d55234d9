-- What a call on a life comes to. A life, its disk and the events so far are one moment; calls lead from one to a later one, and so does any list of calls.
use Rattle.std.specs.Prelude.{ℕ, List, ◌++◌, IsTrue}
use Rattle.ckpt_base.specs.declared.ending.Ending.{Ending}
use Rattle.ckpt_base.specs.Event.{Event}
use Rattle.disk_model.specs.View.{View}
use Rattle.run_images.specs.Origin.{Origin, IsOfSource}
use Rattle.run_images.specs.Source.{Source, IsSource}
use Rattle.ckpt_runner.specs.LifeView.{LifeView}
use Rattle.ckpt_runner.specs.Lives.{HasServed, Lives, StopsAt}
use Rattle.ckpt_runner.specs.Keeps.{Kept}
use Rattle.ckpt_runner.specs.Good.{IsGood}

-- The life fits its disk, where that tells.
abbrev pub FitsDisk : LifeView → View → Type 0
FitsDisk life v = IsTrue v.tells → (o : Origin) × (es : List Event) × Lives o es life × Kept o es life v

-- From the moment at which the run has shown these events the life went on to a later one: it has shown more, the disk holds what belongs there, and that stays good for each source that the life is of.
pub record GoesOn (o : Origin) (es : List Event) (life : LifeView) (v : View) (life' : LifeView) (v' : View) : Type 0 where
  pub more : List Event
  pub lives : Lives o (es ++ more) life'
  pub kept : IsTrue v.tells → Kept o es life v → Kept o (es ++ more) life' v'
  pub good : IsTrue v.tells → (s : Source) → IsSource s → IsOfSource s o → IsGood s o es life v → IsGood s o (es ++ more) life' v'

-- It did so up to a bound, with this ending.
pub record GoesTo (o : Origin) (es : List Event) (until : ℕ) (ending : Ending) (life : LifeView) (v : View) (life' : LifeView) (v' : View) : Type 0 where
  pub on : GoesOn o es life v life' v'
  pub stops : StopsAt o (es ++ on.more) until ending life'

-- The life fits its disk, where that tells, while it has not served yet what its run has shown last.
abbrev pub FitsServing : List Event → LifeView → View → Type 0
FitsServing shown life v = IsTrue v.tells → (o : Origin) × (es : List Event) × HasServed o es shown life × Kept o es life v

-- The life serves what its run has shown last: it stands behind that, the disk holds what belongs there, and that stays good.
pub record Serves (o : Origin) (es shown : List Event) (life : LifeView) (v : View) (life' : LifeView) (v' : View) : Type 0 where
  pub lives : HasServed o es shown life → Lives o (es ++ shown) life'
  pub kept : IsTrue v.tells → HasServed o es shown life → Kept o es life v → Kept o (es ++ shown) life' v'
  pub good : IsTrue v.tells → HasServed o es shown life → (s : Source) → IsSource s → IsOfSource s o → IsGood s o es life v → IsGood s o (es ++ shown) life' v'
