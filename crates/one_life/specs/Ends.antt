-- What a life comes to.
use Rattle.std.specs.Prelude.{◌≡◌, ℕ, List, [], ◌++◌, IsTrue}
use Rattle.ckpt_base.specs.declared.ending.Ending.{Ending}
use Rattle.ckpt_base.specs.Event.{Event}
use Rattle.disk_model.specs.Store.{Store}
use Rattle.disk_model.specs.View.{View}
use Rattle.image_format.specs.Image.{Image}
use Rattle.image_chain.specs.declared.chain.Current.{Current}
use Rattle.image_chain.specs.Lists.{Lists}
use Rattle.machine_code.specs.Run.{CodeRun}
use Rattle.output_file.specs.OnDisk.{IsOnDisk}
use Rattle.run_images.specs.Images.{TakenImage}
use Rattle.run_images.specs.JoinedList.{IsJoinedList}
use Rattle.run_images.specs.Origin.{Origin, origin_world, ticks_ahead}
use Rattle.run_images.specs.Source.{Source, run_of, output_of, images_of}
use Rattle.ckpt_runner.specs.LifeView.{LifeView}
use Rattle.ckpt_runner.specs.Lives.{Lives}
use Rattle.ckpt_runner.specs.Calls.{GoesTo}
use Rattle.ckpt_runner.specs.Keeps.{Kept, bytes_now, images_now}
use Rattle.ckpt_runner.specs.Opening.{Given, Opens, StartsAt}
use Rattle.one_life.specs.declared.living.Lived.{Lived}

-- from each moment of its run the life goes on to the bound, with this ending
abbrev pub GoesToBound : (bound : ℕ) → Ending → LifeView → View → LifeView → View → Type 0
GoesToBound bound e life v life' v' = (o : Origin) (es : List Event) → Lives o es life → GoesTo o es bound e life v life' v'

-- the run of the code from an origin, with a bound on its ticks, shows these events, and stands so
abbrev pub RunsTo : Origin → List Event → (until : ℕ) → Lived → Type 0
RunsTo o es until l = (memory : List ℕ) × CodeRun o.code (origin_world o []) (ticks_ahead o until) (record { events = es; memory = memory; ending = l.ending; ticks = l.steps })

-- for reads and after every crash the chain has these records
abbrev pub HasRecords : View → List Image → Type 0
HasRecords v rs = (chain : Current) × Lists chain rs v.seen × ((c : Store) → v.may_leave c → Lists chain rs c)

-- the records stand for the images from before the run and then for those that it takes with these events
abbrev pub StandForImages : Origin → List Event → List Image → Type 0
StandForImages o es rs = (before : List TakenImage) → IsJoinedList o.records before → IsJoinedList rs (before ++ images_now o es)

-- the output of the run is in the output file, and its images are in the chain, for good
pub record AreLasting (o : Origin) (es : List Event) (v : View) : Type 0 where
  pub output : IsOnDisk (bytes_now o es) v
  pub records : List Image
  pub kept : HasRecords v records
  pub images : StandForImages o es records

-- a life that stands at its origin runs on up to a bound, and what it has shown is lasting, where the disk tells and held what belonged there
pub record LivesOn (o : Origin) (until : ℕ) (life : LifeView) (v : View) (l : Lived) (v' : View) : Type 0 where
  pub events : List Event
  pub runs : RunsTo o events until l
  pub lasting : IsTrue v.tells → Kept o [] life v → AreLasting o events v'

-- whatever the disk tells, the life starts at the entry or behind a checkpoint, and is the run of the code from there
pub record Ran (g : Given) (l : Lived) : Type 0 where
  pub origin : Origin
  pub starts : StartsAt g l.started origin
  pub events : List Event
  pub runs : RunsTo origin events g.until l

-- where the disk tells, the life starts as the store said, and what its run has shown is lasting
pub record RanOn (g : Given) (seen : Store) (l : Lived) (new : View) : Type 0 where
  pub origin : Origin
  pub opens : Opens g seen l.started origin
  pub events : List Event
  pub runs : RunsTo origin events g.until l
  pub lasting : AreLasting origin events new

-- the same, of a disk before the life and after it
abbrev pub RanWhereTold : Given → View → Lived → View → Type 0
RanWhereTold g old l new = IsTrue old.tells → RanOn g old.seen l new

-- The ending and the steps are those of the source's run within a bound. So are all bytes up to there, and all images, for which the records in the chain stand.
pub record ComesTo (s : Source) (o : Origin) (es : List Event) (until : ℕ) (l : Lived) : Type 0 where
  pub ending : l.ending ≡ (run_of s until).ending
  pub steps : l.steps ≡ (run_of s until).ticks
  pub output : bytes_now o es ≡ output_of s until
  pub images : images_of s o.taking.every until ≡ images_of s o.taking.every o.state.ticks ++ images_now o es
  pub records : (rs : List Image) → StandForImages o es rs → IsJoinedList rs (images_of s o.taking.every until)
