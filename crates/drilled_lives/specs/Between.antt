-- What a store holds between two lives of a drill.
use Rattle.std.specs.Prelude.{◌≡◌, ℕ, true, List, None, Ok}
use Rattle.disk_model.specs.Store.{Store}
use Rattle.disk_model.specs.View.{View}
use Rattle.image_format.specs.Image.{Image}
use Rattle.image_chain.specs.Records.{chain_in}
use Rattle.run_images.specs.JoinedList.{IsJoinedList}
use Rattle.run_images.specs.Later.{AllLater}
use Rattle.run_images.specs.Source.{Source, images_of}
use Rattle.run_images.specs.Stands.{AllStand}
use Rattle.ckpt_runner.specs.declared.started.Started.{Started}
use Rattle.ckpt_runner.specs.declared.started.Started.TheVariants.{Begun, Resumed}
use Rattle.one_life.specs.Ends.{HasRecords}
use Rattle.drilled_lives.specs.Courses.{Known, Fresh, Within, Unknown}

-- all images of a store for the source lie so far apart
abbrev pub IsSpacedBy : Source → ℕ → Type 0
IsSpacedBy s every = (e : ℕ) → s.spaced e ≡ true → e ≡ every

-- for reads and after every crash the store has the images of the source's run within n ticks
abbrev pub HasImages : Source → (every n : ℕ) → View → Type 0
HasImages s every n v = (rs : List Image) × HasRecords v rs × IsJoinedList rs (images_of s every n)

-- for reads and after every crash it has the same chain
abbrev pub HasOneChain : View → Type 0
HasOneChain v = (c : Store) → v.may_leave c → chain_in c ≡ chain_in v.seen

-- the image at which a life resumed is not lost
abbrev pub HoldsStart : Started → View → Type 0
HoldsStart Begun v = Unit {0}
HoldsStart (Resumed image step) v = AllLater image v

abbrev pub HoldsKnown : Source → ℕ → Known → View → Type 0
HoldsKnown s every Fresh v = chain_in v.seen ≡ Ok None
HoldsKnown s every (Within n) v = HasImages s every n v
HoldsKnown s every Unknown v = Unit {0}

-- Every crash leaves a store that stands, with one chain, which has the image of the latest start and is as known.
pub record IsBetween (s : Source) (every : ℕ) (latest : Started) (known : Known) (v : View) : Type 0 where
  pub stand : AllStand s v
  pub one_chain : HasOneChain v
  pub latest_held : HoldsStart latest v
  pub known_held : HoldsKnown s every known v
