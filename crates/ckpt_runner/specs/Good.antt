-- A life of a source, on a store that stood when it was opened: what it keeps on its disk is good for the source.
use Rattle.std.specs.Prelude.{◌≡◌, ℕ, List, ◌++◌}
use Rattle.ckpt_base.specs.Event.{Event}
use Rattle.disk_model.specs.Store.{Store}
use Rattle.disk_model.specs.View.{View}
use Rattle.image_format.specs.Image.{Image}
use Rattle.life_journal.specs.JournalView.{JournalView}
use Rattle.life_journal.specs.Holding.{HoldsJournal}
use Rattle.run_images.specs.JoinedList.{IsJoinedList}
use Rattle.run_images.specs.Source.{Source, images_of}
use Rattle.run_images.specs.Hold.{HoldUnwritten}
use Rattle.run_images.specs.Stands.{StandsWithin, StandWith}
use Rattle.run_images.specs.Origin.{Origin}
use Rattle.ckpt_runner.specs.LifeView.{LifeView}
use Rattle.ckpt_runner.specs.Lives.{since_now, cells_now}
use Rattle.ckpt_runner.specs.Keeps.{bytes_now, images_now}

-- The journal stands for the source, behind these events and with this memory of the program's cells.
pub record JournalStands (s : Source) (o : Origin) (es : List Event) (j : JournalView) (m : List ℕ) (v : View) : Type 0 where
  pub every : j.chain.current.every ≡ o.taking.every
  -- the records on the disk, with the bytes so far
  pub records : List Image
  pub holds : HoldsJournal j v records (bytes_now o es)
  -- they are those of the source's images up to here
  pub images : IsJoinedList records (images_of s o.taking.every o.state.ticks ++ images_now o es)
  -- they hold each cell that was not written since the newest of them
  pub held : HoldUnwritten s (since_now o es) records m
  -- they stand with the bytes that each crash leaves
  pub stand : StandWith s o.taking.every j.output.lasting (bytes_now o es) records
  -- every store that a crash now may leave stands, whatever comes behind the lasting bytes
  pub all : (c : Store) → v.may_leave c → StandsWithin s j.output.lasting c

-- what the life keeps on its disk is good for the source
abbrev pub IsGood : Source → Origin → List Event → LifeView → View → Type 0
IsGood s o es life v = JournalStands s o es life.journal (cells_now o life) v
