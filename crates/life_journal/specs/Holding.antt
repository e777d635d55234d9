-- What a journal holds on its disk.
use Rattle.std.specs.Prelude.{ℕ, List, IsTrue}
use Rattle.disk_model.specs.View.{View}
use Rattle.image_format.specs.Image.{Image}
use Rattle.image_chain.specs.Lists.{Rests}
use Rattle.coalesce.specs.Join.{IsContent}
use Rattle.output_file.specs.OnDisk.{IsOutputOn}
use Rattle.life_journal.specs.JournalView.{JournalView}

-- The chain is at rest on the disk with these records, what is kept joined is their content, and these are the bytes of the output so far.
pub record HoldsJournal (j : JournalView) (v : View) (rs : List Image) (written : List ℕ) : Type 0 where
  pub rests : Rests j.chain v rs
  pub content : IsContent j.kept rs
  pub output : IsOutputOn j.output v written

-- where the disk tells, the journal holds some records and bytes on it
abbrev pub FitsDisk : JournalView → View → Type 0
FitsDisk j v = IsTrue v.tells → (rs : List Image) × (written : List ℕ) × HoldsJournal j v rs written
