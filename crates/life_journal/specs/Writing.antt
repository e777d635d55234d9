-- A record that is written one disk call at a time.
use Rattle.std.specs.Prelude.{◌≡◌, ◌+◌, ◌<◌, ℕ, List, [], ◌∷◌, ◌++◌, length, None, IsTrue}
use Rattle.disk_model.specs.View.{View}
use Rattle.image_format.specs.Image.{Image}
use Rattle.image_chain.specs.declared.chain.Step.{Step}
use Rattle.image_chain.specs.declared.chain.Step.TheVariants.{Piece, SyncRecord, OpenGate, SyncGate, Done}
use Rattle.image_chain.specs.ChainView.{ChainView}
use Rattle.image_chain.specs.Records.{broken_field}
use Rattle.image_chain.specs.Append.{IsDue, IsInside, Spells, pieces_of}
use Rattle.coalesce.specs.Join.{IsContent}
use Rattle.output_file.specs.OnDisk.{IsOutputOn}
use Rattle.life_journal.specs.declared.journal.JournalState.{JournalState}
use Rattle.life_journal.specs.declared.journal.JournalState.TheVariants.{Resting, Appending}
use Rattle.life_journal.specs.JournalView.{JournalView}
use Rattle.life_journal.specs.Holding.{HoldsJournal}

-- these bytes are a record that the chain can take, and it has the step that is due
pub record IsUnderWay (chain : ChainView) (bytes : List ℕ) : Type 0 where
  pub image : Image
  pub spells : Spells image bytes
  pub room : chain.current.count < chain.current.max
  pub follows : broken_field chain.current.newest image.fields ≡ None
  pub inside : IsInside chain.due (length bytes)

-- The record of an image is under way behind these records: its step is due on the disk, what is kept joined is the content of the records before it, and these are the bytes of the output so far.
pub record KeepsJournal (j : JournalView) (v : View) (rs : List Image) (r : Image) (written : List ℕ) : Type 0 where
  pub spells : Spells r j.prepared
  pub due : IsDue j.chain.current v rs j.prepared j.chain.due
  pub content : IsContent j.kept rs
  pub output : IsOutputOn j.output v written

-- where the disk tells, a record is under way on it
abbrev pub FitsWriting : JournalView → View → Type 0
FitsWriting j v = IsTrue v.tells → (rs : List Image) × (r : Image) × (written : List ℕ) × KeepsJournal j v rs r written

-- where the disk tells, the output is on it
abbrev pub FitsOutput : JournalView → View → Type 0
FitsOutput j v = IsTrue v.tells → (written : List ℕ) × IsOutputOn j.output v written

-- the state in which a record's call leaves the journal, by the step that is next
abbrev pub state_at : Step → JournalState
state_at (Piece i) = Appending
state_at SyncRecord = Appending
state_at OpenGate = Appending
state_at SyncGate = Appending
state_at Done = Resting

-- the record is under way still, or it is the newest of the records
abbrev pub GoesOn : Step → JournalView → View → List Image → Image → List ℕ → Type 0
GoesOn (Piece i) j v rs r written = KeepsJournal j v rs r written
GoesOn SyncRecord j v rs r written = KeepsJournal j v rs r written
GoesOn OpenGate j v rs r written = KeepsJournal j v rs r written
GoesOn SyncGate j v rs r written = KeepsJournal j v rs r written
GoesOn Done j v rs r written = HoldsJournal j v (rs ++ r ∷ []) written

-- how many calls of a record of n bytes come before this step; before Done all of them, which are writer_calls n
abbrev pub calls_before : Step → ℕ → ℕ
calls_before (Piece i) n = i
calls_before SyncRecord n = pieces_of n
calls_before OpenGate n = pieces_of n + 1
calls_before SyncGate n = pieces_of n + 2
calls_before Done n = pieces_of n + 3
