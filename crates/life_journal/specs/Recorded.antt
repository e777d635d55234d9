-- A chain with one record more.
use Rattle.std.specs.Prelude.{◌≡◌, ◌+◌, Some}
use Rattle.image_format.specs.declared.fields.Fields.{Fields}
use Rattle.image_chain.specs.declared.chain.Current.{Current}
use Rattle.image_format.specs.Image.{Image}
use Rattle.image_chain.specs.Append.{header_of, Spells}
use Rattle.life_journal.specs.JournalView.{JournalView}

-- the chain has one record more, which says this and is the newest
pub record HasOneMore (old new : Current) (newest : Fields) : Type 0 where
  pub file : new.file ≡ old.file
  pub header : header_of new ≡ header_of old
  pub count : new.count ≡ old.count + 1
  pub newest_is : new.newest ≡ Some newest

-- the chain has taken the record in the journal's room over
abbrev pub TakesRecord : JournalView → JournalView → Type 0
TakesRecord old new = (r : Image) → Spells r old.prepared → HasOneMore old.chain.current new.chain.current r.fields
