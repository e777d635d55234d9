-- What contracts see of the journal of a life.
use Rattle.std.specs.Prelude.{ℕ, List}
use Rattle.image_chain.specs.ChainView.{ChainView}
use Rattle.image_chain.specs.Memory.{Joined}
use Rattle.output_file.specs.Pushed.{Pushed}
use Rattle.life_journal.specs.declared.journal.JournalState.{JournalState}

-- the chain of its images, their joined content, and the output; whether a record is under way, and the bytes in the room for one record. After a call that failed they say nothing of the disk
pub record JournalView : Type 0 where
  pub chain : ChainView
  pub kept : Joined
  pub output : Pushed
  pub state : JournalState
  pub prepared : List ℕ
