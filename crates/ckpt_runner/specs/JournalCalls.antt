-- What the calls of a journal say of their moments, and of what they leave.
use Rattle.std.specs.Prelude.{◌≡◌, ℕ, true, List, [], ◌∷◌, ◌++◌, Some, slice_index}
use Rattle.ckpt_base.specs.Event.{Event, Checkpoint}
use Rattle.disk_model.specs.View.{View}
use Rattle.disk_model.specs.Moments.{Among, LeavesOnly}
use Rattle.image_format.specs.Image.{Image, word_in_runs}
use Rattle.image_chain.specs.ChainView.{ChainView}
use Rattle.image_chain.specs.Lists.{Rests, IsAppended}
use Rattle.output_file.specs.OnDisk.{IsOnDisk, IsBehind}
use Rattle.life_journal.specs.Begun.{IsCutBehind}
use Rattle.life_journal.specs.Holding.{HoldsJournal}
use Rattle.life_journal.specs.Joining.{StayOrJoin, MayBeJoined}
use Rattle.life_journal.specs.JournalView.{JournalView}
use Rattle.run_images.specs.Compiled.{CompiledView}
use Rattle.run_images.specs.Images.{taken_at}
use Rattle.run_images.specs.JoinedList.{lists_cell, IsOf}
use Rattle.run_images.specs.Origin.{Origin, IsResumedAt}
use Rattle.run_images.specs.Since.{is_due}
use Rattle.run_images.specs.Source.{Source}
use Rattle.run_images.specs.Stands.{AllStand}
use Rattle.ckpt_runner.specs.LifeView.{LifeView}
use Rattle.ckpt_runner.specs.Lives.{since_now, cells_now, HasServed}

-- a call on the output: at each moment a crash leaves an earlier outcome, but for what stands behind the lasting bytes
abbrev pub StaysBefore : JournalView → View → View → Type 0
StaysBefore j old new = LeavesOnly old new (Among old.may_leave (IsBehind j.output.lasting))

-- these bytes are added
abbrev pub AddsBytes : List ℕ → JournalView → View → JournalView → View → Type 0
AddsBytes bytes j old k new = (rs : List Image) (w : List ℕ) → HoldsJournal j old rs w → HoldsJournal k new rs (w ++ bytes)

-- all bytes are made lasting
abbrev pub MakesLasting : JournalView → View → JournalView → View → Type 0
MakesLasting j old k new = (rs : List Image) (w : List ℕ) → HoldsJournal j old rs w → HoldsJournal k new rs w × IsOnDisk w new

-- room is made for a record: at each moment a crash leaves the records, or one that joins them
abbrev pub MayJoin : JournalView → View → View → Type 0
MayJoin j old new = (rs : List Image) (w : List ℕ) → HoldsJournal j old rs w → LeavesOnly old new (Among old.may_leave (MayBeJoined j.chain.current rs))

abbrev pub MakesRoom : JournalView → View → JournalView → View → Type 0
MakesRoom j old k new = (rs : List Image) (w : List ℕ) → HoldsJournal j old rs w → (qs : List Image) × StayOrJoin rs qs × HoldsJournal k new qs w

-- a record is saved: at each moment a crash leaves the records, or those and the new one
abbrev pub MayAppend : JournalView → Image → View → View → Type 0
MayAppend j r old new = (rs : List Image) (w : List ℕ) → HoldsJournal j old rs w → LeavesOnly old new (Among old.may_leave (IsAppended j.chain.current rs r))

abbrev pub Appends : JournalView → Image → View → JournalView → View → Type 0
Appends j r old k new = (rs : List Image) (w : List ℕ) → HoldsJournal j old rs w → HoldsJournal k new (rs ++ r ∷ []) w

-- a journal goes on behind n bytes of the output: at each moment a crash leaves the records, and the output but for what stands behind those bytes
abbrev pub MayCut : ChainView → List Image → ℕ → View → View → Type 0
MayCut chain rs n old new = LeavesOnly old new (Among old.may_leave (IsCutBehind chain.current rs n))

-- The life passes a checkpoint at which an image is due, and the record is of that image, with the words of the life's memory.
pub record PassesWith (o : Origin) (es : List Event) (node : ℕ) (life : LifeView) (r : Image) : Type 0 where
  pub served : HasServed o es (Checkpoint node life.machine.state.ticks ∷ []) life
  pub due : is_due o.taking.every (since_now o es) life.machine.state.ticks ≡ true
  pub image : IsOf r (taken_at o.taking node life.machine.state.ticks (since_now o es))
  pub words : (c : ℕ) → lists_cell r c ≡ true → word_in_runs r.runs c ≡ Some (slice_index (cells_now o life) c)

-- The origin is behind the newest of these records, with which the chain rests on a store that stands for the source.
pub record IsResumedOn (s : Source) (c : CompiledView) (fill : ℕ) (chain : ChainView) (rs : List Image) (v : View) (o : Origin) : Type 0 where
  pub stand : AllStand s v
  pub rests : Rests chain v rs
  pub at : IsResumedAt c s.marks chain.current.every fill s.input rs v.seen.output o
