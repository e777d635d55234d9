-- What a crash may leave while a life passes a checkpoint.
use Rattle.std.specs.Prelude.{◌≡◌, ◌≢◌, ◌⊎◌, ℕ, true, List, [], ◌∷◌, Some, IsTrue, slice_index}
use Rattle.ckpt_base.specs.Event.{Event, Checkpoint}
use Rattle.disk_model.specs.declared.disk_file.DiskFile.TheVariants.{Output}
use Rattle.disk_model.specs.Moments.{Among, LeavesOnly}
use Rattle.disk_model.specs.Store.{Store}
use Rattle.disk_model.specs.View.{View}
use Rattle.image_format.specs.Image.{Image, word_in_runs}
use Rattle.image_chain.specs.declared.chain.Current.{Current}
use Rattle.image_chain.specs.Lists.{Lists, IsAppended}
use Rattle.output_file.specs.OnDisk.{IsBehind}
use Rattle.life_journal.specs.Holding.{HoldsJournal}
use Rattle.life_journal.specs.JournalView.{JournalView}
use Rattle.life_journal.specs.Joining.{StayOrJoin, MayBeJoined}
use Rattle.run_images.specs.Since.{is_due}
use Rattle.run_images.specs.Images.{TakenImage, taken_at}
use Rattle.run_images.specs.JoinedList.{lists_cell, IsOf}
use Rattle.run_images.specs.Origin.{Origin}
use Rattle.ckpt_runner.specs.LifeView.{LifeView}
use Rattle.ckpt_runner.specs.Lives.{since_now, HasServed}
use Rattle.ckpt_runner.specs.Keeps.{bytes_now}

-- an earlier outcome, but that the output file has exactly these bytes, and that the records may have been joined
abbrev pub IsReady : JournalView → List Image → List ℕ → Store → Store → Type 0
IsReady j rs written old new = (d : Store) × IsBehind j.output.lasting old d × (d.output ≡ written) × MayBeJoined j.chain.current rs d new

-- an earlier outcome, but for the output behind its lasting bytes; or one in which the journal is ready
abbrev pub MayBeReady : JournalView → List Image → List ℕ → Store → Store → Type 0
MayBeReady j rs written old new = IsBehind j.output.lasting old new ⊎ IsReady j rs written old new

-- a crash at each moment from the first view to the second leaves one of these
abbrev pub LeavesOrReady : JournalView → View → View → Type 0
LeavesOrReady j old new =
    IsTrue old.tells → (rs : List Image) (written : List ℕ) → HoldsJournal j old rs written → LeavesOnly old new (Among old.may_leave (MayBeReady j rs written))

-- a crash at the second leaves one in which the journal is ready
abbrev pub LeavesReady : JournalView → View → View → Type 0
LeavesReady j old new =
    IsTrue old.tells → (rs : List Image) (written : List ℕ) → HoldsJournal j old rs written → (c : Store) → new.may_leave c
    → Among old.may_leave (IsReady j rs written) c

-- the record is of the image, with its words of this memory
pub record IsTaken (memory : List ℕ) (image : TakenImage) (r : Image) : Type 0 where
  pub is : IsOf r image
  pub words : (c : ℕ) → lists_cell r c ≡ true → word_in_runs r.runs c ≡ Some (slice_index memory c)

-- where the journal is ready: the record of the image is being written, or is, behind the records as they then are
pub record IsImaged (j : JournalView) (rs : List Image) (written memory : List ℕ) (image : TakenImage) (old new : Store) : Type 0 where
  pub before : Store
  pub ready : IsReady j rs written old before
  pub chain : Current
  pub file : chain.file ≢ Output
  pub every : chain.every ≡ j.chain.current.every
  pub records : List Image
  pub stay : StayOrJoin rs records
  pub lists : Lists chain records before
  pub taken : Image
  pub is : IsTaken memory image taken
  pub appended : IsAppended chain records taken before new

-- An earlier outcome, but for the output behind its lasting bytes. Where an image is due, also one in which the journal is ready, and one in which the record of the
-- image, which the life takes behind these events, is being written then.
abbrev pub IsPassing : Origin → List Event → ℕ → ℕ → LifeView → List Image → Store → Store → Type 0
IsPassing o es node tick life rs old new =
    IsBehind life.journal.output.lasting old new
    ⊎ ((is_due o.taking.every (since_now o es) tick ≡ true)
    × (IsReady life.journal rs (bytes_now o es) old new
    ⊎ IsImaged life.journal rs (bytes_now o es) life.frames (taken_at o.taking node tick (since_now o es)) old new))

-- What a crash at each moment leaves while the life passes the checkpoint of this node, behind so many ticks.
abbrev pub PassingLeaves : ℕ → ℕ → LifeView → View → View → Type 0
PassingLeaves node tick life old new =
    IsTrue old.tells → (o : Origin) (es : List Event) (rs : List Image) → HasServed o es (Checkpoint node tick ∷ []) life
    → HoldsJournal life.journal old rs (bytes_now o es) → LeavesOnly old new (Among old.may_leave (IsPassing o es node tick life rs))
