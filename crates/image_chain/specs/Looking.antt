-- What a call answers of a store, and what it leaves of the disk.
use Rattle.std.specs.Prelude.{◌≡◌, ◌↔◌, ℕ, ◌≤◌, IsTrue, List, length, take, Option, Some, None, Result, Ok, Err}
use Rattle.image_format.specs.declared.header.Header.{Header}
use Rattle.image_format.specs.Image.{Image, IsImage, IsHeldHeader}
use Rattle.image_format.specs.Spelling.{SpellsHeader, IsFront}
use Rattle.ckpt_base.specs.Faults.{Rose}
use Rattle.disk_model.specs.Store.{Store}
use Rattle.disk_model.specs.View.{View}
use Rattle.image_chain.specs.declared.fault.ChainFault.{ChainFault}
use Rattle.image_chain.specs.declared.fault.ChainFault.TheVariants.{Failed, Damaged}
use Rattle.image_chain.specs.Records.{Damage}

-- a fault is this damage, unless a call on the disk failed
abbrev pub IsDamage : {Y : Type 0} → ChainFault → Result Y Damage → Type 0
IsDamage Failed read = Unit {0}
IsDamage (Damaged file place) read = read ≡ Err (record { file = file; place = place })

-- What a call answered, seen by view, is what the store has, unless a call on the disk failed.
abbrev pub Answers : {X Y : Type 0} → (X → Y) → Result X ChainFault → Result Y Damage → Type 0
Answers view (Ok x) read = read ≡ Ok (view x)
Answers view (Err e) read = IsDamage e read

-- the count rose where the fault is that a call on the disk failed, and is the same where it is damage
abbrev pub RoseIfFailed : ChainFault → ℕ → ℕ → Type 0
RoseIfFailed Failed old new = Rose old new
RoseIfFailed (Damaged file place) old new = new ≡ old

-- Calls that only looked: all that is told of contents, crashes and the past is as it was.
pub record OnlyLooked (old new : View) : Type 0 where
  pub tells : new.tells ≡ old.tells
  pub tells_past : new.tells_past ≡ old.tells_past
  pub faults : old.faults ≤ new.faults
  pub seen : IsTrue old.tells → new.seen ≡ old.seen
  pub crash : IsTrue old.tells → (c : Store) → new.may_leave c ↔ old.may_leave c
  pub later : IsTrue old.tells_past → old.moment ≤ new.moment
  pub past : IsTrue old.tells_past → (t : ℕ) (c : Store) → t ≤ old.moment → new.left_since t c ↔ old.left_since t c

-- the header that was read is held by its type and in range, and its bytes are the front of the file
abbrev pub IsHeaderText : Option Header → List ℕ → Type 0
IsHeaderText None file = Unit {0}
IsHeaderText (Some h) file = IsHeldHeader h × SpellsHeader h (take 16 file) × (16 ≤ length file)

-- the bytes begin with a record
pub record IsRecord (bytes : List ℕ) : Type 0 where
  pub image : Image
  pub is_image : IsImage image
  pub front : IsFront image bytes

abbrev pub IsHeld : Option Header → Type 0
IsHeld None = Unit {0}
IsHeld (Some h) = IsHeldHeader h
