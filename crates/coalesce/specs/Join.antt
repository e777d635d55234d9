-- The one record that joins the records of a chain.
use Rattle.std.specs.Prelude.{◌≡◌, ℕ, List, [], ◌∷◌, Some, None, Result, OnOk}
use Rattle.ckpt_base.specs.declared.errors.Failed.{Failed}
use Rattle.disk_model.specs.View.{View}
use Rattle.disk_model.specs.Moments.{Among, LeavesOnly}
use Rattle.image_format.specs.Image.{Image}
use Rattle.image_chain.specs.ChainView.{ChainView}
use Rattle.image_chain.specs.Records.{newest_of}
use Rattle.image_chain.specs.Memory.{Joined, memory, kept_word}
use Rattle.image_chain.specs.Lists.{Rests}
use Rattle.image_chain.specs.Replace.{IsReplaced}

-- what is kept is the joined content of these records
abbrev pub IsContent : Joined → List Image → Type 0
IsContent kept rs = (c : ℕ) → kept_word kept c ≡ memory rs c

-- The record says what the newest of the records says, and gives each cell the word that they give it.
pub record Joins (rs : List Image) (image : Image) : Type 0 where
  pub fields : newest_of None rs ≡ Some image.fields
  pub words : (c : ℕ) → memory (image ∷ []) c ≡ memory rs c

-- What a joining promises: one record joins the records, a crash leaves the records or it, and after Ok it stands for good.
pub record Joining (before after : ChainView) (rs : List Image) (result : Result (Unit {0}) Failed) (old new : View) : Type 0 where
  pub image : Image
  pub joins : Joins rs image
  pub moments : LeavesOnly old new (Among old.may_leave (IsReplaced before.current rs image))
  pub stands : OnOk result (Rests after new (image ∷ []))
