-- What is told of the shelf, apart from the file that is open.
use Rattle.std.specs.Prelude.{◌≡◌, ◌≤◌, ℕ, List, Bool, Result, Ok, Err}
use Rattle.ckpt_base.specs.Shelf.{ShelfView, File}
use Rattle.ckpt_program.specs.declared.stop.Stop.{Stop}
use Rattle.ckpt_program.specs.declared.stop.Stop.TheVariants.{Because}
use Rattle.ckpt_program.specs.declared.stop.Cause.TheVariants as cause

pub record Sight : Type 0 where
  pub tells : Bool
  pub files : List File
  pub faults : ℕ

abbrev pub sight : ShelfView → Sight
sight v = record { tells = v.tells; files = v.files; faults = v.faults }

-- the files are what they were, and the count has not fallen
pub record Later (old new : Sight) : Type 0 where
  pub tells : new.tells ≡ old.tells
  pub files : new.files ≡ old.files
  pub faults : old.faults ≤ new.faults

-- All is told as before, but where the shelf is at fault.
abbrev pub CalmStop : Stop → Sight → Sight → Type 0
CalmStop (Because cause.ShelfFault) old new = Later old new
CalmStop e old new = new ≡ old

abbrev pub Calm : {A : Type 0} → Result A Stop → Sight → Sight → Type 0
Calm (Ok x) old new = new ≡ old
Calm (Err e) old new = CalmStop e old new
