-- How far an append has come.
use Rattle.std.specs.Prelude.{ℕ, ◌+◌, ◌-◌, ◌*◌, ◌<◌, List}
use Rattle.disk_model.specs.declared.disk_file.DiskFile.TheVariants.{Output}
use Rattle.disk_model.specs.View.{View, SameFile}
use Rattle.disk_model.specs.Moments.{Among, LeavesOnly}
use Rattle.image_format.specs.Image.{Image}
use Rattle.image_chain.specs.declared.chain.Current.{Current}
use Rattle.image_chain.specs.declared.chain.Step.{Step}
use Rattle.image_chain.specs.declared.chain.Step.TheVariants.{Piece, SyncRecord, OpenGate, SyncGate, Done}
use Rattle.image_chain.specs.Append.{IsDueNext}
use Rattle.image_chain.specs.Lists.{IsAppended}

-- while a step is due, or none is left
abbrev pub IsInsideOrDone : Step → ℕ → Type 0
IsInsideOrDone (Piece i) n = 4096 * i < n
IsInsideOrDone SyncRecord n = Unit {0}
IsInsideOrDone OpenGate n = Unit {0}
IsInsideOrDone SyncGate n = Unit {0}
IsInsideOrDone Done n = Unit {0}

-- the calls that are left, as a number that falls
abbrev pub left_to_do : Step → ℕ → ℕ
left_to_do (Piece i) n = 4 + (n - 4096 * i)
left_to_do SyncRecord n = 3
left_to_do OpenGate n = 2
left_to_do SyncGate n = 1
left_to_do Done n = 0

-- an append that began at rest has come to this step
pub record SoFar (start now : Current) (r : Image) (image : List ℕ) (at : Step) (old new : View) (rs : List Image) : Type 0 where
  pub due : IsDueNext now new rs r image at
  pub moments : LeavesOnly old new (Among old.may_leave (IsAppended start rs r))
  pub output : SameFile Output old new
