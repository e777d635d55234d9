-- A store that is cleared: no chain, and no output.
use Rattle.std.specs.Prelude.{◌⊎◌, []}
use Rattle.disk_model.specs.Store.{Store}
use Rattle.disk_model.specs.View.{View}
use Rattle.image_chain.specs.Clear.{IsBlank, IsClearing, IsCleared}
use Rattle.output_file.specs.OnDisk.{IsOnDisk}

-- reads and each crash give no chain and an empty output
pub record IsEmptied (v : View) : Type 0 where
  pub cleared : IsCleared v
  pub output : IsOnDisk [] v

-- an earlier outcome that is being cleared, with its output; the output is cut only once both image files are blank
abbrev pub IsEmptying : Store → Store → Type 0
IsEmptying old new = IsClearing old new ⊎ IsBlank new
