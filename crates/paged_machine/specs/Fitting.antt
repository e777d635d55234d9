-- Code, memory and pages that fit one another.
use Rattle.std.specs.Prelude.{◌≡◌, ℕ, ◌*◌, ◌≤◌, List, length}
use Rattle.dirty_pages.specs.Pages.{PageStates}
use Rattle.machine_code.specs.CodeView.{CodeView}
use Rattle.machine_code.specs.Memory.{FitsMemory}

-- the memory has as many pages as there are page flags, not too many, and all cells that the code names
pub record FitTogether (c : CodeView) (memory : List ℕ) (pages : PageStates) : Type 0 where
  pub same : length memory ≡ 512 * length pages.dirty
  pub few : length pages.dirty ≤ 8388608
  pub cells : FitsMemory c (length memory)
