-- What a life runs over before it begins or is resumed.
use Rattle.std.specs.Prelude.{◌≡◌, ℕ, ◌*◌, ◌≤◌, true, List, length, replicate}
use Rattle.dirty_pages.specs.Pages.{PageStates, fresh}
use Rattle.machine_code.specs.State.{standing}
use Rattle.page_frames.specs.Words.{fill_word}
use Rattle.paged_machine.specs.MachineView.{MachineView}
use Rattle.paged_machine.specs.Fitting.{FitTogether}
use Rattle.paged_machine.specs.Standing.{StandsIn}
use Rattle.compiled_program.specs.CanRun.{CanRun}
use Rattle.run_images.specs.Compiled.{CompiledView, cells_in}

-- A machine at the entry of a program that it can run, over as many pages as its cells take, which hold the fill and are all dirty, with room for a copy of each.
pub record IsNewMemory (c : CompiledView) (fill : ℕ) (machine : MachineView) (frames copies : List ℕ) (pages : PageStates) : Type 0 where
  pub runs : CanRun c
  pub count : ℕ
  pub frames_are : frames ≡ replicate (512 * count) (fill_word fill)
  pub copies_are : length copies ≡ length frames
  pub pages_are : pages ≡ fresh count
  pub room : cells_in c ≤ 512 * count
  pub fit : FitTogether c.code frames pages
  pub entry : machine.state ≡ standing 0 0
  pub live : machine.live ≡ true
  pub stands : StandsIn c.code machine
