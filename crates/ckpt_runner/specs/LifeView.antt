-- What contracts see of a life.
use Rattle.std.specs.Prelude.{ℕ, Bool, true, false, List}
use Rattle.dirty_pages.specs.Pages.{PageStates}
use Rattle.paged_machine.specs.MachineView.{MachineView}
use Rattle.image_format.specs.declared.fields.Fields.{Fields}
use Rattle.image_format.specs.declared.fields.Marks.{Marks}
use Rattle.life_journal.specs.JournalView.{JournalView}
use Rattle.run_images.specs.Compiled.{CompiledView}
use Rattle.ckpt_runner.specs.declared.progress.Progress.{Progress}
use Rattle.ckpt_runner.specs.declared.started.Started.{Started}

-- the image under way: none; one that was promised, whose record is not made yet; or one whose record is being written, with so many calls done
pub data Writer : Type 0 where
  Idle : Writer
  Waiting : Fields → Writer
  Writing : List ℕ → ℕ → Writer

pub record LifeView : Type 0 where
  pub compiled : CompiledView
  pub marks : Marks
  pub input : List ℕ
  pub pace : List ℕ
  pub machine : MachineView
  -- the words of all pages, those of the pages that were copied aside for an image, and the flags of the pages
  pub frames : List ℕ
  pub copies : List ℕ
  pub pages : PageStates
  -- what the run so far leaves for the next image, but for the cells written since the newest one, which the pages tell
  pub progress : Progress
  pub journal : JournalView
  pub writer : Writer
  pub started : Started
  pub failed : Bool
  pub finished : Bool

-- no image is under way
abbrev pub is_idle : Writer → Bool
is_idle Idle = true
is_idle (Waiting f) = false
is_idle (Writing bytes done) = false
