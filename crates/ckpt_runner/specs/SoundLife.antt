-- What a life keeps of itself, whatever its disk tells.
use Rattle.std.specs.Prelude.{◌≡◌, ℕ, ◌≤◌, false, length, Some, None}
use Rattle.dirty_pages.specs.Pages.{in_snapshot}
use Rattle.image_format.specs.declared.fields.Fields.{Fields}
use Rattle.output_file.specs.Pushed.{length_of}
use Rattle.paged_machine.specs.Fitting.{FitTogether}
use Rattle.paged_machine.specs.Standing.{StandsIn}
use Rattle.run_images.specs.Compiled.{cells_in}
use Rattle.life_journal.specs.declared.journal.JournalState.TheVariants.{Resting}
use Rattle.compiled_program.specs.CanRun.{CanRun}
use Rattle.ckpt_runner.specs.LifeView.{LifeView}

-- The newest record is of the newest image that was taken, and the run has gone on from there.
pub record IsBehindNewest (life : LifeView) (newest : Fields) : Type 0 where
  pub marks : newest.marks ≡ life.marks
  pub number : newest.number ≡ life.progress.number
  pub steps : newest.steps ≡ life.progress.newest_tick
  pub input_place : newest.input_place ≤ life.progress.input_place
  pub output_length : newest.output_length ≤ length_of life.journal.output

pub record IsSoundLife (life : LifeView) : Type 0 where
  -- the machine stands in the code, over frames that have the program's cells
  pub runs : CanRun life.compiled
  pub stands : StandsIn life.compiled.code life.machine
  pub fit : FitTogether life.compiled.code life.frames life.pages
  pub cells : cells_in life.compiled ≤ length life.frames
  -- each page has room for its copy and a mark
  pub copies : length life.copies ≡ length life.frames
  pub marks : length life.pages.in_snapshot ≡ length life.pages.dirty
  -- no page is in a snapshot
  pub none : (p : ℕ) → in_snapshot life.pages p ≡ false
  -- the directive in force is one of the program's, and the input is no longer than a record can tell
  pub directive : life.progress.directive ≤ life.compiled.directives
  pub short : length life.input ≤ 16777216
  pub taken : life.progress.input_place ≤ length life.input
  -- until a call fails, the journal's newest record is of the newest image
  pub whole : life.failed ≡ false → life.journal.state ≡ Resting
  pub none_yet : life.failed ≡ false → life.journal.chain.current.newest ≡ None → life.progress.number ≡ 0
  pub newest : life.failed ≡ false → (f : Fields) → life.journal.chain.current.newest ≡ Some f → IsBehindNewest life f
