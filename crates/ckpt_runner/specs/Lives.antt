-- Where a life stands in its run, whatever its disk tells.
use Rattle.std.specs.Prelude.{◌≡◌, ℕ, ◌<◌, List, [], ◌++◌, length, take, drop}
use Rattle.ckpt_base.specs.declared.ending.Ending.{Ending}
use Rattle.ckpt_base.specs.Event.{Event}
use Rattle.ckpt_base.specs.Run.{Run}
use Rattle.dirty_pages.specs.Pages.{is_dirty}
use Rattle.machine_code.specs.Run.{World, world, Reaches, CodeRun}
use Rattle.output_file.specs.Pushed.{length_of}
use Rattle.run_images.specs.Since.{Since, since_after, is_page_fresh}
use Rattle.run_images.specs.Origin.{Origin, origin_world, ticks_ahead, taking_by}
use Rattle.ckpt_runner.specs.declared.progress.Progress.{Progress}
use Rattle.ckpt_runner.specs.LifeView.{LifeView}

-- what the events so far left for the next image
abbrev pub since_now : Origin → List Event → Since
since_now o es = since_after o.taking.every es o.since

-- of that, what a life keeps as numbers
abbrev pub progress_in : Since → Progress
progress_in s = record { number = s.number; newest_tick = s.newest_tick; directive = s.directive; included = s.included; input_place = s.input_place }

-- the memory of the program's cells
abbrev pub cells_now : Origin → LifeView → List ℕ
cells_now o life = take o.taking.cells life.frames

-- the world in which the life stands, behind these events
abbrev pub world_now : Origin → LifeView → List Event → World
world_now o life events = world life.machine.state (cells_now o life) (drop life.progress.input_place life.input) events

-- The run from the origin comes to where the life stands and shows these events and then those, of which the life has served only the first: what it keeps for the next image is as the first left it,
-- and the dirty pages are those written since the newest image.
pub record HasServed (o : Origin) (es shown : List Event) (life : LifeView) : Type 0 where
  pub code : life.compiled.code ≡ o.code
  pub taking : taking_by life.compiled life.marks life.journal.chain.current.every ≡ o.taking
  pub reaches : (before : List Event) → Reaches o.code (origin_world o before) (world_now o life (before ++ (es ++ shown)))
  pub progress : life.progress ≡ progress_in (since_now o es)
  pub output_length : length_of life.journal.output ≡ (since_now o es).output_length
  pub pages : (page : ℕ) → page < length life.pages.dirty → is_dirty life.pages page ≡ is_page_fresh (since_now o es) page

-- The life stands in the run from its origin, which has shown these events: machine, memory and input are those of the run, and so is all that the next image needs.
abbrev pub Lives : Origin → List Event → LifeView → Type 0
Lives o es life = HasServed o es [] life

-- what the run from the origin gives that has shown these events and stands where the life stands
abbrev pub run_now : Origin → List Event → Ending → LifeView → Run
run_now o es ending life = record { events = es; memory = cells_now o life; ending = ending; ticks = life.machine.state.ticks }

-- the run with this bound stops where the life stands, with this ending: it ended, trapped, or wants another tick
abbrev pub StopsAt : Origin → List Event → ℕ → Ending → LifeView → Type 0
StopsAt o es until ending life = CodeRun o.code (origin_world o []) (ticks_ahead o until) (run_now o es ending life)
