-- Where the run of a life begins: at the entry of its program, or behind the checkpoint of the newest record that it found.
use Rattle.std.specs.Prelude.{◌≡◌, ℕ, ◌+◌, ◌-◌, ◌<◌, true, List, [], ◌∷◌, ◌++◌, length, take, drop, Some, None, slice_index, unwrap_or}
use Rattle.ckpt_base.specs.Event.{Event, Checkpoint}
use Rattle.ckpt_base.specs.Run.{Run}
use Rattle.page_frames.specs.Words.{fill_word}
use Rattle.path_laws.specs.Forgettable.{IsForgettable}
use Rattle.flow_graph.specs.Agreement.{EndAlike}
use Rattle.image_format.specs.declared.fields.Fields.{Fields}
use Rattle.image_format.specs.declared.fields.Marks.{Marks}
use Rattle.image_format.specs.Image.{Image}
use Rattle.image_chain.specs.Memory.{memory}
use Rattle.image_chain.specs.Records.{newest_of}
use Rattle.machine_code.specs.CodeView.{CodeView}
use Rattle.machine_code.specs.State.{State, standing}
use Rattle.machine_code.specs.Valid.{has_checkpoint}
use Rattle.machine_code.specs.Run.{World, world, Reaches, CodeRun}
use Rattle.run_images.specs.Since.{Since, at_first, since_after}
use Rattle.run_images.specs.Images.{Taking, since_behind}
use Rattle.run_images.specs.Compiled.{CompiledView, cells_in}
use Rattle.run_images.specs.JoinedList.{IsJoinedList}
use Rattle.run_images.specs.Source.{Source, run_of, output_of, taking_of, images_of}

pub record Origin : Type 0 where
  pub code : CodeView
  pub taking : Taking
  -- where the run begins: the machine, the memory of the program's cells, and the input from there on
  pub state : State
  pub memory : List ℕ
  pub input : List ℕ
  -- what was there before: what the events left for the next image, the bytes of the output, and the records
  pub since : Since
  pub output : List ℕ
  pub records : List Image

-- the world in which the run begins, behind these events
abbrev pub origin_world : Origin → List Event → World
origin_world o before = world o.state o.memory o.input before

-- how many ticks the run has ahead, with a bound on the ticks from the program's start
abbrev pub ticks_ahead : Origin → ℕ → ℕ
ticks_ahead o until = until - o.state.ticks

abbrev pub taking_by : CompiledView → Marks → ℕ → Taking
taking_by c marks every = record { marks = marks; cells = cells_in c; sets = c.sets; every = every }

-- at the entry, with the words with which the program starts
abbrev pub begun_at : CompiledView → Marks → ℕ → List ℕ → Origin
begun_at c marks every input = record {
  code = c.code;
  taking = taking_by c marks every;
  state = standing 0 0;
  memory = c.words;
  input = input;
  since = at_first;
  output = [];
  records = [];
}

-- Behind the checkpoint of the newest of these records, with their words over a fill.
pub record IsResumedAt (c : CompiledView) (marks : Marks) (every fill : ℕ) (given : List ℕ) (rs : List Image) (file : List ℕ) (o : Origin) : Type 0 where
  pub newest : Fields
  pub newest_is : newest_of None rs ≡ Some newest
  pub code : o.code ≡ c.code
  pub taking : o.taking ≡ taking_by c marks every
  pub place : (q : ℕ) × (has_checkpoint c.code newest.node q ≡ true) × (o.state ≡ standing q newest.steps)
  pub size : length o.memory ≡ cells_in c
  pub words : (k : ℕ) → k < cells_in c → slice_index o.memory k ≡ unwrap_or (memory rs k) (fill_word fill)
  pub input : o.input ≡ drop newest.input_place given
  pub since : o.since ≡ since_behind newest
  pub output : o.output ≡ take newest.output_length file
  pub records : o.records ≡ rs

-- a world behind a checkpoint at this node is where the source's run stands after as many ticks: the same events, and the same word in each cell that is not forgettable there
pub record IsAsSource (s : Source) (node : ℕ) (w : World) : Type 0 where
  pub events : (run_of s w.state.ticks).events ≡ w.events
  pub words : (c : ℕ) → (IsForgettable s.graph c node → ⊥) → slice_index (run_of s w.state.ticks).memory c ≡ slice_index w.memory c

-- the events of the source's run up to the origin
abbrev pub events_before : Source → Origin → List Event
events_before s o = (run_of s o.state.ticks).events

-- The run from the origin goes on like the source's run from there. Within each bound it has the same events behind those so far, the same ending and ticks;
-- and where it has just passed a checkpoint, it stands as the source's run stands.
pub record GoesLike (s : Source) (o : Origin) : Type 0 where
  pub alike : (n : ℕ) (r : Run) → CodeRun o.code (origin_world o (events_before s o)) n r → EndAlike (run_of s (o.state.ticks + n)) r
  pub passes : (w : World) (node : ℕ) (more : List Event) → Reaches o.code (origin_world o (events_before s o)) w → w.events ≡ events_before s o ++ (more ++ Checkpoint node w.state.ticks ∷ []) → IsAsSource s node w

-- The life is of the source: from its origin it goes like the source's run, and what it found there is what that run has left.
pub record IsOfSource (s : Source) (o : Origin) : Type 0 where
  pub like : GoesLike s o
  pub taking : o.taking ≡ taking_of s o.taking.every
  pub since : o.since ≡ since_after o.taking.every (events_before s o) at_first
  pub output : o.output ≡ output_of s o.state.ticks
  pub records : IsJoinedList o.records (images_of s o.taking.every o.state.ticks)
  pub spaced : s.spaced o.taking.every ≡ true
