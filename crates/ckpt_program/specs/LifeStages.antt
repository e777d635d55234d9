-- The stages of a command that lives, each with its causes, and what they keep of the disk.
use Rattle.std.specs.Prelude.{◌≡◌, ℕ, List, ◌++◌, codes, IsTrue, Some, Result, Ok, Err}
use Rattle.ckpt_base.specs.Event.{Event}
use Rattle.ckpt_base.specs.Faults.{Rose}
use Rattle.c_tree.specs.declared.resolved.Resolved.{Resolved}
use Rattle.disk_model.specs.Store.{Store}
use Rattle.disk_model.specs.View.{View, Steady}
use Rattle.disk_model.specs.Plate.{Plate}
use Rattle.image_format.specs.declared.fields.Marks.{Marks}
use Rattle.run_images.specs.Compiled.{CompiledView, IsCompiled}
use Rattle.run_images.specs.Origin.{Origin}
use Rattle.run_images.specs.Source.{Source as RunSource, IsSource}
use Rattle.command_words.specs.declared.command.Settings.{Settings}
use Rattle.ckpt_runner.specs.Keeps.{bytes_now}
use Rattle.ckpt_runner.specs.Opening.{Given, Opens, Refuses}
use Rattle.ckpt_runner.specs.declared.how.Mode.TheVariants as mode
use Rattle.ckpt_runner.specs.declared.started.OpenFault.{OpenFault}
use Rattle.ckpt_runner.specs.declared.started.OpenFault.TheVariants as opening
use Rattle.ckpt_runner.specs.declared.started.Started.{Started}
use Rattle.ckpt_runner.specs.declared.started.Started.TheVariants.{Begun, Resumed}
use Rattle.one_life.specs.declared.living.Lived.{Lived}
use Rattle.one_life.specs.Ends.{Ran, RunsTo}
use Rattle.life_lines.specs.Lines.{resumed_line, ending_line}
use Rattle.ckpt_program.specs.DiskStages.{OnlyLasting}
use Rattle.ckpt_program.specs.Stage.{Stage, only, Told}
use Rattle.ckpt_program.specs.declared.done.Done.{Done}
use Rattle.ckpt_program.specs.declared.done.Done.TheVariants as done
use Rattle.ckpt_program.specs.declared.life_stages.Asked.{Asked}
use Rattle.ckpt_program.specs.declared.stop.Cause.TheVariants as cause
use Rattle.ckpt_program.specs.declared.stop.Stop.{Stop}
use Rattle.ckpt_program.specs.declared.stop.Stop.TheVariants.{NoMemory, Because}

-- it is the code of the program, whatever source the program is of
unfoldable pub IsCodeOf : Resolved → CompiledView → Type 0
IsCodeOf tree c = (s : RunSource) → IsSource s → s.program ≡ tree → IsCompiled s c

-- a program is compiled
abbrev pub Compiles : Resolved → Stage CompiledView
Compiles tree = only (IsCodeOf tree)

-- `run` begins, in a store without a chain
abbrev pub to_begin : Settings → Asked
to_begin s = record { mode = mode.Run; settings = s; fill = 0 }

-- `restart` goes on from the newest image, over a fill, or begins where there is none
abbrev pub to_go_on : Settings → (fill : ℕ) → Asked
to_go_on s fill = record { mode = mode.Restart; settings = s; fill = fill }

-- what a life is opened with
abbrev pub given_with : CompiledView → Marks → (input : List ℕ) → Asked → Given
given_with compiled marks input a = record { compiled = compiled; marks = marks; input = input; mode = a.mode; until = a.settings.until; every = a.settings.every; fill = a.fill }

-- The life started as the store says and ran by the code from there; and the output file reads as what was kept of it, and behind that what the run has written.
pub record WasLived (g : Given) (seen : Store) (new : Plate) (l : Lived) : Type 0 where
  pub origin : Origin
  pub opens : Opens g seen l.started origin
  pub events : List Event
  pub runs : RunsTo origin events g.until l
  pub output : (t : Store) → new.seen ≡ Some t → t.output ≡ bytes_now origin events

-- a life was a run of the code, whatever the disk tells; and where the store is told, the run that this asks for
unfoldable pub IsLifeIn : Given → (old new : Plate) → Lived → Type 0
IsLifeIn g old new l = Ran g l × ((s : Store) → old.seen ≡ Some s → WasLived g s new l)

-- why none was lived to its end: a call on the disk failed, or the store was refused, where it is told
unfoldable pub FailsLife : Given → (old new : Plate) → OpenFault → Type 0
FailsLife g old new opening.Failed = Rose old.faults new.faults
FailsLife g old new f = (s : Store) → old.seen ≡ Some s → Refuses f g s

-- a refusal as a command tells it
abbrev pub stop_of_opening : OpenFault → Stop
stop_of_opening opening.Memory = NoMemory
stop_of_opening opening.Failed = Because cause.DiskFault
stop_of_opening (opening.Damaged file place) = Because (cause.Damaged file place)
stop_of_opening (opening.Occupied image step) = Because (cause.Occupied image step)
stop_of_opening (opening.OtherSource kept given) = Because (cause.OtherSource kept given)
stop_of_opening (opening.OtherInput kept given) = Because (cause.OtherInput kept given)
stop_of_opening (opening.Behind bound step) = Because (cause.Behind bound step)

-- a life is lived in a store, until its program ends, traps, or has taken as many steps as it may
abbrev pub LivedIn : Given → (old new : Plate) → Stage Lived
LivedIn g old new = Told stop_of_opening (IsLifeIn g old new) (FailsLife g old new)

-- the line on how a life started
abbrev pub start_line : Started → List ℕ
start_line Begun = codes "begun\n"
start_line (Resumed image step) = resumed_line image step

-- it tells how the life started and ended
unfoldable pub TellsLife : Lived → Done → Type 0
TellsLife l (done.Told t) = (t.ending ≡ l.ending) × (t.text.list ≡ start_line l.started ++ ending_line l.ending l.steps)
TellsLife l d = ⊥

-- ---- what is kept of the disk

-- where a command is refused, or there is no memory, the contents are as they were
abbrev pub KeepsAt : Stop → View → View → Type 0
KeepsAt (Because cause.DiskFault) old new = Unit {0}
KeepsAt e old new = OnlyLasting old new

abbrev pub ChangesIfLived : {A : Type 0} → Result A Stop → View → View → Type 0
ChangesIfLived (Ok x) old new = Unit {0}
ChangesIfLived (Err e) old new = KeepsAt e old new

-- what a command keeps that may change the contents
pub record KeepsRefused {A : Type 0} (r : Result A Stop) (old new : View) : Type 0 where
  pub steady : Steady old new
  pub changes : ChangesIfLived r old new

-- a crash leaves the output file as it reads
abbrev pub OutputLasts : View → Type 0
OutputLasts v = IsTrue v.tells → (c : Store) → v.may_leave c → c.output ≡ v.seen.output
