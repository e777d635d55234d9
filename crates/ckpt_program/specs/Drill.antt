-- The stages of the commands `drill` and `generate`, each with its causes, and what these commands come to.
use Rattle.std.specs.Prelude.{◌≡◌, ◌≤◌, ◌<◌, ℕ, List, [], ◌∷◌, ◌++◌, length, codes, Ok, Err}
use Rattle.std.specs.Fmt.{decimal}
use Rattle.ckpt_base.specs.Run as run
use Rattle.ckpt_base.specs.declared.ending.Ending.{Ending}
use Rattle.ckpt_base.specs.declared.ending.Ending.TheVariants.{Going}
use Rattle.c_tree.specs.declared.resolved.Resolved.{Resolved}
use Rattle.c_tree.specs.Meaning.{meaning}
use Rattle.command_words.specs.Words.{most_steps}
use Rattle.command_words.specs.declared.command.Settings.{Settings}
use Rattle.command_words.specs.declared.stops.Stop.{Stop}
use Rattle.command_words.specs.declared.stops.Stop.TheVariants.{AtStep}
use Rattle.run_images.specs.Source.{Source as RunSource, output_of}
use Rattle.run_marks.specs.Digests.{digests_of}
use Rattle.ckpt_runner.specs.Opening.{Given}
use Rattle.ckpt_runner.specs.Standing.{IsGivenSource}
use Rattle.ckpt_runner.specs.declared.how.Mode.TheVariants as mode
use Rattle.drilled_lives.specs.Between.{IsSpacedBy}
use Rattle.drilled_lives.specs.Courses.{AreDrilled}
use Rattle.drilled_lives.specs.Lines.{courses_lines}
use Rattle.drilled_lives.specs.declared.course.Course.{Course}
use Rattle.drilled_lives.specs.declared.course.Course.TheVariants as course
use Rattle.drilled_lives.specs.declared.course.Drilled.{Drilled}
use Rattle.generated_program.specs.Generated.{generated, generated_line, stop_of}
use Rattle.ckpt_program.specs.Accepted.{Accepted}
use Rattle.ckpt_program.specs.Fetched.{limit_of}
use Rattle.ckpt_program.specs.LifeRow.{ReadsJob}
use Rattle.ckpt_program.specs.LifeStages.{given_with, Compiles}
use Rattle.ckpt_program.specs.Sight.{Sight}
use Rattle.ckpt_program.specs.Stage.{Stage, ◌>>=◌, only}
use Rattle.ckpt_program.specs.declared.done.Done.{Done}
use Rattle.ckpt_program.specs.declared.done.Done.TheVariants as done
use Rattle.ckpt_program.specs.declared.life_stages.Asked.{Asked}
use Rattle.ckpt_program.specs.declared.stop.Cause.{Cause}
use Rattle.ckpt_program.specs.declared.stop.Stop as stop
use Rattle.ckpt_program.specs.declared.stop.Stop.TheVariants.{NoMemory, Because}
use Rattle.ckpt_program.specs.declared.stop.Cause.TheVariants as cause
use Rattle.ckpt_program.specs.declared.stop.Document.TheVariants as document

-- ---- the lives

-- how the lives of a drill are run, over a fill
abbrev pub to_drill : Settings → (fill : ℕ) → Asked
to_drill s fill = record { mode = mode.Run; settings = s; fill = fill }

-- The lives are those of a drill of the source, whatever the stops, and the output is that of its run within the bound.
pub record AreLivesOf (g : Given) (stops : List Stop) (d : Drilled) (s : RunSource) : Type 0 where
  pub lives : AreDrilled s g.every g.until stops d.courses.items
  pub output : d.output.items ≡ output_of s g.until

-- so it is for each source that was given; and the output is within its limit
unfoldable pub WasDrilled : Given → List Stop → Drilled → Type 0
WasDrilled g stops d = (length d.output.items ≤ limit_of document.Output) × ((s : RunSource) → IsGivenSource g s → IsSpacedBy s g.every → AreLivesOf g stops d s)

-- the one cause: what the program writes within the bound is longer than the limit
unfoldable pub FailsDrill : Resolved → (input : List ℕ) → (until : ℕ) → Cause → Type 0
FailsDrill tree input until (cause.TooLarge document.Output) = limit_of document.Output < length (run.output (meaning tree input until).events)
FailsDrill tree input until c = ⊥

-- .. or there was no memory
abbrev pub StopsDrill : Resolved → (input : List ℕ) → (until : ℕ) → stop.Stop → Type 0
StopsDrill tree input until NoMemory = Unit {0}
StopsDrill tree input until (Because c) = FailsDrill tree input until c

-- a program is run through a list of stops
abbrev pub Drills : Resolved → Given → List Stop → Stage Drilled
Drills tree g stops (Ok d) = WasDrilled g stops d
Drills tree g stops (Err c) = FailsDrill tree g.input g.until c

-- ---- what is told of them

-- how the last life ended; one that was left goes on
abbrev pub ending_of : Course → Ending
ending_of course.Opening = Going
ending_of (course.Left started) = Going
ending_of (course.Lived l) = l.ending

-- .. of the lives behind one that ended so
abbrev pub last_ending : Ending → List Course → Ending
last_ending e [] = e
last_ending e (c ∷ cs) = last_ending (ending_of c) cs

-- the output with its length
abbrev pub output_part : List ℕ → List ℕ
output_part output = codes "output " ++ (decimal (length output) ++ (codes "\n" ++ (output ++ codes "\n")))

-- it tells the lives and the output behind a heading, and ends as the last life
unfoldable pub TellsDrill : (heading : List ℕ) → Drilled → Done → Type 0
TellsDrill heading d (done.Told t) = (t.ending ≡ last_ending Going d.courses.items) × (t.text.list ≡ heading ++ (courses_lines d.courses.items ++ output_part d.output.items))
TellsDrill heading d e = ⊥

-- ---- the rows

-- the lives are lived, and told
abbrev pub Told : (heading : List ℕ) → Resolved → Given → List Stop → Stage Done
Told heading tree g stops = do
  drilled ← Drills tree g stops
  only (TellsDrill heading drilled)

-- .. with the code of a program, and the digests of its text and its input
abbrev pub OfProgram : (heading : List ℕ) → Asked → List Stop → Resolved → (text input : List ℕ) → Stage Done
OfProgram heading asked stops tree text input = do
  compiled ← Compiles tree
  Told heading tree (given_with compiled (digests_of text input) input asked) stops

-- `drill SRC INPUT`
abbrev pub Drill : (source input : List ℕ) → Asked → List Stop → (old new : Sight) → Stage Done
Drill source input asked stops old new = do
  job ← ReadsJob source input old new
  OfProgram [] asked stops job.program job.text.list job.input.list

-- how a command runs a life that has no options
abbrev pub default_settings : Settings
default_settings = record { until = most_steps; every = 1; max = 16 }

-- where the lives of the generated program of n functions are stopped
abbrev pub stops_of : (n : ℕ) → List Stop
stops_of n = AtStep (stop_of n 1) ∷ AtStep (stop_of n 2) ∷ AtStep (stop_of n 3) ∷ AtStep (stop_of n 4) ∷ []

-- `generate N`: its text is accepted as any source is, and drilled without an input
abbrev pub Generate : (n : ℕ) → Stage Done
Generate n = do
  tree ← Accepted (generated n)
  OfProgram (generated_line n) (to_drill default_settings 0) (stops_of n) tree (generated n) []
