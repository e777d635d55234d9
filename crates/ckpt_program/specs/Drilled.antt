-- What `drill` and `generate` tell of a source: the lives of a drill of it, whatever the stops, and the ending and the output of its run.
use Rattle.std.specs.Prelude.{◌≡◌, ◌≤◌, ◌<◌, ◌⊎◌, ◌==◌, ◌++◌, ℕ, List, [], length, codes, IsTrue, Option, Some}
use Rattle.ckpt_base.specs.Run as run
use Rattle.ckpt_base.specs.Sink.{SinkView}
use Rattle.c_tree.specs.declared.resolved.Resolved.{Resolved}
use Rattle.c_tree.specs.Meaning.{meaning}
use Rattle.command_words.specs.declared.command.Command.{Command}
use Rattle.command_words.specs.declared.command.Command.TheVariants.{Drill, Generate}
use Rattle.command_words.specs.declared.command.Settings.{Settings}
use Rattle.command_words.specs.declared.stops.Stop.{Stop}
use Rattle.run_images.specs.Source.{Source as RunSource, IsSource, run_of, output_of}
use Rattle.run_marks.specs.Digests.{digests_of}
use Rattle.drilled_lives.specs.Courses.{AreDrilled}
use Rattle.drilled_lives.specs.Lines.{courses_lines}
use Rattle.drilled_lives.specs.declared.course.Course.{Course}
use Rattle.generated_program.specs.Generated.{generated, generated_line}
use Rattle.ckpt_program.specs.Accepted.{IsAccepted}
use Rattle.ckpt_program.specs.Carries.{word_at}
use Rattle.ckpt_program.specs.Drill.{default_settings, output_part, stops_of}
use Rattle.ckpt_program.specs.Fetched.{limit_of}
use Rattle.ckpt_program.specs.Headline.{IsSourceIn}
use Rattle.ckpt_program.specs.Sight.{Sight}
use Rattle.ckpt_program.specs.Texts.{ending_status}
use Rattle.ckpt_program.specs.Told.{IsEnding}
use Rattle.ckpt_program.specs.declared.stop.Document.TheVariants as document

-- the same source, where the images of its stores lie so far apart
abbrev pub spaced_by : ℕ → RunSource → RunSource
spaced_by every s = record s { spaced = λ e. e == every }

-- The lives that are told are those of a drill of the source, whatever the stops; the status is that of its run within the bound, and so is the output, which is within its limit.
pub record HasDrilled (s : RunSource) (heading : List ℕ) (a : Settings) (stops : List Stop) (console console_new : SinkView) (status : ℕ) : Type 0 where
  pub within : length (output_of s a.until) ≤ limit_of document.Output
  pub ending : status ≡ ending_status (run_of s a.until).ending
  pub courses : List Course
  pub drilled : AreDrilled (spaced_by a.every s) a.every a.until stops courses
  pub told : IsTrue console.tells → console_new.written ≡ console.written ++ (heading ++ (courses_lines courses ++ output_part (output_of s a.until)))

-- the source of a text and an input
pub record IsSourceOfText (text input : List ℕ) (s : RunSource) : Type 0 where
  pub accepted : IsAccepted text s.program
  pub given : s.input ≡ input
  pub marks : s.marks ≡ digests_of text input
  pub is : IsSource s

-- So it is where a command that drills ends with the status of a run.
abbrev pub DrillsAsSource : (words : List (List ℕ)) → Option Command → Sight → (console console_new : SinkView) → (status : ℕ) → Type 0
DrillsAsSource words (Some (Drill source input settings fill stops)) shelf console console_new status =
    (s : RunSource) → IsSourceIn (word_at words source) (word_at words input) shelf s → IsEnding status → HasDrilled s [] settings stops console console_new status
DrillsAsSource words (Some (Generate n)) shelf console console_new status =
    (s : RunSource) → IsSourceOfText (generated n) [] s → IsEnding status → HasDrilled s (generated_line n) default_settings (stops_of n) console console_new status
DrillsAsSource words command shelf console console_new status = Unit {0}

-- the status of a run; or what the program writes within the bound is too much
abbrev pub SaysDrill : Resolved → (input : List ℕ) (until : ℕ) → (status : ℕ) (text : List ℕ) → Type 0
SaysDrill tree input until status text =
    IsEnding status ⊎ ((status ≡ 11) × (text ≡ codes "too large: output\n") × (limit_of document.Output < length (run.output (meaning tree input until).events)))
