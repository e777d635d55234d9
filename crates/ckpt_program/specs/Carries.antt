-- What the words come to: a row each.
use Rattle.std.specs.Prelude.{◌≡◌, ℕ, List, [], Option, Some, None, Ok, Err, slice_index_or}
use Rattle.command_words.specs.declared.command.Command.{Command}
use Rattle.command_words.specs.declared.command.Command.TheVariants.{Plain, Check, Compile, Report, Run, Restart, Images, Coalesce, Clear, Why, Drill, Generate}
use Rattle.disk_model.specs.Plate.{Plate}
use Rattle.ckpt_program.specs.Sight.{Sight}
use Rattle.ckpt_program.specs.Stage.{Stage}
use Rattle.ckpt_program.specs.Rows as row
use Rattle.ckpt_program.specs.LifeRow as life
use Rattle.ckpt_program.specs.Drill as drill
use Rattle.ckpt_program.specs.LifeStages.{to_begin, to_go_on}
use Rattle.ckpt_program.specs.declared.done.Done.{Done}
use Rattle.ckpt_program.specs.declared.stop.Cause.TheVariants as cause

-- the word at a place
abbrev pub word_at : List (List ℕ) → ℕ → List ℕ
word_at words place = slice_index_or words place []

-- the words are no command
abbrev pub NoCommand : Stage Done
NoCommand (Ok d) = ⊥
NoCommand (Err c) = c ≡ cause.Usage

abbrev pub Carries : (words : List (List ℕ)) → Command → (old new : Sight) (disk disk_new : Plate) → Stage Done
Carries words (Check source) old new disk disk_new = row.Check (word_at words source) old new
Carries words (Compile source) old new disk disk_new = row.Compile (word_at words source) old new
Carries words (Report source) old new disk disk_new = row.Report (word_at words source) old new
Carries words (Plain source input until) old new disk disk_new = row.Plain (word_at words source) (word_at words input) until old new
Carries words (Run source input dir settings) old new disk disk_new = life.Lives (word_at words source) (word_at words input) (to_begin settings) old new disk disk_new
Carries words (Restart source input dir settings fill) old new disk disk_new = life.Lives (word_at words source) (word_at words input) (to_go_on settings fill) old new disk disk_new
Carries words (Images dir) old new disk disk_new = row.Images disk disk_new
Carries words (Coalesce dir) old new disk disk_new = row.Coalesce disk disk_new
Carries words (Clear dir) old new disk disk_new = row.Clear disk disk_new
Carries words (Why source exclude cell) old new disk disk_new = row.Why (word_at words source) exclude cell old new
Carries words (Drill source input settings fill stops) old new disk disk_new = drill.Drill (word_at words source) (word_at words input) (drill.to_drill settings fill) stops old new
Carries words (Generate functions) old new disk disk_new = drill.Generate functions

abbrev pub CarriesSome : (words : List (List ℕ)) → Option Command → (old new : Sight) (disk disk_new : Plate) → Stage Done
CarriesSome words None old new disk disk_new = NoCommand
CarriesSome words (Some command) old new disk disk_new = Carries words command old new disk disk_new
