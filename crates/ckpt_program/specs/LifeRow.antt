-- What the commands `run` and `restart` come to.
use Rattle.std.specs.Prelude.{◌≡◌, ℕ, List}
use Rattle.ckpt_base.specs.Buffer.{Buffer}
use Rattle.c_tree.specs.declared.resolved.Resolved.{Resolved}
use Rattle.disk_model.specs.Plate.{Plate}
use Rattle.run_marks.specs.Digests.{digests_of}
use Rattle.ckpt_runner.specs.Opening.{Given}
use Rattle.ckpt_program.specs.Accepted.{Accepted}
use Rattle.ckpt_program.specs.DiskStages.{Entered}
use Rattle.ckpt_program.specs.LifeStages.{given_with, Compiles, LivedIn, TellsLife}
use Rattle.ckpt_program.specs.Sight.{Sight}
use Rattle.ckpt_program.specs.Stage.{Stage, ◌>>=◌, only}
use Rattle.ckpt_program.specs.Stages.{File}
use Rattle.ckpt_program.specs.declared.done.Done.{Done}
use Rattle.ckpt_program.specs.declared.life_stages.Asked.{Asked}
use Rattle.ckpt_program.specs.declared.lives.Job.{Job}
use Rattle.ckpt_program.specs.declared.stop.Document.TheVariants as document

-- an input is read, for an accepted program
abbrev pub ReadsInput : (text : Buffer) → Resolved → (input : List ℕ) → (old new : Sight) → Stage Job
ReadsInput text tree input old new = do
  bytes ← File document.Input input old new
  only (λ j. j ≡ record { text = text; program = tree; input = bytes })

-- a program is accepted, and its input read
abbrev pub ReadsProgram : (text : Buffer) (input : List ℕ) → (old new : Sight) → Stage Job
ReadsProgram text input old new = do
  tree ← Accepted text.list
  ReadsInput text tree input old new

-- a source and an input are read
abbrev pub ReadsJob : (source input : List ℕ) → (old new : Sight) → Stage Job
ReadsJob source input old new = do
  text ← File document.Source source old new
  ReadsProgram text input old new

-- a store is chosen, and a life lived in it, and told
abbrev pub InStore : Given → (old new : Plate) → Stage Done
InStore g old new = do
  entered ← Entered old new
  lived ← LivedIn g old new
  only (TellsLife lived)

-- .. with the code of a program, and with the digests of its text and its input
abbrev pub OfJob : Asked → Job → (old new : Plate) → Stage Done
OfJob asked job old new = do
  compiled ← Compiles job.program
  InStore (given_with compiled (digests_of job.text.list job.input.list) job.input.list asked) old new

-- `run SRC INPUT DIR` and `restart SRC INPUT DIR`
abbrev pub Lives : (source input : List ℕ) → Asked → (old new : Sight) (disk disk_new : Plate) → Stage Done
Lives source input asked old new disk disk_new = do
  job ← ReadsJob source input old new
  OfJob asked job disk disk_new
