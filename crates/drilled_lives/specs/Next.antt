-- A life behind those before it.
use Rattle.std.specs.Prelude.{◌≡◌, ℕ, IsTrue, Option}
use Rattle.disk_model.specs.MemoryDisk.{MemoryDisk, after_crash}
use Rattle.disk_model.specs.View.{View}
use Rattle.run_images.specs.Source.{Source, output_of}
use Rattle.ckpt_runner.specs.declared.started.Started.{Started}
use Rattle.ckpt_runner.specs.Opening.{Given}
use Rattle.ckpt_runner.specs.Standing.{IsGivenSource}
use Rattle.one_life.specs.declared.living.Lived.{Lived}
use Rattle.command_words.specs.declared.stops.Stop.{Stop}
use Rattle.command_words.specs.declared.stops.Stop.TheVariants.{AtStep, InCall}
use Rattle.drilled_lives.specs.declared.course.Course.{Course}
use Rattle.drilled_lives.specs.declared.course.Course.TheVariants as course
use Rattle.drilled_lives.specs.Courses.{Known, IsCourse, latest_of, known_of}
use Rattle.drilled_lives.specs.Between.{IsSpacedBy, IsBetween}

-- It does what it is to do behind them, and leaves a store for the next; where it lived to its end, with the output of the run.
pub record IsNext (s : Source) (every until : ℕ) (latest : Started) (known : Known) (stop : Option Stop) (c : Course) (new : View) : Type 0 where
  pub as_course : IsCourse s every until latest known stop c
  pub between : IsBetween s every (latest_of latest c) (known_of until c stop) new
  pub output : (l : Lived) → c ≡ course.Lived l → new.seen.output ≡ output_of s until

-- so it is for the source that was given, whatever the lives before it were
abbrev pub Follows : Given → Option Stop → View → Course → View → Type 0
Follows g stop old c new = (s : Source) → IsGivenSource g s → IsSpacedBy s g.every → (latest : Started) (known : Known) → IsBetween s g.every latest known old
    → IsNext s g.every g.until latest known stop c new

-- the fuse of the disk had acted, and the disk crashed with this pick
abbrev pub IsCrashedInCall : ℕ → MemoryDisk → Type 0
IsCrashedInCall pick m = (before : MemoryDisk) × IsTrue before.blown × (m ≡ after_crash pick before)

-- The disk behind a life that its stop reached: it crashed, at a step with pick 0, and inside a call, in which the fuse had acted, with the pick that is given.
abbrev pub IsCrashedBy : Stop → Course → MemoryDisk → Type 0
IsCrashedBy (AtStep n) course.Opening m = Unit {0}
IsCrashedBy (AtStep n) (course.Left started) m = (before : MemoryDisk) × (m ≡ after_crash 0 before)
IsCrashedBy (AtStep n) (course.Lived l) m = Unit {0}
IsCrashedBy (InCall number pick) course.Opening m = IsCrashedInCall pick m
IsCrashedBy (InCall number pick) (course.Left started) m = IsCrashedInCall pick m
IsCrashedBy (InCall number pick) (course.Lived l) m = Unit {0}
