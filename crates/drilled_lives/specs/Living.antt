-- What a life comes to that is opened on a store that stands for its source.
use Rattle.std.specs.Prelude.{◌≡◌, ℕ, Option, Some}
use Rattle.disk_model.specs.Store.{Store}
use Rattle.disk_model.specs.View.{View}
use Rattle.run_images.specs.Origin.{Origin}
use Rattle.run_images.specs.Source.{Source}
use Rattle.ckpt_runner.specs.declared.started.Started.{Started}
use Rattle.ckpt_runner.specs.Opening.{Given, Opens, ticks_at}
use Rattle.drilled_lives.specs.declared.course.Course.{Course}
use Rattle.ckpt_runner.specs.declared.started.OpenFault.TheVariants.{Memory}
use Rattle.drilled_lives.specs.declared.course.Course.TheVariants as course
use Rattle.drilled_lives.specs.declared.fault.DrillFault.{DrillFault}
use Rattle.drilled_lives.specs.declared.fault.DrillFault.TheVariants as drill
use Rattle.drilled_lives.specs.declared.living.LifeFault.{LifeFault}
use Rattle.drilled_lives.specs.declared.living.LifeFault.TheVariants.{Refused, Stopped}
use Rattle.drilled_lives.specs.Courses.{start_of, ticks_of}
use Rattle.drilled_lives.specs.Going.{ComesAsRun}

-- it starts as the store says, and goes on as the run up to the step or to its end
pub record LivesTo (g : Given) (s : Source) (step : Option ℕ) (old : View) (c : Course) (new : View) : Type 0 where
  pub started : Started
  pub start : start_of c ≡ Some started
  pub origin : Origin
  pub opens : Opens g old.seen started origin
  pub comes : ComesAsRun s g.every g.until (ticks_of step (ticks_at started)) c new

-- a life that was stopped had started as the store says
abbrev pub HasOpened : Given → Store → LifeFault → Type 0
HasOpened g seen (Refused fault) = Unit {0}
HasOpened g seen (Stopped started ticks) = (o : Origin) × Opens g seen started o

-- what a life did that a stop inside a call cut off
abbrev pub cut_course : LifeFault → Course
cut_course (Refused fault) = course.Opening
cut_course (Stopped started ticks) = course.Left started

-- what a fault into which no stop came is for a drill
abbrev pub fault_of : LifeFault → DrillFault
fault_of (Refused Memory) = drill.Memory
fault_of (Refused fault) = drill.Refused fault
fault_of (Stopped started ticks) = drill.NoRoom ticks
