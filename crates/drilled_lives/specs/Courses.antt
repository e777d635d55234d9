-- What the lives of a drill do, said of the source's run. A tick is a step of the run.
use Rattle.std.specs.Prelude.{◌≡◌, ℕ, ◌≤◌, max, List, [], ◌∷◌, ◌++◌, Option, Some, None}
use Rattle.ckpt_base.specs.declared.ending.Ending.TheVariants.{Going}
use Rattle.run_images.specs.Images.{TakenImage}
use Rattle.run_images.specs.Source.{Source, run_of, images_of}
use Rattle.ckpt_runner.specs.declared.started.Started.{Started}
use Rattle.ckpt_runner.specs.declared.started.Started.TheVariants.{Begun, Resumed}
use Rattle.ckpt_runner.specs.Opening.{ticks_at}
use Rattle.one_life.specs.declared.living.Lived.{Lived}
use Rattle.command_words.specs.declared.stops.Stop.{Stop}
use Rattle.command_words.specs.declared.stops.Stop.TheVariants.{AtStep, InCall}
use Rattle.drilled_lives.specs.declared.course.Course.{Course}
use Rattle.drilled_lives.specs.declared.course.Course.TheVariants as course

-- ---- how a life starts

-- the newest image of the source's run within n ticks has this number, and was taken after so many steps
abbrev pub IsNewestImage : Source → (every n image step : ℕ) → Type 0
IsNewestImage s every n image step = (before : List TakenImage) × (newest : TakenImage)
    × (images_of s every n ≡ before ++ newest ∷ []) × (newest.fields.number ≡ image) × (newest.fields.steps ≡ step)

-- a life resumes at that image, or begins where the run has none within n ticks
abbrev pub StartsBehind : Source → (every n : ℕ) → Started → Type 0
StartsBehind s every n Begun = images_of s every n ≡ []
StartsBehind s every n (Resumed image step) = IsNewestImage s every n image step

-- a life begins, or resumes at an image of the source's run within the bound
abbrev pub StartsInRun : Source → (every until : ℕ) → Started → Type 0
StartsInRun s every until Begun = Unit {0}
StartsInRun s every until (Resumed image step) = (step ≤ until) × IsNewestImage s every step image step

-- no image is lost between a life and a later one
abbrev pub IsNoEarlier : Started → Started → Type 0
IsNoEarlier Begun later = Unit {0}
IsNoEarlier (Resumed image step) Begun = ⊥
IsNoEarlier (Resumed image step) (Resumed later_image later_step) = image ≤ later_image

-- what the life before tells of the store: it has no image; its newest image is the run's newest within these ticks; or no more than that it stands
pub data Known : Type 0 where
  Fresh : Known
  Within : ℕ → Known
  Unknown : Known

abbrev pub StartsAsKnown : Source → ℕ → Known → Started → Type 0
StartsAsKnown s every Fresh started = started ≡ Begun
StartsAsKnown s every (Within n) started = StartsBehind s every n started
StartsAsKnown s every Unknown started = Unit {0}

-- A life starts in the run, not before the latest life that started, and as the life before tells.
pub record StartsAfter (s : Source) (every until : ℕ) (latest : Started) (known : Known) (started : Started) : Type 0 where
  pub in_run : StartsInRun s every until started
  pub no_earlier : IsNoEarlier latest started
  pub as_known : StartsAsKnown s every known started

-- ---- how it goes on

-- the tick at which a stop at n steps leaves a life that started so
abbrev pub tick_of : ℕ → Started → ℕ
tick_of n started = max n (ticks_at started)

-- the same of a life that has taken so many ticks, where there is such a stop
abbrev pub ticks_of : Option ℕ → ℕ → Option ℕ
ticks_of None ticks = None
ticks_of (Some n) ticks = Some (max n ticks)

-- the source's run comes to this tick within the bound, and would take another there
abbrev pub WouldGoOn : Source → (until tick : ℕ) → Type 0
WouldGoOn s until tick = (tick ≤ until) × ((run_of s tick).ending ≡ Going)

-- ending and steps are those of the source's run within the bound
abbrev pub EndsAsRun : Source → ℕ → Lived → Type 0
EndsAsRun s until l = (l.ending ≡ (run_of s until).ending) × (l.steps ≡ (run_of s until).ticks)

-- What a life does about its stop: one at a step leaves it exactly where the run would go on there, and one inside a call wherever that comes.
abbrev pub MeetsStop : Source → ℕ → Option Stop → Course → Type 0
MeetsStop s until None course.Opening = ⊥
MeetsStop s until None (course.Left started) = ⊥
MeetsStop s until None (course.Lived l) = EndsAsRun s until l
MeetsStop s until (Some (AtStep n)) course.Opening = ⊥
MeetsStop s until (Some (AtStep n)) (course.Left started) = WouldGoOn s until (tick_of n started)
MeetsStop s until (Some (AtStep n)) (course.Lived l) = (WouldGoOn s until (tick_of n l.started) → ⊥) × EndsAsRun s until l
MeetsStop s until (Some (InCall number pick)) course.Opening = Unit {0}
MeetsStop s until (Some (InCall number pick)) (course.Left started) = Unit {0}
MeetsStop s until (Some (InCall number pick)) (course.Lived l) = EndsAsRun s until l

-- ---- the lives of a drill

-- how it started, where it did
abbrev pub start_of : Course → Option Started
start_of course.Opening = None
start_of (course.Left started) = Some started
start_of (course.Lived l) = Some l.started

-- no stop reached it
abbrev pub IsLived : Course → Type 0
IsLived course.Opening = ⊥
IsLived (course.Left started) = ⊥
IsLived (course.Lived l) = Unit {0}

-- the latest start, with that of this life
abbrev pub latest_of : Started → Course → Started
latest_of latest course.Opening = latest
latest_of latest (course.Left started) = started
latest_of latest (course.Lived l) = l.started

-- what a life tells of the store that it leaves
abbrev pub known_of : ℕ → Course → Option Stop → Known
known_of until course.Opening stop = Unknown
known_of until (course.Left started) None = Unknown
known_of until (course.Left started) (Some (AtStep n)) = Within (tick_of n started)
known_of until (course.Left started) (Some (InCall number pick)) = Unknown
known_of until (course.Lived l) stop = Within until

-- One life: it starts as the lives before it tell, and does with its stop what the run says.
pub record IsCourse (s : Source) (every until : ℕ) (latest : Started) (known : Known) (stop : Option Stop) (c : Course) : Type 0 where
  pub starts : (started : Started) → start_of c ≡ Some started → StartsAfter s every until latest known started
  pub stopped : MeetsStop s until stop c

-- There is one life for each stop, and one more without a stop; each is so behind those before it.
abbrev pub AreCourses : Source → (every until : ℕ) → Started → Known → List Stop → List Course → Type 0
AreCourses s every until latest known stops [] = ⊥
AreCourses s every until latest known [] (c ∷ []) = IsCourse s every until latest known None c
AreCourses s every until latest known [] (c ∷ d ∷ cs) = ⊥
AreCourses s every until latest known (stop ∷ stops) (c ∷ cs) =
    IsCourse s every until latest known (Some stop) c × AreCourses s every until (latest_of latest c) (known_of until c (Some stop)) stops cs

-- the lives of a drill, from an empty store on
abbrev pub AreDrilled : Source → (every until : ℕ) → List Stop → List Course → Type 0
AreDrilled s every until stops cs = AreCourses s every until Begun Fresh stops cs
