-- What an instruction asks of a life, and what serving it shows.
use Rattle.std.specs.Prelude.{◌≡◌, ℕ, Bool, true, false, List, [], ◌∷◌, ◌++◌, Option, IfSome}
use Rattle.ckpt_base.specs.declared.ending.Ending.{Ending}
use Rattle.ckpt_base.specs.Event.{Event, Took}
use Rattle.disk_model.specs.View.{View}
use Rattle.machine_code.specs.declared.event.Event as machine
use Rattle.machine_code.specs.declared.event.Event.TheVariants.{Ran, Ticked, WriteFault, Out, OutNumber, WantsInput, Checkpoint, Exclude, Ended, Trapped}
use Rattle.run_images.specs.Origin.{Origin}
use Rattle.ckpt_runner.specs.LifeView.{LifeView}
use Rattle.ckpt_runner.specs.Lives.{StopsAt}
use Rattle.ckpt_runner.specs.Calls.{GoesOn}

-- what the life has to serve: input that is wanted, output, a checkpoint, a directive
abbrev pub is_served : machine.Event → Bool
is_served WantsInput = true
is_served (Out b) = true
is_served (OutNumber v) = true
is_served (Checkpoint n) = true
is_served (Exclude k) = true
is_served Ran = false
is_served Ticked = false
is_served (WriteFault p) = false
is_served (Ended v) = false
is_served (Trapped t) = false

-- what the next input value shows, where this is left of the input: its next byte is taken, if there is one
abbrev pub next_taken : List ℕ → List Event
next_taken [] = []
next_taken (b ∷ bs) = Took ∷ []

-- The life went on to a later moment; where its run is over there, it stops there with this ending.
abbrev pub TurnsTo : Origin → List Event → ℕ → Option Ending → LifeView → View → LifeView → View → Type 0
TurnsTo o es until over life v life' v' = (on : GoesOn o es life v life' v') × IfSome over (λ e. StopsAt o (es ++ on.more) until e life')

-- what serving an instruction leaves of the life: all but the machine's state, the pages' flags, the progress, the journal, and whether a call failed
abbrev pub ServesOnly : LifeView → LifeView → Type 0
ServesOnly old new =
    new ≡ record old { machine = record old.machine { state = new.machine.state }; pages = new.pages; progress = new.progress; journal = new.journal; failed = new.failed }

-- what a turn leaves of it: all but these, the machine and the memory with its copies
abbrev pub TurnsOnly : LifeView → LifeView → Type 0
TurnsOnly old new = new ≡ record old { machine = new.machine; frames = new.frames; copies = new.copies; pages = new.pages; progress = new.progress; journal = new.journal; failed = new.failed }
