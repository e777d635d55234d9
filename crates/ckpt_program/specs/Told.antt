-- What the console takes, and the status with which the program ends.
use Rattle.std.specs.Prelude.{◌≡◌, ◌≤◌, ◌++◌, ◌⊎◌, ℕ, List, IsTrue, IsSome, take, Result, Ok, Err}
use Rattle.ckpt_base.specs.Faults.{Rose}
use Rattle.ckpt_base.specs.Sink.{SinkView}
use Rattle.ckpt_program.specs.declared.done.Done.{Done}
use Rattle.ckpt_program.specs.declared.done.Done.TheVariants as done
use Rattle.ckpt_program.specs.declared.stop.Stop.{Stop}
use Rattle.ckpt_program.specs.declared.stop.Stop.TheVariants as stop
use Rattle.ckpt_program.specs.Texts.{fixed_line, text_of, status_of, broken_status}

-- the console took the whole text
pub record TakesAll (text : List ℕ) (status : ℕ) (old new : SinkView) (result : ℕ) : Type 0 where
  pub same_tells : new.tells ≡ old.tells
  pub same_faults : new.faults ≡ old.faults
  pub whole : IsTrue old.tells → new.written ≡ old.written ++ text
  pub status_is : result ≡ status

-- the console failed: its count rose, and it took a prefix
pub record TakesPart (text : List ℕ) (broken : ℕ) (old new : SinkView) (result : ℕ) : Type 0 where
  pub same_tells : new.tells ≡ old.tells
  pub rose : Rose old.faults new.faults × (old.faults ≤ new.faults)
  pub prefix : IsTrue old.tells → (n : ℕ) × (new.written ≡ old.written ++ take n text)
  pub status_is : result ≡ broken

-- the console takes the text, with the one status where it took it all and the other where it failed
abbrev pub Takes : (text : List ℕ) (status broken : ℕ) (old new : SinkView) (result : ℕ) → Type 0
Takes text status broken old new result = TakesAll text status old new result ⊎ TakesPart text broken old new result

-- what a command has come to is told on the console
abbrev pub Tells : Result Done Stop → (old new : SinkView) (result : ℕ) → Type 0
Tells o old new result = Takes (text_of o) (status_of o) (broken_status o) old new result

-- its line is always the same
abbrev pub HasFixedLine : Result Done Stop → Type 0
HasFixedLine (Ok d) = ⊥
HasFixedLine (Err stop.NoMemory) = Unit {0}
HasFixedLine (Err (stop.Because c)) = IsSome (fixed_line c)

-- its text was made while it was carried out
abbrev pub HasTextAtHand : Result Done Stop → Type 0
HasTextAtHand (Ok (done.Told t)) = Unit {0}
HasTextAtHand (Ok (done.Noted t)) = Unit {0}
HasTextAtHand o = ⊥

-- the status of a run that ended, trapped, or stopped at its bound
abbrev pub IsEnding : ℕ → Type 0
IsEnding status = (status ≡ 0) ⊎ ((status ≡ 3) ⊎ (status ≡ 4))

-- the status of a command that was carried out: that of its run, or that of a console which did not take its text
abbrev pub IsDone : ℕ → Type 0
IsDone status = IsEnding status ⊎ (status ≡ 7)
