-- What a run of instructions shows.
use Rattle.std.specs.Prelude.{◌≡◌, ℕ, ◌/◌, List, [], ◌∷◌, ◌++◌, length, slice_get, ◌<◌, ◌≤◌, map, Bool, true, false, Option, Some, None}
use Rattle.std.specs.List.{All}
use Rattle.std.specs.Fmt.{signed_decimal}
use Rattle.ckpt_base.specs.Event as run
use Rattle.machine_code.specs.declared.event.Event.{Event}
use Rattle.machine_code.specs.declared.event.Event.TheVariants.{Ran, Ticked, WriteFault, WantsInput, Out, OutNumber, Checkpoint, Exclude, Ended, Trapped}
use Rattle.machine_code.specs.declared.instr.Instr.TheVariants.{In}
use Rattle.dirty_pages.specs.Pages.{PageStates, is_protected}
use Rattle.machine_code.specs.CodeView.{CodeView}
use Rattle.machine_code.specs.State.{State}
use Rattle.machine_code.specs.Run.{world, unprotected, next_row, after}

-- how many ticks an instruction took that answered this
abbrev pub ticks_of : Event → ℕ
ticks_of Ticked = 1
ticks_of e = 0

-- how many instructions were done where one answered this: none where the machine stands before it as it stood
abbrev pub done_by : Event → ℕ
done_by (WriteFault p) = 0
done_by WantsInput = 0
done_by (Ended v) = 0
done_by (Trapped k) = 0
done_by e = 1

abbrev pub done_of : Option Event → ℕ
done_of None = 0
done_of (Some e) = done_by e

-- the answer of a run of instructions that goes on over those that only ran or took a tick
abbrev pub telling : Event → Option Event
telling Ran = None
telling Ticked = None
telling e = Some e

abbrev pub told : Option Event → Option Event
told None = None
told (Some e) = telling e

-- what an answer shows of the run, after so many ticks
abbrev pub told_by : ℕ → Option Event → List run.Event
told_by ticks (Some (Out b)) = run.Byte b ∷ []
told_by ticks (Some (OutNumber v)) = map run.Byte (signed_decimal v)
told_by ticks (Some (Checkpoint n)) = run.Checkpoint n ticks ∷ []
told_by ticks (Some (Exclude k)) = run.Excluded k ∷ []
told_by ticks answer = []

-- stores into cells of pages that are not protected, and nothing else
abbrev pub AreStores : (ℕ → Bool) → List run.Event → Type 0
AreStores protected = All (λ e. (cell : ℕ) × (e ≡ run.Wrote cell) × (protected (cell / 512) ≡ false))

-- the run goes on from one standing to another by so many instructions, with stores into pages that are not protected, and then what the answer shows
pub record GoesOn (c : CodeView) (protected : ℕ → Bool) (s : State) (m : List ℕ) (answer : Option Event) (t : State) (n : List ℕ) : Type 0 where
  pub count : ℕ
  pub done : done_of answer ≤ count
  pub stores : List run.Event
  pub open_pages : AreStores protected stores
  pub comes : (input : List ℕ) (events : List run.Event) → after c count (world s m input events) ≡ world t n input (events ++ (stores ++ told_by t.ticks answer))

-- the last instruction answered this, and left the machine so
pub record Behind (c : CodeView) (e : Event) (t : State) (n : List ℕ) : Type 0 where
  pub before : State
  pub memory : List ℕ
  pub event : (next_row c unprotected before memory).event ≡ e
  pub state : (next_row c unprotected before memory).state ≡ t
  pub cells : (next_row c unprotected before memory).memory ≡ n

-- the next instruction would write a cell of page p, which is protected
pub record WouldWrite (c : CodeView) (pages : PageStates) (t : State) (n : List ℕ) (p : ℕ) : Type 0 where
  pub within : p < length pages.dirty
  pub closed : is_protected pages p ≡ true
  pub cell : ℕ
  pub page : cell / 512 ≡ p
  pub shown : (next_row c unprotected t n).shown ≡ run.Wrote cell ∷ []

-- what holds where a run of instructions answers: the machine stands before the instruction that ends the program, traps, would write a protected page or asks for input, and behind any other that tells something
abbrev pub Answers : CodeView → PageStates → State → List ℕ → Option Event → Type 0
Answers c pages t n None = Unit {0}
Answers c pages t n (Some Ran) = ⊥
Answers c pages t n (Some Ticked) = ⊥
Answers c pages t n (Some WantsInput) = slice_get c.instrs t.place ≡ Some In
Answers c pages t n (Some (WriteFault p)) = WouldWrite c pages t n p
Answers c pages t n (Some (Ended v)) = (next_row c unprotected t n).event ≡ Ended v
Answers c pages t n (Some (Trapped k)) = (next_row c unprotected t n).event ≡ Trapped k
Answers c pages t n (Some e) = Behind c e t n

-- whether a machine that was live still is
abbrev pub live_behind : Option Event → Bool
live_behind (Some (Ended v)) = false
live_behind (Some (Trapped t)) = false
live_behind answer = true
