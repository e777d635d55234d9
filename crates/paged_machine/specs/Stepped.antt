-- What one instruction did.
use Rattle.std.specs.Prelude.{◌≡◌, ℕ, ◌+◌, ◌/◌, ◌<◌, ◌≤◌, List, ◌++◌, length, slice_index, slice_get, true, Some}
use Rattle.ckpt_base.specs.Event as run
use Rattle.dirty_pages.specs.Pages.{PageStates, is_protected}
use Rattle.machine_code.specs.declared.instr.Instr.TheVariants.{In}
use Rattle.machine_code.specs.declared.event.Event.{Event}
use Rattle.machine_code.specs.declared.event.Event.TheVariants.{WriteFault, WantsInput, Ended, Trapped}
use Rattle.machine_code.specs.CodeView.{CodeView}
use Rattle.machine_code.specs.State.{State}
use Rattle.machine_code.specs.Row.{Done}
use Rattle.machine_code.specs.Run.{World, world, next_row, Reaches}
use Rattle.paged_machine.specs.MachineView.{MachineView, live_after, after_done}
use Rattle.paged_machine.specs.Standing.{StandsIn}
use Rattle.paged_machine.specs.Rank.{Falls, rank, rank_limit}
use Rattle.paged_machine.specs.RunOn.{GoesOn, Answers, telling, done_by, ticks_of}

-- a row was done: this is the machine after it, the memory, and what the machine answers
abbrev pub DoneBy : Done → MachineView → MachineView → List ℕ → Event → Type 0
DoneBy d v w n e = (w ≡ after_done v d) × (n ≡ d.memory) × (e ≡ d.event)

-- a fault, a wanted input, the end and a trap leave everything as it is
abbrev pub Still : Event → State → List ℕ → State → List ℕ → Type 0
Still (WriteFault p) s m t n = (t ≡ s) × (n ≡ m)
Still WantsInput s m t n = (t ≡ s) × (n ≡ m)
Still (Ended v) s m t n = (t ≡ s) × (n ≡ m)
Still (Trapped k) s m t n = (t ≡ s) × (n ≡ m)
Still e s m t n = Unit {0}

-- the machine v over the memory m did the row of its next instruction, which answers e, and stands as w over n
pub record Stepped (c : CodeView) (pages : PageStates) (v : MachineView) (m : List ℕ) (e : Event) (w : MachineView) (n : List ℕ) : Type 0 where
  pub state : w.state ≡ (next_row c (is_protected pages) v.state m).state
  pub memory : n ≡ (next_row c (is_protected pages) v.state m).memory
  pub event : e ≡ (next_row c (is_protected pages) v.state m).event
  pub live : w.live ≡ live_after true e
  pub stands : StandsIn c w
  pub size : length n ≡ length m
  pub spared : (cell : ℕ) → is_protected pages (cell / 512) ≡ true → slice_index n cell ≡ slice_index m cell
  pub reaches : (x : World) (input : List ℕ) (events : List run.Event) → Reaches c x (world v.state m input events) → Reaches c x (world w.state n input (events ++ (next_row c (is_protected pages) v.state m).shown))
  pub asked : e ≡ WantsInput → slice_get c.instrs w.state.place ≡ Some In
  pub fault : (p : ℕ) → e ≡ WriteFault p → (p < length pages.dirty) × (is_protected pages p ≡ true)
  pub falls : Falls c v.state e w.state
  pub limited : rank c w.state ≤ rank_limit c
  pub still : Still e v.state m w.state n
  pub ticked : w.state.ticks ≡ v.state.ticks + ticks_of e
  pub shows : GoesOn c (is_protected pages) v.state m (telling e) w.state n
  pub counted : shows.count ≡ done_by e
  pub answer : Answers c pages w.state n (telling e)
