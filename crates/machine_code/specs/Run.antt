-- Runs of a code over a plain memory: instruction after instruction, with no page protected.
use Rattle.std.specs.Prelude.{◌≡◌, ℕ, zero, suc, ◌+◌, ◌≤◌, ◌^◌, ◌-◌, List, [], ◌∷◌, ◌++◌, Bool, false, Option, Some, None, slice_get}
use Rattle.ckpt_base.specs.declared.ending.Ending.{Ending}
use Rattle.ckpt_base.specs.declared.ending.Ending.TheVariants as ending
use Rattle.ckpt_base.specs.Event as run
use Rattle.ckpt_base.specs.Run.{Run}
use Rattle.machine_code.specs.declared.instr.Instr.{Instr}
use Rattle.machine_code.specs.declared.instr.Instr.TheVariants.{In}
use Rattle.machine_code.specs.declared.event.Event.{Event}
use Rattle.machine_code.specs.declared.event.Event.TheVariants.{Ticked, Ended, Trapped}
use Rattle.machine_code.specs.CodeView.{CodeView}
use Rattle.machine_code.specs.State.{State, given}
use Rattle.machine_code.specs.Row.{Done, row, ran}

-- where a run stands: the machine, the memory, the input that was not yet taken, and what was shown so far
pub record World : Type 0 where
  pub state : State
  pub memory : List ℕ
  pub input : List ℕ
  pub events : List run.Event

abbrev pub world : State → List ℕ → List ℕ → List run.Event → World
world s m input events = record { state = s; memory = m; input = input; events = events }

-- no page is protected
abbrev pub unprotected : ℕ → Bool
unprotected p = false

-- the row of the next instruction; where there is none, nothing happens
abbrev pub row_at : CodeView → (ℕ → Bool) → State → List ℕ → Option Instr → Done
row_at c protected s m None = ran s m
row_at c protected s m (Some i) = row c protected s m i

abbrev pub next_row : CodeView → (ℕ → Bool) → State → List ℕ → Done
next_row c protected s m = row_at c protected s m (slice_get c.instrs s.place)

-- the world after a row
abbrev pub after_row : World → Done → World
after_row w d = record w { state = d.state; memory = d.memory; events = w.events ++ d.shown }

-- the world after the input value that the machine asked for: the next byte, which is taken, or -1 where there is none
abbrev pub fed : World → List ℕ → World
fed w [] = record w { state = given w.state 0 (2 ^ 64 - 1) }
fed w (b ∷ bs) = record w { state = given w.state 0 b; input = bs; events = w.events ++ run.Took ∷ [] }

abbrev pub after_instr : CodeView → World → Option Instr → World
after_instr c w (Some In) = fed w w.input
after_instr c w o = after_row w (row_at c unprotected w.state w.memory o)

-- the world after one more instruction
abbrev pub after_one : CodeView → World → World
after_one c w = after_instr c w (slice_get c.instrs w.state.place)

-- the world after k instructions
abbrev pub after : CodeView → ℕ → World → World
after c zero w = w
after c (suc k) w = after c k (after_one c w)

-- the run comes from one world to another
pub record Reaches (c : CodeView) (w v : World) : Type 0 where
  pub by : (k : ℕ) × (after c k w ≡ v)

-- what a run gives that stands there
abbrev pub run_at : World → Ending → Run
run_at v e = record { events = v.events; memory = v.memory; ending = e; ticks = v.state.ticks }

-- a run with so many ticks stops with its next instruction: it ends or traps, or needs a tick that is one too many
abbrev pub StopsBy : Event → World → ℕ → Run → Type 0
StopsBy (Ended x) v bound r = (v.state.ticks ≤ bound) × (r ≡ run_at v (ending.Ended x))
StopsBy (Trapped t) v bound r = (v.state.ticks ≤ bound) × (r ≡ run_at v (ending.Trapped t))
StopsBy Ticked v bound r = (v.state.ticks ≡ bound) × (r ≡ run_at v ending.Going)
StopsBy e v bound r = ⊥

abbrev pub Stops : CodeView → World → ℕ → Run → Type 0
Stops c v bound r = StopsBy (next_row c unprotected v.state v.memory).event v bound r

-- the run of a code from a world, with at most n ticks more
abbrev pub CodeRun : CodeView → World → ℕ → Run → Type 0
CodeRun c w n r = (v : World) × Reaches c w v × Stops c v (w.state.ticks + n) r
