-- How far a machine is from its next tick.
use Rattle.std.specs.Prelude.{◌≡◌, ℕ, ◌+◌, ◌-◌, ◌*◌, ◌^◌, ◌<◌, ◌⊎◌, List, [], ◌∷◌, length, slice_get, Some}
use Rattle.machine_code.specs.declared.instr.Instr.TheVariants.{Tick}
use Rattle.machine_code.specs.declared.event.Caller.{Caller}
use Rattle.machine_code.specs.declared.event.Event.{Event}
use Rattle.machine_code.specs.declared.event.Event.TheVariants.{Ticked, WriteFault, WantsInput, Ended, Trapped}
use Rattle.machine_code.specs.CodeView.{CodeView}
use Rattle.machine_code.specs.State.{State}

-- what place p counts in a call that has d calls below it, in a code of n instructions
abbrev pub counts : ℕ → ℕ → ℕ → ℕ
counts n p d = (n - p) * (n + 1) ^ (1000 - d)

abbrev pub callers_count : ℕ → List Caller → ℕ
callers_count n [] = 0
callers_count n (k ∷ ks) = counts n k.place (length ks) + callers_count n ks

-- more than the number of instructions that can still run before a tick
abbrev pub rank : CodeView → State → ℕ
rank c s = counts (length c.instrs) s.place (length s.callers) + callers_count (length c.instrs) s.callers

-- no rank is greater
abbrev pub rank_limit : CodeView → ℕ
rank_limit c = 1001 * (length c.instrs * (length c.instrs + 1) ^ 1000)

-- the machine came to a tick or nearer to one
abbrev pub Nearer : CodeView → State → State → Type 0
Nearer c s t = (slice_get c.instrs t.place ≡ Some Tick) ⊎ (rank c t < rank c s)

-- what an instruction that answers this event leaves: the machine nearer to a tick, unless the run is over, a tick was taken, or nothing has changed
abbrev pub Falls : CodeView → State → Event → State → Type 0
Falls c s Ticked t = Unit {0}
Falls c s (WriteFault p) t = t ≡ s
Falls c s WantsInput t = t ≡ s
Falls c s (Ended v) t = Unit {0}
Falls c s (Trapped k) t = Unit {0}
Falls c s e t = Nearer c s t
