-- How much is left of a run of instructions to a bound.
use Rattle.std.specs.Prelude.{ℕ, ◌+◌, ◌-◌, ◌*◌, ◌<◌, ◌≤◌, Option, Some, None, slice_get}
use Rattle.machine_code.specs.declared.instr.Instr.{Instr}
use Rattle.machine_code.specs.declared.instr.Instr.TheVariants.{Tick}
use Rattle.machine_code.specs.declared.event.Event.{Event}
use Rattle.machine_code.specs.declared.event.Event.TheVariants.{Ran, Ticked, WriteFault, WantsInput, Ended, Trapped}
use Rattle.machine_code.specs.CodeView.{CodeView}
use Rattle.machine_code.specs.State.{State}
use Rattle.paged_machine.specs.Rank.{rank, rank_limit}

-- nothing before a tick, and before any other instruction more than the rank
abbrev pub left_by : ℕ → Option Instr → ℕ
left_by r (Some Tick) = 0
left_by r i = 1 + r

abbrev pub left : CodeView → State → ℕ
left c s = left_by (rank c s) (slice_get c.instrs s.place)

-- the ticks that may still be taken come first, and then what is left before the next one
abbrev pub rest : CodeView → ℕ → State → ℕ
rest c until s = 1 + (until - s.ticks) * (rank_limit c + 2) + left c s

-- what a run of instructions that answered this leaves of the run to the bound: no more, and less where an instruction was done that the caller need not have done again
abbrev pub Shrinks : CodeView → ℕ → State → Option Event → State → Type 0
Shrinks c until s None t = rest c until t ≤ rest c until s
Shrinks c until s (Some Ran) t = rest c until t ≤ rest c until s
Shrinks c until s (Some Ticked) t = rest c until t ≤ rest c until s
Shrinks c until s (Some (WriteFault p)) t = rest c until t ≤ rest c until s
Shrinks c until s (Some WantsInput) t = rest c until t ≤ rest c until s
Shrinks c until s (Some (Ended v)) t = Unit {0}
Shrinks c until s (Some (Trapped k)) t = Unit {0}
Shrinks c until s (Some e) t = rest c until t < rest c until s
