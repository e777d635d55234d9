-- What contracts see of a machine.
use Rattle.std.specs.Prelude.{ℕ, List, Bool, false, take, reverse}
use Rattle.machine_code.specs.State.{State}
use Rattle.machine_code.specs.Row.{Done}
use Rattle.machine_code.specs.declared.event.Event.{Event}
use Rattle.machine_code.specs.declared.event.Event.TheVariants.{Ended, Trapped}

-- words that were pushed, and how many there can be
pub record Stacked : Type 0 where
  pub items : List ℕ
  pub room : ℕ

-- the first n of a list, the last of them first
abbrev pub tops : {X : Type 0} → List X → ℕ → List X
tops xs n = reverse (take n xs)

-- where a machine stands, whether it can go on, and how many operands and locals it has room for
pub record MachineView : Type 0 where
  pub state : State
  pub live : Bool
  pub operand_room : ℕ
  pub local_room : ℕ

-- whether a machine is live after an instruction that answered this
abbrev pub live_after : Bool → Event → Bool
live_after live (Ended v) = false
live_after live (Trapped t) = false
live_after live e = live

-- the machine at another state
abbrev pub at_state : MachineView → State → MachineView
at_state v s = record v { state = s }

-- the machine after a row
abbrev pub after_done : MachineView → Done → MachineView
after_done v d = record v { state = d.state; live = live_after v.live d.event }
