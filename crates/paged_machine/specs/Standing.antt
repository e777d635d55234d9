-- A machine that stands in a valid code.
use Rattle.std.specs.Prelude.{◌≡◌, ℕ, ◌+◌, ◌-◌, ◌*◌, ◌<◌, ◌≤◌, List, [], ◌∷◌, length, slice_index}
use Rattle.machine_code.specs.declared.event.Caller.{Caller}
use Rattle.machine_code.specs.CodeView.{CodeView, locals_at, most_locals}
use Rattle.machine_code.specs.Valid.{IsValid, AreDepths}
use Rattle.paged_machine.specs.MachineView.{MachineView}

-- place p is an instruction before which the current call has n operands and m locals
pub record IsAt (c : CodeView) (depths : List ℕ) (p n m : ℕ) : Type 0 where
  pub within : p < length c.instrs
  pub operands : slice_index depths p ≡ n
  pub locals : locals_at c p ≡ m

-- the calls that wait fit the code, where the current one begins above b operands and m locals: each goes on with one operand more, its call's value
abbrev pub CallersStand : CodeView → List ℕ → List Caller → ℕ → ℕ → Type 0
CallersStand c depths [] b m = (b ≡ 0) × (m ≡ 0)
CallersStand c depths (k ∷ ks) b m =
    (k.below ≤ b) × (k.locals_below ≤ m)
    × IsAt c depths k.place (b - k.below + 1) (m - k.locals_below)
    × CallersStand c depths ks k.below k.locals_below

-- the machine stands at an instruction of the valid code c with the operands and locals that belong there, and has room for 1,000 calls
pub record StandsBy (c : CodeView) (ds : List ℕ) (v : MachineView) : Type 0 where
  pub valid : IsValid c
  pub depths : AreDepths c ds
  pub below : v.state.below ≤ length v.state.operands
  pub locals_below : v.state.locals_below ≤ length v.state.locals
  pub here : IsAt c ds v.state.place (length v.state.operands - v.state.below) (length v.state.locals - v.state.locals_below)
  pub callers : CallersStand c ds v.state.callers v.state.below v.state.locals_below
  pub calls : length v.state.callers ≤ 1000
  pub operand_room : 1001 * c.stack ≤ v.operand_room
  pub local_room : 1001 * most_locals c.functions ≤ v.local_room

-- the machine was made with the code c and stands in it
abbrev pub StandsIn : CodeView → MachineView → Type 0
StandsIn c v = (depths : List ℕ) × StandsBy c depths v
