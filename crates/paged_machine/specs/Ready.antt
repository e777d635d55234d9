-- What an instruction asks of the machine.
use Rattle.std.specs.Prelude.{◌≡◌, ℕ, ◌+◌, ◌-◌, ◌^◌, ◌<◌, ◌≤◌, length, slice_get, Some, Result, Ok, Err}
use Rattle.std.specs.List.{All}
use Rattle.ckpt_base.specs.declared.trap.Trap.{Trap}
use Rattle.machine_code.specs.declared.instr.Instr.{Instr}
use Rattle.machine_code.specs.declared.instr.Instr.TheVariants.{Addr, LoadC, StoreC, LoadL, StoreL, Call, Ret}
use Rattle.ckpt_base.specs.Pointer.{first_cell, object_length}
use Rattle.machine_code.specs.CodeView.{CodeView, Function, parameters, locals}
use Rattle.machine_code.specs.Needs.{needs, gives}
use Rattle.paged_machine.specs.MachineView.{MachineView}

-- there is room for the locals of a call
abbrev pub CallFits : MachineView → Function → Type 0
CallFits v f = (parameters f ≤ locals f) × (length v.state.callers < 1000 → length v.state.locals + locals f ≤ v.local_room)

-- a cell of a memory of n cells, or a trap
abbrev pub IsCell : ℕ → Result ℕ Trap → Type 0
IsCell n (Ok cell) = cell < n
IsCell n (Err t) = Unit {0}

-- what the instruction names is there, in a memory of n cells
abbrev pub Named : CodeView → MachineView → ℕ → Instr → Type 0
Named c v n (Addr o) = o < 2 ^ 32 - 1
Named c v n (LoadC cell) = cell < n
Named c v n (StoreC cell) = cell < n
Named c v n (LoadL i) = v.state.locals_below + i < length v.state.locals
Named c v n (StoreL i) = v.state.locals_below + i < length v.state.locals
Named c v n (Call f) = (f < length c.functions) × ((g : Function) → slice_get c.functions f ≡ Some g → CallFits v g)
Named c v n Ret = v.state.locals_below ≤ length v.state.locals
Named c v n i = Unit {0}

-- the machine can do instruction i, over a memory of n cells
pub record Ready (c : CodeView) (v : MachineView) (n : ℕ) (i : Instr) : Type 0 where
  pub here : slice_get c.instrs v.state.place ≡ Some i
  pub within : v.state.place < length c.instrs
  pub enough : needs c i + v.state.below ≤ length v.state.operands
  pub room : length v.state.operands + gives i ≤ v.operand_room + needs c i
  pub named : Named c v n i
  pub objects : All (λ o. first_cell o + object_length o ≤ n) c.objects
