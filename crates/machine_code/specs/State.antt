-- Where a machine stands.
use Rattle.std.specs.Prelude.{ℕ, ◌+◌, List, [], ◌∷◌, drop, slice_index}
use Rattle.machine_code.specs.declared.event.Caller.{Caller}

pub record State : Type 0 where
  -- the next instruction
  pub place : ℕ
  -- the topmost first, those of the calls that wait below
  pub operands : List ℕ
  -- how many operands belong to the calls that wait
  pub below : ℕ
  -- the locals of all calls, those of the current one last
  pub locals : List ℕ
  -- how many locals belong to the calls that wait
  pub locals_below : ℕ
  -- the calls that wait, the latest first
  pub callers : List Caller
  pub ticks : ℕ

-- before place p after so many ticks, with no call active and no operands
abbrev pub standing : ℕ → ℕ → State
standing p ticks = record { place = p; operands = []; below = 0; locals = []; locals_below = 0; callers = []; ticks = ticks }

-- the operand k below the topmost
abbrev pub top : State → ℕ → ℕ
top s k = slice_index s.operands k

-- on to the next instruction, with a word in the place of the n topmost operands
abbrev pub given : State → ℕ → ℕ → State
given s n v = record s { place = s.place + 1; operands = v ∷ drop n s.operands }

-- on to the next instruction, without the n topmost operands
abbrev pub spent : State → ℕ → State
spent s n = record s { place = s.place + 1; operands = drop n s.operands }
