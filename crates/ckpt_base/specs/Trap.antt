-- The numbers of the traps.
use Rattle.std.specs.Prelude.{ℕ}
use Rattle.ckpt_base.specs.declared.trap.Trap.{Trap}
use Rattle.ckpt_base.specs.declared.trap.Trap.TheVariants.{DivisionByZero, QuotientOverflow, ShiftCount, OutsideObject, NullPointer, TooManyCalls}

-- the number with which a run that trapped is told
abbrev pub trap_number : Trap → ℕ
trap_number DivisionByZero = 1
trap_number QuotientOverflow = 2
trap_number ShiftCount = 3
trap_number OutsideObject = 4
trap_number NullPointer = 5
trap_number TooManyCalls = 6
