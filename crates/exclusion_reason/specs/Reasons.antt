-- Why a cell is kept.
use Rattle.std.specs.Prelude.{ℕ}
use Rattle.path_laws.specs.Graph.{Graph}
use Rattle.exclusion_equations.specs.Excluded.{IsDead, IsReadOnly}
use Rattle.exclusion_reason.specs.declared.reason.Reason.{Reason}
use Rattle.exclusion_reason.specs.declared.reason.Reason.TheVariants.{Dead, ReadOnly, Kept}
use Rattle.exclusion_reason.specs.WalksThatKeep.{IsNeedWalk, IsWriteWalk}
use Rattle.exclusion_reason.specs.Least.{IsLeast}

-- the reason is so for EXCLUDE_HERE k and cell c, and its walks are the least ones
abbrev pub IsReason : Graph → ℕ → ℕ → Reason → Type 0
IsReason g k c Dead = IsDead g k c
IsReason g k c (ReadOnly need) = IsReadOnly g k c × IsLeast (IsNeedWalk g k c) need
IsReason g k c (Kept need write) = (IsDead g k c → ⊥) × (IsReadOnly g k c → ⊥) × IsLeast (IsNeedWalk g k c) need × IsLeast (IsWriteWalk g k c) write
