-- Memories that hold what a code names.
use Rattle.std.specs.Prelude.{ℕ, ◌+◌, ◌<◌, ◌≤◌}
use Rattle.std.specs.List.{All}
use Rattle.machine_code.specs.declared.instr.Instr.{Instr}
use Rattle.machine_code.specs.declared.instr.Instr.TheVariants.{LoadC, StoreC}
use Rattle.ckpt_base.specs.Pointer.{first_cell, object_length}
use Rattle.machine_code.specs.CodeView.{CodeView}

-- a cell that the instruction names is one of n
abbrev pub CellWithin : ℕ → Instr → Type 0
CellWithin n (LoadC cell) = cell < n
CellWithin n (StoreC cell) = cell < n
CellWithin n i = Unit {0}

-- the cells that the code names are among n, and so are those of its objects
pub record FitsMemory (c : CodeView) (n : ℕ) : Type 0 where
  pub cells : All (CellWithin n) c.instrs
  pub objects : All (λ o. first_cell o + object_length o ≤ n) c.objects
