-- What a life asks of a compiled program, whatever source it is of.
use Rattle.std.specs.Prelude.{◌≡◌, ℕ, ◌≤◌, true, List, length, slice_get, Some, Contains}
use Rattle.std.specs.List.{All}
use Rattle.cell_sets.specs.Sets.{Cells, universe_of}
use Rattle.machine_code.specs.declared.instr.Instr.TheVariants.{Ckpt, Excl}
use Rattle.machine_code.specs.Memory.{FitsMemory}
use Rattle.machine_code.specs.Valid.{IsValid, has_checkpoint}
use Rattle.run_images.specs.Compiled.{CompiledView, cells_in}

-- there are so many sets, each of so many cells
pub record AreSetsOf (count cells : ℕ) (sets : List Cells) : Type 0 where
  pub count_is : length sets ≡ count
  pub each : All (λ s. universe_of s ≡ cells) sets

pub record CanRun (c : CompiledView) : Type 0 where
  -- the machine can run the code over the program's cells, which are not too many
  pub valid : IsValid c.code
  pub fits : FitsMemory c.code (cells_in c)
  pub few : cells_in c ≤ 262144
  -- there are the two sets of each directive that the code names
  pub dead : AreSetsOf c.directives (cells_in c) c.sets.dead
  pub read_only : AreSetsOf c.directives (cells_in c) c.sets.read_only
  pub few_directives : c.directives ≤ 64
  pub directives : (q k : ℕ) → slice_get c.code.instrs q ≡ Some (Excl k) → (1 ≤ k) × (k ≤ c.directives)
  -- a record can name each checkpoint of the code, and the code has a place behind each checkpoint of the program
  pub nodes : (q m : ℕ) → slice_get c.code.instrs q ≡ Some (Ckpt m) → m ≤ 2047
  pub places : (m : ℕ) → Contains c.checkpoints m → (q : ℕ) × (has_checkpoint c.code m q ≡ true)
