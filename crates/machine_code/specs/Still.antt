-- Rows over pages of which some are protected.
use Rattle.std.specs.Prelude.{◌≡◌, ℕ, ◌/◌, List, [], ◌∷◌, Bool, true, ◌⊎◌}
use Rattle.ckpt_base.specs.Event as run
use Rattle.machine_code.specs.declared.instr.Instr.{Instr}
use Rattle.machine_code.specs.declared.event.Event.TheVariants.{WriteFault}
use Rattle.machine_code.specs.CodeView.{CodeView}
use Rattle.machine_code.specs.State.{State}
use Rattle.machine_code.specs.Row.{Done, row}
use Rattle.machine_code.specs.Run.{unprotected}

-- a row leaves everything
pub record IsStill (d : Done) (s : State) (m : List ℕ) : Type 0 where
  pub state : d.state ≡ s
  pub memory : d.memory ≡ m
  pub shown : d.shown ≡ []

-- a store into a cell of a protected page: the row answers the fault of that page and leaves everything, and the row with no page protected writes the cell
pub record IsFault (protected : ℕ → Bool) (s : State) (m : List ℕ) (d plain : Done) : Type 0 where
  pub cell : ℕ
  pub closed : protected (cell / 512) ≡ true
  pub event : d.event ≡ WriteFault (cell / 512)
  pub still : IsStill d s m
  pub shown : plain.shown ≡ run.Wrote cell ∷ []

-- the row over pages of which some are protected is the row over none, or it is a fault
abbrev pub IsPlainOrFault : CodeView → (ℕ → Bool) → State → List ℕ → Instr → Type 0
IsPlainOrFault c protected s m i = (row c protected s m i ≡ row c unprotected s m i) ⊎ IsFault protected s m (row c protected s m i) (row c unprotected s m i)
