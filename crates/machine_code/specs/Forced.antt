-- Depths that earlier instructions force.
use Rattle.std.specs.Prelude.{◌≡◌, ℕ, ◌+◌, ◌-◌, ◌^◌, ◌<◌, ◌⊎◌, List, length, slice_index, slice_get, Some}
use Rattle.machine_code.specs.declared.instr.Instr.{Instr}
use Rattle.machine_code.specs.declared.instr.Instr.TheVariants.{Jump, JumpZ, Ret}
use Rattle.machine_code.specs.CodeView.{CodeView}
use Rattle.machine_code.specs.Needs.{needs, gives}

-- instruction i at place p goes on at the later place q
abbrev pub GoesOn : Instr → ℕ → ℕ → Type 0
GoesOn (Jump t) p q = (t ≡ q) × (p < t)
GoesOn (JumpZ t) p q = ((t ≡ q) × (p < t)) ⊎ (q ≡ p + 1)
GoesOn Ret p q = ⊥
GoesOn i p q = q ≡ p + 1

unfoldable pub Forward : Instr → ℕ → ℕ → Type 0
Forward i p q = GoesOn i p q

-- each depth is what an instruction before it leaves, or 0 where none goes on there
pub record AreForced (c : CodeView) (d : List ℕ) : Type 0 where
  pub long : length d ≡ length c.instrs
  pub small : (q : ℕ) → slice_index d q < 2 ^ 33
  pub forced : (p q : ℕ) (i : Instr) → slice_get c.instrs p ≡ Some i → Forward i p q → q < length c.instrs → slice_index d q ≡ slice_index d p - needs c i + gives i
  pub quiet : (q : ℕ) → ((p : ℕ) (i : Instr) → slice_get c.instrs p ≡ Some i → Forward i p q → ⊥) → slice_index d q ≡ 0

-- what is known of the depths before place p was looked at
abbrev pub Known : CodeView → List ℕ → List ℕ → ℕ → Type 0
Known c found d p = (q : ℕ) → (slice_index found q ≡ slice_index d q) ⊎ (((r : ℕ) (i : Instr) → r < p → slice_get c.instrs r ≡ Some i → Forward i r q → ⊥) × (slice_index found q ≡ 0))
