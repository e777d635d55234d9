-- What contracts see of a code.
use Rattle.std.specs.Prelude.{ℕ, ◌==◌, max, nat_le, List, [], ◌∷◌, if◌then◌else◌}
use Rattle.ckpt_base.specs.Pointer.{Object}
use Rattle.machine_code.specs.declared.instr.Instr.{Instr}

-- a function: its start, how many parameters it has, and how many locals, its parameters among them
abbrev pub Function : Type 0
Function = ℕ × ℕ × ℕ

abbrev pub start : Function → ℕ
start f = f.0

abbrev pub parameters : Function → ℕ
parameters f = f.1

abbrev pub locals : Function → ℕ
locals f = f.2

-- a checkpoint: its node, and the place after its instruction
abbrev pub Checkpoint : Type 0
Checkpoint = ℕ × ℕ

abbrev pub node : Checkpoint → ℕ
node k = k.0

abbrev pub place_after : Checkpoint → ℕ
place_after k = k.1

-- a code; `stack` is the greatest operand depth
pub record CodeView : Type 0 where
  pub instrs : List Instr
  pub functions : List Function
  pub objects : List Object
  pub checkpoints : List Checkpoint
  pub stack : ℕ

-- where the function begins that place p belongs to: at the greatest start that is not behind p. `main` begins at 0
abbrev pub home : List Function → ℕ → ℕ
home [] p = 0
home (f ∷ fs) p = if nat_le (start f) p then max (start f) (home fs p) else home fs p

-- how many locals the function has that begins at place s; `main` has none
abbrev pub locals_from : List Function → ℕ → ℕ
locals_from [] s = 0
locals_from (f ∷ fs) s = if start f == s then locals f else locals_from fs s

-- how many locals there are at place p
abbrev pub locals_at : CodeView → ℕ → ℕ
locals_at c p = locals_from c.functions (home c.functions p)

-- the greatest number of locals of a function
abbrev pub most_locals : List Function → ℕ
most_locals [] = 0
most_locals (f ∷ fs) = max (locals f) (most_locals fs)
