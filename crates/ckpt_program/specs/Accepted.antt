-- Which texts are accepted, and why one is not.
use Rattle.std.specs.Prelude.{◌≡◌, ℕ, List, Ok, Err}
use Rattle.c_tree.specs.declared.tree.Program.{Program}
use Rattle.c_tree.specs.declared.resolved.Resolved.{Resolved}
use Rattle.c_tree.specs.Programs.{IsTextOf}
use Rattle.c_reader.specs.declared.fault.ReadFault.{ReadFault}
use Rattle.c_reader.specs.ReadFaults.{IsReadFault}
use Rattle.c_types.specs.Check.{checked}
use Rattle.ckpt_program.specs.Reasons.{stop_of_text, stop_of_rule}
use Rattle.ckpt_program.specs.Stage.{Stage, ◌>>=◌, Told}

-- the text spells this program and no other
pub record IsProgramOf (text : List ℕ) (p : Program) : Type 0 where
  pub spelled : IsTextOf p text
  pub only : (q : Program) → IsTextOf q text → p ≡ q

-- the text spells no program, and has this fault
pub record IsUnspelled (text : List ℕ) (f : ReadFault) : Type 0 where
  pub fault : IsReadFault text f
  pub none : (q : Program) → IsTextOf q text → ⊥

-- a text spells a program
abbrev pub Spelled : List ℕ → Stage Program
Spelled text = Told stop_of_text (IsProgramOf text) (IsUnspelled text)

-- a program keeps the rules, and this is its resolved tree
abbrev pub KeepsRules : Program → Stage Resolved
KeepsRules p = Told stop_of_rule (λ tree. checked p ≡ Ok tree) (λ f. checked p ≡ Err f)

-- a text is accepted: it spells one program, which keeps the rules
abbrev pub Accepted : List ℕ → Stage Resolved
Accepted text = do
  p ← Spelled text
  KeepsRules p

-- this is its resolved tree
abbrev pub IsAccepted : List ℕ → Resolved → Type 0
IsAccepted text tree = Accepted text (Ok tree)
