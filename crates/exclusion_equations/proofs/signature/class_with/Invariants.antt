use Rattle.std.proofs.Common.{ℕ, ◌<◌}
use Rattle.exclusion_equations.specs.Finding.{AreSame, signature_at}
use Rattle.exclusion_equations.proofs.signature.class_with.Given as goal

abbrev pub invariant-classes : goal.invariant-classes
invariant-classes l = (j : ℕ) → j < l.k → AreSame (signature_at l.signatures j) l.wanted → ⊥
