use Rattle.std.proofs.Common.{ℕ, ◌≡◌, ◌<◌, true}
use Rattle.path_laws.specs.Graph.{is_directive}
use Rattle.path_laws.proofs.whole.number_is_new.Given as goal

abbrev pub invariant-earlier : goal.invariant-earlier
invariant-earlier l = (k j : ℕ) → j < l.m → is_directive l.graph k l.n ≡ true → is_directive l.graph k j ≡ true → ⊥
