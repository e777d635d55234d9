use Rattle.std.proofs.Common.{◌≡◌, ◌≤◌}
use Rattle.c_meaning.specs.Working.{todo, weights}
use Rattle.c_meaning.proofs.Going.{Passed}
use Rattle.c_meaning.proofs.evaluator.Evaluator.skip.Given as goal

-- the ways out of the loop are those at the start
abbrev pub invariant-items : goal.invariant-items
invariant-items l = (l.self.progress ≡ l.fn.self.progress) × (weights (todo l.self) ≤ weights (todo l.fn.self)) × Passed l.fn.self l.self

abbrev pub decreases-items : goal.decreases-items
decreases-items l = weights (todo l.self)
