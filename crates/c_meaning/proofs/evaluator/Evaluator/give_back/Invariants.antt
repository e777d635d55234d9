use Rattle.std.proofs.Common.{◌≡◌, ◌≤◌, ℕ}
use Rattle.ckpt_base.specs.Run.{Run}
use Rattle.c_meaning.specs.Working.{todo, From, weights}
use Rattle.c_meaning.proofs.evaluator.Evaluator.give_back.Given as goal

-- the call ends with the same answer
abbrev pub invariant-calls : goal.invariant-calls
invariant-calls l = record {
  ticks : l.self.progress.ticks ≡ l.fn.self.progress.ticks;
  lighter : weights (todo l.self) ≤ weights (todo l.fn.self);
  goes : (n : ℕ) (r : Run) → From (λ w. w.back l.a) l.fn.self n r → From (λ w. w.back l.a) l.self n r;
}

abbrev pub decreases-calls : goal.decreases-calls
decreases-calls l = weights (todo l.self)
