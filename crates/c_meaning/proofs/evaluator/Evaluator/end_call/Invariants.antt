use Rattle.std.proofs.Common.{◌≡◌, ◌≤◌, ℕ}
use Rattle.ckpt_base.specs.Run.{Run}
use Rattle.c_meaning.specs.Working.{todo, From, weights}
use Rattle.c_meaning.proofs.evaluator.Evaluator.end_call.Given as goal

-- the call ends as it did
abbrev pub invariant-items : goal.invariant-items
invariant-items l = record {
  same : l.self.progress ≡ l.fn.self.progress;
  lighter : weights (todo l.self) ≤ weights (todo l.fn.self);
  goes : (a n : ℕ) (r : Run) → From (λ w. w.back a) l.fn.self n r → From (λ w. w.back a) l.self n r;
}

abbrev pub decreases-items : goal.decreases-items
decreases-items l = weights (todo l.self)
