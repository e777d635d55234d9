use Rattle.std.proofs.Common.{◌≡◌, ℕ}
use Rattle.ckpt_base.specs.Run.{Run}
use Rattle.c_meaning.specs.Working.{todo, Stands, weights}
use Rattle.c_meaning.proofs.evaluator.Evaluator.settle.Given as goal

-- the run goes on as it did
abbrev pub invariant-items : goal.invariant-items
invariant-items l = record {
  ticks : l.self.progress.ticks ≡ l.fn.self.progress.ticks;
  goes : (n : ℕ) (r : Run) → Stands l.fn.self n r → Stands l.self n r;
}

abbrev pub decreases-items : goal.decreases-items
decreases-items l = weights (todo l.self)
