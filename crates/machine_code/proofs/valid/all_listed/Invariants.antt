use Rattle.std.proofs.Common.{ℕ, ◌<◌}
use Rattle.machine_code.specs.Valid.{IsListedAt}
use Rattle.machine_code.proofs.valid.all_listed.Given as goal

abbrev pub invariant-loop-p : goal.invariant-loop-p
invariant-loop-p l = (p : ℕ) → p < l.p → IsListedAt l.code p
