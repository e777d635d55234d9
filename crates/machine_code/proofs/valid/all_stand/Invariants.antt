use Rattle.std.proofs.Common.{ℕ, ◌<◌}
use Rattle.machine_code.specs.Valid.{StandsAt}
use Rattle.machine_code.proofs.valid.all_stand.Given as goal

abbrev pub invariant-loop-p : goal.invariant-loop-p
invariant-loop-p l = (p : ℕ) → p < l.p → StandsAt l.code l.depths p
