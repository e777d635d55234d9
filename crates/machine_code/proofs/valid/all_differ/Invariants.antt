use Rattle.std.proofs.Common.{ℕ, ◌<◌}
use Rattle.machine_code.specs.Valid.{IsNewAt}
use Rattle.machine_code.proofs.valid.all_differ.Given as goal

abbrev pub invariant-loop-j : goal.invariant-loop-j
invariant-loop-j l = (j : ℕ) → j < l.j → IsNewAt l.keys j
