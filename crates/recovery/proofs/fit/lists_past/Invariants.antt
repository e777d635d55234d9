use Rattle.std.proofs.Common.{◌≡◌, ◌<◌, ◌≤◌, ℕ, None}
use Rattle.image_chain.specs.Memory.{kept_word}
use Rattle.recovery.proofs.fit.lists_past.Given as goal

abbrev pub invariant-loop-c : goal.invariant-loop-c
invariant-loop-c l = (cell : ℕ) → l.cells ≤ cell → cell < l.c → kept_word l.kept cell ≡ None
