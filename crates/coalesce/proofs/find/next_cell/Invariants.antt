use Rattle.std.proofs.Common.{◌≡◌, ℕ, ◌≤◌, ◌<◌, not}
use Rattle.image_chain.specs.Memory.{is_kept}
use Rattle.coalesce.proofs.find.next_cell.Given as goal

abbrev pub invariant-loop-c : goal.invariant-loop-c
invariant-loop-c l = record {
  between : (q : ℕ) → l.from ≤ q → q < l.c → is_kept l.kept q ≡ not l.listed;
}
