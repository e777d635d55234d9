use Rattle.std.proofs.Common.{◌≡◌, ◌<◌, ◌≤◌, ℕ, get_or, length, nat_lt, not, ◌&&◌, cond, false}
use Rattle.disk_model.proofs.memory_file.spoil.Given as goal

abbrev pub invariant-loop-i : goal.invariant-loop-i
invariant-loop-i l = record {
  size : length l.seen.items ≡ length l.fn.seen.items;
  done : (k : ℕ) → k < l.i → get_or l.seen.items k 0 ≡ cond (nat_lt k l.lasting_len && not (get_or l.dirty k false)) (get_or l.fn.seen.items k 0) l.pick;
  todo : (k : ℕ) → l.i ≤ k → get_or l.seen.items k 0 ≡ get_or l.fn.seen.items k 0;
}
