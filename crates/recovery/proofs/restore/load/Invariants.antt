use Rattle.std.proofs.Common.{◌≡◌, ◌<◌, ◌≤◌, ℕ, length}
use Rattle.std.specs.Prelude.{slice_index}
use Rattle.std.specs.Option.{unwrap_or}
use Rattle.image_chain.specs.Memory.{kept_word}
use Rattle.recovery.proofs.restore.load.Given as goal

abbrev pub invariant-loop-c : goal.invariant-loop-c
invariant-loop-c l = record {
  below : (cell : ℕ) → cell < l.c → slice_index l.frames cell ≡ unwrap_or (kept_word l.kept cell) (slice_index l.fn.frames cell);
  above : (cell : ℕ) → l.c ≤ cell → slice_index l.frames cell ≡ slice_index l.fn.frames cell;
  size : length l.frames ≡ length l.fn.frames;
}
