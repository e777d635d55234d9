use Rattle.std.proofs.Common.{◌≡◌, length, take}
use Rattle.ckpt_runner.proofs.beginning.load_first_words.Given as goal

abbrev pub invariant-loop-c : goal.invariant-loop-c
invariant-loop-c l = record {
  words : take l.c l.frames ≡ take l.c l.compiled.words;
  size : length l.frames ≡ length l.fn.frames;
}
