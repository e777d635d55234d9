use Rattle.std.proofs.Common.{◌≡◌, ◌+◌, ◌≤◌, drop}
use Rattle.image_format.specs.Written.{size_of_runs}
use Rattle.image_format.proofs.write.record_length.Given as goal

abbrev pub invariant-loop-run : goal.invariant-loop-run
invariant-loop-run l = record {
  so_far : l.length + size_of_runs (drop l.run-index l.runs) ≡ 109 + size_of_runs l.runs;
  most : size_of_runs l.runs ≤ 2097160;
}
