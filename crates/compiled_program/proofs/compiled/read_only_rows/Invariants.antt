use Rattle.std.proofs.Common.{◌≡◌, take}
use Rattle.compiled_program.proofs.compiled.read_only_rows.Given as goal

abbrev pub invariant-loop-k : goal.invariant-loop-k
invariant-loop-k l = l.rows.items ≡ take l.k l.exclusions.read_only
