use Rattle.std.proofs.Common.{◌≡◌, ◌+◌, ◌*◌, ◌≤◌, ◌++◌, length}
use Rattle.generated_program.specs.Generated as spec
use Rattle.generated_program.proofs.program.add_calls.Given as goal

abbrev pub invariant-calls : goal.invariant-calls
invariant-calls l = record {
  list : l.text.list ≡ l.fn.text.list ++ spec.each_below l.k spec.call_line;
  spare : l.fn.text.spare ≤ l.text.spare + 24 * l.k;
  short : length l.text.list ≤ length l.fn.text.list + 24 * l.k;
}
