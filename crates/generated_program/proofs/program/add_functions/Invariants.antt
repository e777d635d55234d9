use Rattle.std.proofs.Common.{◌≡◌, ◌+◌, ◌*◌, ◌≤◌, ◌++◌, length}
use Rattle.generated_program.specs.Generated as spec
use Rattle.generated_program.proofs.program.add_functions.Given as goal

abbrev pub invariant-functions : goal.invariant-functions
invariant-functions l = record {
  list : l.text.list ≡ l.fn.text.list ++ spec.each_below l.k (spec.function_text l.n);
  spare : l.fn.text.spare ≤ l.text.spare + 155 * l.k;
  short : length l.text.list ≤ length l.fn.text.list + 155 * l.k;
}
