use Rattle.std.proofs.Common.{◌≡◌, ◌+◌, ◌-◌, ◌<◌, ◌++◌}
use Rattle.std.specs.Prelude.{IfSome}
use Rattle.cell_sets.specs.Sets.{has}
use Rattle.ckpt_program.specs.Report as spec
use Rattle.ckpt_program.proofs.report_text.add_object.Given as goal

abbrev pub invariant-places : goal.invariant-places
invariant-places l = record {
  before : IfSome l.begun (λ first. first < l.place);
  same : l.text.items ++ spec.runs_text l.object (spec.runs_from (λ i. has l.row (l.first + i)) (l.object.length - l.place) l.place l.begun) ≡ l.fn.text.items ++ spec.object_text l.row l.first l.object;
}
