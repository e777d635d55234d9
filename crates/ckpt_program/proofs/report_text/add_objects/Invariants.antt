use Rattle.std.proofs.Common.{◌≡◌, ◌+◌, ◌++◌, drop}
use Rattle.c_tree.specs.Layout.{object_cells}
use Rattle.ckpt_program.specs.Report as spec
use Rattle.ckpt_program.proofs.report_text.add_objects.Given as goal

abbrev pub invariant-objects : goal.invariant-objects
invariant-objects l = record {
  same : l.text.items ++ spec.objects_text l.row l.first (drop l.object-index l.objects) ≡ l.fn.text.items ++ spec.objects_text l.row 0 l.objects;
  cells : l.first + object_cells (drop l.object-index l.objects) ≡ object_cells l.objects;
}
