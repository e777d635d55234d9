use Rattle.std.proofs.Common.{◌≡◌, ◌-◌, ◌++◌, length}
use Rattle.c_tree.specs.Layout.{object_cells}
use Rattle.ckpt_program.specs.Report as spec
use Rattle.ckpt_program.proofs.report_text.add_locals.Given as goal

abbrev pub invariant-locals : goal.invariant-locals
invariant-locals l = l.text.items ++ spec.locals_text l.program l.row (l.cells - l.cell) l.cell ≡ l.fn.text.items ++ spec.locals_text l.program l.row (length l.program.main.locals) (object_cells l.program.objects)
