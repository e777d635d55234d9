use Rattle.std.proofs.Common.{◌≡◌, ◌+◌, ◌++◌, drop}
use Rattle.c_tree.specs.Layout.{object_cells, objects_from}
use Rattle.code_maker.proofs.maker.object_table.Given as goal

abbrev pub invariant-objects : goal.invariant-objects
invariant-objects l = record {
  table : l.table.items ++ objects_from l.first (drop l.object-index l.objects) ≡ objects_from 0 l.objects;
  cells : l.first + object_cells (drop l.object-index l.objects) ≡ object_cells l.objects;
}
