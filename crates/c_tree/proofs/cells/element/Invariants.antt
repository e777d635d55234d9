use Rattle.std.proofs.Common.{◌≡◌, ◌+◌, drop}
use Rattle.c_tree.specs.Layout as spec
use Rattle.c_tree.specs.Checked.{element}
use Rattle.c_tree.proofs.cells.element.Given as goal

abbrev pub invariant-loop-object : goal.invariant-loop-object
invariant-loop-object l = record {
  found : element (drop l.object-index l.objects) l.place ≡ element l.objects l.cell;
  behind : l.place + spec.object_cells l.objects ≡ l.cell + spec.object_cells (drop l.object-index l.objects);
}
