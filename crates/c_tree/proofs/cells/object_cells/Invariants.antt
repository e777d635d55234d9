use Rattle.std.proofs.Common.{◌≡◌, ◌+◌, drop}
use Rattle.c_tree.specs.Layout as spec
use Rattle.c_tree.proofs.cells.object_cells.Given as goal

abbrev pub invariant-loop-object : goal.invariant-loop-object
invariant-loop-object l = l.cells + spec.object_cells (drop l.object-index l.objects) ≡ spec.object_cells l.objects
