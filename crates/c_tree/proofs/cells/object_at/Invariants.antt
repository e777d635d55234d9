use Rattle.std.proofs.Common.{◌≡◌, ◌+◌, drop}
use Rattle.std.specs.Prelude.{slice_get}
use Rattle.c_tree.specs.Layout as spec
use Rattle.c_tree.proofs.cells.object_at.Given as goal

abbrev pub invariant-loop-object : goal.invariant-loop-object
invariant-loop-object l = record {
  found : slice_get (spec.objects_from l.first (drop l.object-index l.objects)) l.left ≡ slice_get (spec.objects_from 0 l.objects) l.number;
  cells : l.first + spec.object_cells (drop l.object-index l.objects) ≡ spec.object_cells l.objects;
}
