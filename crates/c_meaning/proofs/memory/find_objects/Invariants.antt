use Rattle.std.proofs.Common.{◌≡◌, ◌++◌, ◌+◌, drop}
use Rattle.c_tree.specs.Layout.{objects_from, object_cells}
use Rattle.c_meaning.proofs.memory.find_objects.Given as goal

-- the objects that are still to come make the list whole, and there are few cells
abbrev pub invariant-objects : goal.invariant-objects
invariant-objects l = record {
  whole : l.found ++ objects_from l.first (drop l.object-index l.object-items) ≡ objects_from 0 l.object-items;
  few : l.first + object_cells (drop l.object-index l.object-items) ≡ object_cells l.object-items;
}
