use Rattle.std.proofs.Common.{◌≡◌, ◌++◌, drop}
use Rattle.c_tree.specs.Layout.{object_words}
use Rattle.c_meaning.proofs.memory.first_cells.Given as goal

-- the words of the objects that are still to come make the list whole
abbrev pub invariant-objects : goal.invariant-objects
invariant-objects l = l.cells ++ object_words (drop l.object-index l.object-items) ≡ object_words l.object-items
