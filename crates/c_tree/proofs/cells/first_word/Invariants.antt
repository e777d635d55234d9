use Rattle.std.proofs.Common.{◌≡◌, drop, get_or}
use Rattle.c_tree.specs.Layout as spec
use Rattle.c_tree.proofs.cells.first_word.Given as goal

abbrev pub invariant-loop-object : goal.invariant-loop-object
invariant-loop-object l = get_or (spec.object_words (drop l.object-index l.objects)) l.place 0 ≡ get_or (spec.object_words l.objects) l.cell 0
