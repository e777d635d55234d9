use Rattle.std.proofs.Common.{◌≡◌, ◌++◌, drop}
use Rattle.c_tree.specs.Layout.{object_words}
use Rattle.compiled_program.proofs.compiled.first_words.Given as goal

abbrev pub invariant-loop-object : goal.invariant-loop-object
invariant-loop-object l = l.words.items ++ object_words (drop l.object-index l.object-items) ≡ object_words l.object-items
