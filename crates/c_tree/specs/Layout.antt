-- The cells of a program, and the words with which it starts.
use Rattle.std.specs.Prelude.{ℕ, ◌+◌, List, [], ◌∷◌, ◌++◌, length, replicate}
use Rattle.ckpt_base.specs.Word.{word_of}
use Rattle.ckpt_base.specs.Pointer.{Object}
use Rattle.c_tree.specs.declared.resolved.RObject.{RObject}
use Rattle.c_tree.specs.declared.resolved.Resolved.{Resolved}

-- objects stand one after the other, in order of declaration: where those from some cell on stand
abbrev pub objects_from : ℕ → List RObject → List Object
objects_from c [] = []
objects_from c (o ∷ os) = (c, o.length) ∷ objects_from (c + o.length) os

-- where the objects stand
abbrev pub objects : Resolved → List Object
objects p = objects_from 0 p.objects

abbrev pub object_cells : List RObject → ℕ
object_cells [] = 0
object_cells (o ∷ os) = o.length + object_cells os

-- behind the objects stand the locals of `main`, a cell each
abbrev pub cell_count : Resolved → ℕ
cell_count p = object_cells p.objects + length p.main.locals

abbrev pub object_words : List RObject → List ℕ
object_words [] = []
object_words (o ∷ os) = replicate o.length (word_of o.first) ++ object_words os

-- the words with which the cells start: each object at its first number, all else at 0
abbrev pub first_words : Resolved → List ℕ
first_words p = object_words p.objects ++ replicate (length p.main.locals) 0
