-- What a name means at file scope (C99 6.2.1).
use Rattle.std.specs.Prelude.{◌≡◌, ℕ, ◌+◌, ℤ, pos, min, Bool, true, false, List, [], ◌∷◌, ◌++◌, length, Option, Some, None, is_some, slice_get}
use Rattle.std.specs.List.{list_all}
use Rattle.std.specs.Map.{lookup}
use Rattle.indexmap.specs.IndexMap.{insert_entry}
use Rattle.c_tree.specs.declared.resolved.ObjectKind.{ObjectKind}
use Rattle.c_tree.specs.Checked.{has_cells, starts_rightly}
use Rattle.c_types.specs.declared.file.Meaning.{Meaning}
use Rattle.c_types.specs.declared.file.Meaning.TheVariants as meaning
use Rattle.c_types.specs.declared.file.FileObject.{FileObject}
use Rattle.c_types.specs.declared.file.Signature.{Signature}
use Rattle.c_types.specs.Scope.{Text, same}

-- a place in a file: the names that are known there, how many constants were made, the objects so far and how many cells they have; and all functions of the file, by their numbers
pub record File : Type 0 where
  pub names : List (Text × Meaning)
  pub made : ℕ
  pub objects : List FileObject
  pub cells : ℕ
  pub functions : List (Text × ℕ)
  pub signatures : List Signature

-- what a name means at file scope
abbrev pub global : File → Text → Option Meaning
global file name = lookup (same name) file.names

-- the number of the function that a call names
abbrev pub function : File → Text → Option ℕ
function file name = lookup (same name) file.functions

abbrev pub is_constant : Option Meaning → Bool
is_constant (Some (meaning.Constant v)) = true
is_constant m = false

-- an object or a constant
abbrev pub is_value : Option Meaning → Bool
is_value (Some (meaning.Object o)) = true
is_value (Some (meaning.Constant v)) = true
is_value m = false

abbrev pub no_file : File
no_file = record { names = []; made = 0; objects = []; cells = 0; functions = []; signatures = [] }

-- with one more name
abbrev pub with_name : File → Text → Meaning → File
with_name file name m = record file { names = insert_entry same file.names name m }

-- with one more constant
abbrev pub with_constant : File → Text → ℤ → File
with_constant file name v = record (with_name file name (meaning.Constant v)) { made = file.made + 1 }

-- the number of a cell. They end at 4,294,967,295: a program with so many has too many, and their count is told exactly
abbrev pub cell_number : ℕ → ℕ
cell_number c = min c 4294967295

-- an object's cells stand behind those of the others
abbrev pub with_cells_of : File → FileObject → File
with_cells_of file o = record file { objects = file.objects ++ o ∷ []; cells = file.cells + o.length }

-- with one more object
abbrev pub with_object : File → Text → ObjectKind → ℕ → ℤ → File
with_object file name kind len first =
    with_cells_of (with_name file name (meaning.Object (length file.objects))) (record { name = name; kind = kind; length = len; first = first; cell = cell_number file.cells })

-- with one more function, by its number
abbrev pub with_function : File → Text → ℕ → File
with_function file name number = record file { functions = insert_entry same file.functions name number }

-- with what its functions take and answer
abbrev pub with_signatures : File → List Signature → File
with_signatures file ss = record file { signatures = ss }

-- the objects stand one after the other from a cell on, up to another
abbrev pub StandBetween : ℕ → List FileObject → ℕ → Type 0
StandBetween from [] to = from ≡ to
StandBetween from (o ∷ os) to = (o.cell ≡ cell_number from) × StandBetween (from + o.length) os to

-- each object has as many cells as its kind may have, and starts as its kind may
pub record AreFormed (os : List FileObject) : Type 0 where
  pub sized : list_all (λ o. has_cells o.kind o.length) os ≡ true
  pub firsts : list_all (λ o. starts_rightly o.kind o.first) os ≡ true
