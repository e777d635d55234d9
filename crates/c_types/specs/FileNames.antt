-- Which names of a file break a rule, in the order of the text (C99 6.9).
use Rattle.std.specs.Prelude.{ℕ, ◌+◌, max, ℤ, pos, negsuc, neg_ℤ, Bool, true, false, not, ◌||◌, if◌then◌else◌, List, [], ◌∷◌, ◌++◌, map, length, codes, Option, Some, None, is_some}
use Rattle.std.specs.List.{list_any}
use Rattle.std.specs.Int.{w64, int_wrapping_neg}
use Rattle.c_tree.specs.declared.resolved.ObjectKind.{ObjectKind}
use Rattle.c_tree.specs.declared.resolved.ObjectKind.TheVariants as kind
use Rattle.c_tree.specs.declared.tree.Name.{Name}
use Rattle.c_tree.specs.declared.tree.Constant.{Constant}
use Rattle.c_tree.specs.declared.tree.Stmt.{Stmt}
use Rattle.c_tree.specs.declared.tree.Length.{Length}
use Rattle.c_tree.specs.declared.tree.Length.TheVariants as len
use Rattle.c_tree.specs.declared.tree.ObjectForm.{ObjectForm}
use Rattle.c_tree.specs.declared.tree.ObjectForm.TheVariants as form
use Rattle.c_tree.specs.declared.tree.ObjectDecl.{ObjectDecl}
use Rattle.c_tree.specs.declared.tree.Parameter.{Parameter}
use Rattle.c_tree.specs.declared.tree.Function.{Function}
use Rattle.c_tree.specs.declared.tree.Item.{Item}
use Rattle.c_tree.specs.declared.tree.Item.TheVariants as item
use Rattle.c_types.specs.declared.fault.CheckFault.TheVariants.{Unknown, NoMain}
use Rattle.c_types.specs.declared.file.Meaning.{Meaning}
use Rattle.c_types.specs.declared.file.Meaning.TheVariants as meaning
use Rattle.c_types.specs.declared.file.Signature.{Signature}
use Rattle.c_types.specs.declared.known.Known.{Known}
use Rattle.c_types.specs.Faults.{Faults, unless}
use Rattle.c_types.specs.Scope.{Text, entry}
use Rattle.c_types.specs.File.{File, global, is_constant, no_file, with_name, with_object, with_function}
use Rattle.c_types.specs.Names.{Step, says, makes, nothing, joined, all, once, so_far, fresh, declares, stmt}

-- ---- objects

-- the value of a constant
abbrev pub constant_value : Option Meaning → ℤ
constant_value (Some (meaning.Constant v)) = v
constant_value m = pos 0

abbrev pub length_value : File → Length → ℤ
length_value file (len.Num v) = v
length_value file (len.Name n) = constant_value (global file n.text)

abbrev pub form_kind : ObjectForm → ObjectKind
form_kind form.Number = kind.Number
form_kind (form.Started minus l) = kind.Number
form_kind (form.Array l) = kind.Array
form_kind form.Pointer = kind.Pointer

-- a length below 0 counts no cells
abbrev pub cells_of : ℤ → ℕ
cells_of (pos n) = n
cells_of (negsuc n) = 0

abbrev pub form_length : File → ObjectForm → ℕ
form_length file form.Number = 1
form_length file (form.Started minus l) = 1
form_length file (form.Array l) = cells_of (length_value file l)
form_length file form.Pointer = 1

-- an array of no cells is refused by its type; its name stands for one cell until then
abbrev pub form_cells : File → ObjectForm → ℕ
form_cells file f = max (form_length file f) 1

abbrev pub negated_if : Bool → ℤ → ℤ
negated_if minus v = if minus then int_wrapping_neg w64 v else v

abbrev pub form_first : File → ObjectForm → ℤ
form_first file form.Number = pos 0
form_first file (form.Started minus l) = negated_if minus (length_value file l)
form_first file (form.Array l) = pos 0
form_first file form.Pointer = pos 0

abbrev pub with_decl : File → ObjectDecl → File
with_decl file d = with_object file d.name.text (form_kind d.form) (form_cells file d.form) (form_first file d.form)

abbrev pub main_name : Text
main_name = codes "main"

abbrev pub is_main : Item → Bool
is_main (item.Objects l ds) = false
is_main item.Prototype = false
is_main (item.Function f) = false
is_main (item.Main k ss) = true

module _ (constants : List Constant) where
  -- the name of a length is a constant's
  unfoldable pub constant_named : Name → Step
  constant_named n = joined (so_far constants n.constants) (says (λ s. unless (is_constant (global s.file n.text)) (Unknown n.text)))

  abbrev pub length_step : Length → Step
  length_step (len.Num v) = nothing
  length_step (len.Name n) = constant_named n

  abbrev pub form_step : ObjectForm → Step
  form_step form.Number = nothing
  form_step (form.Started minus l) = length_step l
  form_step (form.Array l) = length_step l
  form_step form.Pointer = nothing

  -- a name of the file that was not made before
  unfoldable pub made_once : ℕ → Text → Step
  made_once k name = joined (so_far constants k) (once name)

  unfoldable pub object : ObjectDecl → Step
  object d = joined (made_once d.name.constants d.name.text) (joined (form_step d.form) (makes (λ s. record s { file = with_decl s.file d })))

  -- ---- functions

  -- the parameters belong to the outermost block of the function
  abbrev pub parameter : Parameter → Step
  parameter p = joined (fresh constants p.name) (declares p.name p.is_pointer)

  -- the name of a function, and what is then known in it
  unfoldable pub function_named : ℕ → Text → Step
  function_named k name = joined (made_once k name) (makes (λ s. record s { file = with_name s.file name meaning.Function; scope = entry }))

  abbrev pub body : List Stmt → Step
  body ss = all (map (stmt constants) ss)

  -- the parameters, and then the body
  unfoldable pub within : List Parameter → List Stmt → Step
  within ps ss = joined (all (map parameter ps)) (body ss)

  abbrev pub function_step : Function → Step
  function_step f = joined (function_named f.name.constants f.name.text) (within f.parameters f.body)

  abbrev pub item_step : Item → Step
  item_step (item.Objects l ds) = all (map object ds)
  item_step item.Prototype = nothing
  item_step (item.Function f) = function_step f
  item_step (item.Main k ss) = joined (function_named k main_name) (body ss)

  -- the whole file: `main` is missing last
  abbrev pub items_step : List Item → Step
  items_step is = joined (all (map item_step is)) (joined (so_far constants (length constants)) (says (λ s. unless (list_any is_main is) NoMain)))

-- ---- the functions of the whole file

abbrev pub signature : Function → Signature
signature f = record { parameters = map (λ p. p.is_pointer) f.parameters; gives_pointer = f.gives_pointer }

-- what the functions take and answer, in order
abbrev pub signatures_of : List Item → List Signature
signatures_of [] = []
signatures_of (item.Objects l ds ∷ is) = signatures_of is
signatures_of (item.Prototype ∷ is) = signatures_of is
signatures_of (item.Function f ∷ is) = signature f ∷ signatures_of is
signatures_of (item.Main k ss ∷ is) = signatures_of is

-- functions are known in the whole file, by their numbers in order
abbrev pub with_functions : File → ℕ → List Item → File
with_functions file n [] = file
with_functions file n (item.Objects l ds ∷ is) = with_functions file n is
with_functions file n (item.Prototype ∷ is) = with_functions file n is
with_functions file n (item.Function f ∷ is) = with_functions (with_function file f.name.text n) (n + 1) is
with_functions file n (item.Main k ss ∷ is) = with_functions file n is

-- where a text begins
abbrev pub start : List Item → Known
start is = record { file = with_functions no_file 0 is; scope = entry }
