-- The names of cells, as reports write them.
use Rattle.std.specs.Prelude.{ℕ, ◌+◌, ◌-◌, if◌then◌else◌, List, [], ◌++◌, codes, take, count_by, nat_eq, Option, Some, None, slice_get}
use Rattle.std.specs.Borrow.{Bor}
use Rattle.std.specs.Fmt.{decimal}
use Rattle.std.specs.Cmp.Lexicographic.{pointwise}
use Rattle.c_tree.specs.declared.resolved.ObjectKind.{ObjectKind}
use Rattle.c_tree.specs.declared.resolved.ObjectKind.TheVariants.{Number, Array, Pointer}
use Rattle.c_tree.specs.declared.resolved.RObject.{RObject}
use Rattle.c_tree.specs.declared.resolved.RLocal.{RLocal}
use Rattle.c_tree.specs.declared.resolved.Resolved.{Resolved}
use Rattle.c_tree.specs.Layout.{object_cells}
use Rattle.c_tree.specs.Checked.{element}

-- an element that is lent
abbrev pub element_copied : Option (Bor RObject × ℕ) → Option (RObject × ℕ)
element_copied None = None
element_copied (Some e) = Some ((e.0).now, e.1)

-- `a[3]` for an element of an array, else the object's name
abbrev pub element_name : ObjectKind → List ℕ → ℕ → List ℕ
element_name Number n k = n
element_name Array n k = n ++ (codes "[" ++ (decimal k ++ codes "]"))
element_name Pointer n k = n

-- `#2` for the second of a name, and nothing for the first
abbrev pub mark : ℕ → List ℕ
mark n = if nat_eq n 1 then [] else codes "#" ++ decimal n

-- how many of some locals have the name
abbrev pub same_named : List RLocal → List ℕ → ℕ
same_named ls n = count_by (λ l. pointwise nat_eq l.name n) ls

-- `main.i`, and `main.i#2` for the second of that name
abbrev pub marked_name : List ℕ → ℕ → List ℕ
marked_name name n = codes "main." ++ (name ++ mark n)

-- the name of local i of `main`, by the locals of its name before it
abbrev pub local_name : List RLocal → ℕ → Option RLocal → List ℕ
local_name ls i None = []
local_name ls i (Some l) = marked_name l.name (same_named (take i ls) l.name + 1)

abbrev pub name_in : Resolved → ℕ → Option (RObject × ℕ) → List ℕ
name_in p c (Some e) = element_name (e.0).kind (e.0).name e.1
name_in p c None = local_name p.main.locals (c - object_cells p.objects) (slice_get p.main.locals (c - object_cells p.objects))

-- the name of a cell
abbrev pub cell_name : Resolved → ℕ → List ℕ
cell_name p c = name_in p c (element p.objects c)
