-- What `report` prints: for each EXCLUDE_HERE the names of its dead and of its read-only cells.
use Rattle.std.specs.Prelude.{◌≡◌, ℕ, ◌+◌, ◌-◌, Bool, if◌then◌else◌, List, [], ◌∷◌, ◌++◌, length, codes, nat_eq, Option, Some, None, unwrap_or, zero, suc}
use Rattle.std.specs.Fmt.{decimal}
use Rattle.cell_sets.specs.Sets.{Cells, has}
use Rattle.path_laws.specs.Graph.{Graph}
use Rattle.exclusion_equations.specs.Excluded.{Sets, dead_of, read_only_of, AreExact}
use Rattle.c_tree.specs.declared.resolved.ObjectKind.{ObjectKind}
use Rattle.c_tree.specs.declared.resolved.ObjectKind.TheVariants as kind
use Rattle.c_tree.specs.declared.resolved.RObject.{RObject}
use Rattle.c_tree.specs.declared.resolved.Resolved.{Resolved}
use Rattle.c_tree.specs.Layout.{object_cells}
use Rattle.c_tree.specs.CellNames.{cell_name}
use Rattle.flow_graph.specs.MainGraph.{IsMainGraph}

-- a run of places of an object: its first and its last
abbrev pub Run : Type 0
Run = ℕ × ℕ

-- the run that is over before place i, if one had begun
abbrev pub over : Option ℕ → ℕ → List Run
over None i = []
over (Some first) i = (first, i - 1) ∷ []

-- the longest runs of places that pass the test, among the n places from i on; one may have begun before, at place `begun`
abbrev pub runs_from : (ℕ → Bool) → (n i : ℕ) → Option ℕ → List Run
runs_from in_set zero i begun = over begun i
runs_from in_set (suc n) i begun = if in_set i then runs_from in_set n (i + 1) (Some (unwrap_or begun i)) else over begun i ++ runs_from in_set n (i + 1) None

-- `[3]`, or `[0..2]` with both ends
abbrev pub places : ℕ → ℕ → List ℕ
places first last = if nat_eq first last then codes "[" ++ (decimal first ++ codes "]") else codes "[" ++ (decimal first ++ (codes ".." ++ (decimal last ++ codes "]")))

-- what stands behind the name of an object for some of its places
abbrev pub places_of : ObjectKind → Run → List ℕ
places_of kind.Number r = []
places_of kind.Array r = places r.0 r.1
places_of kind.Pointer r = []

-- the names of runs of an object, each with a blank before it
abbrev pub runs_text : RObject → List Run → List ℕ
runs_text o [] = []
runs_text o (r ∷ rs) = (32 ∷ o.name ++ places_of o.kind r) ++ runs_text o rs

-- those of an object whose first cell is c
abbrev pub object_text : Cells → ℕ → RObject → List ℕ
object_text s c o = runs_text o (runs_from (λ i. has s (c + i)) o.length 0 None)

-- .. and of objects that stand one after the other
abbrev pub objects_text : Cells → ℕ → List RObject → List ℕ
objects_text s c [] = []
objects_text s c (o ∷ os) = object_text s c o ++ objects_text s (c + o.length) os

-- a cell that is a local of `main`, if the set has it
abbrev pub local_text : Resolved → Cells → ℕ → List ℕ
local_text p s c = if has s c then 32 ∷ cell_name p c else []

-- .. and n cells from c on
abbrev pub locals_text : Resolved → Cells → (n c : ℕ) → List ℕ
locals_text p s zero c = []
locals_text p s (suc n) c = local_text p s c ++ locals_text p s n (c + 1)

-- the cells of a set, by their names, rising
abbrev pub set_text : Resolved → Cells → List ℕ
set_text p s = objects_text s 0 p.objects ++ locals_text p s (length p.main.locals) (object_cells p.objects)

-- the sets of EXCLUDE_HERE k
abbrev pub directive_text : Resolved → ℕ → Cells → Cells → List ℕ
directive_text p k dead read_only = codes "exclude " ++ (decimal k ++ (codes "\ndead" ++ (set_text p dead ++ (codes "\nread-only" ++ (set_text p read_only ++ codes "\n")))))

-- those of the first n
abbrev pub directives_text : Resolved → Sets → (n : ℕ) → List ℕ
directives_text p s zero = []
directives_text p s (suc n) = directives_text p s n ++ directive_text p (suc n) (dead_of s (suc n)) (read_only_of s (suc n))

-- the text tells of each EXCLUDE_HERE exactly the cells that are dead, and those that are read-only: in the graph of `main`, and in any that is as the text says
pub record IsReport (p : Resolved) (text : List ℕ) : Type 0 where
  pub graph : Graph
  pub of_main : IsMainGraph p graph
  pub sets : Sets
  pub exact : (g : Graph) → IsMainGraph p g → AreExact g sets
  pub told : text ≡ directives_text p sets (length sets.dead)
