-- What a checked program keeps.
use Rattle.std.specs.Prelude.{◌≡◌, ℕ, ℤ, pos, ◌-◌, ◌≤◌, ◌<◌, Bool, true, false, if◌then◌else◌, List, [], ◌∷◌, map, take, length, nat_eq, nat_le, nat_lt, Option, Some, None, slice_get}
use Rattle.std.specs.Option.{option_map, option_and_then}
use Rattle.std.specs.Ordering.{int_eq}
use Rattle.std.specs.List.{list_all}
use Rattle.c_tree.specs.declared.resolved.ObjectKind.{ObjectKind}
use Rattle.c_tree.specs.declared.resolved.ObjectKind.TheVariants.{Number, Array, Pointer}
use Rattle.c_tree.specs.declared.resolved.RObject.{RObject}
use Rattle.c_tree.specs.declared.resolved.RLocal.{RLocal}
use Rattle.c_tree.specs.declared.resolved.RFunction.{RFunction}
use Rattle.c_tree.specs.declared.resolved.Resolved.{Resolved}
use Rattle.c_tree.specs.Nodes.{node_count}
use Rattle.c_tree.specs.Layout.{object_cells, cell_count}
use Rattle.c_tree.specs.Excludes.{excludes, counts_from}
use Rattle.c_tree.specs.Kinds.{Signature, World, keeps_rules}

-- ---- what a program's numbers name

-- a number and a pointer are variables of one cell: whether it is a pointer. The elements of an array are none
abbrev pub variable_kind : ObjectKind → Option Bool
variable_kind Number = Some false
variable_kind Array = None
variable_kind Pointer = Some true

-- the object that a cell lies in, and the cell's place there
abbrev pub element : List RObject → ℕ → Option (RObject × ℕ)
element [] c = None
element (o ∷ os) c = if nat_lt c o.length then Some (o, c) else element os (c - o.length)

abbrev pub file_variable : List RObject → ℕ → Option Bool
file_variable os c = option_and_then (λ e. variable_kind (e.0).kind) (element os c)

-- a local, seen as a variable
abbrev pub local_kind : List RLocal → ℕ → Option Bool
local_kind ls i = option_map (λ l. l.is_pointer) (slice_get ls i)

-- behind the cells of the file stand those of the locals of `main`
abbrev pub main_variable : Resolved → ℕ → Option Bool
main_variable p c = if nat_lt c (object_cells p.objects) then file_variable p.objects c else local_kind p.main.locals (c - object_cells p.objects)

-- numbers and arrays have an address (C99 6.5.3.2)
abbrev pub has_address : ObjectKind → Bool
has_address Number = true
has_address Array = true
has_address Pointer = false

abbrev pub is_addressable : Option RObject → Bool
is_addressable None = false
is_addressable (Some o) = has_address o.kind

abbrev pub signature : RFunction → Signature
signature f = record { parameters = map (λ l. l.is_pointer) (take f.parameters f.locals); gives_pointer = f.gives_pointer }

-- what a body of `main` may name: its locals are cells
abbrev pub in_main : Resolved → World
in_main p = record {
  cell = main_variable p;
  local = λ i. None;
  has_address = λ o. is_addressable (slice_get p.objects o);
  function = λ f. option_map signature (slice_get p.functions f);
  gives_pointer = false;
  is_main = true;
}

-- what the body of another function may name
abbrev pub in_function : Resolved → RFunction → World
in_function p f = record {
  cell = file_variable p.objects;
  local = local_kind f.locals;
  has_address = λ o. is_addressable (slice_get p.objects o);
  function = λ g. option_map signature (slice_get p.functions g);
  gives_pointer = f.gives_pointer;
  is_main = false;
}

-- ---- the conditions

-- a number and a pointer have one cell, an array has one or more
abbrev pub has_cells : ObjectKind → ℕ → Bool
has_cells Number n = nat_eq n 1
has_cells Array n = nat_le 1 n
has_cells Pointer n = nat_eq n 1

-- only a number has a first number other than 0
abbrev pub starts_rightly : ObjectKind → ℤ → Bool
starts_rightly Number v = true
starts_rightly Array v = int_eq v (pos 0)
starts_rightly Pointer v = int_eq v (pos 0)

-- the rules of the language that a resolved tree can still break
pub record IsChecked (p : Resolved) : Type 0 where
  -- there are at most 262,144 cells
  pub cells : cell_count p ≤ 262144
  -- each function has at most 64 parameters and locals, its parameters first
  pub locals : list_all (λ f. nat_le (length f.locals) 64) p.functions ≡ true
  pub parameters : list_all (λ f. nat_le f.parameters (length f.locals)) p.functions ≡ true
  pub main_locals : length p.main.locals ≤ 64
  -- `main` has at most 2,048 nodes, and each function fewer than 4,294,967,295
  pub main_nodes : node_count p.main.body ≤ 2048
  pub nodes : list_all (λ f. nat_lt (node_count f.body) 4294967295) p.functions ≡ true
  -- there are fewer than 4,294,967,296 functions
  pub functions : length p.functions < 4294967296
  -- each object has its cells, and the first number that it may have
  pub lengths : list_all (λ o. has_cells o.kind o.length) p.objects ≡ true
  pub firsts : list_all (λ o. starts_rightly o.kind o.first) p.objects ≡ true
  -- `main` has no parameter and answers a number
  pub main_parameters : p.main.parameters ≡ 0
  pub main_answer : p.main.gives_pointer ≡ false
  -- what each body names is there, with its type; directives stand in `main` alone, `break` and `continue` in loops
  pub main_rules : keeps_rules (in_main p) p.main.body false ≡ true
  pub rules : list_all (λ f. keeps_rules (in_function p f) f.body false) p.functions ≡ true
  -- there are at most 64 EXCLUDE_HERE, numbered from 1 in the order of the text
  pub few_excludes : length (excludes p.main.body) ≤ 64
  pub exclude_numbers : counts_from 1 (excludes p.main.body) ≡ true
