-- What the reader of a whole text computes, on lists.
use Rattle.std.specs.Prelude.{ℕ, zero, suc, Bool, true, false, List, [], ◌∷◌, ◌++◌, length, Option, Some, None}
use Rattle.c_tree.specs.declared.token.Token.{Token}
use Rattle.c_tree.specs.declared.token.Kind.{Kind}
use Rattle.c_tree.specs.declared.token.Kind.TheVariants as kind
use Rattle.c_tree.specs.declared.token.Word.TheVariants as word
use Rattle.c_tree.specs.declared.tree.Name.{Name}
use Rattle.c_tree.specs.declared.tree.Length.{Length}
use Rattle.c_tree.specs.declared.tree.Length.TheVariants as length'
use Rattle.c_tree.specs.declared.tree.ObjectForm.{ObjectForm}
use Rattle.c_tree.specs.declared.tree.ObjectForm.TheVariants as object'
use Rattle.c_tree.specs.declared.tree.ObjectDecl.{ObjectDecl}
use Rattle.c_tree.specs.declared.tree.Parameter.{Parameter}
use Rattle.c_tree.specs.declared.tree.Stmt.{Stmt}
use Rattle.c_tree.specs.declared.tree.Item.{Item}
use Rattle.c_tree.specs.declared.tree.Item.TheVariants as item'
use Rattle.c_tree.specs.Statements.{first_line}
use Rattle.c_reader.specs.Reading.{got, Read, Reader, ◌>>=◌, after, name, is_name}
use Rattle.c_reader.specs.Listing.{listed, listing}
use Rattle.c_reader.specs.ReadingCalls.{is_there}
use Rattle.c_reader.specs.ReadingStatements.{block, stmt_within}

-- ---- objects

abbrev pub extent_of : Kind → ℕ → Reader Length
extent_of (kind.Num n) c ts = Some (got (length'.Num n) ts)
extent_of (kind.Name x) c ts = Some (got (length'.Name (record { text = x; constants = c })) ts)
extent_of _ c ts = None

-- a number or a name of a constant
abbrev pub extent : Reader Length
extent [] = None
extent (t ∷ ts) = extent_of t.kind t.constants ts

abbrev pub started : Bool → Reader ObjectForm
started minus ts = extent ts >>= (λ n. Some (got (object'.Started minus n.value) n.rest))

abbrev pub started_of : List Token → Option (List Token) → Read ObjectForm
started_of ts None = started false ts
started_of ts (Some us) = started true us

abbrev pub array_of : List Token → Option (List Token) → Read ObjectForm
array_of ts None = Some (got object'.Number ts)
array_of ts (Some us) = extent us >>= (λ n. after word.RBracket n.rest >>= (λ vs. Some (got (object'.Array n.value) vs)))

abbrev pub behind_of : List Token → Option (List Token) → Read ObjectForm
behind_of ts None = array_of ts (after word.LBracket ts)
behind_of ts (Some us) = started_of us (after word.Minus us)

-- what stands behind a declared name
abbrev pub behind : Reader ObjectForm
behind ts = behind_of ts (after word.Assign ts)

abbrev pub object_decl : Name → ObjectForm → ObjectDecl
object_decl n f = record { name = n; form = f }

abbrev pub decl_of : List Token → Option (List Token) → Read ObjectDecl
decl_of ts None = name ts >>= (λ n. behind n.rest >>= (λ f. Some (got (object_decl n.value f.value) f.rest)))
decl_of ts (Some us) = name us >>= (λ n. Some (got (object_decl n.value object'.Pointer) n.rest))

-- a declared name of the file
abbrev pub decl : Reader ObjectDecl
decl ts = decl_of ts (after word.Star ts)

-- the declared names after `long`, up to the semicolon
abbrev pub objects : ℕ → Reader Item
objects l ts = listing decl ts >>= (λ ds. after word.Semi ds.rest >>= (λ us. Some (got (item'.Objects l ds.value) us)))

-- ---- functions

abbrev pub parameter_by : Bool → Name → Parameter
parameter_by p n = record { is_pointer = p; name = n }

abbrev pub named_of : Bool → List Token → Bool → Read (Option Parameter)
named_of p ts true = name ts >>= (λ n. Some (got (Some (parameter_by p n.value)) n.rest))
named_of p ts false = Some (got None ts)

abbrev pub named : Bool → Reader (Option Parameter)
named p ts = named_of p ts (is_name ts)

abbrev pub starred_of : List Token → Option (List Token) → Read (Option Parameter)
starred_of ts None = named false ts
starred_of ts (Some us) = named true us

-- a parameter, perhaps without a name
abbrev pub parameter : Reader (Option Parameter)
parameter ts = after word.Long ts >>= (λ us. starred_of us (after word.Star us))

-- the parameters so far, where all have names
abbrev pub add : Option (List Parameter) → Option Parameter → Option (List Parameter)
add (Some ps) (Some p) = Some (ps ++ p ∷ [])
add _ _ = None

abbrev pub parameters : Reader (Option (List Parameter))
parameters ts = listed parameter add (length ts) (Some []) ts

abbrev pub heads_some : List Token → Bool → Read (Option (List Parameter))
heads_some ts true = Some (got (Some []) ts)
heads_some ts false = parameters ts

abbrev pub heads_of : List Token → Option (List Token) → Read (Option (List Parameter))
heads_of ts (Some us) = Some (got (Some []) us)
heads_of ts None = heads_some ts (is_there (after word.RParen ts))

-- what stands between the brackets of a head
abbrev pub heads : Reader (Option (List Parameter))
heads ts = heads_of ts (after word.Void ts)

-- the block of a function
abbrev pub body : Reader (List Stmt)
body ts = after word.LBrace ts >>= (λ us. block 100 (stmt_within 100) false (length us) [] us)

abbrev pub function_by : Bool → Name → List Parameter → List Stmt → Item
function_by p n ps ss = item'.Function (record { gives_pointer = p; name = n; parameters = ps; body = ss })

abbrev pub finished : Bool → Name → Option (List Parameter) → List Token → Option (List Token) → Read Item
finished p n ps ts (Some us) = Some (got item'.Prototype us)
finished p n ps ts None = ps >>= (λ qs. body ts >>= (λ b. Some (got (function_by p n qs b.value) b.rest)))

-- a prototype or a function, behind the bracket that opens its head
abbrev pub callable : Bool → Name → Reader Item
callable p n ts = heads ts >>= (λ h. after word.RParen h.rest >>= (λ us. finished p n h.value us (after word.Semi us)))

abbrev pub item_of : ℕ → List Token → Bool → Name → Option (List Token) → Read Item
item_of l ts p n (Some us) = callable p n us
item_of l ts p n None = objects l ts

abbrev pub named_item : ℕ → List Token → Bool → Reader Item
named_item l ts p us = name us >>= (λ n. item_of l ts p n.value (after word.LParen n.rest))

abbrev pub long_of : ℕ → List Token → Option (List Token) → Read Item
long_of l ts None = named_item l ts false ts
long_of l ts (Some us) = named_item l ts true us

-- what begins with `long`, which is behind
abbrev pub long_item : ℕ → Reader Item
long_item l ts = long_of l ts (after word.Star ts)

-- ---- `main`

abbrev pub first_constants : List Token → ℕ
first_constants [] = 0
first_constants (t ∷ ts) = t.constants

abbrev pub past : List Token → Option (List Token) → List Token
past ts None = ts
past ts (Some us) = us

-- the brackets of `main`, where `void` may stand
abbrev pub main_head : List Token → Option (List Token)
main_head ts = after word.LParen ts >>= (λ us. after word.RParen (past us (after word.Void us)))

-- `main`, of which `int` is behind
abbrev pub main_item : Reader Item
main_item ts = after word.Main ts >>= (λ us. main_head us >>= (λ vs. body vs >>= (λ b. Some (got (item'.Main (first_constants ts) b.value) b.rest))))

-- ---- the whole text

abbrev pub item_at : List Token → Option (List Token) → Read Item
item_at ts (Some us) = long_item (first_line ts) us
item_at ts None = after word.Int ts >>= main_item

abbrev pub item : Reader Item
item ts = item_at ts (after word.Long ts)

-- after the items xs, in at most n turns
abbrev pub file : ℕ → List Item → List Token → Option (List Item)
file n xs [] = Some xs
file zero xs (t ∷ ts) = None
file (suc n) xs (t ∷ ts) = item (t ∷ ts) >>= (λ i. file n (xs ++ i.value ∷ []) i.rest)

abbrev pub program : List Token → Option (List Item)
program ts = file (length ts) [] ts
