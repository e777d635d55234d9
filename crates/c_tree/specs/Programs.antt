-- Which tokens spell a program, and which texts do (C99, 6.9).
use Rattle.std.specs.Prelude.{◌≡◌, ℕ, ◌≤◌, false, List, [], ◌∷◌, length, Option, Some, None}
use Rattle.c_tree.specs.declared.token.Token.{Token}
use Rattle.c_tree.specs.declared.token.Word.TheVariants as word
use Rattle.c_tree.specs.declared.tree.Parameter.{Parameter}
use Rattle.c_tree.specs.declared.tree.Item.{Item}
use Rattle.c_tree.specs.declared.tree.Item.TheVariants as item'
use Rattle.c_tree.specs.declared.tree.Program.{Program}
use Rattle.c_tree.specs.Scan.{Spot, Scanned, Scans}
use Rattle.c_tree.specs.Expressions.{the, a_name, name_at}
use Rattle.c_tree.specs.Listed.{Listed}
use Rattle.c_tree.specs.Listed as list
use Rattle.c_tree.specs.Statements.{StmtForms, star_tokens, is_pointer}
use Rattle.c_tree.specs.Statements as stmt
use Rattle.c_tree.specs.Declarations.{DeclForm, decl_tokens, decl_tree, HeadForm, head_tokens, head_trees, all_named}

-- a spelling of what stands at file scope
pub data ItemForm : Type 0 where
  Objects : Spot → Listed DeclForm → (ends : Spot) → ItemForm
  Prototype : Spot → (star : Option Spot) → (named : Spot) → List ℕ → (opens : Spot) → HeadForm → (closes ends : Spot) → ItemForm
  Function : Spot → (star : Option Spot) → (named : Spot) → List ℕ → (opens : Spot) → HeadForm → List Parameter → (closes begins : Spot) → StmtForms → (finishes : Spot) → ItemForm
  Main : Spot → (named : Spot) → (opens : Spot) → (void : Option Spot) → (closes begins : Spot) → StmtForms → (finishes : Spot) → ItemForm

abbrev pub void_tokens : Option Spot → List Token → List Token
void_tokens None ts = ts
void_tokens (Some s) ts = the s word.Void ∷ ts

-- a block of a function
abbrev pub body_tokens : Spot → StmtForms → Spot → List Token → List Token
body_tokens b fs e ts = the b word.LBrace ∷ stmt.tokens_all fs (the e word.RBrace ∷ ts)

abbrev pub item_tokens : ItemForm → List Token → List Token
item_tokens (Objects l fs e) ts = the l word.Long ∷ list.tokens decl_tokens fs (the e word.Semi ∷ ts)
item_tokens (Prototype l p n x o h c e) ts = the l word.Long ∷ star_tokens p (a_name n x ∷ the o word.LParen ∷ head_tokens h (the c word.RParen ∷ the e word.Semi ∷ ts))
item_tokens (Function l p n x o h ps c b fs e) ts = the l word.Long ∷ star_tokens p (a_name n x ∷ the o word.LParen ∷ head_tokens h (the c word.RParen ∷ body_tokens b fs e ts))
item_tokens (Main i m o v c b fs e) ts = the i word.Int ∷ the m word.Main ∷ the o word.LParen ∷ void_tokens v (the c word.RParen ∷ body_tokens b fs e ts)

abbrev pub item_tree : ItemForm → Item
item_tree (Objects l fs e) = item'.Objects l.line (list.trees decl_tree fs)
item_tree (Prototype l p n x o h c e) = item'.Prototype
item_tree (Function l p n x o h ps c b fs e) = item'.Function (record { gives_pointer = is_pointer p; name = name_at n x; parameters = ps; body = stmt.trees fs })
item_tree (Main i m o v c b fs e) = item'.Main m.constants (stmt.trees fs)

-- the block of a function stands in no loop, and all its parameters have names
abbrev pub IsWellItem : ItemForm → Type 0
IsWellItem (Objects l fs e) = Unit {0}
IsWellItem (Prototype l p n x o h c e) = Unit {0}
IsWellItem (Function l p n x o h ps c b fs e) = (all_named (head_trees h) ≡ Some ps) × stmt.AreWell false fs
IsWellItem (Main i m o v c b fs e) = stmt.AreWell false fs

-- the block of a function does not count
abbrev pub item_depth : ItemForm → ℕ
item_depth (Objects l fs e) = 0
item_depth (Prototype l p n x o h c e) = 0
item_depth (Function l p n x o h ps c b fs e) = stmt.depth_all fs
item_depth (Main i m o v c b fs e) = stmt.depth_all fs

-- the items of a text in order
abbrev pub tokens : List ItemForm → List Token
tokens [] = []
tokens (f ∷ fs) = item_tokens f (tokens fs)

abbrev pub items : List ItemForm → List Item
items [] = []
items (f ∷ fs) = item_tree f ∷ items fs

-- each item is well, within the depth
abbrev pub AreWell : ℕ → List ItemForm → Type 0
AreWell d [] = Unit {0}
AreWell d (f ∷ fs) = IsWellItem f × (item_depth f ≤ d) × AreWell d fs

-- the tokens spell the items within the depth
abbrev pub Spells : ℕ → List Item → List Token → Type 0
Spells d xs ts = (fs : List ItemForm) × AreWell d fs × (items fs ≡ xs) × (tokens fs ≡ ts)

-- a longer text is no program
abbrev pub longest : ℕ
longest = 262144

-- the text spells the program: it is not too long, and its tokens spell the items within the depth of 100
abbrev pub IsTextOf : Program → List ℕ → Type 0
IsTextOf p text = (length text ≤ longest) × (s : Scanned) × Scans text s × (s.constants ≡ p.constants) × Spells 100 p.items s.tokens
