-- Which tokens spell an expression (C99, 6.5).
use Rattle.std.specs.Prelude.{ℕ, ℤ, pos, negsuc, ◌+◌, ◌<◌, ◌≤◌, max, List, ◌∷◌, Some, None}
use Rattle.c_tree.specs.declared.token.Token.{Token}
use Rattle.c_tree.specs.declared.token.Kind.TheVariants as kind
use Rattle.c_tree.specs.declared.token.Word.{Word}
use Rattle.c_tree.specs.declared.token.Word.TheVariants as word
use Rattle.c_tree.specs.declared.tree.Name.{Name}
use Rattle.c_tree.specs.declared.tree.Unary.{Unary}
use Rattle.c_tree.specs.declared.tree.Unary.TheVariants as unary
use Rattle.c_tree.specs.declared.tree.Binary.{Binary}
use Rattle.c_tree.specs.declared.tree.Binary.TheVariants as binary
use Rattle.c_tree.specs.declared.tree.Expr.{Expr}
use Rattle.c_tree.specs.declared.tree.Expr.TheVariants as expr
use Rattle.c_tree.specs.Scan.{Spot, at}

-- a spelling of an expression: its tree with the round brackets kept, and where each token stands
pub data Form : Type 0 where
  Num : Spot → ℤ → Form
  Eof : Spot → Form
  Null : Spot → Form
  Named : Spot → List ℕ → Form
  Index : Spot → List ℕ → (opens : Spot) → Form → (closes : Spot) → Form
  Address : Spot → (named : Spot) → List ℕ → Form
  AddressAt : Spot → (named : Spot) → List ℕ → (opens : Spot) → Form → (closes : Spot) → Form
  Brackets : (opens : Spot) → Form → (closes : Spot) → Form
  Sign : Spot → Unary → Form → Form
  Both : Form → Spot → Binary → Form → Form

-- a keyword or a mark as a token
abbrev pub the : Spot → Word → Token
the s w = at s (kind.Word w)

-- a name as a token
abbrev pub a_name : Spot → List ℕ → Token
a_name s x = at s (kind.Name x)

abbrev pub sign : Unary → Word
sign unary.Neg = word.Minus
sign unary.Not = word.Bang
sign unary.Inv = word.Tilde
sign unary.Deref = word.Star

abbrev pub mark : Binary → Word
mark binary.Or = word.OrOr
mark binary.And = word.AndAnd
mark binary.BitOr = word.Bar
mark binary.BitXor = word.Caret
mark binary.BitAnd = word.Ampersand
mark binary.Equal = word.EqualEqual
mark binary.Unequal = word.Unequal
mark binary.Less = word.Less
mark binary.AtMost = word.AtMost
mark binary.Greater = word.Greater
mark binary.AtLeast = word.AtLeast
mark binary.Shl = word.ShiftLeft
mark binary.Shr = word.ShiftRight
mark binary.Add = word.Plus
mark binary.Sub = word.Minus
mark binary.Mul = word.Star
mark binary.Div = word.Slash
mark binary.Rem = word.Percent

-- the tokens of a spelling, and these behind them
abbrev pub tokens : Form → List Token → List Token
tokens (Num s n) ts = at s (kind.Num n) ∷ ts
tokens (Eof s) ts = the s word.Eof ∷ ts
tokens (Null s) ts = the s word.Null ∷ ts
tokens (Named s x) ts = a_name s x ∷ ts
tokens (Index s x o f c) ts = a_name s x ∷ the o word.LBracket ∷ tokens f (the c word.RBracket ∷ ts)
tokens (Address s n x) ts = the s word.Ampersand ∷ a_name n x ∷ ts
tokens (AddressAt s n x o f c) ts = the s word.Ampersand ∷ a_name n x ∷ the o word.LBracket ∷ tokens f (the c word.RBracket ∷ ts)
tokens (Brackets o f c) ts = the o word.LParen ∷ tokens f (the c word.RParen ∷ ts)
tokens (Sign s op f) ts = the s (sign op) ∷ tokens f ts
tokens (Both f s op g) ts = tokens f (the s (mark op) ∷ tokens g ts)

-- a name of the tree keeps how many constants the text has made before it
abbrev pub name_at : Spot → List ℕ → Name
name_at s x = record { text = x; constants = s.constants }

-- the tree that is spelled. `EOF` is -1, `NULL` is 0
abbrev pub tree : Form → Expr
tree (Num s n) = expr.Num n
tree (Eof s) = expr.Num (negsuc 0)
tree (Null s) = expr.Num (pos 0)
tree (Named s x) = expr.Name (name_at s x)
tree (Index s x o f c) = expr.Index (name_at s x) (tree f)
tree (Address s n x) = expr.Address (name_at n x) None
tree (AddressAt s n x o f c) = expr.Address (name_at n x) (Some (tree f))
tree (Brackets o f c) = tree f
tree (Sign s op f) = expr.Unary op (tree f)
tree (Both f s op g) = expr.Binary op (tree f) (tree g)

-- how tightly a two-sided operator binds
abbrev pub binds : Binary → ℕ
binds binary.Or = 1
binds binary.And = 2
binds binary.BitOr = 3
binds binary.BitXor = 4
binds binary.BitAnd = 5
binds binary.Equal = 6
binds binary.Unequal = 6
binds binary.Less = 7
binds binary.AtMost = 7
binds binary.Greater = 7
binds binary.AtLeast = 7
binds binary.Shl = 8
binds binary.Shr = 8
binds binary.Add = 9
binds binary.Sub = 9
binds binary.Mul = 10
binds binary.Div = 10
binds binary.Rem = 10

-- the level of the grammar that a spelling belongs to: that of its operator, and 11 without one
abbrev pub level : Form → ℕ
level (Both f s op g) = binds op
level _ = 11

-- each operand belongs to the level that its operator wants: operators of one level group to the left
abbrev pub IsWell : Form → Type 0
IsWell (Index s x o f c) = IsWell f
IsWell (AddressAt s n x o f c) = IsWell f
IsWell (Brackets o f c) = IsWell f
IsWell (Sign s op f) = (11 ≤ level f) × IsWell f
IsWell (Both f s op g) = (binds op ≤ level f) × (binds op < level g) × IsWell f × IsWell g
IsWell _ = Unit {0}

-- the round brackets, operators and indices on the way down to a token
abbrev pub depth : Form → ℕ
depth (Index s x o f c) = depth f + 1
depth (AddressAt s n x o f c) = depth f + 1
depth (Brackets o f c) = depth f + 1
depth (Sign s op f) = depth f + 1
depth (Both f s op g) = max (depth f) (depth g) + 1
depth _ = 0
