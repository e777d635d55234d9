-- What the reader of expressions computes, on lists.
use Rattle.std.specs.Prelude.{ℕ, zero, suc, pos, negsuc, ◌+◌, max, Bool, true, false, ◌==◌, List, [], ◌∷◌, Option, Some, None, nat_lt, if◌then◌else◌}
use Rattle.c_tree.specs.declared.token.Token.{Token}
use Rattle.c_tree.specs.declared.token.Kind.{Kind}
use Rattle.c_tree.specs.declared.token.Kind.TheVariants as kind
use Rattle.c_tree.specs.declared.token.Word.{Word}
use Rattle.c_tree.specs.declared.token.Word.TheVariants as word
use Rattle.c_tree.specs.declared.tree.Name.{Name}
use Rattle.c_tree.specs.declared.tree.Unary.{Unary}
use Rattle.c_tree.specs.declared.tree.Unary.TheVariants as unary
use Rattle.c_tree.specs.declared.tree.Binary.{Binary}
use Rattle.c_tree.specs.declared.tree.Binary.TheVariants as binary
use Rattle.c_tree.specs.declared.tree.Expr.{Expr}
use Rattle.c_tree.specs.declared.tree.Expr.TheVariants as expr'
use Rattle.c_tree.specs.Expressions.{binds}
use Rattle.c_reader.specs.declared.look.Opening.{Opening}
use Rattle.c_reader.specs.declared.look.Opening.TheVariants as opening

-- what was read, and the tokens after it
pub record Got (A : Type 0) : Type 0 where
  pub value : A
  pub rest : List Token

abbrev pub got : {A : Type 0} → A → List Token → Got A
got x ts = record { value = x; rest = ts }

abbrev pub Read : Type 0 → Type 0
Read A = Option (Got A)

abbrev pub Reader : Type 0 → Type 0
Reader A = List Token → Read A

infixl 10 ◌>>=◌
abbrev pub ◌>>=◌ : {A B : Type 0} → Option A → (A → Option B) → Option B
None >>= f = None
(Some x) >>= f = f x

-- ---- one token

-- a number for each word, so that words can be compared
abbrev pub code : Word → ℕ
code word.Int = 0
code word.Long = 1
code word.Void = 2
code word.Main = 3
code word.Return = 4
code word.If = 5
code word.Else = 6
code word.While = 7
code word.For = 8
code word.Do = 9
code word.Break = 10
code word.Continue = 11
code word.Putchar = 12
code word.Printf = 13
code word.Getchar = 14
code word.Checkpoint = 15
code word.Exclude = 16
code word.Eof = 17
code word.Null = 18
code word.Other = 19
code word.LParen = 20
code word.RParen = 21
code word.LBrace = 22
code word.RBrace = 23
code word.LBracket = 24
code word.RBracket = 25
code word.Semi = 26
code word.Comma = 27
code word.Assign = 28
code word.OrOr = 29
code word.AndAnd = 30
code word.Bar = 31
code word.Caret = 32
code word.Ampersand = 33
code word.EqualEqual = 34
code word.Unequal = 35
code word.Less = 36
code word.AtMost = 37
code word.Greater = 38
code word.AtLeast = 39
code word.ShiftLeft = 40
code word.ShiftRight = 41
code word.Plus = 42
code word.Minus = 43
code word.Star = 44
code word.Slash = 45
code word.Percent = 46
code word.Bang = 47
code word.Tilde = 48

abbrev pub same : Word → Word → Bool
same v w = code v == code w

abbrev pub word_of : Kind → Option Word
word_of (kind.Word w) = Some w
word_of _ = None

-- the keyword or mark in front
abbrev pub front : List Token → Option Word
front [] = None
front (t ∷ ts) = word_of t.kind

abbrev pub if_same : Bool → List Token → Option (List Token)
if_same true ts = Some ts
if_same false ts = None

abbrev pub after_word : Word → Option Word → List Token → Option (List Token)
after_word w None ts = None
after_word w (Some v) ts = if_same (same v w) ts

-- the tokens after this keyword or mark
abbrev pub after : Word → List Token → Option (List Token)
after w [] = None
after w (t ∷ ts) = after_word w (word_of t.kind) ts

abbrev pub tail : List Token → List Token
tail [] = []
tail (t ∷ ts) = ts

abbrev pub name_of : Kind → ℕ → Reader Name
name_of (kind.Name x) n ts = Some (got (record { text = x; constants = n }) ts)
name_of _ n ts = None

-- the name in front
abbrev pub name : Reader Name
name [] = None
name (t ∷ ts) = name_of t.kind t.constants ts

abbrev pub kind_names : Kind → Bool
kind_names (kind.Name x) = true
kind_names _ = false

-- a name stands in front
abbrev pub is_name : List Token → Bool
is_name [] = false
is_name (t ∷ ts) = kind_names t.kind

-- ---- an expression

-- an expression that was read, its depth, and the tokens after it
pub record Deep : Type 0 where
  pub value : Expr
  pub depth : ℕ
  pub rest : List Token

abbrev pub deep : Expr → ℕ → List Token → Deep
deep x d ts = record { value = x; depth = d; rest = ts }

-- a reader of deeper expressions: the loosest operator that it goes on with
abbrev pub Inner : Type 0
Inner = ℕ → List Token → Option Deep

abbrev pub refuse : Inner
refuse least ts = None

-- up to the word that closes it, one deeper
abbrev pub closed : Word → Deep → Option Deep
closed w x = after w x.rest >>= (λ ts. Some (deep x.value (x.depth + 1) ts))

abbrev pub with_expr : (Expr → Expr) → Deep → Option Deep
with_expr make x = Some (deep (make x.value) x.depth x.rest)

-- an index, of which the bracket stands in front
abbrev pub index : Inner → List Token → Option Deep
index inner ts = inner 1 (tail ts) >>= closed word.RBracket

-- a name, with the index that may follow
abbrev pub named_of : Inner → Name → List Token → Option (List Token) → Option Deep
named_of inner n ts None = Some (deep (expr'.Name n) 0 ts)
named_of inner n ts (Some us) = index inner ts >>= with_expr (expr'.Index n)

abbrev pub address_of : Inner → Name → List Token → Option (List Token) → Option Deep
address_of inner n ts None = Some (deep (expr'.Address n None) 0 ts)
address_of inner n ts (Some us) = index inner ts >>= with_expr (λ e. expr'.Address n (Some e))

abbrev pub address : Inner → List Token → Option Deep
address inner ts = name ts >>= (λ n. address_of inner n.value n.rest (after word.LBracket n.rest))

abbrev pub signed : Unary → Deep → Option Deep
signed op x = Some (deep (expr'.Unary op x.value) (x.depth + 1) x.rest)

-- how a word begins an expression
abbrev pub opening_of : Word → Opening
opening_of word.Eof = opening.Number (negsuc 0)
opening_of word.Null = opening.Number (pos 0)
opening_of word.LParen = opening.Brackets
opening_of word.Ampersand = opening.Address
opening_of word.Minus = opening.Sign unary.Neg
opening_of word.Bang = opening.Sign unary.Not
opening_of word.Tilde = opening.Sign unary.Inv
opening_of word.Star = opening.Sign unary.Deref
opening_of _ = opening.Nothing

abbrev pub opened : Inner → List Token → Opening → Option Deep
opened inner ts (opening.Number n) = Some (deep (expr'.Num n) 0 ts)
opened inner ts opening.Brackets = inner 1 ts >>= closed word.RParen
opened inner ts opening.Address = address inner ts
opened inner ts (opening.Sign op) = inner 11 ts >>= signed op
opened inner ts opening.Nothing = None

abbrev pub first_of : Inner → ℕ → List Token → Kind → Option Deep
first_of inner c ts (kind.Num n) = Some (deep (expr'.Num n) 0 ts)
first_of inner c ts (kind.Name x) = named_of inner (record { text = x; constants = c }) ts (after word.LBracket ts)
first_of inner c ts (kind.Format ps) = None
first_of inner c ts (kind.Word w) = opened inner ts (opening_of w)

abbrev pub first : Inner → List Token → Option Deep
first inner [] = None
first inner (t ∷ ts) = first_of inner t.constants ts t.kind

abbrev pub operator_of : Word → Option Binary
operator_of word.OrOr = Some binary.Or
operator_of word.AndAnd = Some binary.And
operator_of word.Bar = Some binary.BitOr
operator_of word.Caret = Some binary.BitXor
operator_of word.Ampersand = Some binary.BitAnd
operator_of word.EqualEqual = Some binary.Equal
operator_of word.Unequal = Some binary.Unequal
operator_of word.Less = Some binary.Less
operator_of word.AtMost = Some binary.AtMost
operator_of word.Greater = Some binary.Greater
operator_of word.AtLeast = Some binary.AtLeast
operator_of word.ShiftLeft = Some binary.Shl
operator_of word.ShiftRight = Some binary.Shr
operator_of word.Plus = Some binary.Add
operator_of word.Minus = Some binary.Sub
operator_of word.Star = Some binary.Mul
operator_of word.Slash = Some binary.Div
operator_of word.Percent = Some binary.Rem
operator_of _ = None

abbrev pub operator_at : Option Word → Option Binary
operator_at None = None
operator_at (Some w) = operator_of w

-- the two-sided operator in front
abbrev pub operator : List Token → Option Binary
operator ts = operator_at (front ts)

abbrev pub joined : Binary → Deep → Deep → Deep
joined op x y = deep (expr'.Binary op x.value y.value) (max x.depth y.depth + 1) y.rest

-- one turn: an operator that binds at least so tightly, and its right side
abbrev pub turn : Inner → ℕ → ℕ → (Deep → Option Deep) → Deep → Option Binary → Option Deep
turn inner d least go x None = Some x
turn inner d least go x (Some op) =
    if nat_lt (binds op) least then Some x
    else (if nat_lt x.depth d then inner (binds op + 1) (tail x.rest) >>= (λ y. go (joined op x y)) else None)

-- goes on with operators, in at most n turns
abbrev pub more : Inner → ℕ → ℕ → ℕ → Deep → Option Deep
more inner d zero least x = turn inner d least (λ _. None) x (operator x.rest)
more inner d (suc n) least x = turn inner d least (more inner d n least) x (operator x.rest)

abbrev pub whole : Inner → ℕ → ℕ → List Token → Option Deep
whole inner d least ts = first inner ts >>= more inner d d least

-- an expression of less than the depth
unfoldable pub below : ℕ → Inner
below zero = refuse
below (suc d) = whole (below d) d

-- an expression within the depth
unfoldable pub expr : ℕ → Inner
expr d = whole (below d) d

-- an expression within the depth, of which no more than its tree is told
abbrev pub value : ℕ → Reader Expr
value d ts = expr d 1 ts >>= (λ x. Some (got x.value x.rest))
