-- Which tokens spell a statement (C99, 6.8), and a declaration of a block (C99, 6.7).
use Rattle.std.specs.Prelude.{◌≡◌, ℕ, ◌+◌, ◌≤◌, max, Bool, true, false, List, [], ◌∷◌, ◌++◌, Option, Some, None}
use Rattle.c_tree.specs.declared.token.Token.{Token}
use Rattle.c_tree.specs.declared.token.Kind.TheVariants as kind
use Rattle.c_tree.specs.declared.token.Word.TheVariants as word
use Rattle.c_tree.specs.declared.tree.Expr.{Expr}
use Rattle.c_tree.specs.declared.tree.Place.{Place}
use Rattle.c_tree.specs.declared.tree.Place.TheVariants as place
use Rattle.c_tree.specs.declared.tree.Assign.{Assign}
use Rattle.c_tree.specs.declared.tree.Given.{Given}
use Rattle.c_tree.specs.declared.tree.LocalDecl.{LocalDecl}
use Rattle.c_tree.specs.declared.tree.Init.{Init}
use Rattle.c_tree.specs.declared.tree.Init.TheVariants as init'
use Rattle.c_tree.specs.declared.tree.PrintPiece.{PrintPiece}
use Rattle.c_tree.specs.declared.tree.Arm.{Arm, roll-Arm}
use Rattle.c_tree.specs.declared.tree.Stmt.{Stmt}
use Rattle.c_tree.specs.declared.tree.Stmt.TheVariants as stmt
use Rattle.c_tree.specs.Scan.{Spot, at}
use Rattle.c_tree.specs.Expressions.{Form, the, a_name, name_at}
use Rattle.c_tree.specs.Expressions as expr
use Rattle.c_tree.specs.Listed.{Listed}
use Rattle.c_tree.specs.Listed as list
use Rattle.c_tree.specs.Calls.{Values, values_tokens, values_trees, values_depth, CallForm, call_tokens, call_stmt, call_depth, IsWellCall, GivenForm, given_tokens, given, given_depth, IsWellGiven}
use Rattle.c_tree.specs.Calls as calls

-- ---- assignments (C99, 6.5.16)

-- a spelling of what is assigned to
pub data PlaceForm : Type 0 where
  Named : Spot → List ℕ → PlaceForm
  Index : Spot → List ℕ → (opens : Spot) → Form → (closes : Spot) → PlaceForm
  At : Spot → Form → PlaceForm

abbrev pub place_tokens : PlaceForm → List Token → List Token
place_tokens (Named s x) ts = a_name s x ∷ ts
place_tokens (Index s x o f c) ts = a_name s x ∷ the o word.LBracket ∷ expr.tokens f (the c word.RBracket ∷ ts)
place_tokens (At s f) ts = the s word.Star ∷ expr.tokens f ts

abbrev pub place_tree : PlaceForm → Place
place_tree (Named s x) = place.Name (name_at s x)
place_tree (Index s x o f c) = place.Index (name_at s x) (expr.tree f)
place_tree (At s f) = place.At (expr.tree f)

-- the operand of `*` is a prefix
abbrev pub IsWellPlace : PlaceForm → Type 0
IsWellPlace (Named s x) = Unit {0}
IsWellPlace (Index s x o f c) = expr.IsWell f
IsWellPlace (At s f) = (11 ≤ expr.level f) × expr.IsWell f

abbrev pub place_depth : PlaceForm → ℕ
place_depth (Named s x) = 0
place_depth (Index s x o f c) = expr.depth f + 1
place_depth (At s f) = expr.depth f + 1

pub record SetForm : Type 0 where
  pub place : PlaceForm
  pub equals : Spot
  pub value : Form

abbrev pub set_tokens : SetForm → List Token → List Token
set_tokens f ts = place_tokens f.place (the f.equals word.Assign ∷ expr.tokens f.value ts)

abbrev pub set_tree : SetForm → Assign
set_tree f = record { place = place_tree f.place; value = expr.tree f.value }

abbrev pub IsWellSet : SetForm → Type 0
IsWellSet f = IsWellPlace f.place × expr.IsWell f.value

abbrev pub set_depth : SetForm → ℕ
set_depth f = max (place_depth f.place) (expr.depth f.value)

-- ---- declarations of a block

-- a spelling of a declared name
pub record LocalForm : Type 0 where
  pub star : Option Spot
  pub named : Spot
  pub text : List ℕ
  pub given : Option (Spot × GivenForm)

abbrev pub star_tokens : Option Spot → List Token → List Token
star_tokens None ts = ts
star_tokens (Some s) ts = the s word.Star ∷ ts

abbrev pub is_pointer : Option Spot → Bool
is_pointer None = false
is_pointer (Some s) = true

abbrev pub initial_tokens : Option (Spot × GivenForm) → List Token → List Token
initial_tokens None ts = ts
initial_tokens (Some g) ts = the g.0 word.Assign ∷ given_tokens g.1 ts

abbrev pub initial : Option (Spot × GivenForm) → Option Given
initial None = None
initial (Some g) = Some (given g.1)

abbrev pub IsWellInitial : Option (Spot × GivenForm) → Type 0
IsWellInitial None = Unit {0}
IsWellInitial (Some g) = IsWellGiven g.1

abbrev pub initial_depth : Option (Spot × GivenForm) → ℕ
initial_depth None = 0
initial_depth (Some g) = given_depth g.1

abbrev pub local_tokens : LocalForm → List Token → List Token
local_tokens f ts = star_tokens f.star (a_name f.named f.text ∷ initial_tokens f.given ts)

abbrev pub local_tree : LocalForm → LocalDecl
local_tree f = record { is_pointer = is_pointer f.star; name = name_at f.named f.text; given = initial f.given }

abbrev pub IsWellLocal : LocalForm → Type 0
IsWellLocal f = IsWellInitial f.given

abbrev pub local_depth : LocalForm → ℕ
local_depth f = initial_depth f.given

-- ---- the head of a `for`

pub data InitForm : Type 0 where
  Nothing : InitForm
  Sets : SetForm → InitForm
  Declares : Spot → (named : Spot) → List ℕ → (equals : Spot) → Form → InitForm

abbrev pub init_tokens : InitForm → List Token → List Token
init_tokens Nothing ts = ts
init_tokens (Sets f) ts = set_tokens f ts
init_tokens (Declares s n x e f) ts = the s word.Long ∷ a_name n x ∷ the e word.Assign ∷ expr.tokens f ts

abbrev pub init_tree : InitForm → Option Init
init_tree Nothing = None
init_tree (Sets f) = Some (init'.Assign (set_tree f))
init_tree (Declares s n x e f) = Some (init'.Declare (name_at n x) (expr.tree f))

abbrev pub IsWellInit : InitForm → Type 0
IsWellInit Nothing = Unit {0}
IsWellInit (Sets f) = IsWellSet f
IsWellInit (Declares s n x e f) = expr.IsWell f

abbrev pub init_depth : InitForm → ℕ
init_depth Nothing = 0
init_depth (Sets f) = set_depth f
init_depth (Declares s n x e f) = expr.depth f

-- a condition, or an absent one
abbrev pub test_tokens : Option Form → List Token → List Token
test_tokens None ts = ts
test_tokens (Some f) ts = expr.tokens f ts

abbrev pub test_tree : Option Form → Option Expr
test_tree None = None
test_tree (Some f) = Some (expr.tree f)

abbrev pub IsWellTest : Option Form → Type 0
IsWellTest None = Unit {0}
IsWellTest (Some f) = expr.IsWell f

abbrev pub test_depth : Option Form → ℕ
test_depth None = 0
test_depth (Some f) = expr.depth f

-- what is done before the next turn
abbrev pub update_tokens : Option SetForm → List Token → List Token
update_tokens None ts = ts
update_tokens (Some f) ts = set_tokens f ts

abbrev pub update_tree : Option SetForm → Option Assign
update_tree None = None
update_tree (Some f) = Some (set_tree f)

abbrev pub IsWellUpdate : Option SetForm → Type 0
IsWellUpdate None = Unit {0}
IsWellUpdate (Some f) = IsWellSet f

abbrev pub update_depth : Option SetForm → ℕ
update_depth None = 0
update_depth (Some f) = set_depth f

-- the three parts between the brackets of a `for`
pub record HeadForm : Type 0 where
  pub opens : Spot
  pub init : InitForm
  pub first : Spot
  pub test : Option Form
  pub second : Spot
  pub update : Option SetForm
  pub closes : Spot

abbrev pub head_tokens : HeadForm → List Token → List Token
head_tokens f ts =
    the f.opens word.LParen ∷ init_tokens f.init (the f.first word.Semi ∷ test_tokens f.test (the f.second word.Semi ∷ update_tokens f.update (the f.closes word.RParen ∷ ts)))

abbrev pub IsWellHead : HeadForm → Type 0
IsWellHead f = IsWellInit f.init × IsWellTest f.test × IsWellUpdate f.update

abbrev pub head_depth : HeadForm → ℕ
head_depth f = max (init_depth f.init) (max (test_depth f.test) (update_depth f.update))

-- ---- single statements: those that hold no other (C99, 6.8.3, 6.8.6)

-- the values that `printf` writes stand behind a comma each
pub record PrintForm : Type 0 where
  pub string : Spot
  pub pieces : List PrintPiece
  pub values : Option (Spot × Listed Form)

abbrev pub more_tokens : Option (Spot × Listed Form) → List Token → List Token
more_tokens None ts = ts
more_tokens (Some v) ts = the v.0 word.Comma ∷ list.tokens expr.tokens v.1 ts

abbrev pub more_values : Option (Spot × Listed Form) → Values
more_values None = None
more_values (Some v) = Some v.1

pub data SingleForm : Type 0 where
  Empty : SingleForm
  Set : SetForm → SingleForm
  SetAnswer : Spot → List ℕ → (equals : Spot) → CallForm → SingleForm
  Call : CallForm → SingleForm
  Put : Spot → (opens : Spot) → Form → (closes : Spot) → SingleForm
  Print : Spot → (opens : Spot) → PrintForm → (closes : Spot) → SingleForm
  Return : Spot → GivenForm → SingleForm
  Break : Spot → SingleForm
  Continue : Spot → SingleForm
  Checkpoint : Spot → SingleForm
  Exclude : Spot → SingleForm

-- a statement up to its semicolon
abbrev pub single_tokens : SingleForm → List Token → List Token
single_tokens Empty ts = ts
single_tokens (Set f) ts = set_tokens f ts
single_tokens (SetAnswer s x e f) ts = a_name s x ∷ the e word.Assign ∷ call_tokens f ts
single_tokens (Call f) ts = call_tokens f ts
single_tokens (Put s o f c) ts = the s word.Putchar ∷ the o word.LParen ∷ expr.tokens f (the c word.RParen ∷ ts)
single_tokens (Print s o f c) ts = the s word.Printf ∷ the o word.LParen ∷ at f.string (kind.Format f.pieces) ∷ more_tokens f.values (the c word.RParen ∷ ts)
single_tokens (Return s f) ts = the s word.Return ∷ given_tokens f ts
single_tokens (Break s) ts = the s word.Break ∷ ts
single_tokens (Continue s) ts = the s word.Continue ∷ ts
single_tokens (Checkpoint s) ts = the s word.Checkpoint ∷ ts
single_tokens (Exclude s) ts = the s word.Exclude ∷ ts

-- the statement in this line
abbrev pub single_tree : ℕ → SingleForm → Stmt
single_tree l Empty = stmt.Empty l
single_tree l (Set f) = stmt.Set l (set_tree f)
single_tree l (SetAnswer s x e f) = call_stmt l (Some (name_at s x)) f
single_tree l (Call f) = call_stmt l None f
single_tree l (Put s o f c) = stmt.Put l (expr.tree f)
single_tree l (Print s o f c) = stmt.Print l f.pieces (values_trees (more_values f.values))
single_tree l (Return s f) = stmt.Return l (given f)
single_tree l (Break s) = stmt.Break l
single_tree l (Continue s) = stmt.Continue l
single_tree l (Checkpoint s) = stmt.Checkpoint l
single_tree l (Exclude s) = stmt.Exclude l

-- `break` and `continue` stand inside a loop
abbrev pub IsWellSingle : (in_loop : Bool) → SingleForm → Type 0
IsWellSingle in_loop Empty = Unit {0}
IsWellSingle in_loop (Set f) = IsWellSet f
IsWellSingle in_loop (SetAnswer s x e f) = IsWellCall f
IsWellSingle in_loop (Call f) = IsWellCall f
IsWellSingle in_loop (Put s o f c) = expr.IsWell f
IsWellSingle in_loop (Print s o f c) = calls.AreWell (more_values f.values)
IsWellSingle in_loop (Return s f) = IsWellGiven f
IsWellSingle in_loop (Break s) = in_loop ≡ true
IsWellSingle in_loop (Continue s) = in_loop ≡ true
IsWellSingle in_loop (Checkpoint s) = Unit {0}
IsWellSingle in_loop (Exclude s) = Unit {0}

abbrev pub single_depth : SingleForm → ℕ
single_depth Empty = 0
single_depth (Set f) = set_depth f
single_depth (SetAnswer s x e f) = call_depth f
single_depth (Call f) = call_depth f
single_depth (Put s o f c) = expr.depth f
single_depth (Print s o f c) = values_depth (more_values f.values)
single_depth (Return s f) = given_depth f
single_depth (Break s) = 0
single_depth (Continue s) = 0
single_depth (Checkpoint s) = 0
single_depth (Exclude s) = 0

-- ---- statements

mutual
  -- a spelling of a statement
  pub data StmtForm : Type 0 where
    Single : SingleForm → (ends : Spot) → StmtForm
    Block : (opens : Spot) → StmtForms → (closes : Spot) → StmtForm
    If : Chain → StmtForm
    IfElse : Chain → (other : Spot) → StmtForm → StmtForm
    While : Spot → (opens : Spot) → Form → (closes : Spot) → StmtForm → StmtForm
    Do : Spot → StmtForm → (loop : Spot) → (opens : Spot) → Form → (closes ends : Spot) → StmtForm
    For : Spot → HeadForm → StmtForm → StmtForm

  -- what stands in a block
  pub data StmtForms : Type 0 where
    End : StmtForms
    Then : StmtForm → StmtForms → StmtForms
    Declares : Spot → Listed LocalForm → (ends : Spot) → StmtForms → StmtForms

  -- the arms of an `if`, the last first
  pub data Chain : Type 0 where
    First : Spot → (opens : Spot) → Form → (closes : Spot) → StmtForm → Chain
    Further : Chain → (other : Spot) → Spot → (opens : Spot) → Form → (closes : Spot) → StmtForm → Chain

-- a condition in brackets
abbrev pub condition : Spot → Form → Spot → List Token → List Token
condition o f c ts = the o word.LParen ∷ expr.tokens f (the c word.RParen ∷ ts)

-- the tokens of a spelling, and these behind them
abbrev mutual
  pub tokens : StmtForm → List Token → List Token
  tokens (Single f e) ts = single_tokens f (the e word.Semi ∷ ts)
  tokens (Block o fs c) ts = the o word.LBrace ∷ tokens_all fs (the c word.RBrace ∷ ts)
  tokens (If c) ts = tokens_chain c ts
  tokens (IfElse c e s) ts = tokens_chain c (the e word.Else ∷ tokens s ts)
  tokens (While w o f c s) ts = the w word.While ∷ condition o f c (tokens s ts)
  tokens (Do d s w o f c e) ts = the d word.Do ∷ tokens s (the w word.While ∷ condition o f c (the e word.Semi ∷ ts))
  tokens (For l h s) ts = the l word.For ∷ head_tokens h (tokens s ts)

  pub tokens_all : StmtForms → List Token → List Token
  tokens_all End ts = ts
  tokens_all (Then s fs) ts = tokens s (tokens_all fs ts)
  tokens_all (Declares l ds e fs) ts = the l word.Long ∷ list.tokens local_tokens ds (the e word.Semi ∷ tokens_all fs ts)

  pub tokens_chain : Chain → List Token → List Token
  tokens_chain (First i o f c s) ts = the i word.If ∷ condition o f c (tokens s ts)
  tokens_chain (Further a e i o f c s) ts = tokens_chain a (the e word.Else ∷ the i word.If ∷ condition o f c (tokens s ts))

-- the line of the first token of these
abbrev pub first_line : List Token → ℕ
first_line [] = 0
first_line (t ∷ ts) = t.line

-- the line of the first `if`
abbrev pub chain_line : Chain → ℕ
chain_line (First i o f c s) = i.line
chain_line (Further a e i o f c s) = chain_line a

abbrev pub arm : Form → Stmt → Arm
arm f s = roll-Arm (record { test = expr.tree f; body = s })

-- the statement that is spelled, with the line of its first token
abbrev mutual
  pub tree : StmtForm → Stmt
  tree (Single f e) = single_tree (first_line (single_tokens f (the e word.Semi ∷ []))) f
  tree (Block o fs c) = stmt.Block o.line (trees fs)
  tree (If c) = stmt.If (chain_line c) (arms c) None
  tree (IfElse c e s) = stmt.If (chain_line c) (arms c) (Some (tree s))
  tree (While w o f c s) = stmt.While w.line (expr.tree f) (tree s)
  tree (Do d s w o f c e) = stmt.Do d.line (tree s) (expr.tree f)
  tree (For l h s) = stmt.For l.line (init_tree h.init) (test_tree h.test) (update_tree h.update) (tree s)

  pub trees : StmtForms → List Stmt
  trees End = []
  trees (Then s fs) = tree s ∷ trees fs
  trees (Declares l ds e fs) = stmt.Declare l.line (list.trees local_tree ds) ∷ trees fs

  pub arms : Chain → List Arm
  arms (First i o f c s) = arm f (tree s) ∷ []
  arms (Further a e i o f c s) = arms a ++ arm f (tree s) ∷ []

-- the statements, round brackets, operators, indices and lists of values on the way down to a token; an arm of an `if` is no
-- deeper than the first. The brackets of a condition, of `putchar` and of the head of a `for` do not count
abbrev mutual
  pub depth : StmtForm → ℕ
  depth (Single f e) = single_depth f + 1
  depth (Block o fs c) = depth_all fs + 1
  depth (If c) = depth_chain c + 1
  depth (IfElse c e s) = max (depth_chain c) (depth s) + 1
  depth (While w o f c s) = max (expr.depth f) (depth s) + 1
  depth (Do d s w o f c e) = max (depth s) (expr.depth f) + 1
  depth (For l h s) = max (head_depth h) (depth s) + 1

  pub depth_all : StmtForms → ℕ
  depth_all End = 0
  depth_all (Then s fs) = max (depth s) (depth_all fs)
  depth_all (Declares l ds e fs) = max (list.depth local_depth ds + 1) (depth_all fs)

  pub depth_chain : Chain → ℕ
  depth_chain (First i o f c s) = max (expr.depth f) (depth s)
  depth_chain (Further a e i o f c s) = max (depth_chain a) (max (expr.depth f) (depth s))

-- the statement ends in an `if` that an `else` would go on with
abbrev mutual
  pub open_end : StmtForm → Bool
  open_end (Single f e) = false
  open_end (Block o fs c) = false
  open_end (If c) = true
  open_end (IfElse c e s) = open_end s
  open_end (While w o f c s) = open_end s
  open_end (Do d s w o f c e) = false
  open_end (For l h s) = open_end s

abbrev pub is_if : StmtForm → Bool
is_if (If c) = true
is_if (IfElse c e s) = true
is_if _ = false

-- the statement of the last arm ends so
abbrev pub last_open : Chain → Bool
last_open (First i o f c s) = open_end s
last_open (Further a e i o f c s) = open_end s

-- operands at their levels, `break` and `continue` inside a loop, each `else` at the nearest `if`, and no `if` behind the
-- last `else`: that would be a further arm
abbrev mutual
  pub IsWell : (in_loop : Bool) → StmtForm → Type 0
  IsWell in_loop (Single f e) = IsWellSingle in_loop f
  IsWell in_loop (Block o fs c) = AreWell in_loop fs
  IsWell in_loop (If c) = IsWellChain in_loop c
  IsWell in_loop (IfElse c e s) = IsWellChain in_loop c × (last_open c ≡ false) × (is_if s ≡ false) × IsWell in_loop s
  IsWell in_loop (While w o f c s) = expr.IsWell f × IsWell true s
  IsWell in_loop (Do d s w o f c e) = IsWell true s × expr.IsWell f
  IsWell in_loop (For l h s) = IsWellHead h × IsWell true s

  pub AreWell : (in_loop : Bool) → StmtForms → Type 0
  AreWell in_loop End = Unit {0}
  AreWell in_loop (Then s fs) = IsWell in_loop s × AreWell in_loop fs
  AreWell in_loop (Declares l ds e fs) = list.AreWell IsWellLocal ds × AreWell in_loop fs

  pub IsWellChain : (in_loop : Bool) → Chain → Type 0
  IsWellChain in_loop (First i o f c s) = expr.IsWell f × IsWell in_loop s
  IsWellChain in_loop (Further a e i o f c s) = IsWellChain in_loop a × (last_open a ≡ false) × expr.IsWell f × IsWell in_loop s
