-- Which tokens spell a call (C99, 6.5.2.2), and what a declaration or a return gives.
use Rattle.std.specs.Prelude.{ℕ, ◌+◌, List, [], ◌∷◌, Option, Some, None}
use Rattle.c_tree.specs.declared.token.Token.{Token}
use Rattle.c_tree.specs.declared.token.Word.TheVariants as word
use Rattle.c_tree.specs.declared.tree.Name.{Name}
use Rattle.c_tree.specs.declared.tree.Expr.{Expr}
use Rattle.c_tree.specs.declared.tree.Callee.{Callee}
use Rattle.c_tree.specs.declared.tree.Callee.TheVariants as callee'
use Rattle.c_tree.specs.declared.tree.Given.{Given}
use Rattle.c_tree.specs.declared.tree.Given.TheVariants as given'
use Rattle.c_tree.specs.declared.tree.Stmt.{Stmt}
use Rattle.c_tree.specs.declared.tree.Stmt.TheVariants as stmt
use Rattle.c_tree.specs.Scan.{Spot}
use Rattle.c_tree.specs.Expressions.{Form, the, a_name, name_at}
use Rattle.c_tree.specs.Expressions as expr
use Rattle.c_tree.specs.Listed.{Listed}
use Rattle.c_tree.specs.Listed as list

-- ---- values with commas between them, or none

abbrev pub Values : Type 0
Values = Option (Listed Form)

abbrev pub values_tokens : Values → List Token → List Token
values_tokens None ts = ts
values_tokens (Some fs) ts = list.tokens expr.tokens fs ts

abbrev pub values_trees : Values → List Expr
values_trees None = []
values_trees (Some fs) = list.trees expr.tree fs

abbrev pub AreWell : Values → Type 0
AreWell None = Unit {0}
AreWell (Some fs) = list.AreWell expr.IsWell fs

-- a list of values counts 1, an empty one nothing
abbrev pub values_depth : Values → ℕ
values_depth None = 0
values_depth (Some fs) = list.depth expr.depth fs + 1

-- ---- calls

-- the function that is called
pub data CalleeForm : Type 0 where
  Main : Spot → CalleeForm
  Named : Spot → List ℕ → CalleeForm

-- a spelling of a call
pub data CallForm : Type 0 where
  Calls : CalleeForm → (opens : Spot) → Values → (closes : Spot) → CallForm
  Input : Spot → (opens closes : Spot) → CallForm

abbrev pub callee_token : CalleeForm → Token
callee_token (Main s) = the s word.Main
callee_token (Named s x) = a_name s x

abbrev pub call_tokens : CallForm → List Token → List Token
call_tokens (Calls f o vs c) ts = callee_token f ∷ the o word.LParen ∷ values_tokens vs (the c word.RParen ∷ ts)
call_tokens (Input s o c) ts = the s word.Getchar ∷ the o word.LParen ∷ the c word.RParen ∷ ts

abbrev pub callee : CalleeForm → Callee
callee (Main s) = callee'.Main
callee (Named s x) = callee'.Name (name_at s x)

abbrev pub IsWellCall : CallForm → Type 0
IsWellCall (Calls f o vs c) = AreWell vs
IsWellCall (Input s o c) = Unit {0}

abbrev pub call_depth : CallForm → ℕ
call_depth (Calls f o vs c) = values_depth vs
call_depth (Input s o c) = 0

-- the statement of a call, whose answer may be assigned to a name
abbrev pub call_stmt : ℕ → Option Name → CallForm → Stmt
call_stmt l n (Calls f o vs c) = stmt.Call l n (callee f) (values_trees vs)
call_stmt l n (Input s o c) = stmt.Input l n

-- ---- what a declaration or a return gives

pub data GivenForm : Type 0 where
  Value : Form → GivenForm
  Answer : CallForm → GivenForm

abbrev pub given_tokens : GivenForm → List Token → List Token
given_tokens (Value f) ts = expr.tokens f ts
given_tokens (Answer f) ts = call_tokens f ts

abbrev pub given : GivenForm → Given
given (Value f) = given'.Value (expr.tree f)
given (Answer (Calls f o vs c)) = given'.Call (callee f) (values_trees vs)
given (Answer (Input s o c)) = given'.Input

abbrev pub IsWellGiven : GivenForm → Type 0
IsWellGiven (Value f) = expr.IsWell f
IsWellGiven (Answer f) = IsWellCall f

abbrev pub given_depth : GivenForm → ℕ
given_depth (Value f) = expr.depth f
given_depth (Answer f) = call_depth f
