-- Where pointers flow in the text of a program.
use Rattle.std.specs.Prelude.{ℕ, ◌+◌, List, [], ◌∷◌, ◌++◌, Option, Some, None}
use Rattle.c_tree.specs.declared.resolved.RExpr.{RExpr}
use Rattle.c_tree.specs.declared.resolved.RExpr.TheOpen.{RExpr-F}
use Rattle.c_tree.specs.declared.resolved.RExpr.TheFolds.{fold-RExpr}
use Rattle.c_tree.specs.declared.resolved.RPlace.{RPlace}
use Rattle.c_tree.specs.declared.resolved.RPlace.TheVariants as place
use Rattle.c_tree.specs.declared.resolved.RAssign.{RAssign}
use Rattle.c_tree.specs.declared.resolved.RInit.{RInit}
use Rattle.c_tree.specs.declared.resolved.RInit.TheVariants as init
use Rattle.c_tree.specs.declared.resolved.RArm.{RArm}
use Rattle.c_tree.specs.declared.resolved.RStmt.{RStmt}
use Rattle.c_tree.specs.declared.resolved.RStmt.TheOpen.{RStmt-F, RArm-F}
use Rattle.c_tree.specs.declared.resolved.RStmt.TheFolds.{fold-RStmt, fold-RArm}
use Rattle.c_tree.specs.declared.resolved.RFunction.{RFunction}
use Rattle.c_tree.specs.declared.resolved.Resolved.{Resolved}
use Rattle.alias_sets.specs.declared.flows.PointerVar.{PointerVar}
use Rattle.alias_sets.specs.declared.flows.PointerVar.TheVariants as var
use Rattle.alias_sets.specs.declared.flows.Source.{Source}
use Rattle.alias_sets.specs.declared.flows.Source.TheVariants as source'
use Rattle.alias_sets.specs.declared.flows.Flow.{Flow}

-- ---- variables: those of a function by its number, those of `main` for none

abbrev pub local_of : Option ℕ → ℕ → Option PointerVar
local_of None i = None
local_of (Some f) i = Some (var.Local f i)

-- the answer of `main` is a number
abbrev pub answer_of : Option ℕ → Option PointerVar
answer_of None = None
answer_of (Some f) = Some (var.Answer f)

-- the variable that a place is by itself. What a pointer names is a number
abbrev pub variable : Option ℕ → RPlace → Option PointerVar
variable f (place.Cell c) = Some (var.Cell c)
variable f (place.Local i) = local_of f i
variable f (place.At e) = None

-- ---- sources

abbrev pub variable_source : Option PointerVar → Source
variable_source None = source'.Nothing
variable_source (Some v) = source'.Variable v

-- a pointer expression comes from an object's address, from a variable, or, moved, from where its pointer comes from
abbrev pub source_at : Option ℕ → RExpr-F Source → Source
source_at f (RExpr-F.Object o) = source'.Object o
source_at f (RExpr-F.Cell c) = source'.Variable (var.Cell c)
source_at f (RExpr-F.Local i) = variable_source (local_of f i)
source_at f (RExpr-F.Move p n d) = p
source_at f e = source'.Nothing

abbrev pub source : Option ℕ → RExpr → Source
source f = fold-RExpr Source (source_at f)

-- ---- flows

-- a value goes into a variable
abbrev pub goes : Source → Option PointerVar → List Flow
goes s None = []
goes s (Some v) = record { into = v; from = s } ∷ []

abbrev pub perhaps_variable : Option ℕ → Option RPlace → Option PointerVar
perhaps_variable f None = None
perhaps_variable f (Some p) = variable f p

-- an assignment
abbrev pub assigned : Option ℕ → RPlace → RExpr → List Flow
assigned f p e = goes (source f e) (variable f p)

abbrev pub declared : Option ℕ → RPlace → Option RExpr → List Flow
declared f p None = []
declared f p (Some e) = assigned f p e

-- the arguments from the i-th on go into the parameters of function g
abbrev pub passed : Option ℕ → ℕ → ℕ → List RExpr → List Flow
passed f g i [] = []
passed f g i (e ∷ es) = record { into = var.Local g i; from = source f e } ∷ passed f g (i + 1) es

-- a call: its arguments, and its answer
abbrev pub called : Option ℕ → Option PointerVar → ℕ → List RExpr → List Flow
called f v g es = passed f g 0 es ++ goes (source'.Variable (var.Answer g)) v

abbrev pub assignment : Option ℕ → Option RAssign → List Flow
assignment f None = []
assignment f (Some a) = assigned f a.place a.value

abbrev pub beginning : Option ℕ → Option RInit → List Flow
beginning f None = []
beginning f (Some (init.Declare a)) = assigned f a.place a.value
beginning f (Some (init.Set a)) = assigned f a.place a.value

-- one part after the other
abbrev pub all_flows : List (List Flow) → List Flow
all_flows [] = []
all_flows (fs ∷ more) = fs ++ all_flows more

-- the flows of a statement, from those of its parts
abbrev pub flows_at : Option ℕ → RStmt-F (List Flow) (List Flow) → List Flow
flows_at f (RStmt-F.Declare p e) = declared f p e
flows_at f (RStmt-F.Set p e) = assigned f p e
flows_at f (RStmt-F.Call p g es) = called f (perhaps_variable f p) g es
flows_at f (RStmt-F.Return e) = goes (source f e) (answer_of f)
flows_at f (RStmt-F.ReturnCall g es) = called f (answer_of f) g es
flows_at f (RStmt-F.If arms None) = all_flows arms
flows_at f (RStmt-F.If arms (Some s)) = all_flows arms ++ s
flows_at f (RStmt-F.While e s) = s
flows_at f (RStmt-F.Do s e) = s
flows_at f (RStmt-F.For i e u s) = beginning f i ++ (assignment f u ++ s)
flows_at f (RStmt-F.Block ss) = all_flows ss
flows_at f s = []

abbrev pub arm_flows_at : RArm-F (List Flow) (List Flow) → List Flow
arm_flows_at a = a.body

abbrev pub stmt_flows : Option ℕ → RStmt → List Flow
stmt_flows f = fold-RStmt (List Flow) (List Flow) (flows_at f) arm_flows_at

abbrev pub arm_flows : Option ℕ → RArm → List Flow
arm_flows f = fold-RArm (List Flow) (List Flow) (flows_at f) arm_flows_at

-- the bodies of the functions from the f-th on
abbrev pub function_flows : ℕ → List RFunction → List Flow
function_flows f [] = []
function_flows f (g ∷ gs) = stmt_flows (Some f) g.body ++ function_flows (f + 1) gs

-- the whole text
abbrev pub flows : Resolved → List Flow
flows p = stmt_flows None p.main.body ++ function_flows 0 p.functions
