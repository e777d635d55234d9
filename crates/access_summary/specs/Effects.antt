-- What statements may read and write, and which functions they call: the effects, in the order of the text.
use Rattle.std.specs.Prelude.{ℕ, pos, List, [], ◌∷◌, ◌++◌, Option, Some, None}
use Rattle.c_tree.specs.declared.resolved.Direction.{Direction}
use Rattle.c_tree.specs.declared.resolved.Direction.TheVariants.{Forward}
use Rattle.c_tree.specs.declared.resolved.RExpr.{RExpr}
use Rattle.c_tree.specs.declared.resolved.RExpr.TheOpen.{RExpr-F}
use Rattle.c_tree.specs.declared.resolved.RExpr.TheFolds.{fold-RExpr}
use Rattle.c_tree.specs.declared.resolved.RPlace.{RPlace}
use Rattle.c_tree.specs.declared.resolved.RPlace.TheVariants as place
use Rattle.c_tree.specs.declared.resolved.RAssign.{RAssign}
use Rattle.c_tree.specs.declared.resolved.RInit.{RInit}
use Rattle.c_tree.specs.declared.resolved.RInit.TheVariants as init
use Rattle.c_tree.specs.declared.resolved.RArm.{RArm}
use Rattle.c_tree.specs.declared.resolved.RStmt.{RStmt}
use Rattle.c_tree.specs.declared.resolved.RStmt.TheOpen.{RStmt-F, RArm-F}
use Rattle.c_tree.specs.declared.resolved.RStmt.TheFolds.{fold-RStmt, fold-RArm}
use Rattle.alias_sets.specs.declared.flows.PointerVar.TheVariants as var
use Rattle.alias_sets.specs.declared.flows.Source.{Source}
use Rattle.alias_sets.specs.declared.flows.Source.TheVariants as source'
use Rattle.alias_sets.specs.Flows.{local_of, variable_source}
use Rattle.access_summary.specs.declared.effects.Named.{Named}
use Rattle.access_summary.specs.declared.effects.Named.TheVariants as named'
use Rattle.access_summary.specs.declared.effects.Target.{Target}
use Rattle.access_summary.specs.declared.effects.Target.TheVariants as target'
use Rattle.access_summary.specs.declared.effects.Effect.{Effect}
use Rattle.access_summary.specs.declared.effects.Effect.TheVariants as effect

-- ---- what a pointer names, by the text alone

-- where the value comes from
abbrev pub source_in : Named → Source
source_in (named'.Number k) = source'.Nothing
source_in (named'.Object o) = source'.Object o
source_in (named'.Element o k) = source'.Object o
source_in (named'.From s) = s

-- an object moved forward by a number of the text is at one place; any other move may be to any place
abbrev pub moved : Direction → Named → Named → Named
moved Forward (named'.Object o) (named'.Number k) = named'.Element o k
moved d p n = named'.From (source_in p)

-- what an access through the pointer may touch
abbrev pub target : Named → Target
target (named'.Number k) = target'.Objects source'.Nothing
target (named'.Object o) = target'.Element o (pos 0)
target (named'.Element o k) = target'.Element o k
target (named'.From s) = target'.Objects s

-- ---- expressions

-- what an expression names, and the effects of evaluating it
pub record Seen : Type 0 where
  pub named : Named
  pub effects : List Effect

-- a number that is not written as one
abbrev pub computed : List Effect → Seen
computed es = record { named = named'.From source'.Nothing; effects = es }

abbrev pub seen_at : Option ℕ → RExpr-F Seen → Seen
seen_at f (RExpr-F.Num k) = record { named = named'.Number k; effects = [] }
seen_at f (RExpr-F.Cell c) = record { named = named'.From (source'.Variable (var.Cell c)); effects = effect.Read (target'.Cell c) ∷ [] }
seen_at f (RExpr-F.Local i) = record { named = named'.From (variable_source (local_of f i)); effects = [] }
seen_at f (RExpr-F.Object o) = record { named = named'.Object o; effects = [] }
seen_at f RExpr-F.Null = computed []
seen_at f (RExpr-F.Unary op x) = computed x.effects
seen_at f (RExpr-F.Binary op x y) = computed (x.effects ++ y.effects)
seen_at f (RExpr-F.And x y) = computed (x.effects ++ y.effects)
seen_at f (RExpr-F.Or x y) = computed (x.effects ++ y.effects)
seen_at f (RExpr-F.Move p n d) = record { named = moved d p.named n.named; effects = p.effects ++ n.effects }
seen_at f (RExpr-F.Fetch p) = computed (p.effects ++ effect.Read (target p.named) ∷ [])

-- an expression of a function, or of `main` for none
abbrev pub seen : Option ℕ → RExpr → Seen
seen f = fold-RExpr Seen (seen_at f)

abbrev pub expr_effects : Option ℕ → RExpr → List Effect
expr_effects f e = (seen f e).effects

abbrev pub all_effects : Option ℕ → List RExpr → List Effect
all_effects f [] = []
all_effects f (e ∷ es) = expr_effects f e ++ all_effects f es

-- an absent condition reads nothing
abbrev pub test_effects : Option ℕ → Option RExpr → List Effect
test_effects f None = []
test_effects f (Some e) = expr_effects f e

-- ---- places

-- those of the pointer of a place
abbrev pub pointer_effects : Option ℕ → RPlace → List Effect
pointer_effects f (place.Cell c) = []
pointer_effects f (place.Local i) = []
pointer_effects f (place.At p) = expr_effects f p

-- the write of a place; a local of a function is no cell
abbrev pub written : Option ℕ → RPlace → List Effect
written f (place.Cell c) = effect.Write (target'.Cell c) ∷ []
written f (place.Local i) = []
written f (place.At p) = effect.Write (target (seen f p).named) ∷ []

abbrev pub perhaps_written : Option Target → List Effect
perhaps_written None = []
perhaps_written (Some t) = effect.Write t ∷ []

-- a value with these effects is stored
abbrev pub stored : Option ℕ → RPlace → List Effect → List Effect
stored f p es = pointer_effects f p ++ (es ++ written f p)

abbrev pub perhaps_stored : Option ℕ → Option RPlace → List Effect → List Effect
perhaps_stored f None es = es
perhaps_stored f (Some p) es = stored f p es

-- ---- statements

abbrev pub assign_effects : Option ℕ → RAssign → List Effect
assign_effects f a = stored f a.place (expr_effects f a.value)

abbrev pub update_effects : Option ℕ → Option RAssign → List Effect
update_effects f None = []
update_effects f (Some a) = assign_effects f a

abbrev pub init_effects : Option ℕ → Option RInit → List Effect
init_effects f None = []
init_effects f (Some (init.Declare a)) = assign_effects f a
init_effects f (Some (init.Set a)) = assign_effects f a

-- what a `for` does beside its body
abbrev pub head_effects : Option ℕ → Option RInit → Option RExpr → Option RAssign → List Effect
head_effects f i e u = init_effects f i ++ (test_effects f e ++ update_effects f u)

abbrev pub call_effects : Option ℕ → ℕ → List RExpr → List Effect
call_effects f g es = all_effects f es ++ effect.Call g ∷ []

-- one part after the other
abbrev pub all_parts : List (List Effect) → List Effect
all_parts [] = []
all_parts (es ∷ more) = es ++ all_parts more

-- the effects of a statement, from those of its parts
abbrev pub effects_at : Option ℕ → RStmt-F (List Effect) (List Effect) → List Effect
effects_at f (RStmt-F.Declare p e) = stored f p (test_effects f e)
effects_at f (RStmt-F.Set p e) = stored f p (expr_effects f e)
effects_at f (RStmt-F.Call p g es) = perhaps_stored f p (call_effects f g es)
effects_at f (RStmt-F.Input p) = perhaps_stored f p []
effects_at f (RStmt-F.Return e) = expr_effects f e
effects_at f (RStmt-F.ReturnCall g es) = call_effects f g es
effects_at f (RStmt-F.Put e) = expr_effects f e
effects_at f (RStmt-F.Print ps es) = all_effects f es
effects_at f (RStmt-F.If arms None) = all_parts arms
effects_at f (RStmt-F.If arms (Some s)) = all_parts arms ++ s
effects_at f (RStmt-F.While e s) = expr_effects f e ++ s
effects_at f (RStmt-F.Do s e) = s ++ expr_effects f e
effects_at f (RStmt-F.For i e u s) = head_effects f i e u ++ s
effects_at f (RStmt-F.Block ss) = all_parts ss
effects_at f s = []

abbrev pub arm_effects_at : Option ℕ → RArm-F (List Effect) (List Effect) → List Effect
arm_effects_at f a = expr_effects f a.test ++ a.body

abbrev pub stmt_effects : Option ℕ → RStmt → List Effect
stmt_effects f = fold-RStmt (List Effect) (List Effect) (effects_at f) (arm_effects_at f)

abbrev pub arm_effects : Option ℕ → RArm → List Effect
arm_effects f = fold-RArm (List Effect) (List Effect) (effects_at f) (arm_effects_at f)
