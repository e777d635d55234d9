-- Which objects a variable may hold, and a pointer expression may name.
use Rattle.std.specs.Prelude.{◌≡◌, ◌↔◌, ℕ, true, List, [], ◌∷◌, Option, Some, slice_get}
use Rattle.cell_sets.specs.Sets.{Cells}
use Rattle.path_laws.specs.Reaching.{in_row}
use Rattle.c_tree.specs.declared.resolved.RExpr.{RExpr}
use Rattle.c_tree.specs.declared.resolved.Resolved.{Resolved}
use Rattle.alias_sets.specs.declared.flows.PointerVar.{PointerVar}
use Rattle.alias_sets.specs.declared.flows.Source.{Source}
use Rattle.alias_sets.specs.declared.flows.Source.TheVariants as source'
use Rattle.alias_sets.specs.declared.flows.Flow.{Flow}
use Rattle.alias_sets.specs.Flows.{source, flows}

-- the text has a flow from a source into a variable
abbrev pub HasFlow : List Flow → PointerVar → Source → Type 0
HasFlow fs v s = (k : ℕ) × (slice_get fs k ≡ Some (record { into = v; from = s }))

-- a chain of flows through the variables of the list leads from the address of object o to v
abbrev pub IsChain : List Flow → PointerVar → List PointerVar → ℕ → Type 0
IsChain fs v [] o = HasFlow fs v (source'.Object o)
IsChain fs v (u ∷ w) o = HasFlow fs v (source'.Variable u) × IsChain fs u w o

-- some chain of flows leads from the address of object o to v
abbrev pub HasChain : List Flow → PointerVar → ℕ → Type 0
HasChain fs v o = (w : List PointerVar) × IsChain fs v w o

-- variable v may hold a pointer to object o
abbrev pub MayHold : Resolved → PointerVar → ℕ → Type 0
MayHold p v o = HasChain (flows p) v o

abbrev pub MayCome : Resolved → Source → ℕ → Type 0
MayCome p source'.Nothing o = ⊥
MayCome p (source'.Object q) o = q ≡ o
MayCome p (source'.Variable v) o = MayHold p v o

-- a pointer expression of a function, or of `main`, may give a pointer to object o
abbrev pub MayGive : Resolved → Option ℕ → RExpr → ℕ → Type 0
MayGive p f e o = MayCome p (source f e) o

-- ---- what was found

-- variables, and for each of them a row of objects
pub record PointsView : Type 0 where
  pub variables : List PointerVar
  pub rows : List Cells

-- the row of v has object o
abbrev pub Holds : PointsView → PointerVar → ℕ → Type 0
Holds s v o = (n : ℕ) × (slice_get s.variables n ≡ Some v) × (in_row s.rows n o ≡ true)

-- the rows have exactly the objects from which chains of the flows lead to their variables
abbrev pub AreChains : List Flow → PointsView → Type 0
AreChains fs s = (v : PointerVar) (o : ℕ) → Holds s v o ↔ HasChain fs v o

-- what was found is what the program's variables may hold
abbrev pub ArePointsOf : Resolved → PointsView → Type 0
ArePointsOf p s = (v : PointerVar) (o : ℕ) → Holds s v o ↔ MayHold p v o
