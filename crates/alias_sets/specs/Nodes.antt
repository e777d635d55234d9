-- The flows of a text as a graph: its nodes are the numbers of variables, its edges lead from a variable to one that flows into it.
use Rattle.std.specs.Prelude.{◌≡◌, ℕ, ◌<◌, true, List, Some, slice_get}
use Rattle.cell_sets.specs.Sets.{Cells}
use Rattle.path_laws.specs.Reaching.{joins, in_row}
use Rattle.alias_sets.specs.declared.flows.PointerVar.{PointerVar}
use Rattle.alias_sets.specs.declared.flows.Source.{Source}
use Rattle.alias_sets.specs.declared.flows.Source.TheVariants as source'
use Rattle.alias_sets.specs.declared.flows.Flow.{Flow}
use Rattle.alias_sets.specs.Numbers.{IsNumber}

-- the flow is one from variable number m into variable number n
abbrev pub IsEdgeOf : List PointerVar → Flow → ℕ → ℕ → Type 0
IsEdgeOf vs f n m = (u : PointerVar) × (f.from ≡ source'.Variable u) × IsNumber vs f.into n × IsNumber vs u m

-- the flow is one from object o into variable number n
abbrev pub IsGoalOf : List PointerVar → Flow → ℕ → ℕ → Type 0
IsGoalOf vs f n o = (f.from ≡ source'.Object o) × IsNumber vs f.into n

-- the edges are those of the flows below place i
pub record AreEdgesBelow (vs : List PointerVar) (fs : List Flow) (i : ℕ) (edges : List (ℕ × ℕ)) : Type 0 where
  pub added : (k : ℕ) (f : Flow) → k < i → slice_get fs k ≡ Some f → (n m : ℕ) → IsEdgeOf vs f n m → joins edges n m ≡ true
  pub only : (n m : ℕ) → joins edges n m ≡ true → (k : ℕ) × (f : Flow) × (slice_get fs k ≡ Some f) × IsEdgeOf vs f n m

-- the goals are those of the flows below place i
pub record AreGoalsBelow (vs : List PointerVar) (fs : List Flow) (i : ℕ) (goals : List Cells) : Type 0 where
  pub added : (k : ℕ) (f : Flow) → k < i → slice_get fs k ≡ Some f → (n o : ℕ) → IsGoalOf vs f n o → in_row goals n o ≡ true
  pub only : (n o : ℕ) → in_row goals n o ≡ true → (k : ℕ) × (f : Flow) × (slice_get fs k ≡ Some f) × IsGoalOf vs f n o

-- an object that the source is, is below the width
abbrev pub IsBelow : ℕ → Source → Type 0
IsBelow width source'.Nothing = Unit {0}
IsBelow width (source'.Object o) = o < width
IsBelow width (source'.Variable v) = Unit {0}

abbrev pub AreBelow : ℕ → List Flow → Type 0
AreBelow width fs = (k : ℕ) (f : Flow) → slice_get fs k ≡ Some f → IsBelow width f.from
