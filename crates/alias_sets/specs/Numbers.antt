-- Numbers of variables: places in a list.
use Rattle.std.specs.Prelude.{◌≡◌, ℕ, ◌<◌, List, Some, slice_get}
use Rattle.alias_sets.specs.declared.flows.PointerVar.{PointerVar}
use Rattle.alias_sets.specs.declared.flows.Source.{Source}
use Rattle.alias_sets.specs.declared.flows.Source.TheVariants as source'
use Rattle.alias_sets.specs.declared.flows.Flow.{Flow}

-- n is the number of variable v
abbrev pub IsNumber : List PointerVar → PointerVar → ℕ → Type 0
IsNumber vs v n = slice_get vs n ≡ Some v

-- no variable has two numbers
abbrev pub AreApart : List PointerVar → Type 0
AreApart vs = (v : PointerVar) (n m : ℕ) → IsNumber vs v n → IsNumber vs v m → n ≡ m

-- the variable has a number
abbrev pub IsNumbered : List PointerVar → PointerVar → Type 0
IsNumbered vs v = (n : ℕ) × IsNumber vs v n

-- each number stays that of its variable
abbrev pub Keeps : List PointerVar → List PointerVar → Type 0
Keeps old new = (v : PointerVar) (n : ℕ) → IsNumber old v n → IsNumber new v n

abbrev pub SourceNumbered : List PointerVar → Source → Type 0
SourceNumbered vs source'.Nothing = Unit {0}
SourceNumbered vs (source'.Object o) = Unit {0}
SourceNumbered vs (source'.Variable v) = IsNumbered vs v

-- both variables of a flow have numbers
abbrev pub FlowNumbered : List PointerVar → Flow → Type 0
FlowNumbered vs f = IsNumbered vs f.into × SourceNumbered vs f.from

-- so have those of the flows below place i
abbrev pub NumberedBelow : List PointerVar → List Flow → ℕ → Type 0
NumberedBelow vs fs i = (k : ℕ) (f : Flow) → k < i → slice_get fs k ≡ Some f → FlowNumbered vs f

-- and those of all flows
abbrev pub AllNumbered : List PointerVar → List Flow → Type 0
AllNumbered vs fs = (k : ℕ) (f : Flow) → slice_get fs k ≡ Some f → FlowNumbered vs f
