-- Edges and goals, one flow after the other.
use Rattle.std.proofs.Common.{◌≡◌, ℕ, ◌+◌, ◌<◌, ◌≤◌, ◌⊎◌, true, List, length, Some, slice_get, get_or, sym, ap, subst, ◌∙◌, arith, inl, inr}
use Rattle.std.proofs.lemmas.Bool.{cases_eq}
use Rattle.std.proofs.lemmas.Option.{slice_get-get_or, get_or_from_slice_get}
use Rattle.cell_sets.specs.Sets.{Cells}
use Rattle.path_laws.specs.Reaching.{joins, in_row}
use Rattle.alias_sets.specs.declared.flows.PointerVar.{PointerVar}
use Rattle.alias_sets.specs.declared.flows.Flow.{Flow}
use Rattle.alias_sets.specs.Nodes.{IsEdgeOf, IsGoalOf, AreEdgesBelow, AreGoalsBelow}

-- what holds of a flow of the list holds of the one that is read there
pub at_place : (P : Flow → Type 0) (fs : List Flow) (i : ℕ) (d : Flow) → ((k : ℕ) (f : Flow) → slice_get fs k ≡ Some f → P f) → i < length fs → P (get_or fs i d)
at_place P fs i d all l = all i (get_or fs i d) (slice_get-get_or fs i d l)

-- the flow at place i is the one that is read there
read_at : (fs : List Flow) (i k : ℕ) (f d : Flow) → k ≡ i → slice_get fs k ≡ Some f → get_or fs i d ≡ f
read_at fs i k f d same h = ap (λ j. get_or fs j d) (sym same) ∙ get_or_from_slice_get fs k f d h

pub edges_step : (vs : List PointerVar) (fs : List Flow) (i : ℕ) (d : Flow) (old new : List (ℕ × ℕ)) → i < length fs → AreEdgesBelow vs fs i old →
    ((n m : ℕ) → joins old n m ≡ true → joins new n m ≡ true) → ((n m : ℕ) → IsEdgeOf vs (get_or fs i d) n m → joins new n m ≡ true) →
    ((n m : ℕ) → joins new n m ≡ true → (joins old n m ≡ true) ⊎ IsEdgeOf vs (get_or fs i d) n m) → AreEdgesBelow vs fs (i + 1) new
edges_step vs fs i d old new l below kept added only = record {
  added = λ k f lk h n m e. elim (cases_eq k i) [
    | inl same ↦ added n m (subst (λ g. IsEdgeOf vs g n m) (sym (read_at fs i k f d same h)) e)
    | inr other ↦ kept n m (below.added k f (omega arith) h n m e)
  ];
  only = λ n m j. elim (only n m j) [ inl o ↦ below.only n m o | inr e ↦ (i, get_or fs i d, slice_get-get_or fs i d l, e) ];
}

pub goals_step : (vs : List PointerVar) (fs : List Flow) (i : ℕ) (d : Flow) (old new : List Cells) → i < length fs → AreGoalsBelow vs fs i old →
    ((n o : ℕ) → in_row old n o ≡ true → in_row new n o ≡ true) → ((n o : ℕ) → IsGoalOf vs (get_or fs i d) n o → in_row new n o ≡ true) →
    ((n o : ℕ) → in_row new n o ≡ true → (in_row old n o ≡ true) ⊎ IsGoalOf vs (get_or fs i d) n o) → AreGoalsBelow vs fs (i + 1) new
goals_step vs fs i d old new l below kept added only = record {
  added = λ k f lk h n o e. elim (cases_eq k i) [
    | inl same ↦ added n o (subst (λ g. IsGoalOf vs g n o) (sym (read_at fs i k f d same h)) e)
    | inr other ↦ kept n o (below.added k f (omega arith) h n o e)
  ];
  only = λ n o j. elim (only n o j) [ inl b ↦ below.only n o b | inr e ↦ (i, get_or fs i d, slice_get-get_or fs i d l, e) ];
}

-- all flows are below a place at the end
pub edges_end : (vs : List PointerVar) (fs : List Flow) (i : ℕ) (edges : List (ℕ × ℕ)) → length fs ≤ i → AreEdgesBelow vs fs i edges → AreEdgesBelow vs fs (length fs) edges
edges_end vs fs i edges l below = record { added = λ k f lk h. below.added k f (omega arith) h; only = below.only }

pub goals_end : (vs : List PointerVar) (fs : List Flow) (i : ℕ) (goals : List Cells) → length fs ≤ i → AreGoalsBelow vs fs i goals → AreGoalsBelow vs fs (length fs) goals
goals_end vs fs i goals l below = record { added = λ k f lk h. below.added k f (omega arith) h; only = below.only }
