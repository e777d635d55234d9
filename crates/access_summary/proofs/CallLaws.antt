-- The calls of a program are the edges of its graph of calls.
use Rattle.std.proofs.Common.{◌≡◌, ℕ, ◌+◌, ◌<◌, ◌≤◌, ◌⊎◌, List, [], length, Some, slice_get, get_or, refl, sym, ap, ◌∙◌, arith, inl, inr}
use Rattle.std.proofs.lemmas.Bool.{cases_eq, cases_lt, false≢true}
use Rattle.std.proofs.lemmas.List.{get_or_past}
use Rattle.std.proofs.lemmas.Option.{slice_get_within, none-some}
use Rattle.access_summary.specs.declared.effects.Effect.{Effect}
use Rattle.access_summary.specs.declared.effects.Effect.TheVariants as effect
use Rattle.access_summary.specs.Summaries.{body_of, Calls}
use Rattle.access_summary.specs.CallEdges.{IsCall, HasCall, CallsBelow, AddsEdges, AreCalls}
use Rattle.access_summary.proofs.Adding.{Among, one_more, one_less}

AddsEdges-same : (old new : List (ℕ × ℕ)) (P Q : ℕ → ℕ → Type 0) → ((n m : ℕ) → P n m → Q n m) → ((n m : ℕ) → Q n m → P n m) → AddsEdges old new P → AddsEdges old new Q
AddsEdges-same old new P Q to from h = record {
  kept = h.kept;
  added = λ n m q. h.added n m (from n m q);
  only = λ n m x. elim (h.only n m x) [ inl o ↦ inl o | inr p ↦ inr (to n m p) ];
}

AddsEdges-then : (old mid new : List (ℕ × ℕ)) (P Q : ℕ → ℕ → Type 0) → AddsEdges old mid P → AddsEdges mid new Q → AddsEdges old new (λ n m. P n m ⊎ Q n m)
AddsEdges-then old mid new P Q a b = record {
  kept = λ n m h. b.kept n m (a.kept n m h);
  added = λ n m e. elim e [ inl p ↦ b.kept n m (a.added n m p) | inr q ↦ b.added n m q ];
  only = λ n m h. elim (b.only n m h) [ inl x ↦ elim (a.only n m x) [ inl o ↦ inl o | inr p ↦ inr (inl p) ] | inr q ↦ inr (inr q) ];
}

-- ---- the effects of one function

pub effects_step : (caller count : ℕ) (es : List Effect) (i : ℕ) (d : Effect) (first old new : List (ℕ × ℕ)) → i < length es → AddsEdges first old (λ n m. Among (λ e. IsCall caller count e n m) es i) →
    AddsEdges old new (IsCall caller count (get_or es i d)) → AddsEdges first new (λ n m. Among (λ e. IsCall caller count e n m) es (i + 1))
effects_step caller count es i d first old new l h k =
    AddsEdges-same first new _ _ (λ n m. one_more (λ e. IsCall caller count e n m) es i d l) (λ n m. one_less (λ e. IsCall caller count e n m) es i d) (AddsEdges-then first old new _ _ h k)

pub effects_end : (caller count : ℕ) (es : List Effect) (i : ℕ) (first new : List (ℕ × ℕ)) → length es ≤ i → AddsEdges first new (λ n m. Among (λ e. IsCall caller count e n m) es i) → AddsEdges first new (HasCall caller count es)
effects_end caller count es i first new l =
    AddsEdges-same first new _ _ (λ n m b. (b.0, b.1, b.3, b.4)) (λ n m t. let lt = slice_get_within es t.0 t.1 t.2 in (t.0, t.1, omega arith, t.2, t.3))

-- ---- all functions

-- only a function calls
pub calls_within : (bs : List (List Effect)) (f g : ℕ) → Calls bs f g → f < length bs
calls_within bs f g h = elim (cases_lt f (length bs)) [ inl l ↦ l | inr past ↦ absurd (none-some (effect.Call g) (ap (λ es. slice_get es h.0) (sym (get_or_past bs f [] past)) ∙ h.1)) ]

one_function_more : (bs : List (List Effect)) (count caller i : ℕ) (es : List Effect) → caller ≡ i → es ≡ body_of bs i → (n m : ℕ) → CallsBelow bs count i n m ⊎ HasCall caller count es n m → CallsBelow bs count (i + 1) n m
one_function_more bs count caller i es at is n m h = elim h [
  | inl b ↦ let lt = b.0 in (omega arith, b.1, b.2)
  | inr c ↦ let here : n ≡ i = c.3.0 ∙ at in (omega arith, c.3.1, (c.0, ap (λ j. slice_get (body_of bs j) c.0) here ∙ ap (λ xs. slice_get xs c.0) (sym is) ∙ c.2 ∙ ap Some c.3.2))
]

one_function_less : (bs : List (List Effect)) (count caller i : ℕ) (es : List Effect) → caller ≡ i → es ≡ body_of bs i → (n m : ℕ) → CallsBelow bs count (i + 1) n m → CallsBelow bs count i n m ⊎ HasCall caller count es n m
one_function_less bs count caller i es at is n m b = let lt = b.0 in elim (cases_eq n i) [
  | inl here ↦ inr (b.2.0, effect.Call m, ap (λ xs. slice_get xs b.2.0) (is ∙ ap (body_of bs) (sym here)) ∙ b.2.1, (here ∙ sym at, b.1, refl))
  | inr other ↦ inl (omega arith, b.1, b.2)
]

pub functions_step : (bs : List (List Effect)) (count caller i : ℕ) (es : List Effect) (first old new : List (ℕ × ℕ)) → caller ≡ i → es ≡ body_of bs i → AddsEdges first old (CallsBelow bs count i) → AddsEdges old new (HasCall caller count es) →
    AddsEdges first new (CallsBelow bs count (i + 1))
functions_step bs count caller i es first old new at is h k = AddsEdges-same first new _ _ (one_function_more bs count caller i es at is) (one_function_less bs count caller i es at is) (AddsEdges-then first old new _ _ h k)

pub functions_end : (bs : List (List Effect)) (i : ℕ) (edges : List (ℕ × ℕ)) → length bs ≤ i → AddsEdges [] edges (CallsBelow bs (length bs) i) → AreCalls bs edges
functions_end bs i edges l h = record {
  added = λ n m b. let lt = b.0 in h.added n m (omega arith, b.1, b.2);
  only = λ n m x. elim (h.only n m x) [ inl none ↦ absurd (false≢true none) | inr b ↦ (calls_within bs n m b.2, b.1, b.2) ];
}
