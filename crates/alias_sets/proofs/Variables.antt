-- Variables that compare alike are one, and each has one place in a set of them.
use Rattle.std.proofs.Common.{◌≡◌, ℕ, ◌+◌, ◌<◌, ◌≤◌, Bool, true, List, [], ◌∷◌, ◌++◌, length, Option, Some, None, IfSome, position, get_or, if◌then◌else◌, refl, sym, ap, subst, ◌∙◌, arith, rules, inl, inr, zero, suc}
use Rattle.std.specs.List.{list_any, IsDistinct}
use Rattle.std.proofs.lemmas.Bool.{false≢true, cases_lt, cases_Bool, cases_eq, or_cases, eq-eqb}
use Rattle.std.proofs.lemmas.Option.{none-some, slice_get_within, slice_get-get_or, get_or_from_slice_get}
use Rattle.std.proofs.lemmas.List.Quantifiers.{position-Some}
use Rattle.std.proofs.lemmas.Map.Keys.{apart_from_distinct, any_passes_from_place}
use Rattle.alias_sets.specs.declared.flows.PointerVar.{PointerVar}
use Rattle.alias_sets.specs.declared.flows.PointerVar.TheVariants as var
use Rattle.alias_sets.specs.contracts.flows.PointerVarPartialEq.TheImpl.{eq-value as e}
use Rattle.alias_sets.specs.declared.flows.Source.{Source}
use Rattle.alias_sets.specs.declared.flows.Source.TheVariants as source'
use Rattle.alias_sets.specs.declared.flows.Flow.{Flow}
use Rattle.alias_sets.specs.Numbers.{IsNumber, IsNumbered, AreApart, Keeps, SourceNumbered, FlowNumbered, NumberedBelow, AllNumbered}

pub same_variable : (u v : PointerVar) → e.it u v ≡ true → u ≡ v
same_variable (var.Cell a) (var.Cell b) h = search rules
same_variable (var.Local f i) (var.Local g j) h = search rules
same_variable (var.Answer f) (var.Answer g) h = search rules
same_variable u v h = absurd (false≢true h)

pub same_as_itself : (u : PointerVar) → e.it u u ≡ true
same_as_itself (var.Cell a) = eq-eqb a a refl
same_as_itself (var.Local f i) = search rules
same_as_itself (var.Answer f) = eq-eqb f f refl

-- the place that is found is the variable's number
pub place_is_number : (vs : List PointerVar) (v : PointerVar) (n : ℕ) → position (e.it v) vs ≡ Some n → IsNumber vs v n
place_is_number vs v n h =
    let found = position-Some (e.it v) vs n v h in
    slice_get-get_or vs n v found.0 ∙ ap Some (sym (same_variable v (get_or vs n v) found.1))

-- a variable that has a number is among the keys
pub number_is_there : (vs : List PointerVar) (v : PointerVar) (n : ℕ) → IsNumber vs v n → list_any (e.it v) vs ≡ true
number_is_there vs v n h = any_passes_from_place (e.it v) vs n v h (same_as_itself v)

there_is_number : (vs : List PointerVar) (v : PointerVar) → list_any (e.it v) vs ≡ true → IsNumbered vs v
there_is_number [] v h = absurd (false≢true h)
there_is_number (u ∷ vs) v h = elim (or_cases (e.it v u) (list_any (e.it v) vs) h) [
  | inl a ↦ (0, ap Some (sym (same_variable v u a)))
  | inr b ↦ let r = there_is_number vs v b in (suc r.0, r.1)
]

-- numbers stay when a variable goes last
Keeps-push : (vs more : List PointerVar) → Keeps vs (vs ++ more)
Keeps-push [] more v n h = absurd (none-some v h)
Keeps-push (u ∷ vs) more v zero h = h
Keeps-push (u ∷ vs) more v (suc n) h = Keeps-push vs more v n h

last_number : (vs : List PointerVar) (v : PointerVar) → IsNumber (vs ++ v ∷ []) v (length vs)
last_number [] v = refl
last_number (u ∷ vs) v = last_number vs v

abbrev pub inserted : List PointerVar → PointerVar → Bool → List PointerVar
inserted vs v b = if b then vs else (vs ++ v ∷ [])

-- an inserted variable has a number, and the others keep theirs
pub is_inserted : (vs new : List PointerVar) (v : PointerVar) → new ≡ inserted vs v (list_any (e.it v) vs) → IsNumbered new v × Keeps vs new
is_inserted vs new v h = elim (cases_Bool (list_any (e.it v) vs)) [
  | inl t ↦ let same : vs ≡ new = sym (h ∙ ap (inserted vs v) t) in (subst (λ ks. IsNumbered ks v) same (there_is_number vs v t), subst (λ ks. Keeps vs ks) same (λ u n k. k))
  | inr f ↦ let more : vs ++ v ∷ [] ≡ new = sym (h ∙ ap (inserted vs v) f) in (subst (λ ks. IsNumbered ks v) more (length vs, last_number vs v), subst (λ ks. Keeps vs ks) more (Keeps-push vs (v ∷ [])))
]

-- of two places of one variable neither is before the other
not_before : (vs : List PointerVar) (v : PointerVar) (n m : ℕ) → IsDistinct e.it vs → IsNumber vs v n → IsNumber vs v m → n < m → ⊥
not_before vs v n m d hn hm l =
    let differ = apart_from_distinct e.it vs n m v d l (slice_get_within vs m v hm) in
    false≢true (sym differ ∙ (λ i. e.it (get_or_from_slice_get vs n v v hn i) (get_or_from_slice_get vs m v v hm i)) ∙ same_as_itself v)

-- distinct variables have one number each
pub apart : (vs : List PointerVar) → IsDistinct e.it vs → AreApart vs
apart vs d v n m hn hm =
    let low = not_before vs v n m d hn hm in
    let high = not_before vs v m n d hm hn in
    elim (cases_eq n m) [ inl same ↦ same | inr other ↦ elim (cases_lt n m) [ inl l ↦ absurd (low l) | inr l ↦ absurd (high (omega arith)) ] ]

source_keeps : (vs new : List PointerVar) (s : Source) → Keeps vs new → SourceNumbered vs s → SourceNumbered new s
source_keeps vs new source'.Nothing k h = tt
source_keeps vs new (source'.Object o) k h = tt
source_keeps vs new (source'.Variable v) k h = (h.0, k v h.0 h.1)

-- flows whose variables have numbers still have them when numbers are kept
pub flow_keeps : (vs new : List PointerVar) (f : Flow) → Keeps vs new → FlowNumbered vs f → FlowNumbered new f
flow_keeps vs new f k h = ((h.0.0, k f.into h.0.0 h.0.1), source_keeps vs new f.from k h.1)

pub below_keeps : (vs new : List PointerVar) (fs : List Flow) (i : ℕ) (d : Flow) → Keeps vs new → NumberedBelow vs fs i → FlowNumbered new (get_or fs i d) → NumberedBelow new fs (i + 1)
below_keeps vs new fs i d keeps below here k g l h = elim (cases_eq k i) [
  | inl same ↦ subst (FlowNumbered new) (ap (λ j. get_or fs j d) (sym same) ∙ get_or_from_slice_get fs k g d h) here
  | inr other ↦ flow_keeps vs new g keeps (below k g (omega arith) h)
]

pub all_numbered : (vs : List PointerVar) (fs : List Flow) (i : ℕ) → length fs ≤ i → NumberedBelow vs fs i → AllNumbered vs fs
all_numbered vs fs i l below k f h = let within = slice_get_within fs k f h in below k f (omega arith) h

pub found_number : (vs : List PointerVar) (v : PointerVar) (found : Option ℕ) → found ≡ position (e.it v) vs → IfSome found (IsNumber vs v)
found_number vs v None h = tt
found_number vs v (Some n) h = place_is_number vs v n (sym h)
