-- Rising runs that have one cell together.
use Rattle.std.proofs.Common.{◌≡◌, ◌≢◌, ℕ, ◌+◌, ◌<◌, ◌≤◌, true, false, ltb, leb, List, [], ◌∷◌, length, get_or, refl, sym, ap, ◌∙◌, arith, inl, inr}
use Rattle.std.proofs.lemmas.Bool.{cases_eq, false≢true, or_cases, or_left, or_right, and_parts, and_from, ltb-true, leb-true, lt-ltb, le-leb}
use Rattle.cell_sets.specs.declared.runs.Run.{Run}
use Rattle.cell_sets.specs.Sets.{Cells, has}
use Rattle.cell_sets.specs.Runs.{in_run, in_runs, IsRising}
use Rattle.flow_graph.specs.EffectCells.{HasOnly}

in_first : (r : Run) (rs : List Run) (q : ℕ) → r.first ≤ q → q < r.first + r.count → in_runs (r ∷ rs) q ≡ true
in_first r rs q a b = or_left (in_run r q) (in_runs rs q) (and_from (leb r.first q) (ltb q (r.first + r.count)) (le-leb r.first q a) (lt-ltb q (r.first + r.count) b))

in_second : (r s : Run) (rs : List Run) (q : ℕ) → s.first ≤ q → q < s.first + s.count → in_runs (r ∷ s ∷ rs) q ≡ true
in_second r s rs q a b = or_right (in_run r q) (in_runs (s ∷ rs) q) (in_first s rs q a b)

-- where two cells are in, another one than c is in
other_of_two : (rs : List Run) (x y c : ℕ) → x < y → in_runs rs x ≡ true → in_runs rs y ≡ true → (d : ℕ) × (in_runs rs d ≡ true) × (d ≢ c)
other_of_two rs x y c l hx hy = elim (cases_eq x c) [ inl e ↦ (y, hy, λ z. omega arith) | inr ne ↦ (x, hx, ne) ]

pub one_cell : (rs : List Run) (r : Run) → rs ≡ r ∷ [] → r.count ≡ 1 → (c : ℕ) × (in_runs rs c ≡ true) × ((d : ℕ) → in_runs rs d ≡ true → d ≡ c)
one_cell rs r is one = (
  r.first,
  ap (λ x. in_runs x r.first) is ∙ in_first r [] r.first (omega arith) (omega arith),
  λ d h. elim (or_cases (in_run r d) false (sym (ap (λ x. in_runs x d) is) ∙ h)) [
    | inl i ↦ let b = and_parts (leb r.first d) (ltb d (r.first + r.count)) i in let a = leb-true r.first d b.0 in let z = ltb-true d (r.first + r.count) b.1 in omega arith
    | inr none ↦ absurd (false≢true none)
  ],
)

pub other_cell : (rs : List Run) (high : ℕ) → IsRising 0 rs high → ((r : Run) → rs ≡ r ∷ [] → r.count ≢ 1) → (c : ℕ) → in_runs rs c ≡ true → (d : ℕ) × (in_runs rs d ≡ true) × (d ≢ c)
other_cell [] high rising not_one c h = absurd (false≢true h)
other_cell (r ∷ []) high rising not_one c h =
    let n = not_one r refl in let some = rising.1 in let more : 1 < r.count = omega arith in
    other_of_two (r ∷ []) r.first (r.first + 1) c (omega arith) (in_first r [] r.first (omega arith) (omega arith)) (in_first r [] (r.first + 1) (omega arith) (omega arith))
other_cell (r ∷ s ∷ rs) high rising not_one c h =
    let a = rising.1 in let b = rising.2.0 in let z = rising.2.1 in
    other_of_two (r ∷ s ∷ rs) r.first s.first c (omega arith) (in_first r (s ∷ rs) r.first (omega arith) (omega arith)) (in_second r s rs s.first (omega arith) (omega arith))

-- one run is its first one
pub first_alone : (rs : List Run) (d : Run) → length rs ≡ 1 → rs ≡ get_or rs 0 d ∷ []
first_alone [] d e = absurd (omega arith)
first_alone (r ∷ []) d e = refl
first_alone (r ∷ s ∷ rs) d e = absurd (omega arith)

-- a set whose runs have another cell beside each has no cell alone
pub none_alone : (set : Cells) (rs seen : List Run) → seen ≡ rs → ((q : ℕ) → in_runs rs q ≡ has set q) → ((c : ℕ) → in_runs seen c ≡ true → (d : ℕ) × (in_runs seen d ≡ true) × (d ≢ c)) → (c : ℕ) → HasOnly set c → ⊥
none_alone set rs seen same is other c o =
    let d = other c (ap (λ x. in_runs x c) same ∙ is c ∙ o.0) in
    d.2 (o.1 d.0 (sym (is d.0) ∙ sym (ap (λ x. in_runs x d.0) same) ∙ d.1))
