-- Rows by nodes.
use Rattle.std.proofs.Common.{ℕ, ◌+◌, ◌<◌, ◌≤◌, ◌≡◌, Bool, true, false, List, [], ◌∷◌, ◌++◌, length, length-append, arith, subst, sym, ap, ◌∙◌, refl, ◌&&◌, ◌||◌, eqb, ltb, inl, inr, zero, suc}
use Rattle.std.proofs.lemmas.Bool.{cases_lt, cases_eq, eq-eqb, ne_eqb, lt-ltb}
use Rattle.std.proofs.lemmas.Bool.Decides.{nat_tests}
use Rattle.cell_sets.specs.Sets.{Cells, has}
use Rattle.path_laws.specs.Reaching.{in_row, AllWide}
use Rattle.exclusion_equations.specs.Rows.{AreRows}

in_row-push : (rows : List Cells) (row : Cells) (n k : ℕ) → n < length rows → in_row (rows ++ row ∷ []) n k ≡ in_row rows n k
in_row-push [] row n k l = absurd (omega arith)
in_row-push (r ∷ rows) row zero k l = refl
in_row-push (r ∷ rows) row (suc n) k l = in_row-push rows row n k (omega arith)

in_row-push_at : (rows : List Cells) (row : Cells) (n k : ℕ) → n ≡ length rows → in_row (rows ++ row ∷ []) n k ≡ has row k
in_row-push_at [] row n k e = ap (λ j. in_row (row ∷ []) j k) e
in_row-push_at (r ∷ rows) row zero k e = absurd (omega arith)
in_row-push_at (r ∷ rows) row (suc n) k e = in_row-push_at rows row n k (omega arith)

wide_push : (width : ℕ) (rows : List Cells) (row : Cells) → AllWide width rows → length row ≡ width → AllWide width (rows ++ row ∷ [])
wide_push width [] row h e zero l = e
wide_push width [] row h e (suc n) l = absurd (omega arith)
wide_push width (r ∷ rows) row h e zero l = h 0 (omega arith)
wide_push width (r ∷ rows) row h e (suc n) l = wide_push width rows row (λ n l. h (suc n) (omega arith)) e n (omega arith)

-- no rows yet
pub rows_none : (width : ℕ) (test : ℕ → ℕ → Bool) → AreRows width 0 test []
rows_none width test = record { rows_len = refl; wide = λ n l. absurd (omega arith); each = λ n k l m. absurd (omega arith) }

-- one more row
pub rows_push : (width count : ℕ) (test : ℕ → ℕ → Bool) (rows : List Cells) (row : Cells) → AreRows width count test rows → length row ≡ width → ((k : ℕ) → k < width → has row k ≡ test count k) → AreRows width (count + 1) test (rows ++ row ∷ [])
rows_push width count test rows row h e is = record {
  rows_len = omega (arith, length-append rows (row ∷ []), h.rows_len);
  wide = wide_push width rows row h.wide e;
  each = λ n k l lk. elim (cases_lt n count) [
    | inl below ↦ in_row-push rows row n k (omega (arith, h.rows_len)) ∙ h.each n k below lk
    | inr above ↦ let at' : count ≡ n = omega arith in in_row-push_at rows row n k (omega (arith, h.rows_len)) ∙ is k lk ∙ ap (λ j. test j k) at'
  ];
}

pub rows_start : (width : ℕ) (test : ℕ → ℕ → Bool) (rows : List Cells) → rows ≡ [] → AreRows width 0 test rows
rows_start width test rows e = subst (AreRows width 0 test) (sym e) (rows_none width test)

pub rows_more : (width count : ℕ) (test : ℕ → ℕ → Bool) (rows more : List Cells) (row : Cells) → more ≡ rows ++ row ∷ [] → AreRows width count test rows → length row ≡ width → ((k : ℕ) → k < width → has row k ≡ test count k) → AreRows width (count + 1) test more
rows_more width count test rows more row e h u is = subst (AreRows width (count + 1) test) (sym e) (rows_push width count test rows row h u is)

pub rows_end : (width n count : ℕ) (test : ℕ → ℕ → Bool) (rows : List Cells) → n ≡ count → AreRows width n test rows → AreRows width count test rows
rows_end width n count test rows e h = subst (λ (m : ℕ). AreRows width m test rows) e h

step : (a b t x o : Bool) (k q : ℕ) → (q ≡ k → o ≡ t) → ((ltb q k && t) || (eqb q k && o)) ≡ (ltb q (k + 1) && t)
step a b t x o k q h =
    elim (cases_eq q k) [
      | inl e ↦ (λ i. (ltb q k && t) || (eq-eqb q k e i && h e i)) ∙ one t (ltb q k) ∙ ap (λ v. v && t) (sym (lt-ltb q (k + 1) (omega arith)))
      | inr ne ↦ (λ i. (ltb q k && t) || (ne_eqb q k ne i && o)) ∙ two (ltb q k && t) ∙ ap (λ v. v && t) (grind (arith, nat_tests))
    ]
  where
    one : (t l : Bool) → ((l && t) || t) ≡ t
    one true true = refl
    one true false = refl
    one false true = refl
    one false false = refl

    two : (v : Bool) → (v || false) ≡ v
    two true = refl
    two false = refl

-- the numbers below k that pass a test, and one more
pub tested_more : (test old new : ℕ → Bool) (k : ℕ) (on : Bool) → on ≡ test k → ((q : ℕ) → old q ≡ (ltb q k && test q)) → ((q : ℕ) → new q ≡ (old q || (eqb q k && on))) → (q : ℕ) → new q ≡ (ltb q (k + 1) && test q)
tested_more test old new k on e o n q = n q ∙ ap (λ v. v || (eqb q k && on)) (o q) ∙ step true true (test q) true on k q (λ at. e ∙ ap test (sym at))

pub tested_below : (test row : ℕ → Bool) (k : ℕ) → ((q : ℕ) → row q ≡ (ltb q k && test q)) → (q : ℕ) → q < k → row q ≡ test q
tested_below test row k h q l = h q ∙ ap (λ v. v && test q) (lt-ltb q k l)

-- the numbers of a test that nothing from k on passes
pub tested_all : (test row : ℕ → Bool) (k : ℕ) → ((q : ℕ) → k ≤ q → test q ≡ false) → ((q : ℕ) → row q ≡ (ltb q k && test q)) → (q : ℕ) → row q ≡ test q
tested_all test row k none h q =
    elim (cases_lt q k) [
      | inl l ↦ tested_below test row k h q l
      | inr l ↦ h q ∙ ap (λ v. ltb q k && v) (none q l) ∙ no (ltb q k) ∙ sym (none q l)
    ]
  where
    no : (v : Bool) → (v && false) ≡ false
    no true = refl
    no false = refl
