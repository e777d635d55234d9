-- Lists of rising numbers.
use Rattle.std.proofs.Common.{◌≡◌, ◌↔◌, ◌⊎◌, Bool, true, ℕ, ◌+◌, ◌<◌, ◌≤◌, List, [], ◌∷◌, ◌++◌, length, get_or, Contains, sym, ap, ◌∙◌, arith, inl, inr, length-append}
use Rattle.std.specs.List.Sorted.{IsStrictlyIncreasing}
use Rattle.std.proofs.Math.ListN.{get_or-append}
use Rattle.std.proofs.Math.Seq.{get_or-append_seam}
use Rattle.std.proofs.lemmas.Bool.{cases_lt, cases_eq}
use Rattle.cell_sets.specs.Sets.{Cells, has}
use Rattle.path_laws.proofs.RowLaws.{has_below}
use Rattle.std.proofs.lemmas.List.Elements.{Contains-get_or}

-- a number that is greater than all goes last
pub rising_push : (xs : List ℕ) (x : ℕ) → IsStrictlyIncreasing xs → ((o : ℕ) → Contains xs o → o < x) → IsStrictlyIncreasing (xs ++ x ∷ [])
rising_push xs x rising below k l =
    let len = length-append xs (x ∷ []) in
    let a = get_or-append xs (x ∷ []) 0 k (omega arith) in
    elim (cases_lt (k + 1) (length xs)) [
      | inl inside ↦ let b = get_or-append xs (x ∷ []) 0 (k + 1) inside in let r = rising k inside in omega arith
      | inr past ↦ let at : k + 1 ≡ length xs = omega arith in let b = ap (λ j. get_or (xs ++ x ∷ []) j 0) at ∙ get_or-append_seam xs x [] 0 in let r = below (get_or xs k 0) (Contains-get_or xs k 0 (omega arith)) in omega arith
    ]

-- the members below n, and n where it is wanted, are those below n + 1
pub members_step : (row : Cells) (n : ℕ) (wanted : Bool) (old new : List ℕ) → ((o : ℕ) → Contains old o ↔ ((o < n) × (has row o ≡ true))) → wanted ≡ has row n →
    ((o : ℕ) → Contains new o ↔ (Contains old o ⊎ ((wanted ≡ true) × (o ≡ n)))) → (o : ℕ) → Contains new o ↔ ((o < n + 1) × (has row o ≡ true))
members_step row n wanted old new so_far is step o = (
  (λ h. elim ((step o).0 h) [ inl before ↦ let b = (so_far o).0 before in (omega arith, b.1) | inr here ↦ let at = here.1 in (omega arith, ap (has row) at ∙ sym is ∙ here.0) ]),
  (λ h. (step o).1 (elim (cases_eq o n) [ inl at ↦ inr (is ∙ ap (has row) (sym at) ∙ h.1, at) | inr other ↦ let l = h.0 in inl ((so_far o).1 (omega arith, h.1)) ])),
)

-- all members are below the universe
pub members_end : (row : Cells) (n : ℕ) (list : List ℕ) → length row ≤ n → ((o : ℕ) → Contains list o ↔ ((o < n) × (has row o ≡ true))) → (o : ℕ) → Contains list o ↔ (has row o ≡ true)
members_end row n list l h o = ((λ x. ((h o).0 x).1), (λ x. let b = has_below row o x in (h o).1 (omega arith, x)))
