-- Bits of a word that are as its lowest bit is.
use Rattle.std.proofs.Common.{ℕ, ◌+◌, ◌-◌, ◌/◌, ◌%◌, ◌^◌, ◌<◌, ◌≤◌, ◌≡◌, List, get_or, arith, sym, ap, ◌∙◌, inl, inr, refl, w64, bit_and, eqb}
use Rattle.std.specs.Int.{bit_at, trailing_zeros, trailing_ones}
use Rattle.std.specs.Int.Count.{trailing_of_zero}
use Rattle.std.proofs.lemmas.Bool.{cases_eq}
use Rattle.std.proofs.lemmas.Nat.{shr-shr}
use Rattle.std.proofs.lemmas.Nat.Bits.{bit_at-zero, bit_at_lowest, shr_and_one, bit_at_ones, bit_at-trailing_zeros, bit_at-trailing_ones}
use Rattle.cell_sets.specs.Bits.{bit_of}

div-one : (n : ℕ) → n / 2 ^ 0 ≡ n
div-one n = omega arith

-- the bits below the lowest 1 are 0, also where there is no 1
pub below_lowest_one : (n k : ℕ) → n < 2 ^ 64 → k < trailing_zeros w64 n → bit_at n k ≡ 0
below_lowest_one n k l below =
    elim (cases_eq n 0) [
      | inl none ↦ ap (λ v. bit_at v k) none ∙ bit_at-zero k
      | inr some ↦ (bit_at-trailing_zeros w64 n (omega arith) l).2 k below
    ]

-- the bits below the lowest 0 are 1, also where there is no 0
pub below_lowest_zero : (n k : ℕ) → n < 2 ^ 64 → k < trailing_ones w64 n → k < 64 → bit_at n k ≡ 1
below_lowest_zero n k l below within =
    elim (cases_eq n (2 ^ 64 - 1)) [
      | inl full ↦ ap (λ v. bit_at v k) full ∙ bit_at_ones 64 k within
      | inr some ↦ (bit_at-trailing_ones w64 n (omega arith)).2 k below
    ]

-- the test `n & 1`
pub ends_in_one : (n : ℕ) → bit_and n 1 ≡ 1 → n % 2 ≡ 1
ends_in_one n e = sym (bit_at_lowest n) ∙ sym (shr_and_one n 0) ∙ ap (λ v. bit_and v 1) (div-one n) ∙ e

pub ends_in_zero : (n : ℕ) → (bit_and n 1 ≡ 1 → ⊥) → n % 2 ≡ 0
ends_in_zero n ne =
    elim (cases_eq (n % 2) 1) [
      | inl one ↦ absurd (ne (sym (ap (λ v. bit_and v 1) (div-one n)) ∙ shr_and_one n 0 ∙ bit_at_lowest n ∙ one))
      | inr other ↦ omega arith
    ]

-- a number that ends in 0 has a 0 at its end to count, one that ends in 1 a 1
pub zeros_counted : (n : ℕ) → n < 2 ^ 64 → n % 2 ≡ 0 → 0 < trailing_zeros w64 n
zeros_counted n l e =
    elim (cases_eq n 0) [
      | inl none ↦ let e : trailing_zeros w64 n ≡ 64 = ap (trailing_zeros w64) none ∙ trailing_of_zero 64 in omega arith
      | inr some ↦
          let t = bit_at-trailing_zeros w64 n (omega arith) l in
          let z = bit_at_lowest n in
          elim (cases_eq (trailing_zeros w64 n) 0) [
            | inl at ↦ let b : bit_at n 0 ≡ 1 = ap (bit_at n) (sym at) ∙ t.1 in omega arith
            | inr more ↦ omega arith
          ]
    ]

pub ones_counted : (n : ℕ) → n < 2 ^ 64 → n % 2 ≡ 1 → 0 < trailing_ones w64 n
ones_counted n l e =
    elim (cases_eq n (2 ^ 64 - 1)) [
      | inl full ↦ let e : trailing_ones w64 n ≡ 64 = ap (trailing_ones w64) full ∙ trailing_of_zero 64 in omega arith
      | inr some ↦
          let t = bit_at-trailing_ones w64 n (omega arith) in
          let z = bit_at_lowest n in
          elim (cases_eq (trailing_ones w64 n) 0) [
            | inl at ↦ let b : bit_at n 0 ≡ 0 = ap (bit_at n) (sym at) ∙ t.1 in omega arith
            | inr more ↦ omega arith
          ]
    ]

-- bit q of the words, as bit of what is left of its word from a place on
shifted : (ws : List ℕ) (b q : ℕ) → b ≤ q → q / 64 ≡ b / 64 → bit_of ws q ≡ eqb (bit_at (get_or ws (b / 64) 0 / 2 ^ (b % 64)) (q - b)) 1
shifted ws b q l same =
    let place : q % 64 ≡ b % 64 + (q - b) = omega arith in
    (λ i. eqb (bit_at (get_or ws (same i) 0) (place i)) 1)
    ∙ ap (λ v. eqb (v % 2) 1) (sym (shr-shr (get_or ws (b / 64) 0) (b % 64) (q - b)))

-- bits of one word are as its first, where those of what is left of the word are
pub same_in_word : (ws : List ℕ) (b count : ℕ) → count ≤ 64 - b % 64 → ((k : ℕ) → k < count → bit_at (get_or ws (b / 64) 0 / 2 ^ (b % 64)) k ≡ bit_at (get_or ws (b / 64) 0 / 2 ^ (b % 64)) 0) → (q : ℕ) → b ≤ q → q < b + count → bit_of ws q ≡ bit_of ws b
same_in_word ws b count within same q l h =
    let z : b - b ≡ 0 = omega arith in
    shifted ws b q l (omega arith)
    ∙ ap (λ v. eqb v 1) (same (q - b) (omega arith) ∙ ap (bit_at (get_or ws (b / 64) 0 / 2 ^ (b % 64))) (sym z))
    ∙ sym (shifted ws b b (omega arith) refl)
