-- Laws of bits in words.
use Rattle.std.proofs.Common.{ℕ, ◌+◌, ◌-◌, ◌*◌, ◌/◌, ◌%◌, ◌^◌, ◌<◌, ◌≤◌, ◌≡◌, ◌≢◌, Bool, true, false, ◌&&◌, ◌||◌, not, List, length, get_or, set, arith, sym, ap, ◌∙◌, eqb, inl, inr, ◌⊎◌, max, min, zero, suc, w64, bit_or, bit_and, get_or-set_same, get_or-set_other}
use Rattle.std.specs.Int.{bit_at, bit_not}
use Rattle.std.proofs.lemmas.Bool.{eq-eqb, eqb-true, eqb-false, not-true, not-false, or_cases, or_parts, cases_eq, cases_lt}
use Rattle.std.proofs.lemmas.Bool.Decides.{nat_tests}
use Rattle.std.proofs.lemmas.Nat.Bits.{bit_at_set_same, bit_at_set_other, bit_at_or, bit_at_and, bit_at_not, bit_at-lt, bit_at_above, same_from_bits, same_from_bits_below, bit_at-zero}
use Rattle.std.proofs.lemmas.List.{get_or_past}
use Rattle.cell_sets.specs.Bits.{bit_of}

pub bit_of-set_same : (ws : List ℕ) (b : ℕ) → b / 64 < length ws → bit_of (set ws (b / 64) (bit_or (get_or ws (b / 64) 0) (1 * 2 ^ (b % 64) % 18446744073709551616))) b ≡ true
bit_of-set_same ws b l =
    rw get_or-set_same (eq-eqb _ 1 (bit_at_set_same w64 (get_or ws (b / 64) 0) (b % 64) (omega arith)))

pub bit_of-set_other : (ws : List ℕ) (b q : ℕ) → b / 64 < length ws → (q ≡ b → ⊥) → bit_of (set ws (b / 64) (bit_or (get_or ws (b / 64) 0) (1 * 2 ^ (b % 64) % 18446744073709551616))) q ≡ bit_of ws q
bit_of-set_other ws b q l ne =
    elim (cases_eq (q / 64) (b / 64)) [
      | inl same ↦
          let apart : q % 64 ≢ b % 64 = (λ e. ne (omega arith)) in
          let at : get_or (set ws (b / 64) (bit_or (get_or ws (b / 64) 0) (1 * 2 ^ (b % 64) % 18446744073709551616))) (q / 64) 0 ≡ bit_or (get_or ws (b / 64) 0) (1 * 2 ^ (b % 64) % 18446744073709551616) = rw (same, get_or-set_same) in
          ap (λ w. eqb (bit_at w (q % 64)) 1) at
          ∙ ap (λ v. eqb v 1) (bit_at_set_other w64 (get_or ws (b / 64) 0) (b % 64) (omega arith) (q % 64) apart)
          ∙ ap (λ k. eqb (bit_at (get_or ws k 0) (q % 64)) 1) (sym same)
      | inr other ↦ ap (λ w. eqb (bit_at w (q % 64)) 1) (get_or-set_other ws (b / 64) (q / 64) _ 0 other)
    ]

or_bit_at : (x y : ℕ) → x < 2 → y < 2 → eqb (max x y) 1 ≡ (eqb x 1 || eqb y 1)
or_bit_at x y l m = grind (arith, nat_tests)

-- the bits of an `|` and of an `& !`
pub or_bit : (a b i : ℕ) → eqb (bit_at (bit_or a b) i) 1 ≡ (eqb (bit_at a i) 1 || eqb (bit_at b i) 1)
or_bit a b i =
    let e = bit_at_or a b i in
    let x = bit_at-lt a i in
    let y = bit_at-lt b i in
    ap (λ v. eqb v 1) e ∙ or_bit_at (bit_at a i) (bit_at b i) x y

minus_bit_at : (x y : ℕ) → x < 2 → y < 2 → eqb (min x (1 - y)) 1 ≡ (eqb x 1 && not (eqb y 1))
minus_bit_at x y l m = grind (arith, nat_tests)

pub minus_bit : (a b i : ℕ) → b < 2 ^ 64 → i < 64 → eqb (bit_at (bit_and a (bit_not w64 b)) i) 1 ≡ (eqb (bit_at a i) 1 && not (eqb (bit_at b i) 1))
minus_bit a b i l k =
    ap (λ v. eqb v 1) (bit_at_and a (bit_not w64 b) i ∙ ap (λ v. min (bit_at a i) v) (bit_at_not w64 b i l k))
    ∙ minus_bit_at (bit_at a i) (bit_at b i) (bit_at-lt a i) (bit_at-lt b i)

-- a bit of b that a has not, or none
look : (a b w : ℕ) → ((i : ℕ) → i < w → bit_at b i ≤ bit_at a i) ⊎ ((k : ℕ) × (k < w) × (bit_at b k ≡ 1) × (bit_at a k ≡ 0))
look a b zero = inl (λ i l. omega arith)
look a b (suc w) =
    elim (look a b w) [
      | inr (k, l, x, y) ↦ inr (k, (omega arith), x, y)
      | inl none ↦ elim (cases_lt (bit_at a w) (bit_at b w)) [
        | inl more ↦ let x = bit_at-lt b w in inr (w, (omega arith), (omega arith), (omega arith))
        | inr at ↦ inl (λ i l. elim (cases_lt i w) [ inl below ↦ none i below | inr above ↦ let e : i ≡ w = omega arith in rw e at ])
      ]
    ]

pub new_bit : (a b : ℕ) → b < 2 ^ 64 → (bit_or a b ≡ a → ⊥) → (k : ℕ) × (k < 64) × (bit_at b k ≡ 1) × (bit_at a k ≡ 0)
new_bit a b l ne =
    elim (look a b 64) [
      | inr found ↦ found
      | inl none ↦ absurd (ne (same_from_bits (bit_or a b) a (λ i. bit_at_or a b i ∙ (
          elim (cases_lt i 64) [
            | inl below ↦ let h = none i below in omega arith
            | inr above ↦ let h = bit_at_above b 64 i l above in omega arith
          ]))))
    ]

past : (ws : List ℕ) (q : ℕ) → length ws ≤ q / 64 → bit_of ws q ≡ false
past ws q l = ap (λ w. eqb (bit_at w (q % 64)) 1) (get_or_past ws (q / 64) 0 l) ∙ ap (λ v. eqb v 1) (bit_at-zero (q % 64))

-- words that are or-ed word by word
pub or_words : (ws vs os : List ℕ) → ((k : ℕ) → k < length ws → get_or vs k 0 ≡ bit_or (get_or ws k 0) (get_or os k 0)) → length vs ≡ length ws → length os ≡ length ws →
    (q : ℕ) → bit_of vs q ≡ (bit_of ws q || bit_of os q)
or_words ws vs os done lv lo q =
    elim (cases_lt (q / 64) (length ws)) [
      | inl in' ↦ ap (λ w. eqb (bit_at w (q % 64)) 1) (done (q / 64) in') ∙ or_bit (get_or ws (q / 64) 0) (get_or os (q / 64) 0) (q % 64)
      | inr out ↦ past vs q (omega arith) ∙ (λ i. sym (past ws q (omega arith)) i || sym (past os q (omega arith)) i)
    ]

pub minus_words : (ws vs os : List ℕ) → ((k : ℕ) → k < length ws → get_or vs k 0 ≡ bit_and (get_or ws k 0) (bit_not w64 (get_or os k 0))) → length vs ≡ length ws → ((k : ℕ) → get_or os k 0 < 2 ^ 64) →
    (q : ℕ) → bit_of vs q ≡ (bit_of ws q && not (bit_of os q))
minus_words ws vs os done lv small q =
    elim (cases_lt (q / 64) (length ws)) [
      | inl in' ↦ ap (λ w. eqb (bit_at w (q % 64)) 1) (done (q / 64) in') ∙ minus_bit (get_or ws (q / 64) 0) (get_or os (q / 64) 0) (q % 64) (small (q / 64)) (omega arith)
      | inr out ↦ past vs q (omega arith) ∙ (λ i. sym (past ws q (omega arith)) i && not (bit_of os q))
    ]

-- the word and the place of a bit
at_word : (ws : List ℕ) (i k : ℕ) → k < 64 → bit_of ws (64 * i + k) ≡ eqb (bit_at (get_or ws i 0) k) 1
at_word ws i k l =
    let d : (64 * i + k) / 64 ≡ i = omega arith in
    let m : (64 * i + k) % 64 ≡ k = omega arith in
    (λ j. eqb (bit_at (get_or ws (d j) 0) (m j)) 1)

-- a word that an `|` changes shows a new bit
pub new_in_word : (ws os : List ℕ) (i : ℕ) → get_or os i 0 < 2 ^ 64 → (bit_or (get_or ws i 0) (get_or os i 0) ≡ get_or ws i 0 → ⊥) → (q : ℕ) × ((bit_of os q ≡ true) × (bit_of ws q ≡ false))
new_in_word ws os i l ne =
    let f = new_bit (get_or ws i 0) (get_or os i 0) l ne in
    (64 * i + f.0, (at_word os i f.0 f.1 ∙ ap (λ v. eqb v 1) f.2, at_word ws i f.0 f.1 ∙ ap (λ v. eqb v 1) f.3))

pub flag_some : (added : Bool) (ws os : List ℕ) (i w : ℕ) → w ≡ get_or ws i 0 → get_or os i 0 < 2 ^ 64 → (added ≡ true → (q : ℕ) × ((bit_of os q ≡ true) × (bit_of ws q ≡ false))) →
    (added || not (eqb (bit_or w (get_or os i 0)) w)) ≡ true → (q : ℕ) × ((bit_of os q ≡ true) × (bit_of ws q ≡ false))
flag_some added ws os i w e l some h =
    elim (or_cases added (not (eqb (bit_or w (get_or os i 0)) w)) h) [
      | inl before ↦ some before
      | inr now ↦ new_in_word ws os i l (λ same. eqb-false _ _ (not-true _ now) (ap (λ v. bit_or v (get_or os i 0)) e ∙ same ∙ sym e))
    ]

pub flag_none : (added : Bool) (o w : ℕ) → (added || not (eqb (bit_or w o) w)) ≡ false → (added ≡ false) × (bit_or w o ≡ w)
flag_none added o w h = let p = or_parts added (not (eqb (bit_or w o) w)) h in (p.0, eqb-true _ _ (not-false _ p.1))

-- where no word has changed, no bit is new
pub no_new : (ws os : List ℕ) → ((q : ℕ) → bit_of ws q ≡ (bit_of ws q || bit_of os q)) → (q : ℕ) → bit_of os q ≡ true → bit_of ws q ≡ false → ⊥
no_new ws os same q a b = grind (arith, same q)

same_bit : (x y : ℕ) → x < 2 → y < 2 → eqb x 1 ≡ eqb y 1 → x ≡ y
same_bit x y l m e = grind (arith, nat_tests)

-- a word is its bits
pub word_from_bits : (ws os : List ℕ) (k : ℕ) → get_or ws k 0 < 2 ^ 64 → get_or os k 0 < 2 ^ 64 → ((q : ℕ) → bit_of ws q ≡ bit_of os q) → get_or ws k 0 ≡ get_or os k 0
word_from_bits ws os k lw lo h =
    same_from_bits_below 64 (get_or ws k 0) (get_or os k 0) lw lo (λ i below.
    same_bit (bit_at (get_or ws k 0) i) (bit_at (get_or os k 0) i) (bit_at-lt (get_or ws k 0) i) (bit_at-lt (get_or os k 0) i)
    (sym (at_word ws k i below) ∙ h (64 * k + i) ∙ at_word os k i below))

-- where all words are the same, so are the bits
pub bits_from_words : (ws os : List ℕ) → length ws ≡ length os → ((k : ℕ) → k < length ws → get_or ws k 0 ≡ get_or os k 0) → (q : ℕ) → bit_of ws q ≡ bit_of os q
bits_from_words ws os e h q =
    elim (cases_lt (q / 64) (length ws)) [
      | inl in' ↦ ap (λ w. eqb (bit_at w (q % 64)) 1) (h (q / 64) in')
      | inr out ↦ past ws q out ∙ sym (past os q (omega arith))
    ]
