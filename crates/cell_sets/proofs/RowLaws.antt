-- Rows of bits.
use Rattle.std.proofs.Common.{ℕ, ◌+◌, ◌*◌, ◌/◌, ◌%◌, ◌<◌, ◌≡◌, false, not, ◌||◌, ◌&&◌, List, length, get_or, arith, sym, ap, ◌∙◌, inl, inr, replicate, eqb}
use Rattle.std.proofs.lemmas.Bool.{cases_lt}
use Rattle.std.proofs.lemmas.List.{get_or_past, get_or-replicate, length-replicate}
use Rattle.std.proofs.lemmas.Nat.Bits.{bit_at-zero}
use Rattle.std.specs.Int.{bit_at}
use Rattle.cell_sets.specs.Sets.{Cells, has, passing}
use Rattle.cell_sets.specs.Bits.{bit_of, IsRow}
use Rattle.cell_sets.proofs.SetLaws.{has-passing, has_seen, universe_seen}

zero_at : (n k : ℕ) → let z : ℕ = 0 in get_or (replicate n z) k z ≡ z
zero_at n k = elim (cases_lt k n) [ inl l ↦ get_or-replicate n k 0 0 l | inr l ↦ get_or_past (replicate n 0) k 0 (omega (arith, length-replicate {A = ℕ} n 0)) ]

pub at_zero : (ws : List ℕ) (n q : ℕ) → (let z : ℕ = 0 in ws ≡ replicate n z) → bit_of ws q ≡ false
at_zero ws n q e = ap (λ xs. bit_of xs q) e ∙ ap (λ v. eqb (bit_at v (q % 64)) 1) (zero_at n (q / 64)) ∙ ap (λ v. eqb v 1) (bit_at-zero (q % 64))

pub row_set : (w : ℕ) (ws vs : List ℕ) (b : ℕ) → b < w → IsRow w ws → length vs ≡ length ws → ((q : ℕ) → (q ≡ b → ⊥) → bit_of vs q ≡ bit_of ws q) → IsRow w vs
row_set w ws vs b l r e others = record { words_needed = e ∙ r.words_needed; none_above = λ q m. others q (λ x. omega arith) ∙ r.none_above q m }

pub row_or : (w v : ℕ) (ws vs os : List ℕ) → w ≡ v → IsRow w ws → IsRow v os → length vs ≡ length ws → ((q : ℕ) → bit_of vs q ≡ (bit_of ws q || bit_of os q)) → IsRow w vs
row_or w v ws vs os i r s e h = record { words_needed = e ∙ r.words_needed; none_above = λ q m. h q ∙ (λ j. r.none_above q m j || s.none_above q (omega arith) j) }

pub row_minus : (w : ℕ) (ws vs os : List ℕ) → IsRow w ws → length vs ≡ length ws → ((q : ℕ) → bit_of vs q ≡ (bit_of ws q && not (bit_of os q))) → IsRow w vs
row_minus w ws vs os r e h = record { words_needed = e ∙ r.words_needed; none_above = λ q m. h q ∙ (λ j. r.none_above q m j && not (bit_of os q)) }

-- what the set of the words has
pub has-row : (w : ℕ) (ws : List ℕ) (q : ℕ) → IsRow w ws → has (passing (bit_of ws) w) q ≡ bit_of ws q
has-row w ws q r = has-passing (bit_of ws) w q r.none_above

pub has_seen_row : (s : Cells) (w : ℕ) (ws : List ℕ) (q : ℕ) → passing (bit_of ws) w ≡ s → IsRow w ws → has s q ≡ bit_of ws q
has_seen_row s w ws q e r = has_seen s (bit_of ws) w q e r.none_above

-- a number below the universe has its word
pub in_words : (s : Cells) (w : ℕ) (ws : List ℕ) (b : ℕ) → passing (bit_of ws) w ≡ s → IsRow w ws → b < length s → b < 64 * length ws
in_words s w ws b e r l = let u = universe_seen s (bit_of ws) w e in let n = r.words_needed in omega arith

-- rows of one universe have as many words
pub same_words : (s t : Cells) (w v : ℕ) (ws os : List ℕ) → passing (bit_of ws) w ≡ s → passing (bit_of os) v ≡ t → IsRow w ws → IsRow v os → length s ≡ length t → (w ≡ v) × (length ws ≡ length os)
same_words s t w v ws os e f r p h =
    let u = universe_seen s (bit_of ws) w e in
    let x = universe_seen t (bit_of os) v f in
    let same : w ≡ v = omega arith in
    (same, r.words_needed ∙ ap (λ k. (k + 63) / 64) same ∙ sym p.words_needed)
