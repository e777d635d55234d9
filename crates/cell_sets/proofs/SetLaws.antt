-- Sets by their members.
use Rattle.std.proofs.Common.{ℕ, ◌<◌, ◌≤◌, ◌≡◌, Bool, true, false, ◌||◌, List, [], ◌∷◌, ◌++◌, length, get_or, arith, sym, ap, ◌∙◌, refl, inl, inr, zero, suc, length-append, eqb}
use Rattle.std.proofs.lemmas.Bool.{cases_eq, cases_lt, or_right, eq-eqb, ne_eqb}
use Rattle.std.proofs.lemmas.List.{get_or_past}
use Rattle.cell_sets.specs.Sets.{Cells, has, passing}

pub length-passing : (t : ℕ → Bool) (n : ℕ) → length (passing t n) ≡ n
unfolding passing
length-passing t zero = refl
length-passing t (suc n) = omega (arith, length-append (passing t n) (t n ∷ []), length-passing t n)

push_below : (xs : List Bool) (x : Bool) (k : ℕ) → k < length xs → get_or (xs ++ x ∷ []) k false ≡ get_or xs k false
push_below [] x k l = absurd (omega arith)
push_below (y ∷ xs) x zero l = refl
push_below (y ∷ xs) x (suc k) l = push_below xs x k (omega arith)

push_at : (xs : List Bool) (x : Bool) (k : ℕ) → k ≡ length xs → get_or (xs ++ x ∷ []) k false ≡ x
push_at [] x k e = ap (λ j. get_or (x ∷ []) j false) e
push_at (y ∷ xs) x zero e = absurd (omega arith)
push_at (y ∷ xs) x (suc k) e = push_at xs x k (omega arith)

below : (t : ℕ → Bool) (n q : ℕ) → q < n → has (passing t n) q ≡ t q
unfolding passing
below t zero q l = absurd (omega arith)
below t (suc n) q l =
    elim (cases_eq q n) [
      | inl e ↦ push_at (passing t n) (t n) q (omega (arith, length-passing t n)) ∙ ap t (sym e)
      | inr ne ↦ push_below (passing t n) (t n) q (omega (arith, length-passing t n)) ∙ below t n q (omega arith)
    ]

-- the set has what the test passes, where that is all below the universe
pub has-passing : (t : ℕ → Bool) (n q : ℕ) → ((b : ℕ) → n ≤ b → t b ≡ false) → has (passing t n) q ≡ t q
has-passing t n q none =
    elim (cases_lt q n) [
      | inl l ↦ below t n q l
      | inr l ↦ get_or_past (passing t n) q false (omega (arith, length-passing t n)) ∙ sym (none q l)
    ]

-- a set is its universe and its members
pub same_sets : (s t : Cells) → length s ≡ length t → ((q : ℕ) → has s q ≡ has t q) → s ≡ t
same_sets [] [] e h = refl
same_sets [] (y ∷ ys) e h = absurd (omega arith)
same_sets (x ∷ xs) [] e h = absurd (omega arith)
same_sets (x ∷ xs) (y ∷ ys) e h = λ i. h 0 i ∷ same_sets xs ys (omega arith) (λ q. h (suc q)) i

-- a set that was seen as such has the universe of its parts
pub universe_seen : (s : Cells) (t : ℕ → Bool) (n : ℕ) → passing t n ≡ s → length s ≡ n
universe_seen s t n e = ap length (sym e) ∙ length-passing t n

pub has_seen : (s : Cells) (t : ℕ → Bool) (n q : ℕ) → passing t n ≡ s → ((b : ℕ) → n ≤ b → t b ≡ false) → has s q ≡ t q
has_seen s t n q e none = ap (λ x. has x q) (sym e) ∙ has-passing t n q none

or_false : (x : Bool) → (x || false) ≡ x
or_false true = refl
or_false false = refl

-- one more member
pub or_one : (t s : ℕ → Bool) (b q : ℕ) → t b ≡ true → ((q : ℕ) → (q ≡ b → ⊥) → t q ≡ s q) → t q ≡ (s q || eqb q b)
or_one t s b q here other =
    elim (cases_eq q b) [
      | inl e ↦ ap t e ∙ here ∙ sym (or_right (s q) (eqb q b) (eq-eqb q b e))
      | inr ne ↦ other q ne ∙ sym (or_false (s q)) ∙ ap (λ x. s q || x) (sym (ne_eqb q b ne))
    ]
