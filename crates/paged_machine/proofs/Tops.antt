-- The last elements of the first n.
use Rattle.std.proofs.Common.{◌≡◌, ℕ, zero, suc, ◌+◌, ◌-◌, ◌<◌, ◌≤◌, List, [], ◌∷◌, length, get_or, take, drop, reverse, refl, ap, ◌∙◌, arith}
use Rattle.std.specs.Prelude.{slice_set}
use Rattle.std.proofs.lemmas.List.{take_more_set, take_more, reverse-append}
use Rattle.std.proofs.lemmas.Grind.{common_steps}
use Rattle.paged_machine.specs.MachineView.{tops}

pub length_tops : {X : Type 0} (xs : List X) (n : ℕ) → n ≤ length xs → length (tops xs n) ≡ n
length_tops xs n le = grind (arith, common_steps)

pub tops_pop : {X : Type 0} (xs : List X) (n : ℕ) (d : X) → n < length xs → tops xs (n + 1) ≡ get_or xs n d ∷ tops xs n
tops_pop xs n d lt = ap reverse (take_more xs n d lt) ∙ reverse-append (take n xs) (get_or xs n d ∷ [])

pub tops_push : {X : Type 0} (xs : List X) (n : ℕ) (v : X) → n < length xs → tops (slice_set xs n v) (n + 1) ≡ v ∷ tops xs n
tops_push xs n v lt = ap reverse (take_more_set xs n v lt) ∙ reverse-append (take n xs) (v ∷ [])

pub tops_drop : {X : Type 0} (xs : List X) (k n : ℕ) → k ≤ n → n ≤ length xs → drop k (tops xs n) ≡ tops xs (n - k)
tops_drop xs zero n le lt = let e : n ≡ n - 0 = omega arith in ap (tops xs) e
tops_drop xs (suc k) zero le lt = absurd (omega arith)
tops_drop [] (suc k) (suc n) le lt = absurd (omega arith)
tops_drop (x ∷ xs) (suc k) (suc n) le lt =
    let e : suc n ≡ n + 1 = omega arith in
    let f : n - k ≡ suc n - suc k = omega arith in
    ap (λ i. drop (suc k) (tops (x ∷ xs) i)) e ∙ ap (drop (suc k)) (tops_pop (x ∷ xs) n x (omega arith)) ∙ tops_drop (x ∷ xs) k n (omega arith) (omega arith) ∙ ap (tops (x ∷ xs)) f

pub tops_get : {X : Type 0} (xs : List X) (k n m : ℕ) (d : X) → m + 1 + k ≡ n → n ≤ length xs → get_or (tops xs n) k d ≡ get_or xs m d
tops_get xs zero n m d e le =
    let f : n ≡ m + 1 = omega arith in
    ap (λ i. get_or (tops xs i) 0 d) f ∙ ap (λ l. get_or l 0 d) (tops_pop xs m d (omega arith))
tops_get xs (suc k) n m d e le =
    let f : n ≡ (m + 1 + k) + 1 = omega arith in
    ap (λ i. get_or (tops xs i) (suc k) d) f ∙ ap (λ l. get_or l (suc k) d) (tops_pop xs (m + 1 + k) d (omega arith)) ∙ tops_get xs k (m + 1 + k) m d refl (omega arith)
