-- The table of checkpoints, entry by entry.
use Rattle.std.proofs.Common.{◌≡◌, ℕ, zero, suc, ◌+◌, ◌<◌, ◌≤◌, List, [], ◌∷◌, length, get_or, drop, Bool, false, ◌==◌, refl, sym, ap, ◌∙◌, arith, drop-cons}
use Rattle.std.specs.Prelude.{◌&&◌, ◌||◌}
use Rattle.std.specs.List.{list_any}
use Rattle.std.proofs.lemmas.Bool.Decides.{nat_tests}
use Rattle.machine_code.specs.CodeView.{Checkpoint, node, place_after}

not_equal : (a b : ℕ) → (a ≡ b → ⊥) → (a == b) ≡ false
not_equal a b ne = grind (arith, nat_tests)

-- an entry of another node is passed over
pub passed : (n q : ℕ) (ks : List Checkpoint) (i : ℕ) (d : Checkpoint) → i < length ks → ((get_or ks i d).0 ≡ n → ⊥) → list_any (λ k. (node k == n) && (place_after k == q)) (drop (i + 1) ks) ≡ list_any (λ k. (node k == n) && (place_after k == q)) (drop i ks)
passed n q ks i d lt ne =
    let t : Checkpoint → Bool = λ k. (node k == n) && (place_after k == q) in
    let s : suc i ≡ i + 1 = omega arith in
    sym (ap (list_any t) (drop-cons ks i d lt) ∙ ap (λ b. (b && (place_after (get_or ks i d) == q)) || list_any t (drop (suc i) ks)) (not_equal (node (get_or ks i d)) n ne) ∙ ap (λ j. list_any t (drop j ks)) s)

-- where all were passed over there is none
pub all_passed : (n q : ℕ) (ks : List Checkpoint) (i : ℕ) → length ks ≤ i → list_any (λ k. (node k == n) && (place_after k == q)) (drop i ks) ≡ false
all_passed n q [] zero le = refl
all_passed n q [] (suc i) le = refl
all_passed n q (k ∷ ks) zero le = absurd (omega arith)
all_passed n q (k ∷ ks) (suc i) le = all_passed n q ks i (omega arith)
