-- The lines from a place on.
use Rattle.std.proofs.Common.{◌≡◌, ℕ, zero, suc, ◌+◌, List, [], ◌∷◌, ◌++◌, drop, Some, sym, ap, ◌∙◌, arith, append_assoc}
use Rattle.std.specs.Prelude.{slice_get}
use Rattle.machine_code.specs.declared.instr.Instr.{Instr}
use Rattle.machine_code.specs.Listing.{line, lines_from}
use Rattle.machine_code.proofs.ValidDepths.{same_some}

drop_at : {X : Type 0} (xs : List X) (p : ℕ) (x : X) → slice_get xs p ≡ Some x → drop p xs ≡ x ∷ drop (suc p) xs
drop_at [] p x e = absurd (cc)
drop_at (y ∷ ys) zero x e = ap (λ z. z ∷ ys) (same_some e)
drop_at (y ∷ ys) (suc p) x e = drop_at ys p x e

-- one more line
pub one_more : (is : List Instr) (p : ℕ) (i : Instr) (text old whole : List ℕ) → slice_get is p ≡ Some i → text ≡ old ++ line p i → old ++ lines_from p (drop p is) ≡ whole → text ++ lines_from (p + 1) (drop (p + 1) is) ≡ whole
one_more is p i text old whole at e inv =
    let s : suc p ≡ p + 1 = omega arith in
    ap (λ t. t ++ lines_from (p + 1) (drop (p + 1) is)) e
    ∙ append_assoc old (line p i) (lines_from (p + 1) (drop (p + 1) is))
    ∙ ap (λ k. old ++ (line p i ++ lines_from (p + 1) (drop k is))) (sym s)
    ∙ ap (λ l. old ++ lines_from p l) (sym (drop_at is p i at))
    ∙ inv
