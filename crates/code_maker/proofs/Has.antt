-- Instructions that stand in a code from some place on.
use Rattle.std.proofs.Common.{◌≡◌, ℕ, suc, ◌+◌, List, [], ◌∷◌, ◌++◌, length, Some, refl, subst, arith}
use Rattle.std.specs.Prelude.{slice_get}
use Rattle.machine_code.specs.declared.instr.Instr.{Instr}

abbrev pub HasAt : List Instr → ℕ → List Instr → Type 0
HasAt xs p [] = Unit {0}
HasAt xs p (i ∷ is) = (slice_get xs p ≡ Some i) × HasAt xs (p + 1) is

pub has_front : (xs : List Instr) (p : ℕ) (a b : List Instr) → HasAt xs p (a ++ b) → HasAt xs p a
has_front xs p [] b h = tt
has_front xs p (i ∷ a) b h = (h.0, has_front xs (p + 1) a b h.1)

pub has_back : (xs : List Instr) (p : ℕ) (a b : List Instr) → HasAt xs p (a ++ b) → HasAt xs (p + length a) b
has_back xs p [] b h = let e : p ≡ p + 0 = omega arith in subst (λ n. HasAt xs n b) e h
has_back xs p (i ∷ a) b h =
    let e : p + 1 + length a ≡ p + length (i ∷ a) = omega arith in
    subst (λ n. HasAt xs n b) e (has_back xs (p + 1) a b h.1)

has_behind : (i : Instr) (xs is : List Instr) (p : ℕ) → HasAt xs p is → HasAt (i ∷ xs) (p + 1) is
has_behind i xs [] p h = tt
has_behind i xs (j ∷ is) p h =
    let e : suc p ≡ p + 1 = omega arith in
    (subst (λ n. slice_get (i ∷ xs) n ≡ Some j) e h.0, has_behind i xs is (p + 1) h.1)

-- a list stands in itself
pub has_self : (is : List Instr) → HasAt is 0 is
has_self [] = tt
has_self (i ∷ is) = (refl, has_behind i is is 0 (has_self is))
