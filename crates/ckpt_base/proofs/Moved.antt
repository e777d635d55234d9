-- A place moved modulo 2^64 is the moved place, where that is in the object.
use Rattle.std.proofs.Common.{◌≡◌, ℕ, zero, suc, ◌+◌, ◌-◌, ◌^◌, ◌<◌, ◌≤◌, ◌%◌, true, pos, negsuc, ◌+ℤ◌, neg_ℤ, sym, ap, ◌∙◌, arith, rules, ⊎_elim, Err}
use Rattle.std.specs.Prelude.{nat_le, if◌then◌else◌}
use Rattle.std.specs.Int.{w64}
use Rattle.std.proofs.lemmas.Int.{to_z_pos, ints}
use Rattle.std.proofs.Math.Facts.{to_z-neg}
use Rattle.std.proofs.lemmas.Bool.{cases_lt}
use Rattle.std.proofs.lemmas.Bool.Decides.{nat_tests}
use Rattle.ckpt_base.specs.declared.trap.Trap.TheVariants.{OutsideObject}
use Rattle.ckpt_base.specs.Word.{signed}
use Rattle.ckpt_base.specs.Pointer.{at_place}

-- a place behind the object is none
too_far : (p len k : ℕ) → len < k → at_place p len (pos k) ≡ Err OutsideObject
too_far p len k lt = search (rules, arith, nat_tests)

low : (n : ℕ) → n < 2 ^ 63 → signed n ≡ pos n
low n lt = to_z_pos w64 n lt

high : (n k : ℕ) → k < 2 ^ 63 → n ≡ 2 ^ 64 - suc k → signed n ≡ negsuc k
high n k lt e = ap signed e ∙ to_z-neg w64 k lt

-- a sum with a negative number, where it is not negative and where it is
less : (k m : ℕ) → suc m ≤ k → pos k +ℤ negsuc m ≡ pos (k - suc m)
less k m le = omega (arith, ints)

below : (k m : ℕ) → k < suc m → pos k +ℤ negsuc m ≡ negsuc (m - k)
below k m lt = omega (arith, ints)

-- moved by a negative number
taken : (p len k m r : ℕ) → k ≤ len → len < 2 ^ 32 → m < 2 ^ 63 → r ≡ (k + (2 ^ 64 - suc m)) % 2 ^ 64 → at_place p len (pos k +ℤ negsuc m) ≡ at_place p len (pos r)
taken p len k m r le small fits e =
    ⊎_elim
    (λ lt. ap (at_place p len) (below k m lt) ∙ sym (too_far p len r (omega (arith, e))))
    (λ ge. let same : k - suc m ≡ r = omega (arith, e) in ap (at_place p len) (less k m ge ∙ ap pos same))
    (cases_lt k (suc m))

-- moved by a number that is not negative
added : (p len k n r : ℕ) → k ≤ len → len < 2 ^ 32 → n ≤ 2 ^ 63 → r ≡ (k + n) % 2 ^ 64 → at_place p len (pos k +ℤ pos n) ≡ at_place p len (pos r)
added p len k n r le small fits e = let same : k + n ≡ r = omega (arith, e) in ap (λ i. at_place p len (pos i)) same

pub forward_wraps : (p len k n r : ℕ) → k ≤ len → len < 2 ^ 32 → n < 2 ^ 64 → r ≡ (k + n) % 2 ^ 64 → at_place p len (pos k +ℤ signed n) ≡ at_place p len (pos r)
forward_wraps p len k n r le small fits e =
    ⊎_elim
    (λ lt. ap (λ z. at_place p len (pos k +ℤ z)) (low n lt) ∙ added p len k n r le small (omega arith) e)
    (λ ge.
    let m = 2 ^ 64 - suc n in
    let back : n ≡ 2 ^ 64 - suc m = omega arith in
    ap (λ z. at_place p len (pos k +ℤ z)) (high n m (omega arith) back) ∙ taken p len k m r le small (omega arith) (e ∙ ap (λ i. (k + i) % 2 ^ 64) back))
    (cases_lt n (2 ^ 63))

pub back_wraps : (p len k n r : ℕ) → k ≤ len → len < 2 ^ 32 → n < 2 ^ 64 → r ≡ (k + (2 ^ 64 - n)) % 2 ^ 64 → at_place p len (pos k +ℤ neg_ℤ (signed n)) ≡ at_place p len (pos r)
back_wraps p len k n r le small fits e =
    ⊎_elim
    (λ lt. ap (λ z. at_place p len (pos k +ℤ neg_ℤ z)) (low n lt) ∙ by_sign p len k n r le small lt e)
    (λ ge.
    let m = 2 ^ 64 - suc n in
    let back : n ≡ 2 ^ 64 - suc m = omega arith in
    let to : 2 ^ 64 - n ≡ suc m = omega arith in
    ap (λ z. at_place p len (pos k +ℤ neg_ℤ z)) (high n m (omega arith) back) ∙ added p len k (suc m) r le small (omega arith) (e ∙ ap (λ i. (k + i) % 2 ^ 64) to))
    (cases_lt n (2 ^ 63))
  where
    by_sign : (p len k n r : ℕ) → k ≤ len → len < 2 ^ 32 → n < 2 ^ 63 → r ≡ (k + (2 ^ 64 - n)) % 2 ^ 64 → at_place p len (pos k +ℤ neg_ℤ (pos n)) ≡ at_place p len (pos r)
    by_sign p len k zero r le small lt e = added p len k 0 r le small (omega arith) (omega (arith, e))
    by_sign p len k (suc n) r le small lt e = taken p len k n r le small (omega arith) e

is_within : (k len : ℕ) → k ≤ len → nat_le k len ≡ true
is_within k len le = grind (arith, nat_tests)

-- a choice by a place that is in the object
pub chosen : {A : Type 0} (k len : ℕ) (x y : A) → k ≤ len → (if nat_le k len then x else y) ≡ x
chosen k len x y le = ap (λ b. if b then x else y) (is_within k len le)
