-- A number, digit after digit.
use Rattle.std.proofs.Common.{◌≡◌, ℕ, suc, ◌+◌, ◌*◌, ◌-◌, ◌<◌, ◌≤◌, List, [], ◌∷◌, length, drop, get_or, Option, Some, None, refl, sym, ap, ◌∙◌, arith, true, false, Bool, drop-cons, subst}
use Rattle.std.proofs.lemmas.List.{drop_all}
use Rattle.std.specs.Prelude.{◌&&◌, not, nat_le, if◌then◌else◌}
use Rattle.std.proofs.lemmas.Grind.{common_steps}
use Rattle.c_tree.specs.Scan.{is_digit, are_digits, decimal, greatest, leading_zero, number}
use Rattle.c_reader.specs.Scanning.{with_digit, number_from}

-- the number of the whole is that of the digits from the i-th on, after v
pub record Counting (bytes : List ℕ) (v i : ℕ) : Type 0 where
  pub within : v ≤ greatest
  pub same : number_from v (drop i bytes) ≡ number_from 0 bytes

pub starts : (bytes : List ℕ) → Counting bytes 0 0
starts bytes = record { within = omega arith; same = refl }

grows : (v : ℕ) (bs : List ℕ) → v ≤ decimal v bs
grows v [] = omega arith
grows v (b ∷ bs) = omega (arith, grows (v * 10 + (b - 48)) bs)

le_true : (a b : ℕ) → a ≤ b → nat_le a b ≡ true
le_true a b h = grind (arith, common_steps)

le_false : (a b : ℕ) → b < a → nat_le a b ≡ false
le_false a b h = grind (arith, common_steps)

not_le_is : (a b : ℕ) → nat_le a b ≡ false → b < a
not_le_is a b h = grind (arith, common_steps)

if_none : {A : Type 0} (x : A) (d : Bool) → (if d && false then Some x else None) ≡ None
if_none x true = refl
if_none x false = refl

if_some : {A : Type 0} (x : A) (b : Bool) (u : A) → (if b then Some x else None) ≡ Some u → (b ≡ true) × (x ≡ u)
if_some x true u h = (refl, cc)
if_some x false u h = absurd cc

if_not : {A : Type 0} (x : A) (b : Bool) → (if b then Some x else None) ≡ None → b ≡ false
if_not x true h = absurd cc
if_not x false h = refl

both_true : (a b : Bool) → (a && b) ≡ true → (a ≡ true) × (b ≡ true)
both_true true b h = (refl, h)
both_true false b h = absurd cc

le_is : (a b : ℕ) → nat_le a b ≡ true → a ≤ b
le_is a b h = grind (arith, common_steps)

no_more : {A : Type 0} (a b : Bool) (x : A) → (if a && false && b then Some x else None) ≡ None
no_more true b x = refl
no_more false b x = refl

without : {A : Type 0} (a z b : Bool) (x : A) → (if a && b then Some x else None) ≡ None → (if a && not z && b then Some x else None) ≡ None
without true true b x h = refl
without true false b x h = h
without false z b x h = refl

no_number : (bytes : List ℕ) → number_from 0 bytes ≡ None → number bytes ≡ None
no_number bytes h = without (are_digits bytes) (leading_zero bytes) (nat_le (decimal 0 bytes) greatest) (decimal 0 bytes) h

with_true : {A : Type 0} (a b : Bool) (x : A) (r : Option A) → (if a && b then Some x else None) ≡ r → (if a && not false && b then Some x else None) ≡ r
with_true true b x r h = h
with_true false b x r h = h

is_number : (bytes : List ℕ) (v : ℕ) → leading_zero bytes ≡ false → number_from 0 bytes ≡ Some v → number bytes ≡ Some v
is_number bytes v z h = rw z (with_true (are_digits bytes) (nat_le (decimal 0 bytes) greatest) (decimal 0 bytes) (Some v) h)

number_end : (v : ℕ) → v ≤ greatest → number_from v [] ≡ Some v
number_end v h = rw (le_true v greatest h) refl

-- no digits go on from a digit that is none, or that makes the number too great
spoiled : (v b : ℕ) (bs : List ℕ) (d g : Bool) → is_digit b ≡ d → nat_le (v * 10 + (b - 48)) greatest ≡ g → (d && g) ≡ false → number_from v (b ∷ bs) ≡ None
spoiled v b bs false g di gr h = rw di refl
spoiled v b bs true true di gr h = absurd cc
spoiled v b bs true false di gr h =
    let big : greatest < decimal (v * 10 + (b - 48)) bs = omega (arith, grows (v * 10 + (b - 48)) bs, not_le_is _ _ gr) in
    rw (di, le_false _ _ big) (if_none (decimal (v * 10 + (b - 48)) bs) (are_digits bs))

pub no_digit : (v b : ℕ) (bs : List ℕ) → with_digit v b ≡ None → number_from v (b ∷ bs) ≡ None
no_digit v b bs h = spoiled v b bs (is_digit b) (nat_le (v * 10 + (b - 48)) greatest) refl refl (if_not _ _ h)

pub one_digit : (v b u : ℕ) (bs : List ℕ) → with_digit v b ≡ Some u → (u ≤ greatest) × (number_from v (b ∷ bs) ≡ number_from u bs)
one_digit v b u bs h =
    let p = if_some (v * 10 + (b - 48)) (is_digit b && nat_le (v * 10 + (b - 48)) greatest) u h in
    let q = both_true (is_digit b) (nat_le (v * 10 + (b - 48)) greatest) p.0 in
    (subst (λ n. n ≤ greatest) p.1 (le_is _ _ q.1), rw (q.0) (ap (λ n. number_from n bs) p.1))

module _ (bytes : List ℕ) (v i : ℕ) (c : Counting bytes v i) where
  pub goes_on : (u : ℕ) → i < length bytes → with_digit v (get_or bytes i 0) ≡ Some u → Counting bytes u (i + 1)
  goes_on u l h =
      let p = one_digit v (get_or bytes i 0) u (drop (suc i) bytes) h in
      let e : drop (i + 1) bytes ≡ drop (suc i) bytes = (let k : i + 1 ≡ suc i = omega arith in ap (λ k. drop k bytes) k) in
      record { within = p.0; same = ap (number_from u) e ∙ sym p.1 ∙ ap (number_from v) (sym (drop-cons bytes i 0 l)) ∙ c.same }

  pub stops : i < length bytes → with_digit v (get_or bytes i 0) ≡ None → number bytes ≡ None
  stops l h = no_number bytes (sym c.same ∙ ap (number_from v) (drop-cons bytes i 0 l) ∙ no_digit v (get_or bytes i 0) (drop (suc i) bytes) h)

  pub over : leading_zero bytes ≡ false → length bytes ≤ i → number bytes ≡ Some v
  over z l = is_number bytes v z (sym c.same ∙ ap (number_from v) (drop_all i bytes l) ∙ number_end v c.within)

pub zero_first : (bytes : List ℕ) → leading_zero bytes ≡ true → number bytes ≡ None
zero_first bytes z = rw z (no_more (are_digits bytes) (nat_le (decimal 0 bytes) greatest) (decimal 0 bytes))

some_number : (a b : ℕ) → Some a ≡ Some b → a ≡ b
some_number a b h = cc

within_of : (bytes : List ℕ) (a b : Bool) (v : ℕ) → nat_le (decimal 0 bytes) greatest ≡ b → (if a && b then Some (decimal 0 bytes) else None) ≡ Some v → v ≤ greatest
within_of bytes true true v e h = subst (λ n. n ≤ greatest) (some_number (decimal 0 bytes) v h) (le_is (decimal 0 bytes) greatest e)
within_of bytes true false v e h = absurd cc
within_of bytes false b v e h = absurd cc

-- a number is not too great
pub number_within : (bytes : List ℕ) (v : ℕ) → number bytes ≡ Some v → v ≤ greatest
number_within bytes v h = within_of bytes (are_digits bytes && not (leading_zero bytes)) (nat_le (decimal 0 bytes) greatest) v refl h
