-- The exclusive-or of slots.
use Rattle.std.proofs.Common.{◌≡◌, ◌≢◌, inl, inr, refl, sym, ◌∙◌, ap, ℕ, zero, suc, ◌+◌, ◌<◌, ◌≤◌, ◌==◌, Bool, true, false, cond, List, [], ◌∷◌, ◌++◌, length, take, drop, arith}
use Rattle.std.specs.Prelude.{replicate, bit_xor, slice_index, slice_set}
use Rattle.std.specs.Int.Bits.{xor_assoc, xor_self, xor_zero_r}
use Rattle.std.proofs.lemmas.Nat.{xor_comm}
use Rattle.std.proofs.lemmas.Bool.{cases_eq}
use Rattle.std.proofs.lemmas.Bool.Decides.{nat_tests}
use Rattle.std.proofs.lemmas.List.{length-replicate}
use Rattle.parity_store.specs.Slots.{exclusive_or, parity}
use Rattle.parity_store.specs.Writing.{sum_but, parity_but}

-- ---- two slots

pub exclusive_length : (xs ys : List ℕ) → length xs ≡ length ys → length (exclusive_or xs ys) ≡ length xs
unfolding exclusive_or
exclusive_length [] ys e = refl
exclusive_length (x ∷ xs) [] e = absurd (omega (arith, e))
exclusive_length (x ∷ xs) (y ∷ ys) e = let more = exclusive_length xs ys (omega (arith, e)) in omega (arith, more)

pub exclusive_comm : (xs ys : List ℕ) → exclusive_or xs ys ≡ exclusive_or ys xs
unfolding exclusive_or
exclusive_comm [] [] = refl
exclusive_comm [] (y ∷ ys) = refl
exclusive_comm (x ∷ xs) [] = refl
exclusive_comm (x ∷ xs) (y ∷ ys) = ap (λ (n : ℕ). n ∷ exclusive_or xs ys) (xor_comm x y) ∙ ap (λ (l : List ℕ). bit_xor y x ∷ l) (exclusive_comm xs ys)

pub exclusive_assoc : (xs ys zs : List ℕ) → exclusive_or (exclusive_or xs ys) zs ≡ exclusive_or xs (exclusive_or ys zs)
unfolding exclusive_or
exclusive_assoc [] ys zs = refl
exclusive_assoc (x ∷ xs) [] zs = refl
exclusive_assoc (x ∷ xs) (y ∷ ys) [] = refl
exclusive_assoc (x ∷ xs) (y ∷ ys) (z ∷ zs) = ap (λ (n : ℕ). n ∷ exclusive_or (exclusive_or xs ys) zs) (xor_assoc x y z) ∙ ap (λ (l : List ℕ). bit_xor x (bit_xor y z) ∷ l) (exclusive_assoc xs ys zs)

pub exclusive_zero : (xs : List ℕ) (n : ℕ) → length xs ≡ n → exclusive_or xs (replicate n 0) ≡ xs
unfolding exclusive_or
exclusive_zero [] n e = refl
exclusive_zero (x ∷ xs) zero e = absurd (omega (arith, e))
exclusive_zero (x ∷ xs) (suc n) e = ap (λ (m : ℕ). m ∷ exclusive_or xs (replicate n 0)) (xor_zero_r x) ∙ ap (λ (l : List ℕ). x ∷ l) (exclusive_zero xs n (omega (arith, e)))

pub exclusive_self : (xs : List ℕ) → exclusive_or xs xs ≡ replicate (length xs) 0
unfolding exclusive_or
exclusive_self [] = refl
exclusive_self (x ∷ xs) = ap (λ (m : ℕ). m ∷ exclusive_or xs xs) (xor_self x) ∙ ap (λ (l : List ℕ). 0 ∷ l) (exclusive_self xs)

swap : (a b c : List ℕ) → exclusive_or (exclusive_or a b) c ≡ exclusive_or (exclusive_or a c) b
swap a b c = exclusive_assoc a b c ∙ ap (exclusive_or a) (exclusive_comm b c) ∙ sym (exclusive_assoc a c b)

-- what was taken twice is gone
twice : (a b : List ℕ) → length a ≡ length b → exclusive_or a (exclusive_or a b) ≡ b
twice a b e =
    sym (exclusive_assoc a a b)
    ∙ ap (λ (l : List ℕ). exclusive_or l b) (exclusive_self a)
    ∙ exclusive_comm (replicate (length a) 0) b
    ∙ exclusive_zero b (length a) (sym e)

-- ---- a loop over the bytes

-- i bytes are done
abbrev pub xor_done : ℕ → List ℕ → List ℕ → List ℕ
xor_done i xs ys = exclusive_or (take i xs) (take i ys) ++ drop i xs

xor_suc : (xs ys : List ℕ) (i : ℕ) → length xs ≡ length ys → i < length ys → slice_set (xor_done i xs ys) i (bit_xor (slice_index (xor_done i xs ys) i) (slice_index ys i)) ≡ xor_done (suc i) xs ys
unfolding exclusive_or
xor_suc [] ys i e less = absurd (omega (arith, e, less))
xor_suc (x ∷ xs) [] i e less = absurd (omega (arith, e))
xor_suc (x ∷ xs) (y ∷ ys) zero e less = refl
xor_suc (x ∷ xs) (y ∷ ys) (suc i) e less = ap (λ (l : List ℕ). bit_xor x y ∷ l) (xor_suc xs ys i (omega (arith, e)) (omega (arith, less)))

pub xor_step : (xs ys : List ℕ) (i : ℕ) → length xs ≡ length ys → i < length ys → slice_set (xor_done i xs ys) i (bit_xor (slice_index (xor_done i xs ys) i) (slice_index ys i)) ≡ xor_done (i + 1) xs ys
xor_step xs ys i e less = let next : suc i ≡ i + 1 = omega arith in xor_suc xs ys i e less ∙ ap (λ (n : ℕ). xor_done n xs ys) next

pub xor_end : (xs ys : List ℕ) (i : ℕ) → length xs ≡ length ys → length ys ≤ i → xor_done i xs ys ≡ exclusive_or xs ys
unfolding exclusive_or
xor_end [] [] zero e le = refl
xor_end [] [] (suc i) e le = refl
xor_end [] (y ∷ ys) i e le = absurd (omega (arith, e))
xor_end (x ∷ xs) [] i e le = absurd (omega (arith, e))
xor_end (x ∷ xs) (y ∷ ys) zero e le = absurd (omega (arith, le))
xor_end (x ∷ xs) (y ∷ ys) (suc i) e le = ap (λ (l : List ℕ). bit_xor x y ∷ l) (xor_end xs ys i (omega (arith, e)) (omega (arith, le)))

pub xor_start : (xs ys : List ℕ) → xor_done 0 xs ys ≡ xs
unfolding exclusive_or
xor_start xs ys = refl

pub xor_length : (xs ys : List ℕ) (i : ℕ) → length xs ≡ length ys → length (xor_done i xs ys) ≡ length xs
unfolding exclusive_or
xor_length [] ys zero e = refl
xor_length [] ys (suc i) e = refl
xor_length (x ∷ xs) [] i e = absurd (omega (arith, e))
xor_length (x ∷ xs) (y ∷ ys) zero e = refl
xor_length (x ∷ xs) (y ∷ ys) (suc i) e = let more = xor_length xs ys i (omega (arith, e)) in omega (arith, more)

-- ---- several slots

-- the first n slots have the size
abbrev pub HaveSize : ℕ → (ℕ → List ℕ) → ℕ → Type 0
HaveSize size slots n = (i : ℕ) → i < n → length (slots i) ≡ size

pub parity_length : (size : ℕ) (slots : ℕ → List ℕ) (n : ℕ) → HaveSize size slots n → length (parity size slots n) ≡ size
unfolding parity
parity_length size slots zero sizes = length-replicate size 0
parity_length size slots (suc n) sizes =
    let one = parity_length size slots n (λ i less. sizes i (omega (arith, less))) in
    exclusive_length (parity size slots n) (slots n) (one ∙ sym (sizes n (omega arith))) ∙ one

pub parity_same : (size : ℕ) (slots others : ℕ → List ℕ) (n : ℕ) → ((i : ℕ) → i < n → slots i ≡ others i) → parity size slots n ≡ parity size others n
unfolding parity
parity_same size slots others zero same = refl
parity_same size slots others (suc n) same =
    ap (λ (l : List ℕ). exclusive_or l (slots n)) (parity_same size slots others n (λ i less. same i (omega (arith, less))))
    ∙ ap (exclusive_or (parity size others n)) (same n (omega arith))

but_step : (k size : ℕ) (slots : ℕ → List ℕ) (n : ℕ) (b : Bool) → (n == k) ≡ b → parity_but k size slots (suc n) ≡ cond b (parity_but k size slots n) (exclusive_or (parity_but k size slots n) (slots n))
unfolding parity_but
but_step k size slots n b is = ap (λ (t : Bool). cond t (parity_but k size slots n) (exclusive_or (parity_but k size slots n) (slots n))) is

pub but_left_out : (k size : ℕ) (slots : ℕ → List ℕ) (n : ℕ) → n ≡ k → parity_but k size slots (n + 1) ≡ parity_but k size slots n
but_left_out k size slots n is =
    let t : (n == k) ≡ true = grind (arith, nat_tests) in
    let e : n + 1 ≡ suc n = omega arith in
    ap (parity_but k size slots) e ∙ but_step k size slots n true t

pub but_taken : (k size : ℕ) (slots : ℕ → List ℕ) (n : ℕ) → n ≢ k → parity_but k size slots (n + 1) ≡ exclusive_or (parity_but k size slots n) (slots n)
but_taken k size slots n other =
    let t : (n == k) ≡ false = grind (arith, nat_tests) in
    let e : n + 1 ≡ suc n = omega arith in
    ap (parity_but k size slots) e ∙ but_step k size slots n false t

pub but_more : (k size : ℕ) (slots : ℕ → List ℕ) (n : ℕ) → parity_but k size slots (n + 1) ≡ sum_but k n (parity_but k size slots n) (slots n)
unfolding parity_but
but_more k size slots n = let e : n + 1 ≡ suc n = omega arith in ap (parity_but k size slots) e

pub but_none : (k size : ℕ) (slots : ℕ → List ℕ) → parity_but k size slots 0 ≡ replicate size 0
unfolding parity_but
but_none k size slots = refl

pub parity_none : (size : ℕ) (slots : ℕ → List ℕ) → parity size slots 0 ≡ replicate size 0
unfolding parity
parity_none size slots = refl

pub parity_suc : (size : ℕ) (slots : ℕ → List ℕ) (n : ℕ) → parity size slots (suc n) ≡ exclusive_or (parity size slots n) (slots n)
unfolding parity
parity_suc size slots n = refl

pub parity_more : (size : ℕ) (slots : ℕ → List ℕ) (n : ℕ) → parity size slots (n + 1) ≡ exclusive_or (parity size slots n) (slots n)
unfolding parity
parity_more size slots n = let e : n + 1 ≡ suc n = omega arith in ap (parity size slots) e

-- below the slot that is left out all are taken
but_above : (k size : ℕ) (slots : ℕ → List ℕ) (n : ℕ) → n ≤ k → parity_but k size slots n ≡ parity size slots n
unfolding parity
but_above k size slots zero le = but_none k size slots
but_above k size slots (suc n) le =
    let t : (n == k) ≡ false = grind (arith, nat_tests) in
    but_step k size slots n false t ∙ ap (λ (l : List ℕ). exclusive_or l (slots n)) (but_above k size slots n (omega (arith, le)))

-- one slot more
below_more : (k size : ℕ) (slots : ℕ → List ℕ) (n : ℕ) → k < suc n → (n ≢ k → exclusive_or (parity_but k size slots n) (slots k) ≡ parity size slots n) → exclusive_or (parity_but k size slots (suc n)) (slots k) ≡ exclusive_or (parity size slots n) (slots n)
below_more k size slots n less so_far = elim (cases_eq n k) [
  | inl same ↦ at_it same
  | inr other ↦ behind other
]
  where
    at_it : n ≡ k → exclusive_or (parity_but k size slots (suc n)) (slots k) ≡ exclusive_or (parity size slots n) (slots n)
    at_it same =
        let t : (n == k) ≡ true = grind (arith, nat_tests) in
        ap (λ (l : List ℕ). exclusive_or l (slots k)) (but_step k size slots n true t ∙ but_above k size slots n (omega (arith, same))) ∙ ap (λ (i : ℕ). exclusive_or (parity size slots n) (slots i)) (sym same)

    behind : n ≢ k → exclusive_or (parity_but k size slots (suc n)) (slots k) ≡ exclusive_or (parity size slots n) (slots n)
    behind other =
        let t : (n == k) ≡ false = grind (arith, nat_tests) in
        ap (λ (l : List ℕ). exclusive_or l (slots k)) (but_step k size slots n false t)
        ∙ swap (parity_but k size slots n) (slots n) (slots k)
        ∙ ap (λ (l : List ℕ). exclusive_or l (slots n)) (so_far other)

-- with the slot that is left out it is all of them
but_below : (k size : ℕ) (slots : ℕ → List ℕ) (n : ℕ) → k < n → exclusive_or (parity_but k size slots n) (slots k) ≡ parity size slots n
unfolding parity
but_below k size slots zero less = absurd (omega (arith, less))
but_below k size slots (suc n) less = below_more k size slots n less (λ other. but_below k size slots n (omega (arith, less, other)))

length_more : (k size : ℕ) (slots : ℕ → List ℕ) (n : ℕ) → length (slots n) ≡ size → length (parity_but k size slots n) ≡ size → length (parity_but k size slots (suc n)) ≡ size
length_more k size slots n last one = elim (cases_eq n k) [
  | inl same ↦ (let t : (n == k) ≡ true = grind (arith, nat_tests) in ap length (but_step k size slots n true t) ∙ one)
  | inr other ↦ (let t : (n == k) ≡ false = grind (arith, nat_tests) in ap length (but_step k size slots n false t) ∙ exclusive_length (parity_but k size slots n) (slots n) (one ∙ sym last) ∙ one)
]

but_length : (k size : ℕ) (slots : ℕ → List ℕ) (n : ℕ) → HaveSize size slots n → length (parity_but k size slots n) ≡ size
but_length k size slots zero sizes = ap length (but_none k size slots) ∙ length-replicate size 0
but_length k size slots (suc n) sizes = length_more k size slots n (sizes n (omega arith)) (but_length k size slots n (λ i less. sizes i (omega (arith, less))))

same_more : (k size : ℕ) (slots others : ℕ → List ℕ) (n : ℕ) → (n ≢ k → slots n ≡ others n) → parity_but k size slots n ≡ parity_but k size others n → parity_but k size slots (suc n) ≡ parity_but k size others (suc n)
same_more k size slots others n last one = elim (cases_eq n k) [
  | inl is ↦ (let t : (n == k) ≡ true = grind (arith, nat_tests) in but_step k size slots n true t ∙ one ∙ sym (but_step k size others n true t))
  | inr other ↦ (let t : (n == k) ≡ false = grind (arith, nat_tests) in but_step k size slots n false t ∙ ap (λ (l : List ℕ). exclusive_or l (slots n)) one ∙ ap (exclusive_or (parity_but k size others n)) (last other) ∙ sym (but_step k size others n false t))
]

pub but_same : (k size : ℕ) (slots others : ℕ → List ℕ) (n : ℕ) → ((i : ℕ) → i < n → i ≢ k → slots i ≡ others i) → parity_but k size slots n ≡ parity_but k size others n
but_same k size slots others zero same = but_none k size slots ∙ sym (but_none k size others)
but_same k size slots others (suc n) same = same_more k size slots others n (λ other. same n (omega arith) other) (but_same k size slots others n (λ i less. same i (omega (arith, less))))

-- The exclusive-or of all slots but one is that one, where the last slot is the exclusive-or of the others.
pub rebuilt_is : (k size : ℕ) (slots : ℕ → List ℕ) (n : ℕ) → k ≤ n → HaveSize size slots (n + 1) → slots n ≡ parity size slots n → parity_but k size slots (n + 1) ≡ slots k
rebuilt_is k size slots n le sizes last = elim (cases_eq n k) [
  | inl same ↦ but_left_out k size slots n same ∙ but_above k size slots n (omega (arith, same)) ∙ sym last ∙ ap slots same
  | inr other ↦ inside other
]
  where
    inside : n ≢ k → parity_but k size slots (n + 1) ≡ slots k
    inside other =
        let less : k < n = omega (arith, le, other) in
        let size_is = but_length k size slots n (λ i below. sizes i (omega (arith, below))) in
        but_taken k size slots n other
        ∙ ap (exclusive_or (parity_but k size slots n)) (last ∙ sym (but_below k size slots n less))
        ∙ twice (parity_but k size slots n) (slots k) (size_is ∙ sym (sizes k (omega (arith, le))))
