-- The text of a pool file, and what stands at its places.
use Rattle.std.proofs.Common.{◌≡◌, ◌≢◌, inl, inr, refl, sym, ◌∙◌, ap, ℕ, zero, suc, ◌+◌, ◌*◌, ◌<◌, ◌≤◌, ◌==◌, nat_lt, Bool, true, false, cond, List, [], ◌∷◌, ◌++◌, length, take, drop, Ok, arith, append_assoc, length-append}
use Rattle.std.specs.Prelude.{get_or}
use Rattle.std.specs.Int.{w32, from_be_bytes}
use Rattle.std.proofs.Math.Nat.{mul-suc, mul-add, mul_comm}
use Rattle.std.proofs.lemmas.Bool.{cases_eq}
use Rattle.std.proofs.lemmas.Bool.Decides.{nat_tests}
use Rattle.std.proofs.lemmas.List.{append-nil, take_at, drop_at, drop-drop}
use Rattle.sha2.specs.Sha256.{sha256}
use Rattle.disk_model.specs.declared.disk_file.DiskFile.{DiskFile}
use Rattle.parity_store.specs.declared.header.PoolHeader.{PoolHeader}
use Rattle.parity_store.specs.Layout.{pool_head, slot_at, pool_length, entry_in, length_in, slot_in}
use Rattle.parity_store.specs.Slots.{slot_of, length_of, IsPool}
use Rattle.parity_store.specs.Pools.{lengths_from, pool_text_in}
use Rattle.parity_store.specs.Writing.{joined}
use Rattle.parity_store.proofs.XorLaws.{HaveSize}
use Rattle.parity_store.proofs.SlotLaws.{length_of_job, length_of_parity}
use Rattle.parity_store.proofs.LengthLaws.{last_test, one_test, text_long}

-- ---- byte lists of one length, one behind the other

pub joined_none : (f : ℕ → List ℕ) → joined f 0 ≡ []
unfolding joined
joined_none f = refl

pub joined_more : (f : ℕ → List ℕ) (n : ℕ) → joined f (n + 1) ≡ joined f n ++ f n
unfolding joined
joined_more f n = let e : n + 1 ≡ suc n = omega arith in ap (joined f) e

joined_suc : (f : ℕ → List ℕ) (n : ℕ) → joined f (suc n) ≡ joined f n ++ f n
unfolding joined
joined_suc f n = refl

pub joined_same : (f g : ℕ → List ℕ) (n : ℕ) → ((i : ℕ) → i < n → f i ≡ g i) → joined f n ≡ joined g n
unfolding joined
joined_same f g zero same = refl
joined_same f g (suc n) same = ap (λ (l : List ℕ). l ++ f n) (joined_same f g n (λ i less. same i (omega (arith, less)))) ∙ ap (λ (l : List ℕ). joined g n ++ l) (same n (omega arith))

pub joined_length : (w : ℕ) (f : ℕ → List ℕ) (n : ℕ) → HaveSize w f n → length (joined f n) ≡ w * n
joined_length w f zero sizes = ap length (joined_none f) ∙ sym (nothing w)
  where
    nothing : (w : ℕ) → w * 0 ≡ 0
    nothing w = omega arith
joined_length w f (suc n) sizes =
    let more = joined_length w f n (λ i less. sizes i (omega (arith, less))) in
    let last = sizes n (omega arith) in
    ap length (joined_suc f n) ∙ length-append (joined f n) (f n) ∙ ap (λ (m : ℕ). m + length (f n)) more ∙ ap (λ (m : ℕ). w * n + m) last ∙ sym (mul-suc w n)

-- one of them at its place
pub joined_at : (w : ℕ) (f : ℕ → List ℕ) (n i : ℕ) (rest : List ℕ) → HaveSize w f n → i < n → take w (drop (w * i) (joined f n ++ rest)) ≡ f i
joined_at w f zero i rest sizes less = absurd (omega (arith, less))
joined_at w f (suc n) i rest sizes less =
    ap (λ (l : List ℕ). take w (drop (w * i) l)) (ap (λ (l : List ℕ). l ++ rest) (joined_suc f n) ∙ append_assoc (joined f n) (f n) rest) ∙ elim (cases_eq i n) [
      | inl same ↦ last same
      | inr other ↦ joined_at w f n i (f n ++ rest) earlier (omega (arith, less, other))
    ]
  where
    earlier : HaveSize w f n
    earlier j below = sizes j (omega (arith, below))

    last : i ≡ n → take w (drop (w * i) (joined f n ++ (f n ++ rest))) ≡ f i
    last same =
        ap (λ (m : ℕ). take w (drop (w * m) (joined f n ++ (f n ++ rest)))) same
        ∙ ap (take w) (drop_at (joined f n) (f n ++ rest) (w * n) (joined_length w f n earlier))
        ∙ take_at (f n) rest w (sizes n (omega arith))
        ∙ ap f (sym same)

-- ---- a pool file by its entries and slots

abbrev pub pool_file : PoolHeader → ℕ → (ℕ → List ℕ) → (ℕ → List ℕ) → ℕ → List ℕ
pool_file h gate entries slots n = pool_head h ++ gate ∷ (joined entries n ++ joined slots n)

front : (h : PoolHeader) (gate m : ℕ) (rest : List ℕ) → drop (16 + m) (pool_head h ++ gate ∷ rest) ≡ drop m rest
front h gate m rest =
    ap (λ (l : List ℕ). drop (16 + m) l) (sym (append_assoc (pool_head h) (gate ∷ []) rest))
    ∙ sym (drop-drop m 16 ((pool_head h ++ gate ∷ []) ++ rest))
    ∙ ap (drop m) (drop_at (pool_head h ++ gate ∷ []) rest 16 (omega (arith, length-append (pool_head h) (gate ∷ []))))

pub entry_there : (h : PoolHeader) (gate : ℕ) (entries slots : ℕ → List ℕ) (n i : ℕ) → HaveSize 36 entries n → i < n → entry_in (pool_file h gate entries slots n) i ≡ entries i
entry_there h gate entries slots n i sizes less = ap (take 36) (front h gate (36 * i) (joined entries n ++ joined slots n)) ∙ joined_at 36 entries n i (joined slots n) sizes less

pub slot_there : (h : PoolHeader) (gate : ℕ) (entries slots : ℕ → List ℕ) (n i : ℕ) → HaveSize 36 entries n → HaveSize h.size slots n → n ≡ h.jobs + 1 → i < n → slot_in h (pool_file h gate entries slots n) i ≡ slots i
slot_there h gate entries slots n i sizes slot_sizes count less =
    let place : slot_at h i ≡ 16 + (36 * n + h.size * i) = omega (arith, count) in
    ap (λ (m : ℕ). take h.size (drop m (pool_file h gate entries slots n))) place
    ∙ ap (take h.size) (front h gate (36 * n + h.size * i) (joined entries n ++ joined slots n)
    ∙ sym (drop-drop (h.size * i) (36 * n) (joined entries n ++ joined slots n))
    ∙ ap (drop (h.size * i)) (drop_at (joined entries n) (joined slots n) (36 * n) (joined_length 36 entries n sizes) ∙ sym (append-nil (joined slots n))))
    ∙ joined_at h.size slots n i [] slot_sizes less

pub file_length : (h : PoolHeader) (gate : ℕ) (entries slots : ℕ → List ℕ) (n : ℕ) → HaveSize 36 entries n → HaveSize h.size slots n → n ≡ h.jobs + 1 → length (pool_file h gate entries slots n) ≡ pool_length h
file_length h gate entries slots n sizes slot_sizes count =
    let a = joined_length 36 entries n sizes in
    let b = joined_length h.size slots n slot_sizes in
    let c : (h.jobs + 1) * (36 + h.size) ≡ 36 * n + h.size * n = ap (λ (m : ℕ). m * (36 + h.size)) (sym count) ∙ spread n h.size in
    omega (arith, a, b, c, length-append (pool_head h) (gate ∷ (joined entries n ++ joined slots n)), length-append (joined entries n) (joined slots n))
  where
    spread : (n s : ℕ) → n * (36 + s) ≡ 36 * n + s * n
    spread n s = mul-add n 36 s ∙ ap (λ (m : ℕ). m + n * s) (mul_comm n 36) ∙ ap (λ (m : ℕ). 36 * n + m) (mul_comm n s)

-- entries and slots as a list has them
pub record AreOf (h : PoolHeader) (list : List (List ℕ)) (entries slots : ℕ → List ℕ) : Type 0 where
  pub jobs : length list ≡ h.jobs
  pub fits : (i : ℕ) → i < h.jobs → length (get_or list i []) ≤ h.size
  pub sizes : HaveSize 36 entries (h.jobs + 1)
  pub slot_sizes : HaveSize h.size slots (h.jobs + 1)
  pub lengths : (i : ℕ) → i ≤ h.jobs → from_be_bytes w32 (take 4 (entries i)) ≡ length_of h.size list i
  pub digests : (i : ℕ) → i ≤ h.jobs → drop 4 (entries i) ≡ sha256 (slot_of h.size list i)
  pub slots_are : (i : ℕ) → i ≤ h.jobs → slots i ≡ slot_of h.size list i

pub is_pool : (h : PoolHeader) (list : List (List ℕ)) (entries slots : ℕ → List ℕ) (gate : ℕ) → AreOf h list entries slots → IsPool h list (pool_file h gate entries slots (h.jobs + 1))
is_pool h list entries slots gate are =
    let n = h.jobs + 1 in
    let file = pool_file h gate entries slots n in
    record {
      jobs = are.jobs;
      fits = are.fits;
      whole = file_length h gate entries slots n are.sizes are.slot_sizes refl;
      lengths = λ i le. ap (λ (l : List ℕ). from_be_bytes w32 (take 4 l)) (entry_there h gate entries slots n i are.sizes (omega (arith, le))) ∙ are.lengths i le;
      digests = λ i le. ap (drop 4) (entry_there h gate entries slots n i are.sizes (omega (arith, le))) ∙ are.digests i le;
      slots = λ i le other. slot_there h gate entries slots n i are.sizes are.slot_sizes refl (omega (arith, le)) ∙ are.slots_are i le;
      replaced = λ i wrong. absurd cc;
    }

-- ---- a pool file has no damage

lengths_good : (left : ℕ) (f : DiskFile) (h : PoolHeader) (list : List (List ℕ)) (file : List ℕ) (i : ℕ) → IsPool h list file → i + left ≡ h.jobs → lengths_from left f h file i ≡ Ok tt
lengths_good zero f h list file i pool at =
    let jobs = pool.jobs in
    let is = pool.lengths i (omega (arith, at)) ∙ length_of_parity h.size list i (omega (arith, at, jobs)) in
    let t : (length_in file i == h.size) ≡ true = grind (arith, nat_tests) in
    last_test f h file i true t
lengths_good (suc left) f h list file i pool at =
    let jobs = pool.jobs in
    let is = pool.lengths i (omega (arith, at)) ∙ length_of_job h.size list i (omega (arith, at, jobs)) in
    let fits = pool.fits i (omega (arith, at)) in
    let t : nat_lt h.size (length_in file i) ≡ false = grind (arith, nat_tests) in
    one_test left f h file i false t ∙ lengths_good left f h list file (i + 1) pool (omega (arith, at))

pub text_is_good : (f : DiskFile) (h : PoolHeader) (list : List (List ℕ)) (file : List ℕ) → IsPool h list file → pool_text_in f h file ≡ Ok tt
text_is_good f h list file pool = text_long f h file pool.whole ∙ lengths_good h.jobs f h list file 0 pool (omega arith)

-- ---- one more behind the others

-- the first n, and behind them another one
abbrev pub then_one : (ℕ → List ℕ) → ℕ → List ℕ → ℕ → List ℕ
then_one f n last i = cond (i == n) last (f i)

pub then_is : (f : ℕ → List ℕ) (n : ℕ) (last : List ℕ) (i : ℕ) → i ≢ n → then_one f n last i ≡ f i
then_is f n last i other = let t : (i == n) ≡ false = grind (arith, nat_tests) in ap (λ (b : Bool). cond b last (f i)) t

pub then_last : (f : ℕ → List ℕ) (n : ℕ) (last : List ℕ) (i : ℕ) → i ≡ n → then_one f n last i ≡ last
then_last f n last i same = let t : (i == n) ≡ true = grind (arith, nat_tests) in ap (λ (b : Bool). cond b last (f i)) t

pub joined_last : (f : ℕ → List ℕ) (n : ℕ) (last : List ℕ) → joined f n ++ last ≡ joined (then_one f n last) (n + 1)
joined_last f n last =
    ap (λ (l : List ℕ). l ++ last) (joined_same f (then_one f n last) n (λ i less. sym (then_is f n last i (λ e. absurd (omega (arith, e, less))))))
    ∙ ap (λ (l : List ℕ). joined (then_one f n last) n ++ l) (sym (then_last f n last n refl))
    ∙ sym (joined_more (then_one f n last) n)
