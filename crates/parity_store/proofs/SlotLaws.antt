-- The slots of a pool, and those that are lost.
use Rattle.std.proofs.Common.{◌≡◌, ◌≢◌, ◌↔◌, inl, inr, refl, sym, ◌∙◌, ap, subst, ℕ, ◌+◌, ◌-◌, ◌<◌, ◌≤◌, nat_lt, Bool, true, false, IsTrue, cond, List, [], ◌++◌, length, take, drop, Option, Some, None, arith, length-append, length-take, length-drop}
use Rattle.std.specs.Prelude.{replicate, get_or}
use Rattle.std.proofs.lemmas.Bool.{cases_eq}
use Rattle.std.proofs.lemmas.Bool.Decides.{nat_tests}
use Rattle.std.proofs.lemmas.List.{length-replicate, take_at, take_all}
use Rattle.sha2.specs.Sha256.{sha256}
use Rattle.disk_model.specs.declared.disk_file.DiskFile.{DiskFile}
use Rattle.disk_model.specs.Store.{Store, file_of}
use Rattle.parity_store.specs.declared.header.PoolHeader.{PoolHeader}
use Rattle.parity_store.specs.Layout.{entry_at, entry_in, slot_in, digest_in}
use Rattle.parity_store.specs.Slots.{parity, padded, job_slot, slot_of, length_of, Matches, IsLost, IsPoolBut, IsLeastLost, AreLeastLost, AtMostOne}
use Rattle.parity_store.specs.Writing.{parity_but}
use Rattle.parity_store.specs.OnDisk.{number_of_lost}
use Rattle.parity_store.proofs.XorLaws.{HaveSize, parity_length, parity_same, but_same, rebuilt_is}

-- ---- what the slots of a list are

pub slot_of_job : (size : ℕ) (list : List (List ℕ)) (i : ℕ) → i < length list → slot_of size list i ≡ job_slot size list i
slot_of_job size list i less =
    let t : nat_lt i (length list) ≡ true = grind (arith, nat_tests) in
    ap (λ (b : Bool). cond b (job_slot size list i) (parity size (job_slot size list) (length list))) t

pub slot_of_parity : (size : ℕ) (list : List (List ℕ)) (i : ℕ) → i ≡ length list → slot_of size list i ≡ parity size (job_slot size list) (length list)
slot_of_parity size list i is =
    let t : nat_lt i (length list) ≡ false = grind (arith, nat_tests) in
    ap (λ (b : Bool). cond b (job_slot size list i) (parity size (job_slot size list) (length list))) t

pub length_of_job : (size : ℕ) (list : List (List ℕ)) (i : ℕ) → i < length list → length_of size list i ≡ length (get_or list i [])
length_of_job size list i less =
    let t : nat_lt i (length list) ≡ true = grind (arith, nat_tests) in
    ap (λ (b : Bool). cond b (length (get_or list i [])) size) t

pub length_of_parity : (size : ℕ) (list : List (List ℕ)) (i : ℕ) → i ≡ length list → length_of size list i ≡ size
length_of_parity size list i is =
    let t : nat_lt i (length list) ≡ false = grind (arith, nat_tests) in
    ap (λ (b : Bool). cond b (length (get_or list i [])) size) t

pub padded_length : (size : ℕ) (bytes : List ℕ) → length bytes ≤ size → length (padded size bytes) ≡ size
padded_length size bytes le = omega (arith, length-append bytes (replicate (size - length bytes) 0), length-replicate {A = ℕ} (size - length bytes) 0, le)

pub padded_front : (size : ℕ) (bytes : List ℕ) → take (length bytes) (padded size bytes) ≡ bytes
padded_front size bytes = take_at bytes (replicate (size - length bytes) 0) (length bytes) refl

pub slot_sizes : (size : ℕ) (list : List (List ℕ)) → ((i : ℕ) → i < length list → length (get_or list i []) ≤ size) → HaveSize size (slot_of size list) (length list + 1)
slot_sizes size list fits i less = elim (cases_eq i (length list)) [
  | inl same ↦ ap length (slot_of_parity size list i same) ∙ parity_length size (job_slot size list) (length list) (λ j below. padded_length size (get_or list j []) (fits j below))
  | inr other ↦ (let below : i < length list = omega (arith, less, other) in ap length (slot_of_job size list i below) ∙ padded_length size (get_or list i []) (fits i below))
]

pub last_slot : (size : ℕ) (list : List (List ℕ)) → slot_of size list (length list) ≡ parity size (slot_of size list) (length list)
last_slot size list = slot_of_parity size list (length list) refl ∙ parity_same size (job_slot size list) (slot_of size list) (length list) (λ i less. sym (slot_of_job size list i less))

-- ---- a pool of which one slot was replaced

pub healthy : (k : Option ℕ) (h : PoolHeader) (list : List (List ℕ)) (file : List ℕ) (i : ℕ) → IsPoolBut k h list file → i ≤ h.jobs → k ≢ Some i → Matches h file i
healthy k h list file i pool le other = ap sha256 (pool.slots i le other) ∙ sym (pool.digests i le)

-- a slot that is lost is the replaced one
lost_is : (k : Option ℕ) (h : PoolHeader) (list : List (List ℕ)) (file : List ℕ) (i : ℕ) → IsPoolBut k h list file → i ≤ h.jobs → IsLost h file i → k ≡ Some i
lost_is None h list file i pool le lost = absurd (lost (healthy None h list file i pool le (λ e. absurd cc)))
lost_is (Some j) h list file i pool le lost = elim (cases_eq j i) [
  | inl same ↦ ap (λ (n : ℕ). Some n) same
  | inr other ↦ absurd (lost (healthy (Some j) h list file i pool le (λ e. other (cc e))))
]

abbrev some : ℕ → Option ℕ
some n = Some n

number_is : (k : Option ℕ) (i n : ℕ) → k ≡ Some i → n ≡ i + 1 → some n ≡ number_of_lost k
number_is k i n is number = ap (λ (m : ℕ). some m) number ∙ ap number_of_lost (sym is)

no_second : (k : Option ℕ) (h : PoolHeader) (list : List (List ℕ)) (file : List ℕ) (i from : ℕ) (second : Option ℕ) → IsPoolBut k h list file → k ≡ Some i → i < from → IsLeastLost h file from second → second ≡ None
no_second k h list file i from None pool is less least = refl
no_second k h list file i from (Some n) pool is less least =
    let again = lost_is k h list file least.0 pool least.3 least.4 in
    let j = least.0 in
    let same : i ≡ j = inside i j (sym is ∙ again) in
    let far = least.2 in
    absurd (omega (arith, same, far, less))
  where
    inside : (a b : ℕ) → some a ≡ some b → a ≡ b
    inside a b e = cc

pub lost_alone : (k : Option ℕ) (h : PoolHeader) (list : List (List ℕ)) (file : List ℕ) (first second : Option ℕ) → IsPoolBut k h list file → AreLeastLost h file first second → (first ≡ number_of_lost k) × (second ≡ None)
lost_alone None h list file None second pool least = (refl, least.1)
lost_alone (Some i) h list file None second pool least =
    let was = pool.replaced i refl in
    absurd (was.1 (least.0 i (omega arith) was.0))
lost_alone k h list file (Some n) second pool least =
    let first = least.0 in
    let is = lost_is k h list file first.0 pool first.3 first.4 in
    let number = first.1 in
    (number_is k first.0 n is number, no_second k h list file first.0 n second pool is (omega (arith, number)) least.1)

-- ---- the slots, whole or rebuilt

-- the slots of the file but one are those of the list
others_are : (i : ℕ) (h : PoolHeader) (list : List (List ℕ)) (file : List ℕ) → IsPoolBut (Some i) h list file → (j : ℕ) → j < h.jobs + 1 → j ≢ i → slot_in h file j ≡ slot_of h.size list j
others_are i h list file pool j less other = pool.slots j (omega (arith, less)) (λ e. other (inside i j e))
  where
    inside : (a b : ℕ) → some a ≡ some b → b ≡ a
    inside a b e = cc

pub rebuilt_slot : (i : ℕ) (h : PoolHeader) (list : List (List ℕ)) (file : List ℕ) → IsPoolBut (Some i) h list file → parity_but i h.size (slot_in h file) (h.jobs + 1) ≡ slot_of h.size list i
rebuilt_slot i h list file pool =
    let n = pool.jobs in
    let le : i ≤ length list = (let was = (pool.replaced i refl).0 in omega (arith, was, n)) in
    but_same i h.size (slot_in h file) (slot_of h.size list) (h.jobs + 1) (others_are i h list file pool)
    ∙ ap (λ (m : ℕ). parity_but i h.size (slot_of h.size list) (m + 1)) (sym n)
    ∙ rebuilt_is i h.size (slot_of h.size list) (length list) le (slot_sizes h.size list (λ j less. pool.fits j (omega (arith, less, n)))) (last_slot h.size list)

-- where one slot at most is lost, it is the replaced one
pub one_is : (k : Option ℕ) (h : PoolHeader) (list : List (List ℕ)) (file : List ℕ) (lost : Option ℕ) → IsPoolBut k h list file → AtMostOne h file lost → lost ≡ number_of_lost k
one_is k h list file lost pool one = (lost_alone k h list file lost None pool one).0

-- a slot that is not lost stands in the file
pub stands_there : (k : Option ℕ) (h : PoolHeader) (list : List (List ℕ)) (file : List ℕ) (lost : Option ℕ) (i : ℕ) → IsPoolBut k h list file → AtMostOne h file lost → i ≤ h.jobs → lost ≢ Some (i + 1) → slot_in h file i ≡ slot_of h.size list i
stands_there k h list file lost i pool one le other = pool.slots i le (λ e. other (one_is k h list file lost pool one ∙ ap number_of_lost e))

-- the one that is lost is rebuilt
pub rebuilt_there : (k : Option ℕ) (h : PoolHeader) (list : List (List ℕ)) (file : List ℕ) (lost : Option ℕ) (i : ℕ) → IsPoolBut k h list file → AtMostOne h file lost → lost ≡ Some (i + 1) → parity_but i h.size (slot_in h file) (h.jobs + 1) ≡ slot_of h.size list i
rebuilt_there None h list file lost i pool one is = absurd (wrong (sym (one_is None h list file lost pool one) ∙ is))
  where
    wrong : None ≡ some (i + 1) → ⊥
    wrong e = cc
rebuilt_there (Some j) h list file lost i pool one is =
    let same : j ≡ i = inside (sym (one_is (Some j) h list file lost pool one) ∙ is) in
    subst (λ (n : ℕ). parity_but n h.size (slot_in h file) (h.jobs + 1) ≡ slot_of h.size list n) same (rebuilt_slot j h list file pool)
  where
    inside : some (j + 1) ≡ some (i + 1) → j ≡ i
    inside e = let s : j + 1 ≡ i + 1 = cc in omega (arith, s)

-- ---- what a get gives

pub got : (k : Option ℕ) (h : PoolHeader) (list : List (List ℕ)) (file : List ℕ) (room : List ℕ) (i n : ℕ) → IsPoolBut k h list file → i < h.jobs → room ≡ slot_of h.size list i → n ≡ length (get_or list i []) → take n room ≡ get_or list i []
got k h list file room i n pool less is count =
    let below : i < length list = (let jobs = pool.jobs in omega (arith, jobs, less)) in
    ap (λ (m : ℕ). take m room) count ∙ ap (take (length (get_or list i []))) (is ∙ slot_of_job h.size list i below) ∙ padded_front h.size (get_or list i [])

-- the digest of an entry is all that stands behind its length
pub digest_whole : (file : List ℕ) (i : ℕ) → take 32 (drop 4 (entry_in file i)) ≡ digest_in file i
digest_whole file i = take_all 32 (drop 4 (entry_in file i)) (omega (arith, length-drop 4 (entry_in file i), length-take 36 (drop (entry_at i) file)))

pub matches_is : (h : PoolHeader) (file slot entry : List ℕ) (i : ℕ) (P : Type 0) → slot ≡ slot_in h file i → entry ≡ entry_in file i → P ↔ (sha256 slot ≡ take 32 (drop 4 entry)) → P ↔ Matches h file i
matches_is h file slot entry i P slot_is entry_is same =
    let one = ap sha256 slot_is in
    let two = ap (λ (l : List ℕ). take 32 (drop 4 l)) entry_is ∙ digest_whole file i in
    (λ y. sym one ∙ same.0 y ∙ two, λ m. same.1 (one ∙ m ∙ sym two))

pub refuted : (b : Bool) → b ≡ false → IsTrue b → ⊥
refuted true e y = absurd cc
refuted false e y = absurd cc

-- what was written back to a list of the same length
pub written_back : (new old : List ℕ) (n : ℕ) → n ≡ length new → take n (new ++ drop (length new) old) ≡ new
written_back new old n is = take_at new (drop (length new) old) n (sym is)

-- what a get gives, over the looks at the disk that it takes
pub got_all : (k : Option ℕ) (h : PoolHeader) (list : List (List ℕ)) (f : DiskFile) (s s1 s2 : Store) (room : List ℕ) (j i n : ℕ) (lost : Option ℕ) → s1 ≡ s → s2 ≡ s1 → IsPoolBut k h list (file_of f s) → AtMostOne h (file_of f s) lost
    → (AtMostOne h (file_of f s1) lost → (list : List (List ℕ)) (k : Option ℕ) → IsPoolBut k h list (file_of f s1) → room ≡ slot_of h.size list j)
    → ((list : List (List ℕ)) (k : Option ℕ) → IsPoolBut k h list (file_of f s2) → j < h.jobs → n ≡ length (get_or list j []))
    → j < h.jobs → j ≡ i → take n room ≡ get_or list i []
got_all k h list f s s1 s2 room j i n lost first second pool one brought count less same =
    let pool1 = subst (λ (x : Store). IsPoolBut k h list (file_of f x)) (sym first) pool in
    let pool2 = subst (λ (x : Store). IsPoolBut k h list (file_of f x)) (sym second) pool1 in
    let one1 = subst (λ (x : Store). AtMostOne h (file_of f x) lost) (sym first) one in
    got k h list (file_of f s) room j n pool less (brought one1 list k pool1) (count list k pool2 less) ∙ ap (λ (m : ℕ). get_or list m []) same
