-- A pool in which no job has bytes.
use Rattle.std.proofs.Common.{◌≡◌, inl, inr, sym, ◌∙◌, ap, subst, ℕ, zero, suc, ◌+◌, ◌-◌, ◌<◌, ◌≤◌, List, [], ◌∷◌, ◌++◌, length, take, drop, arith}
use Rattle.std.specs.Prelude.{replicate, get_or}
use Rattle.std.specs.Int.{w32, from_be_bytes}
use Rattle.std.proofs.lemmas.Bool.{cases_eq, cases_lt}
use Rattle.std.proofs.lemmas.List.{length-replicate, get_or-replicate, get_or_past, take-replicate, replicate-append-replicate}
use Rattle.sha2.specs.Sha256.{sha256}
use Rattle.parity_store.specs.Layout.{InPoolRange, pool_head}
use Rattle.parity_store.specs.Slots.{exclusive_or, parity, padded, job_slot, slot_of, length_of, IsPool}
use Rattle.parity_store.specs.OnDisk.{first_header}
use Rattle.parity_store.specs.Writing.{joined, entry_bytes, empty_text}
use Rattle.parity_store.proofs.XorLaws.{exclusive_zero, parity_same, parity_none, parity_suc}
use Rattle.parity_store.proofs.SlotLaws.{slot_of_job, slot_of_parity, length_of_job, length_of_parity}
use Rattle.parity_store.proofs.TextLaws.{AreOf, is_pool, then_one, then_is, then_last, joined_last}
use Rattle.parity_store.proofs.PutLaws.{entry_size, entry_keeps}

abbrev zeros : ℕ → List ℕ
zeros size = replicate size 0

abbrev empty : ℕ → List (List ℕ)
empty n = replicate n []

get_empty : (n i : ℕ) → get_or (empty n) i [] ≡ []
get_empty n i = elim (cases_lt i n) [
  | inl less ↦ get_or-replicate n i [] [] less
  | inr le ↦ get_or_past (empty n) i [] (omega (arith, le, length-replicate {A = List ℕ} n []))
]

parity_zeros : (size n : ℕ) → parity size (λ _. zeros size) n ≡ zeros size
parity_zeros size zero = parity_none size (λ _. zeros size)
parity_zeros size (suc n) = parity_suc size (λ _. zeros size) n ∙ ap (λ (l : List ℕ). exclusive_or l (zeros size)) (parity_zeros size n) ∙ exclusive_zero (zeros size) size (length-replicate {A = ℕ} size 0)

empty_job : (size n i : ℕ) → job_slot size (empty n) i ≡ zeros size
empty_job size n i = let e : size - 0 ≡ size = omega arith in ap (padded size) (get_empty n i) ∙ ap (λ (m : ℕ). replicate m 0) e

count_is : (n : ℕ) → length (empty n) ≡ n
count_is n = length-replicate {A = List ℕ} n []

zero_slot : (size n i : ℕ) → i ≤ n → slot_of size (empty n) i ≡ zeros size
zero_slot size n i le = elim (cases_eq i n) [
  | inl same ↦ slot_of_parity size (empty n) i (same ∙ sym (count_is n)) ∙ parity_same size (job_slot size (empty n)) (λ _. zeros size) (length (empty n)) (λ j less. empty_job size n j) ∙ parity_zeros size (length (empty n))
  | inr other ↦ slot_of_job size (empty n) i (omega (arith, le, other, count_is n)) ∙ empty_job size n i
]

abbrev entries : ℕ → ℕ → ℕ → List ℕ
entries jobs size = then_one (λ _. entry_bytes 0 (zeros size)) jobs (entry_bytes size (zeros size))

each_entry : (jobs size : ℕ) (P : ℕ → List ℕ → Type 0) → P jobs (entry_bytes size (zeros size)) → ((i : ℕ) → i < jobs → P i (entry_bytes 0 (zeros size))) → (i : ℕ) → i ≤ jobs → P i (entries jobs size i)
each_entry jobs size P last first i le = elim (cases_eq i jobs) [
  | inl same ↦ subst (P i) (sym (then_last (λ _. entry_bytes 0 (zeros size)) jobs (entry_bytes size (zeros size)) i same)) (subst (λ (n : ℕ). P n (entry_bytes size (zeros size))) (sym same) last)
  | inr other ↦ subst (P i) (sym (then_is (λ _. entry_bytes 0 (zeros size)) jobs (entry_bytes size (zeros size)) i other)) (first i (omega (arith, le, other)))
]

empty_are : (jobs size : ℕ) → InPoolRange size jobs → AreOf (first_header jobs size) (empty jobs) (entries jobs size) (λ _. zeros size)
empty_are jobs size ranges =
    let most = ranges.size_most in
    let count = count_is jobs in
    record {
      jobs = count;
      fits = λ i less. (let e = ap length (get_empty jobs i) in omega (arith, e));
      sizes = λ i less. each_entry jobs size (λ _ e. length e ≡ 36) (entry_size size (zeros size)) (λ j below. entry_size 0 (zeros size)) i (omega (arith, less));
      slot_sizes = λ i less. length-replicate {A = ℕ} size 0;
      lengths = each_entry jobs size (λ i e. from_be_bytes w32 (take 4 e) ≡ length_of size (empty jobs) i)
          (entry_keeps size (zeros size) most ∙ sym (length_of_parity size (empty jobs) jobs (sym count)))
          (λ i less. entry_keeps 0 (zeros size) (omega arith) ∙ sym (length_of_job size (empty jobs) i (omega (arith, less, count)) ∙ ap length (get_empty jobs i)));
      digests = each_entry jobs size (λ i e. drop 4 e ≡ sha256 (slot_of size (empty jobs) i))
          (ap sha256 (sym (zero_slot size jobs jobs (omega arith))))
          (λ i less. ap sha256 (sym (zero_slot size jobs i (omega (arith, less)))));
      slots_are = λ i le. sym (zero_slot size jobs i le);
    }

pub empty_is_pool : (jobs size : ℕ) → InPoolRange size jobs → IsPool (first_header jobs size) (replicate jobs []) (pool_head (first_header jobs size) ++ 165 ∷ empty_text jobs size)
empty_is_pool jobs size ranges =
    let h = first_header jobs size in
    let text_is : joined (entries jobs size) (jobs + 1) ++ joined (λ _. zeros size) (jobs + 1) ≡ empty_text jobs size =
    ap (λ (l : List ℕ). l ++ joined (λ _. zeros size) (jobs + 1)) (sym (joined_last (λ _. entry_bytes 0 (zeros size)) jobs (entry_bytes size (zeros size)))) in
    subst (λ (l : List ℕ). IsPool h (replicate jobs []) (pool_head h ++ 165 ∷ l)) text_is (is_pool h (empty jobs) (entries jobs size) (λ _. zeros size) 165 (empty_are jobs size ranges))

-- ---- zeros, some at a time

pub more_zeros : (done n limit : ℕ) → n ≤ limit → zeros done ++ take n (zeros limit) ≡ zeros (done + n)
more_zeros done n limit le = ap (λ (l : List ℕ). zeros done ++ l) (take-replicate {X = ℕ} n limit 0 le) ∙ replicate-append-replicate {A = ℕ} done n 0
