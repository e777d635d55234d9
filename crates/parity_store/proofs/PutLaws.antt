-- What a put writes is the pool of the new list.
use Rattle.std.proofs.Common.{◌≡◌, ◌≢◌, inl, inr, refl, sym, ◌∙◌, ap, subst, ℕ, ◌+◌, ◌*◌, ◌<◌, ◌≤◌, ◌==◌, Bool, true, false, cond, List, [], ◌∷◌, ◌++◌, length, take, drop, Option, Some, None, arith, append_assoc, length-append, length-take, length-drop}
use Rattle.std.specs.Prelude.{get_or, slice_set}
use Rattle.std.specs.Int.{w32, to_be_bytes, from_be_bytes}
use Rattle.std.proofs.Math.Nat.{mul-add, mul_comm}
use Rattle.std.proofs.lemmas.Bool.{cases_eq}
use Rattle.std.proofs.lemmas.Bool.Decides.{nat_tests}
use Rattle.std.proofs.lemmas.List.{length-set, get_or-set_same, get_or-set_other}
use Rattle.std.proofs.lemmas.Nat.{from_be_bytes-to_be_bytes_4}
use Rattle.sha2.specs.Sha256.{sha256}
use Rattle.sha2.proofs.Facts256.{length-sha256}
use Rattle.parity_store.specs.declared.header.PoolHeader.{PoolHeader}
use Rattle.parity_store.specs.Layout.{IsPoolHeader, pool_head, pool_length, entry_in, slot_in}
use Rattle.parity_store.specs.Slots.{parity, padded, job_slot, slot_of, length_of, IsPool, IsPoolBut, AtMostOne}
use Rattle.parity_store.specs.OnDisk.{next_header}
use Rattle.parity_store.specs.Writing.{joined, put_slot, put_entry, put_parity, put_text, entry_bytes, IsRebuilt}
use Rattle.parity_store.proofs.XorLaws.{parity_same}
use Rattle.parity_store.proofs.SlotLaws.{slot_of_job, slot_of_parity, length_of_job, length_of_parity, slot_sizes, stands_there, rebuilt_there}
use Rattle.parity_store.proofs.TextLaws.{AreOf, is_pool, then_one, then_is, then_last, joined_last}

-- ---- one slot as a put writes it

slot_job : (h : PoolHeader) (file : List ℕ) (job : ℕ) (bytes : List ℕ) (lost : Option ℕ) (rebuilt : List ℕ) (i : ℕ) → i ≡ job → put_slot h file job bytes lost rebuilt i ≡ padded h.size bytes
slot_job h file job bytes None rebuilt i same = let t : (i == job) ≡ true = grind (arith, nat_tests) in ap (λ (b : Bool). cond b (padded h.size bytes) (slot_in h file i)) t
slot_job h file job bytes (Some number) rebuilt i same = let t : (i == job) ≡ true = grind (arith, nat_tests) in ap (λ (b : Bool). cond b (padded h.size bytes) (cond (i + 1 == number) rebuilt (slot_in h file i))) t

slot_rebuilt : (h : PoolHeader) (file : List ℕ) (job : ℕ) (bytes : List ℕ) (number : ℕ) (rebuilt : List ℕ) (i : ℕ) → i ≢ job → i + 1 ≡ number → put_slot h file job bytes (Some number) rebuilt i ≡ rebuilt
slot_rebuilt h file job bytes number rebuilt i other same =
    let t : (i == job) ≡ false = grind (arith, nat_tests) in
    let u : (i + 1 == number) ≡ true = grind (arith, nat_tests) in
    ap (λ (b : Bool). cond b (padded h.size bytes) (cond (i + 1 == number) rebuilt (slot_in h file i))) t ∙ ap (λ (b : Bool). cond b rebuilt (slot_in h file i)) u

slot_there : (h : PoolHeader) (file : List ℕ) (job : ℕ) (bytes : List ℕ) (number : ℕ) (rebuilt : List ℕ) (i : ℕ) → i ≢ job → i + 1 ≢ number → put_slot h file job bytes (Some number) rebuilt i ≡ slot_in h file i
slot_there h file job bytes number rebuilt i other apart =
    let t : (i == job) ≡ false = grind (arith, nat_tests) in
    let u : (i + 1 == number) ≡ false = grind (arith, nat_tests) in
    ap (λ (b : Bool). cond b (padded h.size bytes) (cond (i + 1 == number) rebuilt (slot_in h file i))) t ∙ ap (λ (b : Bool). cond b rebuilt (slot_in h file i)) u

slot_whole : (h : PoolHeader) (file : List ℕ) (job : ℕ) (bytes rebuilt : List ℕ) (i : ℕ) → i ≢ job → put_slot h file job bytes None rebuilt i ≡ slot_in h file i
slot_whole h file job bytes rebuilt i other = let t : (i == job) ≡ false = grind (arith, nat_tests) in ap (λ (b : Bool). cond b (padded h.size bytes) (slot_in h file i)) t

abbrev some : ℕ → Option ℕ
some n = Some n

inside : (a b : ℕ) → some a ≡ some b → b ≡ a
inside a b e = cc

-- a slot of another job is the one of the old list
slot_kept : (k : Option ℕ) (h : PoolHeader) (list : List (List ℕ)) (file : List ℕ) (job : ℕ) (bytes : List ℕ) (lost : Option ℕ) (rebuilt : List ℕ) (i : ℕ) → IsPoolBut k h list file → AtMostOne h file lost → IsRebuilt h file lost rebuilt → i ≤ h.jobs → i ≢ job
    → put_slot h file job bytes lost rebuilt i ≡ slot_of h.size list i
slot_kept k h list file job bytes None rebuilt i pool one is le other = slot_whole h file job bytes rebuilt i other ∙ stands_there k h list file None i pool one le (λ e. absurd cc)
slot_kept k h list file job bytes (Some number) rebuilt i pool one is le other = elim (cases_eq (i + 1) number) [
  | inl same ↦ (let number_is : some number ≡ Some (i + 1) = ap (λ (n : ℕ). some n) (sym same) in slot_rebuilt h file job bytes number rebuilt i other same ∙ is i number_is ∙ rebuilt_there k h list file (Some number) i pool one number_is)
  | inr apart ↦ slot_there h file job bytes number rebuilt i other apart ∙ stands_there k h list file (Some number) i pool one le (λ e. apart (inside number (i + 1) e))
]

-- ---- the new list

new_is : (list : List (List ℕ)) (job : ℕ) (bytes : List ℕ) (i : ℕ) → job < length list → i ≡ job → get_or (slice_set list job bytes) i [] ≡ bytes
new_is list job bytes i less same = ap (λ (n : ℕ). get_or (slice_set list job bytes) n []) same ∙ get_or-set_same list job bytes [] less

old_is : (list : List (List ℕ)) (job : ℕ) (bytes : List ℕ) (i : ℕ) → i ≢ job → get_or (slice_set list job bytes) i [] ≡ get_or list i []
old_is list job bytes i other = get_or-set_other list job i bytes [] other

abbrev the_list : List (List ℕ) → ℕ → List ℕ → List (List ℕ)
the_list list job bytes = slice_set list job bytes

same_count : (list : List (List ℕ)) (job : ℕ) (bytes : List ℕ) → length (the_list list job bytes) ≡ length list
same_count list job bytes = length-set list job bytes

new_slot : (size : ℕ) (list : List (List ℕ)) (job : ℕ) (bytes : List ℕ) (i : ℕ) → job < length list → i ≡ job → slot_of size (the_list list job bytes) i ≡ padded size bytes
new_slot size list job bytes i less same =
    let count = same_count list job bytes in
    slot_of_job size (the_list list job bytes) i (omega (arith, count, less, same)) ∙ ap (padded size) (new_is list job bytes i less same)

old_slot : (size : ℕ) (list : List (List ℕ)) (job : ℕ) (bytes : List ℕ) (i : ℕ) → i < length list → i ≢ job → slot_of size (the_list list job bytes) i ≡ slot_of size list i
old_slot size list job bytes i less other =
    let count = same_count list job bytes in
    slot_of_job size (the_list list job bytes) i (omega (arith, count, less)) ∙ ap (padded size) (old_is list job bytes i other) ∙ sym (slot_of_job size list i less)

new_length : (size : ℕ) (list : List (List ℕ)) (job : ℕ) (bytes : List ℕ) (i : ℕ) → job < length list → i ≡ job → length_of size (the_list list job bytes) i ≡ length bytes
new_length size list job bytes i less same =
    let count = same_count list job bytes in
    length_of_job size (the_list list job bytes) i (omega (arith, count, less, same)) ∙ ap length (new_is list job bytes i less same)

old_length : (size : ℕ) (list : List (List ℕ)) (job : ℕ) (bytes : List ℕ) (i : ℕ) → i < length list → i ≢ job → length_of size (the_list list job bytes) i ≡ length_of size list i
old_length size list job bytes i less other =
    let count = same_count list job bytes in
    length_of_job size (the_list list job bytes) i (omega (arith, count, less)) ∙ ap length (old_is list job bytes i other) ∙ sym (length_of_job size list i less)

-- ---- entries

pub entry_size : (n : ℕ) (slot : List ℕ) → length (entry_bytes n slot) ≡ 36
entry_size n slot = omega (arith, length-append (to_be_bytes w32 n) (sha256 slot), length-sha256 slot)

pub entry_keeps : (n : ℕ) (slot : List ℕ) → n ≤ 16777216 → from_be_bytes w32 (take 4 (entry_bytes n slot)) ≡ n
entry_keeps n slot le = from_be_bytes-to_be_bytes_4 n (omega (arith, le))

pub entry_digest : (n : ℕ) (slot : List ℕ) → drop 4 (entry_bytes n slot) ≡ sha256 slot
entry_digest n slot = refl

pub entry_whole : (h : PoolHeader) (file : List ℕ) (i : ℕ) → length file ≡ pool_length h → i ≤ h.jobs → length (entry_in file i) ≡ 36
entry_whole h file i whole le =
    let spread : (h.jobs + 1) * (36 + h.size) ≡ 36 * (h.jobs + 1) + (h.jobs + 1) * h.size = mul-add (h.jobs + 1) 36 h.size ∙ ap (λ (m : ℕ). m + (h.jobs + 1) * h.size) (mul_comm (h.jobs + 1) 36) in
    omega (arith, whole, le, spread, length-take 36 (drop (16 + 36 * i) file), length-drop (16 + 36 * i) file)

entry_new : (file : List ℕ) (job : ℕ) (entry : List ℕ) (i : ℕ) → i ≡ job → put_entry file job entry i ≡ entry
entry_new file job entry i same = let t : (i == job) ≡ true = grind (arith, nat_tests) in ap (λ (b : Bool). cond b entry (entry_in file i)) t

entry_old : (file : List ℕ) (job : ℕ) (entry : List ℕ) (i : ℕ) → i ≢ job → put_entry file job entry i ≡ entry_in file i
entry_old file job entry i other = let t : (i == job) ≡ false = grind (arith, nat_tests) in ap (λ (b : Bool). cond b entry (entry_in file i)) t

-- ---- what is put

pub record IsPut (k : Option ℕ) (h : PoolHeader) (list : List (List ℕ)) (file : List ℕ) (job : ℕ) (bytes : List ℕ) (lost : Option ℕ) (rebuilt : List ℕ) : Type 0 where
  pub pool : IsPoolBut k h list file
  pub one : AtMostOne h file lost
  pub is : IsRebuilt h file lost rebuilt
  pub job_in : job < h.jobs
  pub fits : length bytes ≤ h.size
  pub held : IsPoolHeader h

-- the slot of a job
put_job_slot : (k : Option ℕ) (h : PoolHeader) (list : List (List ℕ)) (file : List ℕ) (job : ℕ) (bytes : List ℕ) (lost : Option ℕ) (rebuilt : List ℕ) → IsPut k h list file job bytes lost rebuilt
    → (i : ℕ) → i < h.jobs → put_slot h file job bytes lost rebuilt i ≡ slot_of h.size (the_list list job bytes) i
put_job_slot k h list file job bytes lost rebuilt put i less =
    let jobs = put.pool.jobs in let job_in = put.job_in in
    elim (cases_eq i job) [
      | inl same ↦ slot_job h file job bytes lost rebuilt i same ∙ sym (new_slot h.size list job bytes i (omega (arith, jobs, job_in)) same)
      | inr other ↦ slot_kept k h list file job bytes lost rebuilt i put.pool put.one put.is (omega (arith, less)) other ∙ sym (old_slot h.size list job bytes i (omega (arith, jobs, less)) other)
    ]

-- the parity slot
put_last_slot : (k : Option ℕ) (h : PoolHeader) (list : List (List ℕ)) (file : List ℕ) (job : ℕ) (bytes : List ℕ) (lost : Option ℕ) (rebuilt : List ℕ) → IsPut k h list file job bytes lost rebuilt
    → put_parity h file job bytes lost rebuilt ≡ slot_of h.size (the_list list job bytes) h.jobs
put_last_slot k h list file job bytes lost rebuilt put =
    let new = the_list list job bytes in
    let count : length new ≡ h.jobs = same_count list job bytes ∙ put.pool.jobs in
    parity_same h.size (put_slot h file job bytes lost rebuilt) (job_slot h.size new) h.jobs (λ i less. put_job_slot k h list file job bytes lost rebuilt put i less ∙ slot_of_job h.size new i (omega (arith, count, less)))
    ∙ ap (parity h.size (job_slot h.size new)) (sym count)
    ∙ sym (slot_of_parity h.size new h.jobs (sym count))

abbrev all_slots : PoolHeader → List ℕ → ℕ → List ℕ → Option ℕ → List ℕ → ℕ → List ℕ
all_slots h file job bytes lost rebuilt = then_one (put_slot h file job bytes lost rebuilt) h.jobs (put_parity h file job bytes lost rebuilt)

abbrev all_entries : PoolHeader → List ℕ → ℕ → List ℕ → Option ℕ → List ℕ → ℕ → List ℕ
all_entries h file job bytes lost rebuilt = then_one (put_entry file job (entry_bytes (length bytes) (padded h.size bytes))) h.jobs (entry_bytes h.size (put_parity h file job bytes lost rebuilt))

slots_are : (k : Option ℕ) (h : PoolHeader) (list : List (List ℕ)) (file : List ℕ) (job : ℕ) (bytes : List ℕ) (lost : Option ℕ) (rebuilt : List ℕ) → IsPut k h list file job bytes lost rebuilt
    → (i : ℕ) → i ≤ h.jobs → all_slots h file job bytes lost rebuilt i ≡ slot_of h.size (the_list list job bytes) i
slots_are k h list file job bytes lost rebuilt put i le = elim (cases_eq i h.jobs) [
  | inl same ↦ then_last (put_slot h file job bytes lost rebuilt) h.jobs (put_parity h file job bytes lost rebuilt) i same ∙ put_last_slot k h list file job bytes lost rebuilt put ∙ ap (slot_of h.size (the_list list job bytes)) (sym same)
  | inr other ↦ then_is (put_slot h file job bytes lost rebuilt) h.jobs (put_parity h file job bytes lost rebuilt) i other ∙ put_job_slot k h list file job bytes lost rebuilt put i (omega (arith, le, other))
]

-- a fact on each entry
each_entry : (k : Option ℕ) (h : PoolHeader) (list : List (List ℕ)) (file : List ℕ) (job : ℕ) (bytes : List ℕ) (lost : Option ℕ) (rebuilt : List ℕ) (P : ℕ → List ℕ → Type 0) → IsPut k h list file job bytes lost rebuilt
    → P h.jobs (entry_bytes h.size (put_parity h file job bytes lost rebuilt)) → P job (entry_bytes (length bytes) (padded h.size bytes)) → ((i : ℕ) → i < h.jobs → i ≢ job → P i (entry_in file i))
    → (i : ℕ) → i ≤ h.jobs → P i (all_entries h file job bytes lost rebuilt i)
each_entry k h list file job bytes lost rebuilt P put last new old i le = elim (cases_eq i h.jobs) [
  | inl same ↦ subst (P i) (sym (then_last entries h.jobs parity_entry i same)) (subst (λ (n : ℕ). P n parity_entry) (sym same) last)
  | inr other ↦ subst (P i) (sym (then_is entries h.jobs parity_entry i other)) (by_job other)
]
  where
    entry : List ℕ
    entry = entry_bytes (length bytes) (padded h.size bytes)

    entries : ℕ → List ℕ
    entries = put_entry file job entry

    parity_entry : List ℕ
    parity_entry = entry_bytes h.size (put_parity h file job bytes lost rebuilt)

    by_job : i ≢ h.jobs → P i (put_entry file job entry i)
    by_job other = elim (cases_eq i job) [
      | inl same ↦ subst (P i) (sym (entry_new file job entry i same)) (subst (λ (n : ℕ). P n entry) (sym same) new)
      | inr apart ↦ subst (P i) (sym (entry_old file job entry i apart)) (old i (omega (arith, le, other)) apart)
    ]

put_are : (k : Option ℕ) (h : PoolHeader) (list : List (List ℕ)) (file : List ℕ) (job : ℕ) (bytes : List ℕ) (lost : Option ℕ) (rebuilt : List ℕ) → IsPut k h list file job bytes lost rebuilt
    → AreOf (next_header h) (the_list list job bytes) (all_entries h file job bytes lost rebuilt) (all_slots h file job bytes lost rebuilt)
put_are k h list file job bytes lost rebuilt put =
    let new = the_list list job bytes in
    let jobs = put.pool.jobs in
    let job_in = put.job_in in
    let fits = put.fits in
    let most = put.held.ranges.size_most in
    let count : length new ≡ h.jobs = same_count list job bytes ∙ jobs in
    let new_fits : (i : ℕ) → i < h.jobs → length (get_or new i []) ≤ h.size = λ i less. elim (cases_eq i job) [
      | inl same ↦ (let e = ap length (new_is list job bytes i (omega (arith, jobs, job_in)) same) in omega (arith, e, fits))
      | inr other ↦ (let e = ap length (old_is list job bytes i other) in let was = put.pool.fits i less in omega (arith, e, was))
    ] in
    record {
      jobs = count;
      fits = new_fits;
      sizes = λ i less. each_entry k h list file job bytes lost rebuilt (λ _ e. length e ≡ 36) put (entry_size h.size (put_parity h file job bytes lost rebuilt)) (entry_size (length bytes) (padded h.size bytes)) (λ j below apart. entry_whole h file j put.pool.whole (omega (arith, below))) i (omega (arith, less));
      slot_sizes = λ i less. ap length (slots_are k h list file job bytes lost rebuilt put i (omega (arith, less))) ∙ slot_sizes h.size new (λ j below. new_fits j (omega (arith, below, count))) i (omega (arith, less, count));
      lengths = each_entry k h list file job bytes lost rebuilt (λ i e. from_be_bytes w32 (take 4 e) ≡ length_of h.size new i) put
          (entry_keeps h.size (put_parity h file job bytes lost rebuilt) most ∙ sym (length_of_parity h.size new h.jobs (sym count)))
          (entry_keeps (length bytes) (padded h.size bytes) (omega (arith, fits, most)) ∙ sym (new_length h.size list job bytes job (omega (arith, jobs, job_in)) refl))
          (λ i less apart. put.pool.lengths i (omega (arith, less)) ∙ sym (old_length h.size list job bytes i (omega (arith, jobs, less)) apart));
      digests = each_entry k h list file job bytes lost rebuilt (λ i e. drop 4 e ≡ sha256 (slot_of h.size new i)) put
          (ap sha256 (put_last_slot k h list file job bytes lost rebuilt put))
          (ap sha256 (sym (new_slot h.size list job bytes job (omega (arith, jobs, job_in)) refl)))
          (λ i less apart. put.pool.digests i (omega (arith, less)) ∙ ap sha256 (sym (old_slot h.size list job bytes i (omega (arith, jobs, less)) apart)));
      slots_are = slots_are k h list file job bytes lost rebuilt put;
    }

-- the text of a put behind an open gate is the pool of the new list
pub put_is_pool : (k : Option ℕ) (h : PoolHeader) (list : List (List ℕ)) (file : List ℕ) (job : ℕ) (bytes : List ℕ) (lost : Option ℕ) (rebuilt : List ℕ) → IsPut k h list file job bytes lost rebuilt
    → IsPool (next_header h) (slice_set list job bytes) (pool_head (next_header h) ++ 165 ∷ put_text h file job bytes lost rebuilt)
put_is_pool k h list file job bytes lost rebuilt put =
    let entries = put_entry file job (entry_bytes (length bytes) (padded h.size bytes)) in
    let last = put_parity h file job bytes lost rebuilt in
    let text_is : joined (all_entries h file job bytes lost rebuilt) (h.jobs + 1) ++ joined (all_slots h file job bytes lost rebuilt) (h.jobs + 1) ≡ put_text h file job bytes lost rebuilt =
    ap (λ (l : List ℕ). l ++ joined (all_slots h file job bytes lost rebuilt) (h.jobs + 1)) (sym (joined_last entries h.jobs (entry_bytes h.size last)))
    ∙ ap (λ (l : List ℕ). (joined entries h.jobs ++ entry_bytes h.size last) ++ l) (sym (joined_last (put_slot h file job bytes lost rebuilt) h.jobs last)) in
    subst (λ (l : List ℕ). IsPool (next_header h) (slice_set list job bytes) (pool_head (next_header h) ++ 165 ∷ l)) text_is
    (is_pool (next_header h) (the_list list job bytes) (all_entries h file job bytes lost rebuilt) (all_slots h file job bytes lost rebuilt) 165 (put_are k h list file job bytes lost rebuilt put))

-- the parts as they were written are the text
pub put_text_is : (h : PoolHeader) (file file1 : List ℕ) (job : ℕ) (bytes : List ℕ) (lost : Option ℕ) (rebuilt rebuilt1 sum sum2 : List ℕ) → file1 ≡ file → rebuilt1 ≡ rebuilt → sum ≡ put_parity h file job bytes lost rebuilt → sum2 ≡ sum
    → ((joined (put_entry file job (entry_bytes (length bytes) (padded h.size bytes))) h.jobs ++ entry_bytes h.size sum) ++ joined (put_slot h file1 job bytes lost rebuilt1) h.jobs) ++ sum2 ≡ put_text h file job bytes lost rebuilt
put_text_is h file file1 job bytes lost rebuilt rebuilt1 sum sum2 same_file same_rebuilt sum_is sum2_is =
    let entries = joined (put_entry file job (entry_bytes (length bytes) (padded h.size bytes))) h.jobs in
    append_assoc (entries ++ entry_bytes h.size sum) (joined (put_slot h file1 job bytes lost rebuilt1) h.jobs) sum2
    ∙ ap (λ (f : List ℕ). (entries ++ entry_bytes h.size sum) ++ (joined (put_slot h f job bytes lost rebuilt1) h.jobs ++ sum2)) same_file
    ∙ ap (λ (r : List ℕ). (entries ++ entry_bytes h.size sum) ++ (joined (put_slot h file job bytes lost r) h.jobs ++ sum2)) same_rebuilt
    ∙ ap (λ (l : List ℕ). (entries ++ entry_bytes h.size sum) ++ (joined (put_slot h file job bytes lost rebuilt) h.jobs ++ l)) (sum2_is ∙ sum_is)
    ∙ ap (λ (l : List ℕ). (entries ++ entry_bytes h.size l) ++ (joined (put_slot h file job bytes lost rebuilt) h.jobs ++ put_parity h file job bytes lost rebuilt)) sum_is

-- the text depends on what stands in the file alone
pub same_put_text : (h : PoolHeader) (file file1 : List ℕ) (job : ℕ) (bytes : List ℕ) (lost : Option ℕ) (rebuilt rebuilt1 : List ℕ) → file1 ≡ file → rebuilt1 ≡ rebuilt → put_text h file1 job bytes lost rebuilt1 ≡ put_text h file job bytes lost rebuilt
same_put_text h file file1 job bytes lost rebuilt rebuilt1 same_file same_rebuilt =
    ap (λ (f : List ℕ). put_text h f job bytes lost rebuilt1) same_file ∙ ap (λ (r : List ℕ). put_text h file job bytes lost r) same_rebuilt

pub same_put_parity : (h : PoolHeader) (file file1 : List ℕ) (job : ℕ) (bytes : List ℕ) (lost : Option ℕ) (rebuilt rebuilt1 : List ℕ) → file1 ≡ file → rebuilt1 ≡ rebuilt → put_parity h file job bytes lost rebuilt ≡ put_parity h file1 job bytes lost rebuilt1
same_put_parity h file file1 job bytes lost rebuilt rebuilt1 same_file same_rebuilt =
    sym (ap (λ (f : List ℕ). put_parity h f job bytes lost rebuilt1) same_file ∙ ap (λ (r : List ℕ). put_parity h file job bytes lost r) same_rebuilt)
