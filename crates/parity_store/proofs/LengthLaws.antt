-- The lengths that a pool file keeps.
use Rattle.std.proofs.Common.{◌≡◌, ◌≢◌, inl, inr, refl, sym, ◌∙◌, ap, subst, ℕ, suc, ◌+◌, ◌-◌, ◌<◌, ◌≤◌, min, nat_lt, ◌==◌, not, Bool, true, false, cond, List, length, Result, Ok, Err, arith}
use Rattle.std.proofs.lemmas.Bool.{cases_eq, eqb-true}
use Rattle.std.proofs.lemmas.Bool.Decides.{nat_tests}
use Rattle.disk_model.specs.declared.disk_file.DiskFile.{DiskFile}
use Rattle.parity_store.specs.declared.header.PoolHeader.{PoolHeader}
use Rattle.parity_store.specs.Layout.{length_in, entry_at, pool_length}
use Rattle.parity_store.specs.Pools.{Damage, lengths_from, pool_text_in, IsPoolDamage}
use Rattle.disk_model.specs.Store.{Store, file_of}
use Rattle.disk_model.specs.View.{View}
use Rattle.parity_store.specs.OnDisk.{PoolView, StandsOn}
use Rattle.parity_store.specs.declared.fault.PoolFault.{PoolFault}

abbrev fine : Result (Unit {0}) Damage
fine = Ok tt

abbrev pub bad : DiskFile → ℕ → Result (Unit {0}) Damage
bad f place = Err (record { file = f; place = place })

-- the length of slot i breaks its rule
abbrev pub bad_length : PoolHeader → ℕ → ℕ → Bool
bad_length h i n = cond (i == h.jobs) (not (n == h.size)) (nat_lt h.size n)

-- the slots before i are tested
pub record Tested (f : DiskFile) (h : PoolHeader) (file : List ℕ) (i : ℕ) : Type 0 where
  pub rest : i ≤ h.jobs → lengths_from (h.jobs - i) f h file i ≡ lengths_from h.jobs f h file 0
  pub end : h.jobs < i → lengths_from h.jobs f h file 0 ≡ Ok tt

pub tested_none : (f : DiskFile) (h : PoolHeader) (file : List ℕ) → Tested f h file 0
tested_none f h file = record { rest = λ le. (let e : h.jobs - 0 ≡ h.jobs = omega arith in ap (λ (n : ℕ). lengths_from n f h file 0) e); end = λ less. absurd (omega (arith, less)) }

pub last_test : (f : DiskFile) (h : PoolHeader) (file : List ℕ) (i : ℕ) (b : Bool) → (length_in file i == h.size) ≡ b → lengths_from 0 f h file i ≡ cond b fine (bad f (entry_at i))
unfolding lengths_from
last_test f h file i b is = ap (λ (t : Bool). cond t fine (bad f (entry_at i))) is

pub one_test : (n : ℕ) (f : DiskFile) (h : PoolHeader) (file : List ℕ) (i : ℕ) (b : Bool) → nat_lt h.size (length_in file i) ≡ b → lengths_from (suc n) f h file i ≡ cond b (bad f (entry_at i)) (lengths_from n f h file (i + 1))
unfolding lengths_from
one_test n f h file i b is = ap (λ (t : Bool). cond t (bad f (entry_at i)) (lengths_from n f h file (i + 1))) is

turned : (b c : Bool) → not b ≡ c → b ≡ not c
turned true c is = ap not is
turned false c is = ap not is

at_last : (h : PoolHeader) (i n : ℕ) (b : Bool) → i ≡ h.jobs → bad_length h i n ≡ b → (n == h.size) ≡ not b
at_last h i n b same is =
    let t : (i == h.jobs) ≡ true = grind (arith, nat_tests) in
    turned (n == h.size) b (sym (ap (λ (x : Bool). cond x (not (n == h.size)) (nat_lt h.size n)) t) ∙ is)

before_last : (h : PoolHeader) (i n : ℕ) (b : Bool) → i ≢ h.jobs → bad_length h i n ≡ b → nat_lt h.size n ≡ b
before_last h i n b other is =
    let t : (i == h.jobs) ≡ false = grind (arith, nat_tests) in
    sym (ap (λ (x : Bool). cond x (not (n == h.size)) (nat_lt h.size n)) t) ∙ is

pub length_bad : (f : DiskFile) (h : PoolHeader) (file : List ℕ) (i n : ℕ) → n ≡ length_in file i → i ≤ h.jobs → bad_length h i n ≡ true → Tested f h file i → lengths_from h.jobs f h file 0 ≡ Err (record { file = f; place = entry_at i })
length_bad f h file i n count le is tested = elim (cases_eq i h.jobs) [
  | inl same ↦ (let e : h.jobs - i ≡ 0 = omega (arith, same) in sym (tested.rest le) ∙ ap (λ (m : ℕ). lengths_from m f h file i) e ∙ last_test f h file i false (at_last h i (length_in file i) true same there))
  | inr other ↦ (let e : h.jobs - i ≡ suc (h.jobs - (i + 1)) = omega (arith, le, other) in sym (tested.rest le) ∙ ap (λ (m : ℕ). lengths_from m f h file i) e ∙ one_test (h.jobs - (i + 1)) f h file i true (before_last h i (length_in file i) true other there))
]
  where
    there : bad_length h i (length_in file i) ≡ true
    there = ap (bad_length h i) (sym count) ∙ is

pub length_good : (f : DiskFile) (h : PoolHeader) (file : List ℕ) (i n : ℕ) → n ≡ length_in file i → i ≤ h.jobs → bad_length h i n ≡ false → Tested f h file i → Tested f h file (i + 1)
length_good f h file i n count le is tested = elim (cases_eq i h.jobs) [
  | inl same ↦ record {
    rest = λ more. absurd (omega (arith, more, same));
    end = λ _. (let e : h.jobs - i ≡ 0 = omega (arith, same) in sym (tested.rest le) ∙ ap (λ (m : ℕ). lengths_from m f h file i) e ∙ last_test f h file i true (at_last h i (length_in file i) false same there));
  }
  | inr other ↦ record {
    rest = λ _. (let e : h.jobs - i ≡ suc (h.jobs - (i + 1)) = omega (arith, le, other) in sym (one_test (h.jobs - (i + 1)) f h file i false (before_last h i (length_in file i) false other there)) ∙ ap (λ (m : ℕ). lengths_from m f h file i) (sym e) ∙ tested.rest le);
    end = λ past. absurd (omega (arith, past, le, other));
  }
]
  where
    there : bad_length h i (length_in file i) ≡ false
    there = ap (bad_length h i) (sym count) ∙ is

-- ---- the whole file

pub text_short : (f : DiskFile) (h : PoolHeader) (file : List ℕ) (place : ℕ) → length file ≢ pool_length h → place ≡ min (length file) (pool_length h) → pool_text_in f h file ≡ Err (record { file = f; place = place })
unfolding pool_text_in
text_short f h file place other is =
    let t : (length file == pool_length h) ≡ false = grind (arith, nat_tests) in
    ap (λ (b : Bool). cond b (lengths_from h.jobs f h file 0) (bad f (min (length file) (pool_length h)))) t ∙ ap (bad f) (sym is)

pub text_long : (f : DiskFile) (h : PoolHeader) (file : List ℕ) → length file ≡ pool_length h → pool_text_in f h file ≡ lengths_from h.jobs f h file 0
unfolding pool_text_in
text_long f h file same =
    let t : (length file == pool_length h) ≡ true = grind (arith, nat_tests) in
    ap (λ (b : Bool). cond b (lengths_from h.jobs f h file 0) (bad f (min (length file) (pool_length h)))) t

pub text_length : (f : DiskFile) (h : PoolHeader) (file : List ℕ) → pool_text_in f h file ≡ Ok tt → length file ≡ pool_length h
unfolding pool_text_in
text_length f h file is = by_test (length file == pool_length h) refl is
  where
    by_test : (b : Bool) → (length file == pool_length h) ≡ b → cond b (lengths_from h.jobs f h file 0) (bad f (min (length file) (pool_length h))) ≡ fine → length file ≡ pool_length h
    by_test true t e = eqb-true _ _ t
    by_test false t e = absurd cc

pub text_damaged : (f : DiskFile) (h : PoolHeader) (s mid : Store) (e : PoolFault) → mid ≡ s → length (file_of f s) ≡ pool_length h → IsPoolDamage e (lengths_from h.jobs f h (file_of f mid) 0) → IsPoolDamage e (pool_text_in f h (file_of f s))
text_damaged f h s mid e same long is = subst (IsPoolDamage e) (sym (text_long f h (file_of f s) long)) (subst (λ (x : Store). IsPoolDamage e (lengths_from h.jobs f h (file_of f x) 0)) same is)

-- a pool that stands has a file of its length
pub stands_length : (pool : PoolView) (v : View) → StandsOn pool v → length (file_of pool.file v.seen) ≡ pool_length pool.header
stands_length pool v stands = text_length pool.file pool.header (file_of pool.file v.seen) stands.text
