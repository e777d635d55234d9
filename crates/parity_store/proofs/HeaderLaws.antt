-- A header that was written is read again.
use Rattle.std.proofs.Common.{◌≡◌, ◌≢◌, refl, sym, ◌∙◌, ap, ℕ, ◌<◌, ◌≤◌, nat_lt, ◌||◌, Bool, true, false, cond, List, [], ◌∷◌, ◌++◌, length, take, drop, Some, None, Ok, Err, arith}
use Rattle.std.specs.Int.{w16, w32, to_be_bytes, from_be_bytes}
use Rattle.std.proofs.lemmas.Bool.Decides.{nat_tests}
use Rattle.std.proofs.lemmas.List.{take_all}
use Rattle.std.proofs.lemmas.Nat.{from_be_bytes-to_be_bytes_2, from_be_bytes-to_be_bytes_4}
use Rattle.disk_model.specs.declared.disk_file.DiskFile.{DiskFile}
use Rattle.disk_model.specs.View.{Takes}
use Rattle.parity_store.specs.declared.header.PoolHeader.{PoolHeader}
use Rattle.parity_store.specs.Layout.{IsPoolHeader, is_open, pool_head, pool_header_at}
use Rattle.parity_store.specs.Pools.{header_or_damage, pool_header_in}

abbrev pub with_gate : PoolHeader → ℕ → PoolHeader
with_gate h gate = record { generation = h.generation; size = h.size; jobs = h.jobs; gate_open = is_open gate }

pub header_again : (h : PoolHeader) (gate : ℕ) → IsPoolHeader h → pool_header_at (pool_head h ++ gate ∷ []) ≡ Ok (with_gate h gate)
header_again h gate is =
    let r = is.ranges in
    let g0 = is.generation in let g1 = r.size_least in let g2 = r.size_most in let g3 = r.jobs_least in let g4 = r.jobs_most in
    let generation : from_be_bytes w32 (to_be_bytes w32 h.generation) ≡ h.generation = from_be_bytes-to_be_bytes_4 h.generation is.generation_held in
    let size : from_be_bytes w32 (to_be_bytes w32 h.size) ≡ h.size = from_be_bytes-to_be_bytes_4 h.size (omega (arith, g2)) in
    let jobs : from_be_bytes w16 (to_be_bytes w16 h.jobs) ≡ h.jobs = from_be_bytes-to_be_bytes_2 h.jobs (omega (arith, g4)) in
    let t1 : nat_lt h.generation 1 ≡ false = grind (arith, nat_tests) in
    let t2 : (nat_lt h.size 1 || nat_lt 16777216 h.size) ≡ false = grind (arith, nat_tests) in
    let t3 : (nat_lt h.jobs 2 || nat_lt 16 h.jobs) ≡ false = grind (arith, nat_tests) in
    rw (generation, size, jobs, t1, t2, t3) refl

-- ---- the header of a file

pub header_none : (f : DiskFile) (file : List ℕ) → length file ≡ 0 → pool_header_in f file ≡ Ok None
unfolding pool_header_in
header_none f [] is = refl
header_none f (b ∷ bytes) is = absurd (omega arith)

pub header_short : (f : DiskFile) (file : List ℕ) → 0 < length file → length file < 16 → pool_header_in f file ≡ Err (record { file = f; place = 0 })
unfolding pool_header_in
header_short f [] some short = absurd (omega arith)
header_short f (b ∷ bytes) some short =
    let t : nat_lt (length bytes) 15 ≡ true = grind (arith, nat_tests) in
    ap (λ (x : Bool). cond x (Err (record { file = f; place = 0 })) (header_or_damage f (pool_header_at (take 16 (b ∷ bytes))))) t

pub header_long : (f : DiskFile) (file : List ℕ) → 16 ≤ length file → pool_header_in f file ≡ header_or_damage f (pool_header_at (take 16 file))
unfolding pool_header_in
header_long f [] long = absurd (omega arith)
header_long f (b ∷ bytes) long =
    let t : nat_lt (length bytes) 15 ≡ false = grind (arith, nat_tests) in
    ap (λ (x : Bool). cond x (Err (record { file = f; place = 0 })) (header_or_damage f (pool_header_at (take 16 (b ∷ bytes))))) t

pub header_good : (f : DiskFile) (file : List ℕ) (h : PoolHeader) → 16 ≤ length file → pool_header_at (take 16 file) ≡ Ok h → pool_header_in f file ≡ Ok (Some h)
header_good f file h long is = header_long f file long ∙ ap (header_or_damage f) is

pub header_bad : (f : DiskFile) (file : List ℕ) (place : ℕ) → 16 ≤ length file → pool_header_at (take 16 file) ≡ Err place → pool_header_in f file ≡ Err (record { file = f; place = place })
header_bad f file place long is = header_long f file long ∙ ap (header_or_damage f) is

-- sixteen bytes that were read are the front of a file that has as many
pub front_read : (file old new : List ℕ) (n : ℕ) → length old ≡ 16 → length new ≡ 16 → 16 ≤ length file → Takes 0 file old n new → new ≡ take 16 file
front_read file old new n size new_size long takes =
    let count = takes.count in
    let all : n ≡ 16 = omega arith in
    sym (take_all n new (omega arith)) ∙ takes.bytes ∙ ap (λ (k : ℕ). take k file) all

-- a file that begins with a header and a gate
pub header_back : (f : DiskFile) (h : PoolHeader) (gate : ℕ) (rest : List ℕ) → IsPoolHeader h → pool_header_in f (pool_head h ++ gate ∷ rest) ≡ Ok (Some (with_gate h gate))
unfolding pool_header_in
header_back f h gate rest held =
    let long : nat_lt (length (drop 1 (pool_head h ++ gate ∷ rest))) 15 ≡ false = grind (arith, nat_tests) in
    rw (long, header_again h gate held) refl

pub shut_gate : (gate : ℕ) → gate ≢ 165 → is_open gate ≡ false
shut_gate gate closed = grind (arith, nat_tests)
