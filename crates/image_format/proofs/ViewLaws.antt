-- A record is read part by part.
use Rattle.std.proofs.Common.{◌≡◌, refl, sym, ◌∙◌, ap, subst, ℕ, ◌+◌, ◌-◌, ◌≤◌, ◌^◌, ◌==◌, true, false, List, length, Result, Ok, Err, IsOk, IfOk, arith, length-append}
use Rattle.image_format.specs.declared.fields.BadRecord.{BadRecord}
use Rattle.std.specs.List.{flat_map}
use Rattle.std.specs.Int.{w8, to_be_bytes}
use Rattle.image_format.specs.Image.{WordRun, Image, IsBytes, IsImage, AreRuns}
use Rattle.image_format.specs.Spelling.{head_bytes, run_bytes, runs_length, length_with, IsFront}
use Rattle.image_format.specs.Reading.{◌>>=◌, Gives, number_at, Head, head_at, runs_at, runs_of, rest_of, Front, record_at, image_at}
use Rattle.image_format.proofs.FieldLaws.{bind_ok, ok_is, wide8, number_takes}
use Rattle.image_format.proofs.RunLaws.{length_runs, runs_take}
use Rattle.image_format.proofs.RecordLaws.{head_length, head_taken, record_taken, record_again}

-- ---- the results of reading runs

rest_bad : (r : Result (List WordRun × List ℕ) ℕ) (e : ℕ) → rest_of r ≡ Err e → r ≡ Err e
rest_bad (Ok x) e is = absurd cc
rest_bad (Err d) e is = cc

pub rest_good : (r : Result (List WordRun × List ℕ) ℕ) (rest : List ℕ) → rest_of r ≡ Ok rest → r ≡ Ok (runs_of r, rest)
rest_good (Ok x) rest is = let e : x.1 ≡ rest = cc in ap (λ (l : List ℕ). Ok (x.0, l)) e
rest_good (Err d) rest is = absurd cc

pub rest_ok : (r : Result (List WordRun × List ℕ) ℕ) (rest : List ℕ) → rest_of r ≡ Ok rest → IsOk r
rest_ok (Ok x) rest is = grind arith
rest_ok (Err d) rest is = absurd cc

-- ---- what follows the fields

pub runs_begin : (bytes : List ℕ) (h : Head) (runs : List ℕ) → IsBytes bytes → head_at bytes ≡ Ok (h, runs) → length bytes ≡ 108 + length runs
runs_begin bytes h runs fits is =
    let t = head_taken bytes (h, runs) fits is in
    let n = head_length h.fields h.whole h.count t.fields in
    ap length t.takes.parts ∙ omega (arith, length-append (head_bytes h.fields h.whole h.count) runs)

-- ---- each fault

pub bad_head : (bytes : List ℕ) (e : ℕ) → head_at bytes ≡ Err e → image_at bytes ≡ Err e
unfolding record_at
bad_head bytes e is = rw is refl

pub bad_runs : (bytes : List ℕ) (h : Head) (runs : List ℕ) (e : ℕ) → head_at bytes ≡ Ok (h, runs) → rest_of (runs_at h.count (length bytes) 0 runs) ≡ Err e → image_at bytes ≡ Err e
unfolding record_at
bad_runs bytes h runs e is bad = rw (is, rest_bad (runs_at h.count (length bytes) 0 runs) e bad) refl

pub bad_gate : (bytes : List ℕ) (h : Head) (runs rest : List ℕ) (e : ℕ) → head_at bytes ≡ Ok (h, runs) → rest_of (runs_at h.count (length bytes) 0 runs) ≡ Ok rest → number_at w8 (length bytes) rest ≡ Err e → image_at bytes ≡ Err e
unfolding record_at
bad_gate bytes h runs rest e is good bad = rw (is, rest_good (runs_at h.count (length bytes) 0 runs) rest good, bad) refl

pub bad_size : (bytes : List ℕ) (h : Head) (runs rest : List ℕ) (gate : ℕ) (after : List ℕ) → head_at bytes ≡ Ok (h, runs) → rest_of (runs_at h.count (length bytes) 0 runs) ≡ Ok rest → number_at w8 (length bytes) rest ≡ Ok (gate, after)
    → (h.whole == length bytes - length after) ≡ false → image_at bytes ≡ Err 1
unfolding record_at
bad_size bytes h runs rest gate after is good last bad = rw (is, rest_good (runs_at h.count (length bytes) 0 runs) rest good, last, bad) refl

pub front_is : (bytes : List ℕ) (h : Head) (runs rest : List ℕ) (gate : ℕ) (after : List ℕ) → head_at bytes ≡ Ok (h, runs) → rest_of (runs_at h.count (length bytes) 0 runs) ≡ Ok rest → number_at w8 (length bytes) rest ≡ Ok (gate, after)
    → (h.whole == length bytes - length after) ≡ true
    → record_at bytes ≡ Ok (record { image = record { fields = h.fields; runs = runs_of (runs_at h.count (length bytes) 0 runs) }; gate = gate; rest = after })
unfolding record_at
front_is bytes h runs rest gate after is good last whole = rw (is, rest_good (runs_at h.count (length bytes) 0 runs) rest good, last, whole) refl

-- ---- and the length of what was read

pub size_is : (bytes : List ℕ) (h : Head) (runs rest : List ℕ) (gate : ℕ) (after : List ℕ) → IsBytes bytes → head_at bytes ≡ Ok (h, runs) → rest_of (runs_at h.count (length bytes) 0 runs) ≡ Ok rest → number_at w8 (length bytes) rest ≡ Ok (gate, after)
    → (length bytes - length after ≡ length_with (runs_of (runs_at h.count (length bytes) 0 runs))) × (length after ≤ length bytes)
size_is bytes h runs rest gate after fits is good last =
    let end = length bytes in
    let all = runs_at h.count end 0 runs in
    let t = head_taken bytes (h, runs) fits is in
    let a = runs_begin bytes h runs fits is in
    let r = runs_take h.count end 0 runs (runs_of all, rest) t.takes.rest_fits (rest_good all rest good) in
    let g = number_takes w8 (2 ^ 8) wide8 end rest (gate, after) r.0.rest_fits last in
    let b : length runs ≡ runs_length (runs_of all) + length rest = ap length r.0.parts ∙ length-append (flat_map run_bytes (runs_of all)) rest ∙ ap (λ (n : ℕ). n + length rest) (length_runs (runs_of all)) in
    let c : length rest ≡ 1 + length after = ap length g.0.parts ∙ length-append (to_be_bytes w8 gate) after in
    (omega arith, omega arith)

-- the runs that were read are runs
pub runs_are : (bytes : List ℕ) (h : Head) (runs rest : List ℕ) → IsBytes bytes → head_at bytes ≡ Ok (h, runs) → rest_of (runs_at h.count (length bytes) 0 runs) ≡ Ok rest → AreRuns 0 (runs_of (runs_at h.count (length bytes) 0 runs))
runs_are bytes h runs rest fits is good =
    let all = runs_at h.count (length bytes) 0 runs in
    let t = head_taken bytes (h, runs) fits is in
    (runs_take h.count (length bytes) 0 runs (runs_of all, rest) t.takes.rest_fits (rest_good all rest good)).2

-- ---- the record as a whole

image_front : (bytes : List ℕ) (i : Image) → image_at bytes ≡ Ok i → (x : Front) × (record_at bytes ≡ Ok x) × (x.image ≡ i)
image_front bytes i is =
    let b = bind_ok (record_at bytes) (λ front. Ok front.image) i is in
    (b.0, b.1, ok_is b.0.image i b.2)

pub image_found : (bytes : List ℕ) (i : Image) → IsBytes bytes → image_at bytes ≡ Ok i → IsImage i × IsFront i bytes
image_found bytes i fits is =
    let f = image_front bytes i is in
    let t = record_taken bytes f.0 fits f.1 in
    subst (λ (j : Image). IsImage j × IsFront j bytes) f.2 (t.0, (f.0.gate, f.0.rest, t.1))

pub image_only : (bytes : List ℕ) (i : Image) → IsImage i → IsFront i bytes → image_at bytes ≡ Ok i
image_only bytes i is front = ap (λ (r : Result Front ℕ). r >>= λ front. Ok front.image) (ap record_at front.2 ∙ record_again i front.0 front.1 is)

pub found_of : (bytes : List ℕ) (r : Result Image BadRecord) → IsBytes bytes → Gives (λ v. v) r (image_at bytes) → IfOk r (λ i. IsImage i × IsFront i bytes)
found_of bytes (Ok i) fits given = image_found bytes i fits given
found_of bytes (Err e) fits given = tt

pub only_of : (bytes : List ℕ) (r : Result Image BadRecord) → Gives (λ v. v) r (image_at bytes) → (i : Image) → IsImage i → IsFront i bytes → Gives (λ v. v) r (Ok i)
only_of bytes (Ok x) given i is front = sym (image_only bytes i is front) ∙ given
only_of bytes (Err e) given i is front = sym (image_only bytes i is front) ∙ given
