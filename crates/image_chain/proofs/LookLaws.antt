-- Looking at the files of a store.
use Rattle.std.proofs.Common.{◌≡◌, refl, sym, ◌∙◌, ap, subst, ℕ, ◌+◌, ◌<◌, ◌≤◌, min, nat_lt, Bool, true, false, cond, List, [], ◌∷◌, ◌++◌, length, take, drop, Option, Some, None, Result, Ok, Err, arith, append_assoc, length-drop, take-append-drop}
use Rattle.std.proofs.lemmas.Bool.Decides.{nat_tests}
use Rattle.std.proofs.lemmas.List.{take-take, take_all, take_min}
use Rattle.disk_model.specs.declared.disk_file.DiskFile.{DiskFile}
use Rattle.disk_model.specs.View.{Takes}
use Rattle.image_format.specs.declared.header.Header.{Header}
use Rattle.image_format.specs.Spelling.{spelling, IsFront}
use Rattle.image_format.specs.Reading.{◌>>=◌, header_at, image_at}
use Rattle.image_format.proofs.ViewLaws.{image_only}
use Rattle.image_chain.specs.Records.{Damage, located, header_in}
use Rattle.image_chain.specs.Looking.{IsRecord}

-- ---- headers

pub header_none : (f : DiskFile) (file : List ℕ) → length file ≡ 0 → header_in f file ≡ Ok None
unfolding header_in
header_none f [] is = refl
header_none f (b ∷ bytes) is = absurd (omega arith)

pub header_short : (f : DiskFile) (file : List ℕ) → 0 < length file → length file < 16 → header_in f file ≡ Err (record { file = f; place = 0 })
unfolding header_in
header_short f [] some short = absurd (omega arith)
header_short f (b ∷ bytes) some short =
    let t : nat_lt (length bytes) 15 ≡ true = grind (arith, nat_tests) in
    ap (λ (x : Bool). cond x (Err (record { file = f; place = 0 })) (located f 0 (header_at (take 16 (b ∷ bytes))) >>= λ h. Ok (Some h))) t

header_long : (f : DiskFile) (file : List ℕ) → 16 ≤ length file → header_in f file ≡ (located f 0 (header_at (take 16 file)) >>= λ h. Ok (Some h))
unfolding header_in
header_long f [] long = absurd (omega arith)
header_long f (b ∷ bytes) long =
    let t : nat_lt (length bytes) 15 ≡ false = grind (arith, nat_tests) in
    ap (λ (x : Bool). cond x (Err (record { file = f; place = 0 })) (located f 0 (header_at (take 16 (b ∷ bytes))) >>= λ h. Ok (Some h))) t

pub header_good : (f : DiskFile) (file : List ℕ) (h : Header) → 16 ≤ length file → header_at (take 16 file) ≡ Ok h → header_in f file ≡ Ok (Some h)
header_good f file h long is = header_long f file long ∙ ap (λ (r : Result Header ℕ). located f 0 r >>= λ h. Ok (Some h)) is

pub header_bad : (f : DiskFile) (file : List ℕ) (place : ℕ) → 16 ≤ length file → header_at (take 16 file) ≡ Err place → header_in f file ≡ Err (record { file = f; place = place })
header_bad f file place long is = header_long f file long ∙ ap (λ (r : Result Header ℕ). located f 0 r >>= λ h. Ok (Some h)) is ∙ zero_plus
  where
    damage : ℕ → Result (Option Header) Damage
    damage p = Err (record { file = f; place = p })

    zero_plus : Err (record { file = f; place = 0 + place }) ≡ damage place
    zero_plus = let e : 0 + place ≡ place = omega arith in ap damage e

-- sixteen bytes that were read are the front of a file that has as many
pub front_read : (file old new : List ℕ) (n : ℕ) → length old ≡ 16 → length new ≡ 16 → 16 ≤ length file → Takes 0 file old n new → new ≡ take 16 file
front_read file old new n size new_size long takes =
    let count = takes.count in
    let all : n ≡ 16 = omega arith in
    sym (take_all n new (omega arith)) ∙ takes.bytes ∙ ap (λ (k : ℕ). take k file) all

-- ---- records

pub part_read : (file old new : List ℕ) (at len n : ℕ) → length old ≡ len → Takes at file old n new → take n new ≡ take len (drop at file)
part_read file old new at len n size takes =
    let count : n ≡ min len (length (drop at file)) = (let c = takes.count in omega (arith, length-drop at file)) in
    takes.bytes ∙ ap (λ (k : ℕ). take k (drop at file)) count ∙ take_min len (drop at file)

-- a record at the front of some bytes is the one at the front of more
pub same_record : (bytes : List ℕ) (len limit : ℕ) → len ≤ limit → IsRecord (take len bytes) → image_at (take len bytes) ≡ image_at (take limit bytes)
same_record bytes len limit le is =
    let i = is.image in
    let front = is.front in
    let more = take limit bytes in
    let parts : more ≡ take len bytes ++ drop len more = sym (take-append-drop len more) ∙ ap (λ (l : List ℕ). l ++ drop len more) (take-take len limit bytes le) in
    let longer : IsFront i more = (front.0, front.1 ++ drop len more, parts ∙ ap (λ (l : List ℕ). l ++ drop len more) front.2 ∙ append_assoc (spelling i front.0) front.1 (drop len more)) in
    image_only (take len bytes) i is.is_image front ∙ sym (image_only more i is.is_image longer)

pub same_read : (room bytes : List ℕ) (n len limit : ℕ) → len ≤ limit → take n room ≡ take len bytes → IsRecord (take n room) → image_at (take n room) ≡ image_at (take limit bytes)
same_read room bytes n len limit le same is = ap image_at same ∙ same_record bytes len limit le (subst IsRecord same is)
