-- The records of a file, one after another.
use Rattle.std.proofs.Common.{◌≡◌, ⊎_elim, refl, sym, ◌∙◌, ap, ℕ, zero, suc, ◌+◌, ◌-◌, ◌<◌, ◌≤◌, Bool, true, false, cond, List, [], ◌∷◌, ◌++◌, length, take, drop, Option, Some, None, Result, Ok, Err, arith, append_assoc, length-append, length-take-le, take-append-drop}
use Rattle.std.specs.Prelude.{slice_index}
use Rattle.std.specs.Option.{option_or}
use Rattle.std.proofs.lemmas.Bool.{eqb-true}
use Rattle.std.proofs.lemmas.List.{append-nil, take_at, drop_more, get_or_at, get_or-take, same_from_push}
use Rattle.disk_model.specs.declared.disk_file.DiskFile.{DiskFile}
use Rattle.image_format.specs.declared.fields.Fields.{Fields}
use Rattle.image_format.specs.declared.header.Header.{Header}
use Rattle.image_format.specs.Image.{Image, IsImage, word_in_runs}
use Rattle.image_format.specs.Spelling.{is_open, text, image_length, IsFront}
use Rattle.image_format.specs.Reading.{◌>>=◌, image_at}
use Rattle.image_format.proofs.RecordLaws.{text_length, image_short}
use Rattle.image_chain.specs.declared.chain.Current.{Current}
use Rattle.image_chain.specs.declared.fault.ChainFault.{ChainFault}
use Rattle.image_chain.specs.declared.fault.ChainFault.TheVariants.{Failed, Damaged}
use Rattle.image_chain.specs.Records.{Damage, located, record_in, broken_field, in_order, records_at}
use Rattle.image_chain.specs.Memory.{Joined}
use Rattle.image_chain.specs.Append.{header_of, head, chained, chained_length, front}
use Rattle.image_chain.specs.Looking.{IsDamage}
use Rattle.image_chain.specs.Walk.{with_front, Walked, Accepted, IsRefused}
use Rattle.image_chain.proofs.ListLaws.{one_more, no_more}
use Rattle.image_chain.proofs.StepLaws.{newest_push, spans_next, order_push, images_push, length_push, chained_push, chained_length_push}
use Rattle.image_chain.proofs.KeptLaws.{memory_push}

-- ---- what is left after one record

one_front : (rs : List Image) (r : Image) (read : Result (List Image) Damage) → with_front rs (read >>= λ more. Ok (r ∷ more)) ≡ with_front (rs ++ r ∷ []) read
one_front rs r (Ok more) = ap (λ (l : List Image). Ok l) (sym (append_assoc rs (r ∷ []) more))
one_front rs r (Err d) = refl

pub total_next : (max count : ℕ) (f : DiskFile) (file : List ℕ) (newest : Option Fields) (gate : ℕ) (rs : List Image) (r : Image) (total : Result (List Image) Damage) → count < max → is_open (slice_index file gate) ≡ true → record_in f file (gate + 1) ≡ Ok r → broken_field newest r.fields ≡ None
    → with_front rs (records_at (max - count) f file newest gate) ≡ total → with_front (rs ++ r ∷ []) (records_at (max - (count + 1)) f file (Some r.fields) (gate + image_length r)) ≡ total
total_next max count f file newest gate rs r total room opened one order so_far =
    let k : max - count ≡ suc (max - (count + 1)) = omega arith in
    let rest = records_at (max - (count + 1)) f file (Some r.fields) (gate + image_length r) in
    sym (one_front rs r rest)
    ∙ ap (with_front rs) (sym (one_more (max - (count + 1)) f file newest gate r (rest >>= λ more. Ok (r ∷ more)) opened one order refl))
    ∙ sym (ap (λ (n : ℕ). with_front rs (records_at n f file newest gate)) k) ∙ so_far

-- each way in which the next record is damaged
bad_record : (left : ℕ) (f : DiskFile) (file : List ℕ) (newest : Option Fields) (gate : ℕ) (d : Damage) → is_open (slice_index file gate) ≡ true → record_in f file (gate + 1) ≡ Err d → records_at left f file newest gate ≡ Err d
unfolding records_at
bad_record zero f file newest gate d opened bad =
    ap (λ (b : Bool). cond b (record_in f file (gate + 1) >>= λ _. Err (record { file = f; place = gate })) (Ok [])) opened
    ∙ ap (λ (x : Result Image Damage). x >>= λ _. Err (record { file = f; place = gate })) bad
bad_record (suc left) f file newest gate d opened bad =
    ap (λ (b : Bool). cond b (record_in f file (gate + 1) >>= λ image. in_order f (gate + 1) (broken_field newest image.fields) >>= λ _. records_at left f file (Some image.fields) (gate + image_length image) >>= λ more. Ok (image ∷ more)) (Ok [])) opened
    ∙ ap (λ (x : Result Image Damage). x >>= λ image. in_order f (gate + 1) (broken_field newest image.fields) >>= λ _. records_at left f file (Some image.fields) (gate + image_length image) >>= λ more. Ok (image ∷ more)) bad

one_too_many : (f : DiskFile) (file : List ℕ) (newest : Option Fields) (gate : ℕ) (r : Image) → is_open (slice_index file gate) ≡ true → record_in f file (gate + 1) ≡ Ok r → records_at zero f file newest gate ≡ Err (record { file = f; place = gate })
unfolding records_at
one_too_many f file newest gate r opened one =
    ap (λ (b : Bool). cond b (record_in f file (gate + 1) >>= λ _. Err (record { file = f; place = gate })) (Ok [])) opened
    ∙ ap (λ (x : Result Image Damage). x >>= λ _. Err (record { file = f; place = gate })) one

out_of_order : (left : ℕ) (f : DiskFile) (file : List ℕ) (newest : Option Fields) (gate : ℕ) (r : Image) (field : ℕ) → is_open (slice_index file gate) ≡ true → record_in f file (gate + 1) ≡ Ok r → broken_field newest r.fields ≡ Some field
    → records_at (suc left) f file newest gate ≡ Err (record { file = f; place = gate + 1 + field })
unfolding records_at
out_of_order left f file newest gate r field opened one order =
    ap (λ (b : Bool). cond b (record_in f file (gate + 1) >>= λ image. in_order f (gate + 1) (broken_field newest image.fields) >>= λ _. records_at left f file (Some image.fields) (gate + image_length image) >>= λ more. Ok (image ∷ more)) (Ok [])) opened
    ∙ ap (λ (x : Result Image Damage). x >>= λ image. in_order f (gate + 1) (broken_field newest image.fields) >>= λ _. records_at left f file (Some image.fields) (gate + image_length image) >>= λ more. Ok (image ∷ more)) one
    ∙ ap (λ (o : Option ℕ). in_order f (gate + 1) o >>= λ _. records_at left f file (Some r.fields) (gate + image_length r) >>= λ more. Ok (r ∷ more)) order

total_bad : (rs : List Image) (read total : Result (List Image) Damage) (d : Damage) → read ≡ Err d → with_front rs read ≡ total → total ≡ Err d
total_bad rs read total d bad so_far = sym so_far ∙ ap (with_front rs) bad

pub walk_bad : (current : Current) (kept : Joined) (rs : List Image) (file : List ℕ) (place : ℕ) → Walked current kept rs file → is_open (slice_index file current.gate) ≡ true → image_at (take 3145837 (drop (current.gate + 1) file)) ≡ Err place
    → records_at current.max current.file file None 15 ≡ Err (record { file = current.file; place = current.gate + 1 + place })
unfolding record_in
walk_bad current kept rs file place walked opened bad =
    let d : Damage = record { file = current.file; place = current.gate + 1 + place } in
    let one : record_in current.file file (current.gate + 1) ≡ Err d = ap (located current.file (current.gate + 1)) bad in
    total_bad rs (records_at (current.max - current.count) current.file file current.newest current.gate) (records_at current.max current.file file None 15) d (bad_record (current.max - current.count) current.file file current.newest current.gate d opened one) walked.total

record_is : (f : DiskFile) (file : List ℕ) (at : ℕ) (r : Image) → image_at (take 3145837 (drop at file)) ≡ Ok r → record_in f file at ≡ Ok r
unfolding record_in
record_is f file at r is = ap (located f at) is

pub walk_refused : (current : Current) (kept : Joined) (rs : List Image) (file : List ℕ) (r : Image) (e : ChainFault) → Walked current kept rs file → is_open (slice_index file current.gate) ≡ true → image_at (take 3145837 (drop (current.gate + 1) file)) ≡ Ok r → IsRefused e current r
    → IsDamage e (records_at current.max current.file file None 15)
walk_refused current kept rs file r Failed walked opened one refused = absurd refused
walk_refused current kept rs file r (Damaged f place) walked opened one refused =
    let total = records_at current.max current.file file None 15 in
    let read = records_at (current.max - current.count) current.file file current.newest current.gate in
    let mine = record_is current.file file (current.gate + 1) r one in
    ⊎_elim
    (λ many.
    let left : current.max - current.count ≡ 0 = omega (arith, many.0) in
    let d : Damage = record { file = current.file; place = current.gate } in
    total_bad rs read total d (ap (λ (n : ℕ). records_at n current.file file current.newest current.gate) left ∙ one_too_many current.file file current.newest current.gate r opened mine) walked.total
    ∙ same_damage current.file f current.gate place (sym refused.0) (sym many.1))
    (λ broken.
    let left : current.max - current.count ≡ suc (current.max - current.count - 1) = omega (arith, broken.0) in
    let d : Damage = record { file = current.file; place = current.gate + 1 + broken.1.0 } in
    total_bad rs read total d (ap (λ (n : ℕ). records_at n current.file file current.newest current.gate) left ∙ out_of_order (current.max - current.count - 1) current.file file current.newest current.gate r broken.1.0 opened mine broken.1.1) walked.total
    ∙ same_damage current.file f (current.gate + 1 + broken.1.0) place (sym refused.0) (sym broken.1.2))
    refused.1
  where
    damage : DiskFile → ℕ → Result (List Image) Damage
    damage f place = Err (record { file = f; place = place })

    same_damage : (f g : DiskFile) (p q : ℕ) → f ≡ g → p ≡ q → damage f p ≡ damage g q
    same_damage f g p q e h = ap (λ (x : DiskFile). damage x p) e ∙ ap (damage g) h

-- ---- one record more was read

pub front_length : (current : Current) (kept : Joined) (rs : List Image) (file : List ℕ) → Walked current kept rs file → length (front current rs) ≡ current.gate
front_length current kept rs file walked = let inside = walked.inside in ap length (sym walked.text) ∙ length-take-le current.gate file (omega arith)

-- the file before and behind the gate at hand
pub at_gate : (current : Current) (kept : Joined) (rs : List Image) (file : List ℕ) → Walked current kept rs file → file ≡ front current rs ++ slice_index file current.gate ∷ drop (current.gate + 1) file
at_gate current kept rs file walked = sym (take-append-drop current.gate file) ∙ ap (λ (l : List ℕ). l ++ drop current.gate file) walked.text ∙ ap (λ (l : List ℕ). front current rs ++ l) (drop_more file current.gate 0 walked.inside)

pub walk_on : (old new : Current) (kept now : Joined) (rs : List Image) (r : Image) (file room : List ℕ) (n : ℕ) → Walked old kept rs file → is_open (slice_index file old.gate) ≡ true → take n room ≡ take n (drop (old.gate + 1) file) → IsImage r → IsFront r (take n room)
    → image_at (take 3145837 (drop (old.gate + 1) file)) ≡ Ok r → Accepted old new kept now r → Walked new now (rs ++ r ∷ []) file × (slice_index file new.gate ≡ slice_index (take n room) (image_length r - 1))
walk_on old new kept now rs r file room n walked opened same is is_front one accepted =
    let gate = is_front.0 in
    let rest = is_front.1 ++ drop n (drop (old.gate + 1) file) in
    let behind : drop (old.gate + 1) file ≡ text r ++ gate ∷ rest =
    sym (take-append-drop n (drop (old.gate + 1) file)) ∙ ap (λ (l : List ℕ). l ++ drop n (drop (old.gate + 1) file)) (sym same ∙ is_front.2) ∙ append_assoc (text r ++ gate ∷ []) is_front.1 (drop n (drop (old.gate + 1) file)) ∙ append_assoc (text r) (gate ∷ []) rest in
    let open_byte : slice_index file old.gate ≡ 165 = eqb-true _ _ opened in
    let before = front old rs ++ 165 ∷ text r in
    let whole : file ≡ before ++ gate ∷ rest =
    at_gate old kept rs file walked ∙ ap (λ (b : ℕ). front old rs ++ b ∷ drop (old.gate + 1) file) open_byte ∙ ap (λ (l : List ℕ). front old rs ++ 165 ∷ l) behind ∙ sym (append_assoc (front old rs) (165 ∷ text r) (gate ∷ rest)) in
    let t = text_length r is in
    let ag = accepted.gate in
    let size : length before ≡ new.gate = (let f = front_length old kept rs file walked in omega (arith, length-append (front old rs) (165 ∷ text r))) in
    let fronts : before ≡ front new (rs ++ r ∷ []) =
    append_assoc (head (header_of old)) (chained rs) (165 ∷ text r) ∙ ap (λ (l : List ℕ). head (header_of old) ++ l) (sym (chained_push rs r)) ∙ ap (λ (h : Header). head h ++ chained (rs ++ r ∷ [])) (sym accepted.header) in
    let max : new.max ≡ old.max = ap (λ (h : Header). h.max) accepted.header in
    let count = walked.count in let counted = accepted.count in let g = walked.gate in
    let mine = record_is old.file file (old.gate + 1) r one in
    let total = total_next old.max old.count old.file file old.newest old.gate rs r (records_at old.max old.file file None 15) accepted.room opened mine accepted.order walked.total in
    let all = ap length whole ∙ length-append before (gate ∷ rest) in (
      record {
        images = images_push rs r walked.images is;
        order = order_push None rs r walked.order (ap (λ (o : Option Fields). broken_field o r.fields) (sym walked.newest) ∙ accepted.order);
        count = omega (arith, length_push rs r);
        newest = accepted.newest ∙ sym (newest_push None rs r);
        gate = (let c = chained_length_push rs r in omega arith);
        newest_at = λ earlier q same_list. (let is_rs : rs ≡ earlier = (same_from_push rs earlier r q same_list).0 in accepted.newest_at ∙ (let e : old.gate + 1 ≡ 16 + chained_length rs = omega arith in e) ∙ ap (λ (l : List Image). 16 + chained_length l) is_rs);
        spans = spans_next old new rs r walked.count walked.gate walked.spans accepted.spans;
        text = ap (take new.gate) whole ∙ take_at before (gate ∷ rest) new.gate size ∙ fronts;
        inside = omega arith;
        words = λ c. accepted.words c ∙ ap (option_or (word_in_runs r.runs c)) (walked.words c) ∙ sym (memory_push rs r c);
        total = moved total (sym accepted.file) (sym max) (sym accepted.count) (sym accepted.newest) (sym accepted.gate);
      },
      ap (λ (l : List ℕ). slice_index l new.gate) whole ∙ get_or_at before gate rest 0 new.gate size
          ∙ sym (ap (λ (l : List ℕ). slice_index l (image_length r - 1)) (is_front.2 ∙ append_assoc (text r) (gate ∷ []) is_front.1) ∙ get_or_at (text r) gate is_front.1 0 (image_length r - 1) (omega arith)),
    )
  where
    moved : {f : DiskFile} {max count newest_gate : ℕ} {newest : Option Fields}
        → with_front (rs ++ r ∷ []) (records_at (old.max - (old.count + 1)) old.file file (Some r.fields) (old.gate + image_length r)) ≡ records_at old.max old.file file None 15
        → old.file ≡ f → old.max ≡ max → old.count + 1 ≡ count → Some r.fields ≡ newest → old.gate + image_length r ≡ newest_gate
        → with_front (rs ++ r ∷ []) (records_at (max - count) f file newest newest_gate) ≡ records_at max f file None 15
    moved e a b c d h = rw (← a, ← b, ← c, ← d, ← h) e

-- the walk ends at a gate that is not open
pub walk_end : (current : Current) (kept : Joined) (rs : List Image) (file : List ℕ) → Walked current kept rs file → is_open (slice_index file current.gate) ≡ false → records_at current.max current.file file None 15 ≡ Ok rs
walk_end current kept rs file walked closed = sym walked.total ∙ ap (with_front rs) (no_more (current.max - current.count) current.file file current.newest current.gate closed) ∙ ap (λ (l : List Image). Ok l) (append-nil rs)

-- ---- as the calls ask it

pub record_length_fits : (r : Image) → IsImage r → image_length r ≤ 3145837
record_length_fits r is = let short = image_short r is in omega arith

pub record_inside : (r : Image) (bytes : List ℕ) → IsImage r → IsFront r bytes → (1 ≤ image_length r) × (image_length r ≤ length bytes)
record_inside r bytes is is_front =
    let t = text_length r is in
    let all = ap length is_front.2 ∙ length-append (text r ++ is_front.0 ∷ []) is_front.1 in
    let one = length-append (text r) (is_front.0 ∷ []) in
    (omega arith, omega arith)

pub last_gate : (bytes : List ℕ) (n at : ℕ) → at < n → slice_index (take n bytes) at ≡ slice_index bytes at
last_gate bytes n at lt = get_or-take n bytes at 0 lt
