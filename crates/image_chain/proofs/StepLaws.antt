-- What each step of an append leaves.
use Rattle.std.proofs.Common.{◌≡◌, ◌≢◌, ◌⊎◌, inl, inr, ⊎_elim, refl, sym, ◌∙◌, ap, subst, ℕ, suc, ◌+◌, ◌-◌, ◌*◌, ◌<◌, ◌≤◌, ◌==◌, nat_le, nat_lt, not, Bool, true, false, cond, IsTrue, List, [], ◌∷◌, ◌++◌, length, take, drop, get_or, Option, Some, None, Result, Ok, Err, arith, append_assoc, length-append, length-take, take-append-drop}
use Rattle.std.specs.List.{AllByRecursion}
use Rattle.std.specs.Str.{bytes_eq}
use Rattle.std.proofs.lemmas.Bool.{cases_eq, eqb-true}
use Rattle.std.proofs.lemmas.List.{append-nil, take_at, drop_at, take_all, take-take, drop_more, drop-take, drop-drop, same_from_push}
use Rattle.disk_model.specs.declared.disk_file.DiskFile.{DiskFile}
use Rattle.disk_model.specs.declared.disk_file.DiskFile.TheVariants.{Output, One, Two}
use Rattle.disk_model.specs.Store.{Store, file_of, with_file}
use Rattle.disk_model.specs.Change.{Change, Write, Sync, whole, Torn, Crashed}
use Rattle.disk_model.specs.View.{View, IsDisk, On, IsMade, Changes}
use Rattle.disk_model.specs.Moments.{Among, LeavesOnly}
use Rattle.disk_model.proofs.Calls.{file_of-with_file, changed, weaken, one_change, made_seen, made_leaves, other_file}
use Rattle.image_format.specs.declared.fields.Fields.{Fields}
use Rattle.image_format.specs.declared.header.Header.{Header}
use Rattle.image_format.specs.Image.{Image, IsImage, IsHeldHeader}
use Rattle.image_format.specs.Spelling.{text, spelling, image_length}
use Rattle.image_format.specs.Spelling.{IsFront}
use Rattle.image_format.proofs.RecordLaws.{text_length, image_short}
use Rattle.image_chain.specs.declared.chain.Current.{Current}
use Rattle.image_chain.specs.declared.chain.Span.{Span}
use Rattle.image_chain.specs.declared.chain.Step.TheVariants.{Piece, SyncRecord, OpenGate, SyncGate}
use Rattle.image_chain.specs.Records.{broken_field, newest_of}
use Rattle.image_chain.specs.Append.{header_of, head, chained, chained_length, spans_of, TakesSpan, AreInOrder, Keeps, front, other, IsAside, Alone, IsAtRest, Spells, IsDue}
use Rattle.image_chain.specs.Sound.{IsNumbered}
use Rattle.image_chain.specs.Lists.{Lists, OnlyCurrent, IsKept, IsAppended}
use Rattle.image_chain.proofs.ListLaws.{Holds, holds_of, lists_of}

-- ---- one record more

pub newest_push : (newest : Option Fields) (rs : List Image) (r : Image) → newest_of newest (rs ++ r ∷ []) ≡ Some r.fields
newest_push newest [] r = refl
newest_push newest (s ∷ rs) r = newest_push (Some s.fields) rs r

pub order_push : (newest : Option Fields) (rs : List Image) (r : Image) → AreInOrder newest rs → broken_field (newest_of newest rs) r.fields ≡ None → AreInOrder newest (rs ++ r ∷ [])
order_push newest [] r order follows = (follows, tt)
order_push newest (s ∷ rs) r order follows = (order.0, order_push (Some s.fields) rs r order.1 follows)

pub images_push : (rs : List Image) (r : Image) → AllByRecursion IsImage rs → IsImage r → AllByRecursion IsImage (rs ++ r ∷ [])
images_push [] r are is = (is, tt)
images_push (s ∷ rs) r are is = (are.0, images_push rs r are.1 is)

pub length_push : (rs : List Image) (r : Image) → length (rs ++ r ∷ []) ≡ length rs + 1
length_push rs r = omega (arith, length-append rs (r ∷ []))

pub chained_push : (rs : List Image) (r : Image) → chained (rs ++ r ∷ []) ≡ chained rs ++ 165 ∷ text r
chained_push [] r = ap (λ (l : List ℕ). 165 ∷ l) (append-nil (text r))
chained_push (s ∷ rs) r = ap (λ (l : List ℕ). 165 ∷ (text s ++ l)) (chained_push rs r) ∙ ap (λ (l : List ℕ). 165 ∷ l) (sym (append_assoc (text s) (chained rs) (165 ∷ text r)))

pub chained_length_push : (rs : List Image) (r : Image) → chained_length (rs ++ r ∷ []) ≡ chained_length rs + image_length r
chained_length_push [] r = omega arith
chained_length_push (s ∷ rs) r = let more = chained_length_push rs r in omega arith

abbrev span : ℕ → ℕ → Span
span at n = record { at = at; length = n }

spans_push : (at : ℕ) (rs : List Image) (r : Image) → spans_of at (rs ++ r ∷ []) ≡ spans_of at rs ++ span (at + chained_length rs) (image_length r) ∷ []
spans_push at [] r = ap (λ (n : ℕ). span n (image_length r) ∷ []) (omega arith)
spans_push at (s ∷ rs) r =
    ap (λ (l : List Span). span at (image_length s) ∷ l) (spans_push (at + image_length s) rs r ∙ ap (λ (n : ℕ). spans_of (at + image_length s) rs ++ span n (image_length r) ∷ []) (omega arith))

-- where records stand once one is more
pub spans_next : (old new : Current) (rs : List Image) (r : Image) → old.count ≡ length rs → old.gate ≡ 15 + chained_length rs → take (length rs) old.spans ≡ spans_of 16 rs → TakesSpan old new (image_length r) → take (length (rs ++ r ∷ [])) new.spans ≡ spans_of 16 (rs ++ r ∷ [])
spans_next old new rs r count gate spans takes =
    let n : length (rs ++ r ∷ []) ≡ old.count + 1 = (let m = length_push rs r in omega arith) in
    let at : old.gate + 1 ≡ 16 + chained_length rs = omega arith in
    ap (λ (k : ℕ). take k new.spans) n ∙ takes
    ∙ ap (λ (k : ℕ). take k old.spans ++ span (old.gate + 1) (image_length r) ∷ []) count
    ∙ ap (λ (l : List Span). l ++ span (old.gate + 1) (image_length r) ∷ []) spans
    ∙ ap (λ (k : ℕ). spans_of 16 rs ++ span k (image_length r) ∷ []) at
    ∙ sym (spans_push 16 rs r)

pub length_chained : (rs : List Image) → AllByRecursion IsImage rs → length (chained rs) ≡ chained_length rs
length_chained [] are = refl
length_chained (r ∷ rs) are = let more = length_chained rs are.1 in let t = text_length r are.0 in omega (arith, length-append (text r) (chained rs))

pub length_front : (chain : Current) (rs : List Image) → Keeps chain rs → length (front chain rs) ≡ 15 + chained_length rs
length_front chain rs keeps = let n = length_chained rs keeps.images in omega (arith, length-append (head (header_of chain)) (chained rs))

none_left : (b : Bool) (x : ℕ) (o : Option ℕ) → cond b (Some x) o ≡ None → (b ≡ false) × (o ≡ None)
none_left true x o is = absurd cc
none_left false x o is = (refl, is)

-- a record that follows another has the next number
next_number : (old new : Fields) → broken_field (Some old) new ≡ None → new.number ≡ old.number + 1
next_number old new is =
    let o6 : Option ℕ = cond (not (new.number == old.number + 1)) (Some 100) None in
    let o5 : Option ℕ = cond (nat_lt new.output_length old.output_length) (Some 89) o6 in
    let o4 : Option ℕ = cond (nat_lt new.input_place old.input_place) (Some 81) o5 in
    let o3 : Option ℕ = cond (nat_le new.steps old.steps) (Some 73) o4 in
    let o2 : Option ℕ = cond (not (bytes_eq new.marks.input old.marks.input)) (Some 37) o3 in
    let a = none_left (not (bytes_eq new.marks.source old.marks.source)) 5 o2 is in
    let b = none_left (not (bytes_eq new.marks.input old.marks.input)) 37 o3 a.1 in
    let c = none_left (nat_le new.steps old.steps) 73 o4 b.1 in
    let d = none_left (nat_lt new.input_place old.input_place) 81 o5 c.1 in
    let e = none_left (nat_lt new.output_length old.output_length) 89 o6 d.1 in
    let f = none_left (not (new.number == old.number + 1)) 100 None e.1 in
    eqb-true _ _ (holds (new.number == old.number + 1) f.0)
  where
    holds : (b : Bool) → not b ≡ false → b ≡ true
    holds true is = refl
    holds false is = absurd cc

pub number_push : (ahead : ℕ) (newest : Option Fields) (r : Fields) → IsNumbered ahead newest → 1 ≤ r.number → broken_field newest r ≡ None → ahead + 1 ≤ r.number + 1
number_push ahead None r is some follows = omega arith
number_push ahead (Some old) r is some follows = let next = next_number old r follows in omega arith

pub holds_push : (chain : Current) (rs : List Image) (r : Image) → Keeps chain rs → IsImage r → broken_field (newest_of None rs) r.fields ≡ None → length rs < chain.max → Holds (header_of chain) (rs ++ r ∷ [])
holds_push chain rs r keeps is follows room =
    let n = length_push rs r in
    let number : chain.generation + length rs + 1 ≤ r.fields.number + 1 = number_push (chain.generation + length rs) (newest_of None rs) r.fields keeps.number is.fields.ranges.number follows in
    record {
      open_gate = refl;
      header = keeps.header;
      images = images_push rs r keeps.images is;
      order = order_push None rs r keeps.order follows;
      few = omega arith;
      number = subst (λ (o : Option Fields). IsNumbered (chain.generation + length (rs ++ r ∷ [])) o) (sym (newest_push None rs r)) (omega arith);
    }

-- what a chain keeps once one record is more
pub keeps_push : (chain after : Current) (rs : List Image) (r : Image) → Keeps chain rs → IsImage r → broken_field (newest_of None rs) r.fields ≡ None → length rs < chain.max
    → header_of after ≡ header_of chain → after.count ≡ chain.count + 1 → after.gate ≡ chain.gate + image_length r → after.newest ≡ Some r.fields → after.newest_at ≡ chain.gate + 1 → TakesSpan chain after (image_length r) → Keeps after (rs ++ r ∷ [])
keeps_push chain after rs r keeps is follows room same count gate newest newest_at spans =
    let h = holds_push chain rs r keeps is follows room in
    let n = length_push rs r in
    let c = chained_length_push rs r in
    let k = keeps.count in let g = keeps.gate in
    let max : after.max ≡ chain.max = ap (λ (x : Header). x.max) same in
    let generation : after.generation ≡ chain.generation = ap (λ (x : Header). x.generation) same in
    record {
      header = subst (λ (x : Header). IsHeldHeader x) (sym same) h.header;
      images = h.images;
      order = h.order;
      few = (let few = h.few in omega arith);
      number = subst (λ (g : ℕ). IsNumbered (g + length (rs ++ r ∷ [])) (newest_of None (rs ++ r ∷ []))) (sym generation) h.number;
      count = omega arith;
      newest = newest ∙ sym (newest_push None rs r);
      gate = omega arith;
      newest_at = λ before q same_list. (let before_is : rs ≡ before = (same_from_push rs before r q same_list).0 in newest_at ∙ (let e : chain.gate + 1 ≡ 16 + chained_length rs = omega arith in e) ∙ ap (λ (l : List Image). 16 + chained_length l) before_is);
      spans = spans_next chain after rs r keeps.count keeps.gate keeps.spans spans;
    }

pub front_push : (chain : Current) (rs : List Image) (r : Image) → front chain (rs ++ r ∷ []) ≡ front chain rs ++ 165 ∷ text r
front_push chain rs r = ap (λ (l : List ℕ). head (header_of chain) ++ l) (chained_push rs r) ∙ sym (append_assoc (head (header_of chain)) (chained rs) (165 ∷ text r))

-- ---- stores of which this file was changed

pub other_is : (f : DiskFile) → f ≢ Output → f ≢ other f
other_is Output image_file same = image_file refl
other_is One image_file same = absurd cc
other_is Two image_file same = absurd cc

pub other_image : (f : DiskFile) → other f ≢ Output
other_image Output same = absurd cc
other_image One same = absurd cc
other_image Two same = absurd cc

output_is : (f : DiskFile) (bytes : List ℕ) (d : Store) → f ≢ Output → (with_file f bytes d).output ≡ d.output
output_is Output bytes d image_file = absurd (image_file refl)
output_is One bytes d image_file = refl
output_is Two bytes d image_file = refl

-- before the last gate stands this, and the gate is not open
pub record IsBefore (before bytes : List ℕ) : Type 0 where
  pub gate : ℕ
  pub behind : List ℕ
  pub closed : gate ≢ 165
  pub bytes_are : bytes ≡ before ++ gate ∷ behind

pub store_lists : (chain : Current) (rs : List Image) (generation count : ℕ) (bytes : List ℕ) (d s : Store) → Holds (header_of chain) rs → chain.file ≢ Output → IsBefore (front chain rs) bytes → s ≡ with_file chain.file bytes d
    → IsAside (other chain.file) chain.generation (length rs) (file_of (other chain.file) d) → Lists chain rs s
store_lists chain rs generation count bytes d s holds image_file is same aside =
    let f = chain.file in
    let mine : file_of f s ≡ front chain rs ++ is.gate ∷ is.behind = ap (file_of f) same ∙ file_of-with_file f bytes d ∙ is.bytes_are in
    let theirs : file_of (other f) d ≡ file_of (other f) s = sym (ap (file_of (other f)) same ∙ other_file f (other f) bytes d (other_is f image_file)) in
    lists_of chain rs is.gate is.behind s holds image_file is.closed mine (subst (IsAside (other f) chain.generation (length rs)) theirs aside)

pub store_output : (f : DiskFile) (bytes : List ℕ) (d s : Store) → f ≢ Output → s ≡ with_file f bytes d → s.output ≡ d.output
store_output f bytes d s image_file same = ap (λ (x : Store). x.output) same ∙ output_is f bytes d image_file

-- a store with other bytes in the chain's file
pub store_current : (chain : Current) (bytes : List ℕ) (d s : Store) → chain.file ≢ Output → s ≡ with_file chain.file bytes d → OnlyCurrent chain d s
store_current chain bytes d s image_file same = record {
  output = store_output chain.file bytes d s image_file same;
  aside = ap (file_of (other chain.file)) same ∙ other_file chain.file (other chain.file) bytes d (other_is chain.file image_file);
}

pub current_twice : (chain : Current) (a b c : Store) → OnlyCurrent chain a b → OnlyCurrent chain b c → OnlyCurrent chain a c
current_twice chain a b c x y = record { output = y.output ∙ x.output; aside = y.aside ∙ x.aside }

-- a file that is aside stays so when the chain has more records
pub aside_more : (f : DiskFile) (generation m n : ℕ) (bytes : List ℕ) → m ≤ n → IsAside f generation m bytes → IsAside f generation n bytes
aside_more f generation m n bytes le aside = record { header = aside.header; is = aside.is; older = λ h is opened. (let two = aside.older h is opened in let some = two.0 in (omega arith, two.1)) }

-- a change of the chain's file leaves the other one as it was
pub alone_after : {T E : Type 0} (chain : Current) (change : Change) (result : Result T E) (old new : View) (rs : List Image) → Changes chain.file change result old new → IsTrue old.tells → Alone chain old rs → Alone chain new rs
alone_after chain change result old new rs changes tells alone = record {
  image_file = alone.image_file;
  aside = λ c left. ⊎_elim (alone.aside c)
      (λ from. subst (IsAside (other chain.file) chain.generation (length rs)) (sym (ap (file_of (other chain.file)) from.2.2 ∙ other_file chain.file (other chain.file) from.2.0 from.0 (other_is chain.file alone.image_file))) (alone.aside from.0 from.1))
      (changed chain.file change result old new changes tells c left);
}

-- One change that leaves the old list.
pub kept_moments : {T E : Type 0} (chain : Current) (change : Change) (result : Result T E) (old new : View) (rs : List Image) (Q : List ℕ → Type 0) → Changes chain.file change result old new → IsTrue old.tells → IsDisk old → Keeps chain rs → Alone chain old rs
    → ((c : Store) → old.may_leave c → Q (file_of chain.file c))
    → ((x y : List ℕ) → Q x → Crashed change (file_of chain.file old.seen) x y → IsBefore (front chain rs) y)
    → ((x : List ℕ) → Q x → IsBefore (front chain rs) x)
    → LeavesOnly old new (Among old.may_leave (IsKept chain rs))
kept_moments chain change result old new rs Q changes tells disk keeps alone left step stays =
    weaken old new (Among old.may_leave (IsKept chain rs)) (Among old.may_leave (On chain.file (λ _ bytes. IsBefore (front chain rs) bytes)))
    (one_change chain.file change result old new Q (IsBefore (front chain rs)) changes tells disk left step stays)
    (λ s from. (from.0, from.1, (store_lists chain rs 0 0 from.2.0 from.0 s (holds_of chain rs keeps) alone.image_file from.2.1 from.2.2 (alone.aside from.0 from.1), store_current chain from.2.0 from.0 s alone.image_file from.2.2)))

-- One change that leaves the old list or the new one.
pub appended_moments : {T E : Type 0} (chain : Current) (change : Change) (result : Result T E) (old new : View) (rs : List Image) (r : Image) (Q : List ℕ → Type 0) → Changes chain.file change result old new → IsTrue old.tells → IsDisk old → Keeps chain rs → Alone chain old rs → Holds (header_of chain) (rs ++ r ∷ [])
    → ((c : Store) → old.may_leave c → Q (file_of chain.file c))
    → ((x y : List ℕ) → Q x → Crashed change (file_of chain.file old.seen) x y → IsBefore (front chain rs) y ⊎ IsBefore (front chain (rs ++ r ∷ [])) y)
    → ((x : List ℕ) → Q x → IsBefore (front chain rs) x ⊎ IsBefore (front chain (rs ++ r ∷ [])) x)
    → LeavesOnly old new (Among old.may_leave (IsAppended chain rs r))
appended_moments chain change result old new rs r Q changes tells disk keeps alone holds left step stays =
    weaken old new (Among old.may_leave (IsAppended chain rs r)) (Among old.may_leave (On chain.file (λ _ bytes. P bytes)))
    (one_change chain.file change result old new Q P changes tells disk left step stays)
    (λ s from. (from.0, from.1, (listed s from.0 from.1 from.2.0 from.2.2 from.2.1, store_current chain from.2.0 from.0 s alone.image_file from.2.2)))
  where
    P : List ℕ → Type 0
    P bytes = IsBefore (front chain rs) bytes ⊎ IsBefore (front chain (rs ++ r ∷ [])) bytes

    listed : (s d : Store) → old.may_leave d → (bytes : List ℕ) → s ≡ with_file chain.file bytes d → P bytes → Lists chain rs s ⊎ Lists chain (rs ++ r ∷ []) s
    listed s d was bytes same (inl is) = inl (store_lists chain rs 0 0 bytes d s (holds_of chain rs keeps) alone.image_file is same (alone.aside d was))
    listed s d was bytes same (inr is) = inr (store_lists chain (rs ++ r ∷ []) 0 0 bytes d s holds alone.image_file is same (aside_more (other chain.file) chain.generation (length rs) (length (rs ++ r ∷ [])) (file_of (other chain.file) d) (omega (arith, length_push rs r)) (alone.aside d was)))

-- ---- bytes

-- a file that keeps the closed gate
pub kept_gate : (before c : List ℕ) (gate : ℕ) → gate ≢ 165 → take (length before + 1) c ≡ before ++ gate ∷ [] → IsBefore before c
kept_gate before c gate closed kept =
    let n = length before + 1 in
    record { gate = gate; behind = drop n c; closed = closed; bytes_are = sym (take-append-drop n c) ∙ ap (λ (l : List ℕ). l ++ drop n c) kept ∙ append_assoc before (gate ∷ []) (drop n c) }

-- a write behind the gate keeps it
pub torn_behind : (before : List ℕ) (gate at n : ℕ) (x y : List ℕ) → length before + 1 ≤ at → take (length before + 1) x ≡ before ++ gate ∷ [] → Torn at n x y → take (length before + 1) y ≡ before ++ gate ∷ []
torn_behind before gate at n x y le kept torn =
    sym (take-take (length before + 1) at y le) ∙ ap (λ (l : List ℕ). take (length before + 1) l) torn.before ∙ take-take (length before + 1) at x le ∙ kept

-- a write over what stands behind a front
pub over : (a more bytes : List ℕ) (at : ℕ) → at ≡ length a → whole (Write at bytes) (a ++ more) ≡ a ++ (bytes ++ drop (length bytes) more)
over a more bytes at is =
    let behind : drop (at + length bytes) (a ++ more) ≡ drop (length bytes) more = ap (λ (n : ℕ). drop n (a ++ more)) (ap (λ (k : ℕ). k + length bytes) is) ∙ sym (drop-drop (length bytes) (length a) (a ++ more)) ∙ ap (drop (length bytes)) (drop_at a more (length a) refl) in
    ap (λ (l : List ℕ). l ++ bytes ++ drop (at + length bytes) (a ++ more)) (take_at a more at (sym is)) ∙ ap (λ (l : List ℕ). a ++ bytes ++ l) behind ∙ append_assoc a bytes (drop (length bytes) more)

-- a write over the gate
pub over_gate : (before rest : List ℕ) (old gate at : ℕ) → at ≡ length before → whole (Write at (gate ∷ [])) (before ++ old ∷ rest) ≡ before ++ gate ∷ rest
over_gate before rest old gate at is = over before (old ∷ rest) (gate ∷ []) at is

pub torn_gate : (before rest : List ℕ) (old at : ℕ) (x y : List ℕ) → at ≡ length before → x ≡ before ++ old ∷ rest → Torn at 1 x y → (gate : ℕ) × (y ≡ before ++ gate ∷ rest)
torn_gate before rest old at x y is was torn =
    let gate = get_or y at 0 in
    let long : length (before ++ old ∷ rest) ≡ at + suc (length rest) = omega (arith, length-append before (old ∷ rest)) in
    let old_behind : drop (at + 1) x ≡ rest = ap (λ (l : List ℕ). drop (at + 1) l) (was ∙ sym (append_assoc before (old ∷ []) rest)) ∙ drop_at (before ++ old ∷ []) rest (at + 1) (omega (arith, length-append before (old ∷ []))) in
    let old_front : take at x ≡ before = ap (λ (l : List ℕ). take at l) was ∙ take_at before (old ∷ rest) at (sym is) in
    let new_behind : drop at y ≡ gate ∷ rest = drop_more y at 0 (omega (arith, torn.no_shorter, ap length was, long)) ∙ ap (λ (l : List ℕ). gate ∷ l) (torn.after ∙ old_behind) in
    (gate, sym (take-append-drop at y) ∙ ap (λ (l : List ℕ). l ++ drop at y) (torn.before ∙ old_front) ∙ ap (λ (l : List ℕ). before ++ l) new_behind)

pub front_and_gate : (before rest : List ℕ) (gate : ℕ) → take (length before + 1) (before ++ gate ∷ rest) ≡ before ++ gate ∷ []
front_and_gate before rest gate = ap (λ (l : List ℕ). take (length before + 1) l) (sym (append_assoc before (gate ∷ []) rest)) ∙ take_at (before ++ gate ∷ []) rest (length before + 1) (omega (arith, length-append before (gate ∷ [])))

-- two fronts of a list, one behind the other
pub take_two : (m n : ℕ) (l : List ℕ) → m ≤ n → take m l ++ take (n - m) (drop m l) ≡ take n l
take_two m n l le =
    let same : m + (n - m) ≡ n = omega arith in
    ap (λ (p : List ℕ). p ++ take (n - m) (drop m l)) (sym (take-take m n l le)) ∙ ap (λ (p : List ℕ). take m (take n l) ++ p) (sym (drop-take m (n - m) l) ∙ ap (λ (k : ℕ). drop m (take k l)) same) ∙ take-append-drop m (take n l)

-- the record behind an open gate, and its last gate: the new front and a closed gate
pub opened_front : (chain : Current) (rs : List Image) (r : Image) (image behind : List ℕ) → Spells r image → front chain rs ++ 165 ∷ (image ++ behind) ≡ front chain (rs ++ r ∷ []) ++ 0 ∷ behind
opened_front chain rs r image behind spells =
    ap (λ (l : List ℕ). front chain rs ++ 165 ∷ (l ++ behind)) spells.bytes_are
    ∙ ap (λ (l : List ℕ). front chain rs ++ 165 ∷ l) (append_assoc (text r) (0 ∷ []) behind)
    ∙ sym (append_assoc (front chain rs) (165 ∷ text r) (0 ∷ behind))
    ∙ ap (λ (l : List ℕ). l ++ 0 ∷ behind) (sym (front_push chain rs r))

-- a torn gate byte may be anything: it is open or it is not
pub torn_list : (chain : Current) (rs : List Image) (r : Image) (image behind : List ℕ) (gate : ℕ) (y : List ℕ) → Spells r image → y ≡ front chain rs ++ gate ∷ (image ++ behind) → IsBefore (front chain rs) y ⊎ IsBefore (front chain (rs ++ r ∷ [])) y
torn_list chain rs r image behind gate y spells is = elim (cases_eq gate 165) [
  | inl open_gate ↦ inr (record { gate = 0; behind = behind; closed = λ e. absurd (omega arith); bytes_are = is ∙ ap (λ (g : ℕ). front chain rs ++ g ∷ (image ++ behind)) open_gate ∙ opened_front chain rs r image behind spells })
  | inr closed ↦ inl (record { gate = gate; behind = image ++ behind; closed = closed; bytes_are = is })
]

-- ---- what reads give

pub reads_list : (chain : Current) (v : View) (rs : List Image) (gate : ℕ) (behind : List ℕ) → Keeps chain rs → Alone chain v rs → IsDisk v → gate ≢ 165 → file_of chain.file v.seen ≡ front chain rs ++ gate ∷ behind → Lists chain rs v.seen
reads_list chain v rs gate behind keeps alone disk closed is = lists_of chain rs gate behind v.seen (holds_of chain rs keeps) alone.image_file closed is (alone.aside v.seen disk.seen_stays)

pub reads_more : (chain : Current) (v : View) (rs : List Image) (r : Image) (image behind : List ℕ) → Holds (header_of chain) (rs ++ r ∷ []) → Alone chain v rs → IsDisk v → Spells r image → file_of chain.file v.seen ≡ front chain rs ++ 165 ∷ (image ++ behind) → Lists chain (rs ++ r ∷ []) v.seen
reads_more chain v rs r image behind holds alone disk spells is =
    lists_of chain (rs ++ r ∷ []) 0 behind v.seen holds alone.image_file (λ e. absurd (omega arith)) (is ∙ opened_front chain rs r image behind spells)
    (aside_more (other chain.file) chain.generation (length rs) (length (rs ++ r ∷ [])) (file_of (other chain.file) v.seen) (omega (arith, length_push rs r)) (alone.aside v.seen disk.seen_stays))

-- ---- the four steps, each over one call

pub gate_place : (chain : Current) (rs : List Image) → Keeps chain rs → chain.gate ≡ length (front chain rs)
gate_place chain rs keeps = keeps.gate ∙ sym (length_front chain rs keeps)

pub spells_length : (r : Image) (image : List ℕ) → Spells r image → length image ≡ image_length r
spells_length r image spells = (let t = text_length r spells.is_image in ap length spells.bytes_are ∙ length-append (text r) (0 ∷ []) ∙ omega arith)

pub piece_moments : {T E : Type 0} (chain : Current) (old new : View) (rs : List Image) (image : List ℕ) (i at : ℕ) (bytes : List ℕ) (result : Result T E) → IsTrue old.tells → IsDisk old → Changes chain.file (Write at bytes) result old new → IsDue chain old rs image (Piece i) → at ≡ chain.gate + 1 + 4096 * i
    → LeavesOnly old new (Among old.may_leave (IsKept chain rs))
piece_moments chain old new rs image i at bytes result tells disk changes due is =
    let before = front chain rs in
    let place = gate_place chain rs due.keeps in
    kept_moments chain (Write at bytes) result old new rs (λ x. take (length before + 1) x ≡ before ++ due.gate ∷ []) changes tells disk due.keeps due.alone due.left
    (λ x y q torn. kept_gate before y due.gate due.closed (torn_behind before due.gate at (length bytes) x y (omega arith) q torn))
    (λ x q. kept_gate before x due.gate due.closed q)

pub piece_left : (chain : Current) (old new : View) (rs : List Image) (image : List ℕ) (i at : ℕ) (bytes : List ℕ) → IsMade chain.file (Write at bytes) old new → (due : IsDue chain old rs image (Piece i)) → at ≡ chain.gate + 1 + 4096 * i
    → (c : Store) → new.may_leave c → take (length (front chain rs) + 1) (file_of chain.file c) ≡ front chain rs ++ due.gate ∷ []
piece_left chain old new rs image i at bytes made due is =
    let before = front chain rs in
    let place = gate_place chain rs due.keeps in
    made_leaves chain.file (Write at bytes) old new (λ x. take (length before + 1) x ≡ before ++ due.gate ∷ []) (λ x. take (length before + 1) x ≡ before ++ due.gate ∷ []) made due.left
    (λ x y q torn. torn_behind before due.gate at (length bytes) x y (omega arith) q torn)

-- the pieces so far, and this one
pub piece_reads : (chain : Current) (old new : View) (rs : List Image) (image : List ℕ) (i at n : ℕ) (bytes : List ℕ) → IsMade chain.file (Write at bytes) old new → (due : IsDue chain old rs image (Piece i)) → at ≡ chain.gate + 1 + 4096 * i → 4096 * i ≤ length image → 4096 * i ≤ n
    → bytes ≡ take (n - 4096 * i) (drop (4096 * i) image) → file_of chain.file new.seen ≡ front chain rs ++ due.gate ∷ (take n image ++ drop (length bytes) due.behind)
piece_reads chain old new rs image i at n bytes made due is le more piece =
    let from = 4096 * i in
    let before = front chain rs in
    let place = gate_place chain rs due.keeps in
    let start = before ++ due.gate ∷ take from image in
    let long : length start ≡ at = omega (arith, length-append before (due.gate ∷ take from image), length-take from image) in
    let after = drop (length bytes) due.behind in
    let joined : take from image ++ take (n - from) (drop from image) ≡ take n image = take_two from n image more in
    made_seen chain.file (Write at bytes) old new made
    ∙ ap (whole (Write at bytes)) (due.reads ∙ sym (append_assoc before (due.gate ∷ take from image) due.behind))
    ∙ over start due.behind bytes at (sym long)
    ∙ append_assoc before (due.gate ∷ take from image) (bytes ++ after)
    ∙ ap (λ (l : List ℕ). before ++ due.gate ∷ l) (sym (append_assoc (take from image) bytes after) ∙ ap (λ (l : List ℕ). l ++ after) (ap (λ (l : List ℕ). take from image ++ l) piece ∙ joined))

pub sync_record_moments : {T E : Type 0} (chain : Current) (old new : View) (rs : List Image) (image : List ℕ) (result : Result T E) → IsTrue old.tells → IsDisk old → Changes chain.file Sync result old new → IsDue chain old rs image SyncRecord → LeavesOnly old new (Among old.may_leave (IsKept chain rs))
sync_record_moments chain old new rs image result tells disk changes due =
    let before = front chain rs in
    kept_moments chain Sync result old new rs (λ x. take (length before + 1) x ≡ before ++ due.gate ∷ []) changes tells disk due.keeps due.alone due.left
    (λ x y q same. record { gate = due.gate; behind = image ++ due.behind; closed = due.closed; bytes_are = same ∙ due.reads })
    (λ x q. kept_gate before x due.gate due.closed q)

pub sync_record_due : {T E : Type 0} (chain : Current) (old new : View) (rs : List Image) (image : List ℕ) (result : Result T E) → IsTrue old.tells → Changes chain.file Sync result old new → IsMade chain.file Sync old new → IsDue chain old rs image SyncRecord → IsDue chain new rs image OpenGate
sync_record_due chain old new rs image result tells changes made due = record {
  keeps = due.keeps;
  alone = alone_after chain Sync result old new rs changes tells due.alone;
  gate = due.gate;
  closed = due.closed;
  behind = due.behind;
  reads = made_seen chain.file Sync old new made ∙ due.reads;
  left = made_leaves chain.file Sync old new (λ x. take (length (front chain rs) + 1) x ≡ front chain rs ++ due.gate ∷ []) (λ x. x ≡ front chain rs ++ due.gate ∷ (image ++ due.behind)) made due.left (λ x y q same. same ∙ due.reads);
}

pub open_gate_moments : {T E : Type 0} (chain : Current) (old new : View) (rs : List Image) (r : Image) (image : List ℕ) (result : Result T E) → IsTrue old.tells → IsDisk old → Changes chain.file (Write chain.gate (165 ∷ [])) result old new → IsDue chain old rs image OpenGate → Spells r image → Holds (header_of chain) (rs ++ r ∷ [])
    → LeavesOnly old new (Among old.may_leave (IsAppended chain rs r))
open_gate_moments chain old new rs r image result tells disk changes due spells holds =
    let before = front chain rs in
    let rest = image ++ due.behind in
    appended_moments chain (Write chain.gate (165 ∷ [])) result old new rs r (λ x. x ≡ before ++ due.gate ∷ rest) changes tells disk due.keeps due.alone holds due.left
    (λ x y q torn. (let t = torn_gate before rest due.gate chain.gate x y (gate_place chain rs due.keeps) q torn in torn_list chain rs r image due.behind t.0 y spells t.1))
    (λ x q. torn_list chain rs r image due.behind due.gate x spells q)

pub open_gate_due : {T E : Type 0} (chain : Current) (old new : View) (rs : List Image) (image : List ℕ) (result : Result T E) → IsTrue old.tells → Changes chain.file (Write chain.gate (165 ∷ [])) result old new → IsMade chain.file (Write chain.gate (165 ∷ [])) old new → IsDue chain old rs image OpenGate → IsDue chain new rs image SyncGate
open_gate_due chain old new rs image result tells changes made due =
    let before = front chain rs in
    let rest = image ++ due.behind in
    let place = gate_place chain rs due.keeps in
    record {
      keeps = due.keeps;
      alone = alone_after chain (Write chain.gate (165 ∷ [])) result old new rs changes tells due.alone;
      gate = due.gate;
      closed = due.closed;
      behind = due.behind;
      reads = made_seen chain.file (Write chain.gate (165 ∷ [])) old new made ∙ ap (whole (Write chain.gate (165 ∷ []))) due.reads ∙ over_gate before rest due.gate 165 chain.gate place;
      left = made_leaves chain.file (Write chain.gate (165 ∷ [])) old new (λ x. x ≡ before ++ due.gate ∷ rest) (λ x. (torn : ℕ) × (x ≡ before ++ torn ∷ rest)) made due.left (λ x y q torn. torn_gate before rest due.gate chain.gate x y place q torn);
    }

pub sync_gate_moments : {T E : Type 0} (chain : Current) (old new : View) (rs : List Image) (r : Image) (image : List ℕ) (result : Result T E) → IsTrue old.tells → IsDisk old → Changes chain.file Sync result old new → IsDue chain old rs image SyncGate → Spells r image → Holds (header_of chain) (rs ++ r ∷ [])
    → LeavesOnly old new (Among old.may_leave (IsAppended chain rs r))
sync_gate_moments chain old new rs r image result tells disk changes due spells holds =
    let before = front chain rs in
    let rest = image ++ due.behind in
    appended_moments chain Sync result old new rs r (λ x. (torn : ℕ) × (x ≡ before ++ torn ∷ rest)) changes tells disk due.keeps due.alone holds due.left
    (λ x y q same. torn_list chain rs r image due.behind 165 y spells (same ∙ due.reads))
    (λ x q. torn_list chain rs r image due.behind q.0 x spells q.1)

pub sync_gate_rest : {T E : Type 0} (chain after : Current) (old new : View) (rs : List Image) (r : Image) (image : List ℕ) (result : Result T E) → IsTrue old.tells → Changes chain.file Sync result old new → IsMade chain.file Sync old new → (due : IsDue chain old rs image SyncGate) → Spells r image
    → after.file ≡ chain.file → header_of after ≡ header_of chain → Keeps after (rs ++ r ∷ []) → IsAtRest after new (rs ++ r ∷ []) due.behind
sync_gate_rest chain after old new rs r image result tells changes made due spells same_file same keeps =
    let before = front chain (rs ++ r ∷ []) in
    let whole_front : front chain rs ++ 165 ∷ (image ++ due.behind) ≡ before ++ 0 ∷ due.behind = opened_front chain rs r image due.behind spells in
    let fronts : before ≡ front after (rs ++ r ∷ []) = ap (λ (h : Header). head h ++ chained (rs ++ r ∷ [])) (sym same) in
    let lasting : (c : Store) → new.may_leave c → file_of chain.file c ≡ before ++ 0 ∷ due.behind = made_leaves chain.file Sync old new (λ x. (torn : ℕ) × (x ≡ front chain rs ++ torn ∷ (image ++ due.behind))) (λ x. x ≡ before ++ 0 ∷ due.behind) made due.left (λ x y q is. is ∙ due.reads ∙ whole_front) in
    let alone = alone_after chain Sync result old new rs changes tells due.alone in
    let generation : chain.generation ≡ after.generation = sym (ap (λ (h : Header). h.generation) same) in
    record {
      keeps = keeps;
      alone = record {
        image_file = λ e. alone.image_file (sym same_file ∙ e);
        aside = λ c left. subst (λ (f : DiskFile). IsAside (other f) after.generation (length (rs ++ r ∷ [])) (file_of (other f) c)) (sym same_file) (subst (λ (g : ℕ). IsAside (other chain.file) g (length (rs ++ r ∷ [])) (file_of (other chain.file) c)) generation (aside_more (other chain.file) chain.generation (length rs) (length (rs ++ r ∷ [])) (file_of (other chain.file) c) (omega (arith, length_push rs r)) (alone.aside c left)));
      };
      gate = 0;
      closed = λ e. absurd (omega arith);
      reads = ap (λ (f : DiskFile). file_of f new.seen) same_file ∙ made_seen chain.file Sync old new made ∙ due.reads ∙ whole_front ∙ ap (λ (l : List ℕ). l ++ 0 ∷ due.behind) fronts;
      left = λ c left. ap (λ (f : DiskFile). file_of f c) same_file ∙ lasting c left ∙ ap (λ (l : List ℕ). l ++ 0 ∷ due.behind) fronts;
    }

-- ---- as the calls ask it

pub due_holds : (chain : Current) (rs : List Image) (r : Image) (image : List ℕ) → Keeps chain rs → Spells r image → chain.count < chain.max → broken_field chain.newest r.fields ≡ None → Holds (header_of chain) (rs ++ r ∷ [])
due_holds chain rs r image keeps spells room follows =
    let count = keeps.count in
    holds_push chain rs r keeps spells.is_image (ap (λ (o : Option Fields). broken_field o r.fields) (sym keeps.newest) ∙ follows) (omega arith)

pub piece_inside : (chain : Current) (v : View) (rs : List Image) (image : List ℕ) (i : ℕ) → 4096 * i < length image → IsDue chain v rs image (Piece i) → chain.gate + 1 + 4096 * i ≤ length (file_of chain.file v.seen)
piece_inside chain v rs image i inside due =
    let place = gate_place chain rs due.keeps in
    let all = ap length due.reads ∙ length-append (front chain rs) (due.gate ∷ (take (4096 * i) image ++ due.behind)) in
    omega (arith, length-append (take (4096 * i) image) due.behind, length-take (4096 * i) image)

pub gate_inside : (chain : Current) (v : View) (rs : List Image) (image : List ℕ) → IsDue chain v rs image OpenGate → chain.gate ≤ length (file_of chain.file v.seen)
gate_inside chain v rs image due =
    let place = gate_place chain rs due.keeps in
    let all = ap length due.reads ∙ length-append (front chain rs) (due.gate ∷ (image ++ due.behind)) in
    omega arith

-- the step after a piece
pub piece_due : {T E : Type 0} (chain : Current) (old new : View) (rs : List Image) (image : List ℕ) (i at n j : ℕ) (bytes : List ℕ) (result : Result T E) → IsTrue old.tells → Changes chain.file (Write at bytes) result old new → IsMade chain.file (Write at bytes) old new → IsDue chain old rs image (Piece i) → at ≡ chain.gate + 1 + 4096 * i
    → 4096 * i ≤ length image → 4096 * i ≤ n → n ≡ 4096 * j → bytes ≡ take (n - 4096 * i) (drop (4096 * i) image) → IsDue chain new rs image (Piece j)
piece_due chain old new rs image i at n j bytes result tells changes made due is le more next piece = record {
  keeps = due.keeps;
  alone = alone_after chain (Write at bytes) result old new rs changes tells due.alone;
  gate = due.gate;
  closed = due.closed;
  behind = drop (length bytes) due.behind;
  reads = piece_reads chain old new rs image i at n bytes made due is le more piece ∙ ap (λ (m : ℕ). front chain rs ++ due.gate ∷ (take m image ++ drop (length bytes) due.behind)) next;
  left = piece_left chain old new rs image i at bytes made due is;
}

pub last_piece_due : {T E : Type 0} (chain : Current) (old new : View) (rs : List Image) (image : List ℕ) (i at n : ℕ) (bytes : List ℕ) (result : Result T E) → IsTrue old.tells → Changes chain.file (Write at bytes) result old new → IsMade chain.file (Write at bytes) old new → IsDue chain old rs image (Piece i) → at ≡ chain.gate + 1 + 4096 * i
    → 4096 * i ≤ length image → 4096 * i ≤ n → length image ≤ n → bytes ≡ take (n - 4096 * i) (drop (4096 * i) image) → IsDue chain new rs image SyncRecord
last_piece_due chain old new rs image i at n bytes result tells changes made due is le more whole piece = record {
  keeps = due.keeps;
  alone = alone_after chain (Write at bytes) result old new rs changes tells due.alone;
  gate = due.gate;
  closed = due.closed;
  behind = drop (length bytes) due.behind;
  reads = piece_reads chain old new rs image i at n bytes made due is le more piece ∙ ap (λ (l : List ℕ). front chain rs ++ due.gate ∷ (l ++ drop (length bytes) due.behind)) (take_all n image whole);
  left = piece_left chain old new rs image i at bytes made due is;
}

pub spells_short : (r : Image) (image : List ℕ) → Spells r image → length image ≤ 2097269
spells_short r image spells = let n = spells_length r image spells in let short = image_short r spells.is_image in omega arith

pub spells_front : (r : Image) (image : List ℕ) → Spells r image → IsFront r image
spells_front r image spells = (0, [], spells.bytes_are ∙ sym (append-nil (spelling r 0)))

pub sync_gate_keeps : (chain after : Current) (rs : List Image) (r : Image) (image : List ℕ) → Keeps chain rs → Spells r image → chain.count < chain.max → broken_field chain.newest r.fields ≡ None
    → header_of after ≡ header_of chain → after.count ≡ chain.count + 1 → after.gate ≡ chain.gate + length image → after.newest ≡ Some r.fields → after.newest_at ≡ chain.gate + 1 → TakesSpan chain after (length image) → Keeps after (rs ++ r ∷ [])
sync_gate_keeps chain after rs r image keeps spells room follows same count gate newest newest_at spans =
    let k = keeps.count in
    let n = spells_length r image spells in
    keeps_push chain after rs r keeps spells.is_image (ap (λ (o : Option Fields). broken_field o r.fields) (sym keeps.newest) ∙ follows) (omega arith) same count (omega arith) newest newest_at (subst (TakesSpan chain after) (let e : length image ≡ image_length r = omega arith in e) spans)

pub sync_gate_reads : {T E : Type 0} (chain : Current) (old new : View) (rs : List Image) (r : Image) (image : List ℕ) (result : Result T E) → IsTrue old.tells → Changes chain.file Sync result old new → IsMade chain.file Sync old new → IsDue chain old rs image SyncGate → Spells r image → Holds (header_of chain) (rs ++ r ∷ []) → IsDisk new
    → Lists chain (rs ++ r ∷ []) new.seen
sync_gate_reads chain old new rs r image result tells changes made due spells holds disk =
    reads_more chain new rs r image due.behind holds (alone_after chain Sync result old new rs changes tells due.alone) disk spells (made_seen chain.file Sync old new made ∙ due.reads)

abbrev read : Image → Result Image ℕ
read i = Ok i

pub same_image : (r i : Image) → read r ≡ read i → r ≡ i
same_image r i same = cc

pub no_image : (r : Image) (place : ℕ) → read r ≡ Err place → ⊥
no_image r place same = cc
