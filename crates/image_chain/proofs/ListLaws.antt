-- The records that stand in a store are found there.
use Rattle.std.proofs.Common.{◌≡◌, ◌≢◌, ◌⊎◌, inl, inr, refl, sym, ◌∙◌, ap, ℕ, zero, suc, ◌+◌, ◌<◌, ◌≤◌, nat_lt, ◌==◌, Bool, true, false, cond, List, [], ◌∷◌, ◌++◌, length, take, drop, Option, Some, None, Result, Ok, Err, arith, append_assoc, length-append}
use Rattle.std.specs.Prelude.{slice_index}
use Rattle.std.specs.List.{AllByRecursion}
use Rattle.std.proofs.lemmas.Bool.Decides.{nat_tests}
use Rattle.std.proofs.lemmas.List.{take_at, drop_at, take-take, take-append-drop, get_or_at}
use Rattle.disk_model.specs.declared.disk_file.DiskFile.{DiskFile}
use Rattle.disk_model.specs.declared.disk_file.DiskFile.TheVariants.{Output, One, Two}
use Rattle.disk_model.specs.Store.{Store, file_of}
use Rattle.image_format.specs.declared.fields.Fields.{Fields}
use Rattle.image_format.specs.declared.header.Header.{Header}
use Rattle.image_format.specs.Image.{Image, IsImage, IsHeldHeader}
use Rattle.image_format.specs.Spelling.{is_open, text, spelling, image_length}
use Rattle.image_format.specs.Reading.{◌>>=◌, image_at}
use Rattle.image_format.proofs.RecordLaws.{text_length, image_short}
use Rattle.image_format.proofs.ViewLaws.{image_only}
use Rattle.image_format.proofs.HeaderLaws.{header_only}
use Rattle.image_chain.specs.declared.chain.Current.{Current}
use Rattle.image_chain.specs.Records.{Damage, header_in, only_open, newer, broken_field, in_order, located, record_in, records_at, newest_of, in_number, found_in, chain_in}
use Rattle.image_chain.specs.Append.{header_of, head, chained, AreInOrder, Keeps, front, other, IsAside}
use Rattle.image_chain.specs.Sound.{IsNumbered}
use Rattle.image_chain.specs.Lists.{found_of, Lists}

-- ---- one record

-- a record that was written is read again, whatever its last gate is and whatever follows
pub image_back : (i : Image) (gate : ℕ) (more : List ℕ) → IsImage i → image_at (take 3145837 (text i ++ gate ∷ more)) ≡ Ok i
image_back i gate more is =
    let whole = text i ++ gate ∷ more in
    let s = spelling i gate in
    let size : length s ≤ 3145837 = (let t = text_length i is in let short = image_short i is in omega (arith, length-append (text i) (gate ∷ []))) in
    let bytes = take 3145837 whole in
    let first : take (length s) bytes ≡ s = take-take (length s) 3145837 whole size ∙ ap (λ (l : List ℕ). take (length s) l) (sym (append_assoc (text i) (gate ∷ []) more)) ∙ take_at s more (length s) refl in
    image_only bytes i is (gate, drop (length s) bytes, sym (take-append-drop (length s) bytes) ∙ ap (λ (l : List ℕ). l ++ drop (length s) bytes) first)

pub behind_gate : (before : List ℕ) (gate : ℕ) (rest : List ℕ) → drop (length before + 1) (before ++ gate ∷ rest) ≡ rest
behind_gate before gate rest = ap (λ (l : List ℕ). drop (length before + 1) l) (sym (append_assoc before (gate ∷ []) rest)) ∙ drop_at (before ++ gate ∷ []) rest (length before + 1) (omega (arith, length-append before (gate ∷ [])))

-- what follows a record begins with a gate
pub next_gate : (rs : List Image) (gate : ℕ) (behind : List ℕ) → (b : ℕ) × (more : List ℕ) × (chained rs ++ gate ∷ behind ≡ b ∷ more)
next_gate [] gate behind = (gate, behind, refl)
next_gate (r ∷ rs) gate behind = (165, (text r ++ chained rs) ++ gate ∷ behind, refl)

pub shut : (gate : ℕ) → gate ≢ 165 → is_open gate ≡ false
shut gate closed = grind (arith, nat_tests)

-- the record behind an open gate
record_back : (f : DiskFile) (before : List ℕ) (gate : ℕ) (r : Image) (next : ℕ) (more : List ℕ) → IsImage r → record_in f (before ++ gate ∷ (text r ++ next ∷ more)) (length before + 1) ≡ Ok r
unfolding record_in
record_back f before gate r next more is =
    ap (λ (l : List ℕ). located f (length before + 1) (image_at (take 3145837 l))) (behind_gate before gate (text r ++ next ∷ more)) ∙ ap (located f (length before + 1)) (image_back r next more is)

-- ---- the records of a file

pub one_more : (left : ℕ) (f : DiskFile) (file : List ℕ) (newest : Option Fields) (gate : ℕ) (r : Image) (total : Result (List Image) Damage) → is_open (slice_index file gate) ≡ true → record_in f file (gate + 1) ≡ Ok r → broken_field newest r.fields ≡ None
    → (records_at left f file (Some r.fields) (gate + image_length r) >>= λ more. Ok (r ∷ more)) ≡ total → records_at (suc left) f file newest gate ≡ total
unfolding records_at
one_more left f file newest gate r total opened one order more =
    ap (λ (b : Bool). cond b (record_in f file (gate + 1) >>= λ image. in_order f (gate + 1) (broken_field newest image.fields) >>= λ _. records_at left f file (Some image.fields) (gate + image_length image) >>= λ more. Ok (image ∷ more)) (Ok [])) opened
    ∙ ap (λ (x : Result Image Damage). x >>= λ image. in_order f (gate + 1) (broken_field newest image.fields) >>= λ _. records_at left f file (Some image.fields) (gate + image_length image) >>= λ more. Ok (image ∷ more)) one
    ∙ ap (λ (o : Option ℕ). in_order f (gate + 1) o >>= λ _. records_at left f file (Some r.fields) (gate + image_length r) >>= λ more. Ok (r ∷ more)) order
    ∙ more

pub no_more : (left : ℕ) (f : DiskFile) (file : List ℕ) (newest : Option Fields) (gate : ℕ) → is_open (slice_index file gate) ≡ false → records_at left f file newest gate ≡ Ok []
unfolding records_at
no_more zero f file newest gate closed = ap (λ (b : Bool). cond b (record_in f file (gate + 1) >>= λ _. Err (record { file = f; place = gate })) (Ok [])) closed
no_more (suc left) f file newest gate closed = ap (λ (b : Bool). cond b (record_in f file (gate + 1) >>= λ image. in_order f (gate + 1) (broken_field newest image.fields) >>= λ _. records_at left f file (Some image.fields) (gate + image_length image) >>= λ more. Ok (image ∷ more)) (Ok [])) closed

at_gate : (before : List ℕ) (gate : ℕ) (rest : List ℕ) → slice_index (before ++ gate ∷ rest) (length before) ≡ gate
at_gate before gate rest = get_or_at before gate rest 0 (length before) refl

pub records_found : (rs : List Image) (left : ℕ) (f : DiskFile) (before : List ℕ) (newest : Option Fields) (gate : ℕ) (behind : List ℕ) → AllByRecursion IsImage rs → AreInOrder newest rs → length rs ≤ left → gate ≢ 165
    → records_at left f (before ++ (chained rs ++ gate ∷ behind)) newest (length before) ≡ Ok rs
records_found [] left f before newest gate behind are order few closed = no_more left f (before ++ gate ∷ behind) newest (length before) (ap is_open (at_gate before gate behind) ∙ shut gate closed)
records_found (r ∷ rs) zero f before newest gate behind are order few closed = absurd (omega arith)
records_found (r ∷ rs) (suc left) f before newest gate behind are order few closed =
    let rest = chained rs ++ gate ∷ behind in
    let file = before ++ 165 ∷ ((text r ++ chained rs) ++ gate ∷ behind) in
    let regrouped : file ≡ before ++ 165 ∷ (text r ++ rest) = ap (λ (l : List ℕ). before ++ 165 ∷ l) (append_assoc (text r) (chained rs) (gate ∷ behind)) in
    let next = next_gate rs gate behind in
    let one : record_in f file (length before + 1) ≡ Ok r = ap (λ (l : List ℕ). record_in f l (length before + 1)) (regrouped ∙ ap (λ (l : List ℕ). before ++ 165 ∷ (text r ++ l)) next.2) ∙ record_back f before 165 r next.0 next.1 are.0 in
    let moved : file ≡ (before ++ 165 ∷ text r) ++ rest = regrouped ∙ sym (append_assoc before (165 ∷ text r) rest) in
    let size : length before + image_length r ≡ length (before ++ 165 ∷ text r) = (let t = text_length r are.0 in omega (arith, length-append before (165 ∷ text r))) in
    let more : records_at left f file (Some r.fields) (length before + image_length r) ≡ Ok rs =
    ap (λ (l : List ℕ). records_at left f l (Some r.fields) (length before + image_length r)) moved
    ∙ ap (λ (n : ℕ). records_at left f ((before ++ 165 ∷ text r) ++ rest) (Some r.fields) n) size
    ∙ records_found rs left f (before ++ 165 ∷ text r) (Some r.fields) gate behind are.1 order.1 (omega arith) closed in
    one_more left f file newest (length before) r (Ok (r ∷ rs)) (ap is_open (at_gate before 165 ((text r ++ chained rs) ++ gate ∷ behind))) one order.0 (ap (λ (x : Result (List Image) Damage). x >>= λ more. Ok (r ∷ more)) more)

-- ---- headers

pub header_back : (f : DiskFile) (h : Header) (gate : ℕ) (rest : List ℕ) → IsHeldHeader h → header_in f (head h ++ gate ∷ rest) ≡ Ok (Some (record { generation = h.generation; every = h.every; max = h.max; gate_open = is_open gate }))
unfolding header_in
header_back f h gate rest held =
    let given : Header = record { generation = h.generation; every = h.every; max = h.max; gate_open = is_open gate } in
    let long : nat_lt (length (drop 1 (head h ++ gate ∷ rest))) 15 ≡ false = grind (arith, nat_tests) in
    rw (long, header_only (head h ++ gate ∷ []) given (record { generation = held.generation; every = held.every; ranges = record { generation = held.ranges.generation; every = held.ranges.every; max_least = held.ranges.max_least; max_most = held.ranges.max_most } }) (record { gate = gate; bytes_are = refl; gate_is = refl })) refl

-- a header whose gate is open
abbrev opened : Header → Header
opened h = record { generation = h.generation; every = h.every; max = h.max; gate_open = true }

record IsOlder (o : Option Header) (generation count : ℕ) : Type 0 where
  pub header : Header
  pub is : o ≡ Some header
  pub some : 1 ≤ count
  pub older : header.generation < generation

-- the other file's header, as far as it is open
aside_open : (o : Option Header) (generation count : ℕ) → ((h : Header) → o ≡ Some h → h.gate_open ≡ true → (1 ≤ count) × (h.generation < generation)) → (only_open o ≡ None) ⊎ IsOlder (only_open o) generation count
aside_open None generation count older = inl refl
aside_open (Some h) generation count older = by_gate h.gate_open refl
  where
    by_gate : (b : Bool) → h.gate_open ≡ b → (only_open (Some h) ≡ None) ⊎ IsOlder (only_open (Some h)) generation count
    by_gate true is = let two = older h refl is in inr (record { header = h; is = ap (λ (b : Bool). cond b (Some h) None) is; some = two.0; older = two.1 })
    by_gate false is = inl (ap (λ (b : Bool). cond b (Some h) None) is)

newer_one : (h : Header) (o : Option Header) (count : ℕ) → (o ≡ None) ⊎ IsOlder o h.generation count → newer (Some h) o ≡ Ok (Some (One, h))
newer_one h o count (inl none) = ap (newer (Some h)) none
newer_one h o count (inr older) =
    let lt = older.older in
    let same : (h.generation == older.header.generation) ≡ false = grind (arith, nat_tests) in
    let less : nat_lt older.header.generation h.generation ≡ true = grind (arith, nat_tests) in
    ap (newer (Some h)) older.is ∙ rw (same, less) refl

newer_two : (h : Header) (o : Option Header) (count : ℕ) → (o ≡ None) ⊎ IsOlder o h.generation count → newer o (Some h) ≡ Ok (Some (Two, h))
newer_two h o count (inl none) = ap (λ (x : Option Header). newer x (Some h)) none
newer_two h o count (inr older) =
    let lt = older.older in
    let same : (older.header.generation == h.generation) ≡ false = grind (arith, nat_tests) in
    let less : nat_lt h.generation older.header.generation ≡ false = grind (arith, nat_tests) in
    ap (λ (x : Option Header). newer x (Some h)) older.is ∙ rw (same, less) refl

none_open : (o : Option Header) (generation : ℕ) → (o ≡ None) ⊎ IsOlder o generation 0 → o ≡ None
none_open o generation (inl none) = none
none_open o generation (inr older) = let some = older.some in absurd (omega arith)

number_ok : (f : DiskFile) (ahead : ℕ) (newest : Option Fields) → IsNumbered ahead newest → in_number f ahead newest ≡ Ok tt
number_ok f ahead None is = refl
number_ok f ahead (Some newest) is = let behind : nat_lt (newest.number + 1) ahead ≡ false = grind (arith, nat_tests) in rw behind refl

-- ---- the whole store

-- what stands before the last gate, behind this header
pub record Holds (h : Header) (rs : List Image) : Type 0 where
  pub open_gate : h.gate_open ≡ true
  pub header : IsHeldHeader h
  pub images : AllByRecursion IsImage rs
  pub order : AreInOrder None rs
  pub few : length rs ≤ h.max
  pub number : IsNumbered (h.generation + length rs) (newest_of None rs)

found_of_current : (f : DiskFile) (h : Header) (r : Image) (rs : List Image) (gate : ℕ) (behind : List ℕ) (s : Store) → Holds h (r ∷ rs) → gate ≢ 165 → file_of f s ≡ head h ++ (chained (r ∷ rs) ++ gate ∷ behind) → found_in s (Some (f, h)) ≡ Ok (found_of f h (r ∷ rs))
found_of_current f h r rs gate behind s holds closed is =
    let all : records_at h.max f (file_of f s) None 15 ≡ Ok (r ∷ rs) = ap (λ (l : List ℕ). records_at h.max f l None 15) is ∙ records_found (r ∷ rs) h.max f (head h) None gate behind holds.images holds.order holds.few closed in
    rw (all, number_ok f (h.generation + length (r ∷ rs)) (newest_of None (r ∷ rs)) holds.number) refl

same_header : (h : Header) → h.gate_open ≡ true → opened h ≡ h
same_header h is = ap (λ (b : Bool). record { generation = h.generation; every = h.every; max = h.max; gate_open = b }) (sym is)

pub current_is : (s : Store) (one two : Option Header) (current : Option (DiskFile × Header)) → header_in One s.one ≡ Ok one → header_in Two s.two ≡ Ok two → newer (only_open one) (only_open two) ≡ Ok current → chain_in s ≡ found_in s current
unfolding chain_in
current_is s one two current first second both =
    ap (λ (x : Result (Option Header) Damage). x >>= λ one. header_in Two s.two >>= λ two. newer (only_open one) (only_open two) >>= λ current. found_in s current) first
    ∙ ap (λ (x : Result (Option Header) Damage). x >>= λ two. newer (only_open one) (only_open two) >>= λ current. found_in s current) second
    ∙ ap (λ (x : Result (Option (DiskFile × Header)) Damage). x >>= λ current. found_in s current) both

-- the header of a file without records is not open
closed_header : (h : Header) (gate : ℕ) → gate ≢ 165 → only_open (Some (record { generation = h.generation; every = h.every; max = h.max; gate_open = is_open gate })) ≡ None
closed_header h gate closed = ap (λ (b : Bool). cond b (Some (record { generation = h.generation; every = h.every; max = h.max; gate_open = is_open gate })) None) (shut gate closed)

open_header : (h : Header) → h.gate_open ≡ true → only_open (Some h) ≡ Some h
open_header h is = ap (λ (b : Bool). cond b (Some h) None) is

pub found_store : (f : DiskFile) (h : Header) (rs : List Image) (gate : ℕ) (behind : List ℕ) (s : Store) → f ≢ Output → Holds h rs → gate ≢ 165 → file_of f s ≡ (head h ++ chained rs) ++ gate ∷ behind
    → IsAside (other f) h.generation (length rs) (file_of (other f) s) → chain_in s ≡ Ok (found_of f h rs)
found_store Output h rs gate behind s image_file holds closed is aside = absurd (image_file refl)
found_store One h [] gate behind s image_file holds closed is aside =
    let mine = ap (header_in One) is ∙ header_back One h gate behind holds.header in
    let rest = none_open (only_open aside.header) h.generation (aside_open aside.header h.generation 0 aside.older) in
    current_is s _ aside.header None mine aside.is (ap (λ (x : Option Header). newer x (only_open aside.header)) (closed_header h gate closed) ∙ ap (newer None) rest)
found_store Two h [] gate behind s image_file holds closed is aside =
    let mine = ap (header_in Two) is ∙ header_back Two h gate behind holds.header in
    let rest = none_open (only_open aside.header) h.generation (aside_open aside.header h.generation 0 aside.older) in
    current_is s aside.header _ None aside.is mine (ap (newer (only_open aside.header)) (closed_header h gate closed) ∙ ap (λ (x : Option Header). newer x None) rest)
found_store One h (r ∷ rs) gate behind s image_file holds closed is aside =
    let file : s.one ≡ head h ++ (chained (r ∷ rs) ++ gate ∷ behind) = is ∙ append_assoc (head h) (chained (r ∷ rs)) (gate ∷ behind) in
    let mine : header_in One s.one ≡ Ok (Some h) = ap (header_in One) file ∙ header_back One h 165 ((text r ++ chained rs) ++ gate ∷ behind) holds.header ∙ ap (λ (x : Header). Ok (Some x)) (same_header h holds.open_gate) in
    let current = newer_one h (only_open aside.header) (suc (length rs)) (aside_open aside.header h.generation (suc (length rs)) aside.older) in
    current_is s (Some h) aside.header (Some (One, h)) mine aside.is (ap (λ (x : Option Header). newer x (only_open aside.header)) (open_header h holds.open_gate) ∙ current)
    ∙ found_of_current One h r rs gate behind s holds closed file
found_store Two h (r ∷ rs) gate behind s image_file holds closed is aside =
    let file : s.two ≡ head h ++ (chained (r ∷ rs) ++ gate ∷ behind) = is ∙ append_assoc (head h) (chained (r ∷ rs)) (gate ∷ behind) in
    let mine : header_in Two s.two ≡ Ok (Some h) = ap (header_in Two) file ∙ header_back Two h 165 ((text r ++ chained rs) ++ gate ∷ behind) holds.header ∙ ap (λ (x : Header). Ok (Some x)) (same_header h holds.open_gate) in
    let current = newer_two h (only_open aside.header) (suc (length rs)) (aside_open aside.header h.generation (suc (length rs)) aside.older) in
    current_is s aside.header (Some h) (Some (Two, h)) aside.is mine (ap (newer (only_open aside.header)) (open_header h holds.open_gate) ∙ current)
    ∙ found_of_current Two h r rs gate behind s holds closed file

pub holds_of : (chain : Current) (rs : List Image) → Keeps chain rs → Holds (header_of chain) rs
holds_of chain rs keeps = record { open_gate = refl; header = keeps.header; images = keeps.images; order = keeps.order; few = keeps.few; number = keeps.number }

pub lists_of : (chain : Current) (rs : List Image) (gate : ℕ) (behind : List ℕ) (s : Store) → Holds (header_of chain) rs → chain.file ≢ Output → gate ≢ 165 → file_of chain.file s ≡ front chain rs ++ gate ∷ behind
    → IsAside (other chain.file) chain.generation (length rs) (file_of (other chain.file) s) → Lists chain rs s
lists_of chain rs gate behind s holds image_file closed is aside = found_store chain.file (header_of chain) rs gate behind s image_file holds closed is aside
