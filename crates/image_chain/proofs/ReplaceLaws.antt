-- What each call of a joining leaves.
use Rattle.std.proofs.Common.{◌≡◌, ◌≢◌, ◌⊎◌, inl, inr, refl, sym, ◌∙◌, ap, subst, ℕ, ◌+◌, ◌-◌, ◌<◌, ◌≤◌, ◌^◌, Bool, true, false, IsTrue, List, [], ◌∷◌, ◌++◌, length, take, drop, Option, Some, None, Result, Ok, ⊎_elim, arith, append_assoc, length-append, length-take}
use Rattle.std.specs.Prelude.{slice_set}
use Rattle.std.proofs.lemmas.Bool.{cases_eq}
use Rattle.std.proofs.lemmas.List.{append-nil, drop_all, same_from_push}
use Rattle.disk_model.specs.declared.disk_file.DiskFile.{DiskFile}
use Rattle.disk_model.specs.declared.disk_file.DiskFile.TheVariants.{Output, One, Two}
use Rattle.disk_model.specs.Store.{Store, file_of, with_file}
use Rattle.disk_model.specs.Change.{Change, Write, Sync, Start, whole, Crashed}
use Rattle.disk_model.specs.View.{View, IsDisk, On, IsMade, Changes}
use Rattle.disk_model.specs.Moments.{Among, LeavesOnly}
use Rattle.disk_model.proofs.Calls.{file_of-with_file, with_file-same, changed, after_change, still, weaken, joined, one_change, made_seen, made_leaves, other_file}
use Rattle.image_format.specs.declared.fields.Fields.{Fields}
use Rattle.image_format.specs.declared.header.Header.{Header}
use Rattle.image_format.specs.Image.{Image, IsImage, IsHeldHeader}
use Rattle.image_format.specs.Spelling.{is_open, text}
use Rattle.image_chain.specs.declared.chain.Current.{Current}
use Rattle.image_chain.specs.declared.chain.Span.{Span}
use Rattle.image_chain.specs.Records.{Damage, header_in}
use Rattle.image_chain.specs.Sound.{IsNumbered, IsSound}
use Rattle.image_chain.specs.Append.{header_of, head, chained, chained_length, Keeps, front, other, IsAside, IsAtRest, Spells}
use Rattle.image_chain.specs.Lists.{Lists}
use Rattle.image_chain.specs.Replace.{next_header, ListsJoined, OnlyOther, IsNotOpen, IsAsideOrShut, IsBegun, IsTurned, IsReplaced, StandsOnOther, IsBeside, IsShut, IsWritten, IsWhole, IsOpening, IsOpen}
use Rattle.image_chain.proofs.ListLaws.{Holds, holds_of, lists_of, found_store, header_back, next_gate, shut}
use Rattle.image_chain.proofs.StepLaws.{other_is, other_image, store_output, kept_gate, torn_behind, over, over_gate, torn_gate, front_and_gate, take_two, spells_length}

-- ---- two image files

other_twice : (f : DiskFile) → f ≢ Output → other (other f) ≡ f
other_twice Output image_file = absurd (image_file refl)
other_twice One image_file = refl
other_twice Two image_file = refl

back_is : (f : DiskFile) → f ≢ Output → other f ≢ f
back_is f image_file same = other_is f image_file (sym same)

abbrev gate_in : Option Header → Bool
gate_in None = false
gate_in (Some h) = h.gate_open

abbrev generation_in : Option Header → ℕ
generation_in None = 0
generation_in (Some h) = h.generation

abbrev with_gate : Header → ℕ → Header
with_gate h gate = record { generation = h.generation; every = h.every; max = h.max; gate_open = is_open gate }

-- a file whose gate is not open is aside, whatever stands behind it
pub closed_aside : (f : DiskFile) (h : Header) (generation count gate : ℕ) (behind file : List ℕ) → IsHeldHeader h → gate ≢ 165 → file ≡ head h ++ gate ∷ behind → IsAside f generation count file
closed_aside f h generation count gate behind file held closed is = record {
  header = Some (with_gate h gate);
  is = ap (header_in f) is ∙ header_back f h gate behind held;
  older = λ k same opened. absurd (wrong (sym (shut gate closed) ∙ ap gate_in same ∙ opened));
}
  where
    wrong : false ≡ true → ⊥
    wrong e = cc

-- a file of an older generation is aside
older_aside : (f : DiskFile) (h : Header) (generation gate : ℕ) (behind file : List ℕ) → IsHeldHeader h → h.generation < generation → file ≡ head h ++ gate ∷ behind → IsAside f generation 1 file
older_aside f h generation gate behind file held less is = record {
  header = Some (with_gate h gate);
  is = ap (header_in f) is ∙ header_back f h gate behind held;
  older = λ k same opened. (omega arith, subst (λ (n : ℕ). n < generation) (ap generation_in same) less);
}

-- the records of a file begin with its header and a gate
front_gate : (chain : Current) (rs : List Image) (gate : ℕ) (behind : List ℕ) → (b : ℕ) × (more : List ℕ) × (front chain rs ++ gate ∷ behind ≡ head (header_of chain) ++ b ∷ more)
front_gate chain rs gate behind =
    let next = next_gate rs gate behind in
    (next.0, next.1, append_assoc (head (header_of chain)) (chained rs) (gate ∷ behind) ∙ ap (λ (l : List ℕ). head (header_of chain) ++ l) next.2)

shut_aside : (f : DiskFile) (h : Header) (generation count : ℕ) (file : List ℕ) → IsHeldHeader h → IsShut h file → IsAside f generation count file
shut_aside f h generation count file held is =
    let before = kept_gate (head h) file 0 (λ e. absurd (omega arith)) is in
    closed_aside f h generation count before.gate before.behind file held before.closed before.bytes_are

-- ---- the next generation

-- there is a next generation
pub next_generation : (generation every max count : ℕ) (newest : Option Fields) → IsSound generation every max count newest → 2 ≤ count → generation + 1 < 2 ^ 32
next_generation generation every max count None sound two = let n = sound.none refl in let g = sound.generation_least in absurd (omega (arith, n, g, two))
next_generation generation every max count (Some newest) sound two = let n = sound.number newest refl in let fits = (sound.said newest refl).number in omega (arith, n, fits, two)

pub next_held : (chain : Current) (rs : List Image) → Keeps chain rs → chain.generation + 1 < 2 ^ 32 → IsHeldHeader (next_header chain)
next_held chain rs keeps fits =
    let ranges = keeps.header.ranges in
    record { generation = fits; every = keeps.header.every; ranges = record { generation = omega arith; every = ranges.every; max_least = ranges.max_least; max_most = ranges.max_most } }

-- the one record stands behind the header of the next generation
pub joined_holds : (chain : Current) (rs : List Image) (r : Image) → Keeps chain rs → IsHeldHeader (next_header chain) → IsImage r → 2 ≤ chain.count → chain.newest ≡ Some r.fields → Holds (next_header chain) (r ∷ [])
joined_holds chain rs r keeps held is two newest =
    let number : chain.generation + length rs ≤ r.fields.number + 1 = subst (IsNumbered (chain.generation + length rs)) (sym keeps.newest ∙ newest) keeps.number in
    let count = keeps.count in
    let few = keeps.few in
    record {
      open_gate = refl;
      header = held;
      images = (is, tt);
      order = (refl, tt);
      few = omega (arith, few, count, two);
      number = omega (arith, number, count, two);
    }

-- a file whose gate is closed is not open
not_open : (f : DiskFile) (h : Header) (gate : ℕ) (behind file : List ℕ) → IsHeldHeader h → gate ≢ 165 → file ≡ head h ++ gate ∷ behind → IsNotOpen f file
not_open f h gate behind file held closed is k e =
    let back : header_in f file ≡ Ok (Some (with_gate h gate)) = ap (header_in f) is ∙ header_back f h gate behind held in
    ap gate_in (header_is (header_in f file) e back) ∙ shut gate closed
  where
    header_is : (x : Result (Option Header) Damage) → x ≡ Ok (Some k) → x ≡ Ok (Some (with_gate h gate)) → Some k ≡ Some (with_gate h gate)
    header_is x a b = cc

shut_not_open : (f : DiskFile) (h : Header) (file : List ℕ) → IsHeldHeader h → IsShut h file → IsNotOpen f file
shut_not_open f h file held is =
    let before = kept_gate (head h) file 0 (λ e. absurd (omega arith)) is in
    not_open f h before.gate before.behind file held before.closed before.bytes_are

-- a store with other bytes in the other image file
store_other : (chain : Current) (bytes : List ℕ) (d s : Store) → chain.file ≢ Output → s ≡ with_file (other chain.file) bytes d → OnlyOther chain d s
store_other chain bytes d s image_file same = record {
  output = store_output (other chain.file) bytes d s (other_image chain.file) same;
  current = ap (file_of chain.file) same ∙ other_file (other chain.file) chain.file bytes d (back_is chain.file image_file);
}

other_bytes : (chain : Current) (bytes : List ℕ) (d s : Store) → s ≡ with_file (other chain.file) bytes d → bytes ≡ file_of (other chain.file) s
other_bytes chain bytes d s same = sym (ap (file_of (other chain.file)) same ∙ file_of-with_file (other chain.file) bytes d)

-- ---- stores of which the other file was changed

old_lists : (chain : Current) (v : View) (rs : List Image) (text : List ℕ) (P : List ℕ → Type 0) → IsBeside chain v rs text P → (d s : Store) (bytes : List ℕ) → v.may_leave d → s ≡ with_file (other chain.file) bytes d → IsAside (other chain.file) chain.generation (length rs) bytes → Lists chain rs s
old_lists chain v rs text P beside d s bytes was same aside =
    let f = other chain.file in
    let mine : file_of chain.file s ≡ front chain rs ++ beside.gate ∷ beside.behind = ap (file_of chain.file) same ∙ other_file f chain.file bytes d (back_is chain.file beside.image_file) ∙ beside.stays d was in
    let theirs : bytes ≡ file_of f s = sym (ap (file_of f) same ∙ file_of-with_file f bytes d) in
    lists_of chain rs beside.gate beside.behind s (holds_of chain rs beside.keeps) beside.image_file beside.closed mine (subst (IsAside f chain.generation (length rs)) theirs aside)

one_front : (h : Header) (r : Image) (image : List ℕ) → Spells r image → head h ++ 165 ∷ image ≡ (head h ++ chained (r ∷ [])) ++ 0 ∷ []
one_front h r image spells =
    ap (λ (l : List ℕ). head h ++ 165 ∷ l) spells.bytes_are
    ∙ ap (λ (l : List ℕ). head h ++ 165 ∷ (l ++ 0 ∷ [])) (sym (append-nil (text r)))
    ∙ sym (append_assoc (head h) (165 ∷ (text r ++ [])) (0 ∷ []))

-- the file that was current is aside of the next generation
old_aside : (chain : Current) (rs : List Image) (gate : ℕ) (behind file : List ℕ) → Keeps chain rs → chain.file ≢ Output → file ≡ front chain rs ++ gate ∷ behind → IsAside chain.file (chain.generation + 1) 1 file
old_aside chain rs gate behind file keeps image_file is =
    let o = front_gate chain rs gate behind in
    older_aside chain.file (header_of chain) (chain.generation + 1) o.0 o.1 file keeps.header (omega arith) (is ∙ o.2)

new_lists : (chain : Current) (v : View) (rs : List Image) (r : Image) (image text : List ℕ) (P : List ℕ → Type 0) → IsBeside chain v rs text P → (d s : Store) → v.may_leave d → s ≡ with_file (other chain.file) (head (next_header chain) ++ 165 ∷ image) d → Spells r image → Holds (next_header chain) (r ∷ []) → ListsJoined chain r s
new_lists chain v rs r image text P beside d s was same spells holds =
    let f = other chain.file in
    let bytes = head (next_header chain) ++ 165 ∷ image in
    let theirs : file_of f s ≡ (head (next_header chain) ++ chained (r ∷ [])) ++ 0 ∷ [] = ap (file_of f) same ∙ file_of-with_file f bytes d ∙ one_front (next_header chain) r image spells in
    let mine : file_of chain.file s ≡ front chain rs ++ beside.gate ∷ beside.behind = ap (file_of chain.file) same ∙ other_file f chain.file bytes d (back_is chain.file beside.image_file) ∙ beside.stays d was in
    let aside = old_aside chain rs beside.gate beside.behind (file_of chain.file s) beside.keeps beside.image_file mine in
    found_store f (next_header chain) (r ∷ []) 0 [] s (other_image chain.file) holds (λ e. absurd (omega arith)) theirs
    (subst (λ (g : DiskFile). IsAside g (chain.generation + 1) 1 (file_of g s)) (sym (other_twice chain.file beside.image_file)) aside)

-- One change of the other file that leaves the old list, and the other file shut.
pub beside_moments : {T E : Type 0} (chain : Current) (change : Change) (result : Result T E) (old new : View) (rs : List Image) (text : List ℕ) (P Q : List ℕ → Type 0) → Changes (other chain.file) change result old new → IsTrue old.tells → IsDisk old → IsBeside chain old rs text P
    → ((x y : List ℕ) → P x → Crashed change text x y → Q y)
    → ((x : List ℕ) → P x → Q x)
    → ((x : List ℕ) → Q x → IsAside (other chain.file) chain.generation (length rs) x)
    → ((x : List ℕ) → Q x → IsNotOpen (other chain.file) x)
    → LeavesOnly old new (Among old.may_leave (IsBegun chain rs))
beside_moments chain change result old new rs text P Q changes tells disk beside step stays aside closed =
    weaken old new (Among old.may_leave (IsBegun chain rs)) (Among old.may_leave (On (other chain.file) (λ _ bytes. Q bytes)))
    (one_change (other chain.file) change result old new P Q changes tells disk beside.left (λ x y q crash. step x y q (subst (λ (t : List ℕ). Crashed change t x y) beside.reads crash)) stays)
    (λ s from. (from.0, from.1, ((old_lists chain old rs text P beside from.0 s from.2.0 from.1 from.2.2 (aside from.2.0 from.2.1), inr (subst (IsNotOpen (other chain.file)) (other_bytes chain from.2.0 from.0 s from.2.2) (closed from.2.0 from.2.1))), store_other chain from.2.0 from.0 s beside.image_file from.2.2)))

-- the gate before the record, as a crash may leave it
abbrev IsTorn : Current → List ℕ → List ℕ → Type 0
IsTorn chain image file = (torn : ℕ) × (file ≡ head (next_header chain) ++ torn ∷ image)

-- One change of the other file that leaves the old list or the one record.
replaced_moments : {T E : Type 0} (chain : Current) (change : Change) (result : Result T E) (old new : View) (rs : List Image) (r : Image) (image text : List ℕ) (P : List ℕ → Type 0) → Changes (other chain.file) change result old new → IsTrue old.tells → IsDisk old → IsBeside chain old rs text P → Spells r image → Holds (next_header chain) (r ∷ [])
    → ((x y : List ℕ) → P x → Crashed change text x y → IsTorn chain image y)
    → ((x : List ℕ) → P x → IsTorn chain image x)
    → LeavesOnly old new (Among old.may_leave (IsTurned chain rs r))
replaced_moments chain change result old new rs r image text P changes tells disk beside spells holds step stays =
    weaken old new (Among old.may_leave (IsTurned chain rs r)) (Among old.may_leave (On (other chain.file) (λ _ bytes. IsTorn chain image bytes)))
    (one_change (other chain.file) change result old new P (IsTorn chain image) changes tells disk beside.left (λ x y q crash. step x y q (subst (λ (t : List ℕ). Crashed change t x y) beside.reads crash)) stays)
    (λ s from. (from.0, from.1, (listed s from.0 from.1 from.2.0 from.2.2 from.2.1, store_other chain from.2.0 from.0 s beside.image_file from.2.2)))
  where
    listed : (s d : Store) → old.may_leave d → (bytes : List ℕ) → s ≡ with_file (other chain.file) bytes d → IsTorn chain image bytes → (Lists chain rs s × IsNotOpen (other chain.file) (file_of (other chain.file) s)) ⊎ ListsJoined chain r s
    listed s d was bytes same torn = elim (cases_eq torn.0 165) [
      | inl open_gate ↦ inr (new_lists chain old rs r image text P beside d s was (same ∙ ap (λ (l : List ℕ). with_file (other chain.file) l d) (torn.1 ∙ ap (λ (g : ℕ). head (next_header chain) ++ g ∷ image) open_gate)) spells holds)
      | inr closed ↦ inl (old_lists chain old rs text P beside d s bytes was same (closed_aside (other chain.file) (next_header chain) chain.generation (length rs) torn.0 image bytes beside.next closed torn.1), subst (IsNotOpen (other chain.file)) (other_bytes chain bytes d s same) (not_open (other chain.file) (next_header chain) torn.0 image bytes beside.next closed torn.1))
    ]

-- what stands beside the records after a change of the other file
beside_after : (chain : Current) (change : Change) (old new : View) (rs : List Image) (text next : List ℕ) (P Q : List ℕ → Type 0) → IsMade (other chain.file) change old new → IsBeside chain old rs text P → whole change text ≡ next
    → ((x y : List ℕ) → P x → Crashed change text x y → Q y)
    → IsBeside chain new rs next Q
beside_after chain change old new rs text next P Q made beside is step = record {
  keeps = beside.keeps;
  next = beside.next;
  image_file = beside.image_file;
  gate = beside.gate;
  behind = beside.behind;
  closed = beside.closed;
  stays = λ c left. let from = (made.crash c).0 left in ap (file_of chain.file) from.2.2 ∙ other_file (other chain.file) chain.file from.2.0 from.0 (back_is chain.file beside.image_file) ∙ beside.stays from.0 from.1;
  reads = made_seen (other chain.file) change old new made ∙ ap (whole change) beside.reads ∙ is;
  left = made_leaves (other chain.file) change old new P Q made beside.left (λ x y q crash. step x y q (subst (λ (t : List ℕ). Crashed change t x y) beside.reads crash));
}

-- ---- the calls, one by one

rest_beside : (chain : Current) (v : View) (rs : List Image) (behind : List ℕ) → IsAtRest chain v rs behind → IsHeldHeader (next_header chain) → IsBeside chain v rs (file_of (other chain.file) v.seen) (IsAside (other chain.file) chain.generation (length rs))
rest_beside chain v rs behind rest held = record {
  keeps = rest.keeps;
  next = held;
  image_file = rest.alone.image_file;
  gate = rest.gate;
  behind = behind;
  closed = rest.closed;
  stays = rest.left;
  reads = refl;
  left = rest.alone.aside;
}

pub start_moments : {T E : Type 0} (chain : Current) (f : DiskFile) (bytes : List ℕ) (result : Result T E) (old new : View) (rs : List Image) (behind : List ℕ) → f ≡ other chain.file → Changes f (Start bytes) result old new → IsTrue old.tells → IsDisk old → chain.generation + 1 < 2 ^ 32
    → bytes ≡ head (next_header chain) ++ 0 ∷ [] → IsAtRest chain old rs behind → LeavesOnly old new (Among old.may_leave (IsBegun chain rs))
start_moments chain f bytes result old new rs behind file changes tells disk fits is rest =
    after_change (other chain.file) (Start bytes) result old old new P (λ _. tells) (still old P (λ _. disk) (λ _. tells) (λ _ c left. first c left)) change (λ _ c left. here c left)
  where
    P : Store → Type 0
    P = Among old.may_leave (IsBegun chain rs)

    held : IsHeldHeader (next_header chain)
    held = next_held chain rs rest.keeps fits

    change : Changes (other chain.file) (Start bytes) result old new
    change = subst (λ (g : DiskFile). Changes g (Start bytes) result old new) file changes

    first : (c : Store) → old.may_leave c → Among old.may_leave (IsBegun chain rs) c
    first c left = (c, left, ((lists_of chain rs rest.gate behind c (holds_of chain rs rest.keeps) rest.alone.image_file rest.closed (rest.left c left) (rest.alone.aside c left), inl refl), record { output = refl; current = refl }))

    changed_one : (c d : Store) (new_bytes : List ℕ) → old.may_leave d → new_bytes ≡ bytes → c ≡ with_file (other chain.file) new_bytes d → Among old.may_leave (IsBegun chain rs) c
    changed_one c d b was same at = (
      d,
      was,
      (
        (
          old_lists chain old rs (file_of (other chain.file) old.seen) (IsAside (other chain.file) chain.generation (length rs)) (rest_beside chain old rs behind rest held) d c b was at
              (closed_aside (other chain.file) (next_header chain) chain.generation (length rs) 0 [] b held (λ e. absurd (omega arith)) (same ∙ is)),
          inr (subst (IsNotOpen (other chain.file)) (other_bytes chain b d c at) (not_open (other chain.file) (next_header chain) 0 [] b held (λ e. absurd (omega arith)) (same ∙ is))),
        ),
        store_other chain b d c rest.alone.image_file at,
      ),
    )

    here : (c : Store) → new.may_leave c → Among old.may_leave (IsBegun chain rs) c
    here c left = ⊎_elim (first c) (λ from. changed_one c from.0 from.2.0 from.1 from.2.1 from.2.2) (changed (other chain.file) (Start bytes) result old new change tells c left)

pub started : (chain : Current) (f : DiskFile) (bytes : List ℕ) (old new : View) (rs : List Image) (behind : List ℕ) → f ≡ other chain.file → IsMade f (Start bytes) old new → chain.generation + 1 < 2 ^ 32
    → bytes ≡ head (next_header chain) ++ 0 ∷ [] → IsAtRest chain old rs behind → IsWritten chain new rs []
started chain f bytes old new rs behind file made fits is rest =
    let held = next_held chain rs rest.keeps fits in
    beside_after chain (Start bytes) old new rs (file_of (other chain.file) old.seen) (head (next_header chain) ++ 0 ∷ []) (IsAside (other chain.file) chain.generation (length rs)) (IsShut (next_header chain)) (subst (λ (g : DiskFile). IsMade g (Start bytes) old new) file made) (rest_beside chain old rs behind rest held) is
    (λ x y q same. ap (λ (l : List ℕ). take (length (head (next_header chain)) + 1) l) (same ∙ is) ∙ front_and_gate (head (next_header chain)) [] 0)

pub piece_moments : {T E : Type 0} (chain : Current) (f : DiskFile) (at : ℕ) (bytes so_far : List ℕ) (result : Result T E) (old new : View) (rs : List Image) → f ≡ other chain.file → Changes f (Write at bytes) result old new → IsTrue old.tells → IsDisk old
    → 16 ≤ at → IsWritten chain old rs so_far → LeavesOnly old new (Among old.may_leave (IsBegun chain rs))
piece_moments chain f at bytes so_far result old new rs file changes tells disk le written =
    let h = next_header chain in
    beside_moments chain (Write at bytes) result old new rs (head h ++ 0 ∷ so_far) (IsShut h) (IsShut h) (subst (λ (g : DiskFile). Changes g (Write at bytes) result old new) file changes) tells disk written
    (λ x y q torn. torn_behind (head h) 0 at (length bytes) x y (omega arith) q torn)
    (λ x q. q) (λ x q. shut_aside (other chain.file) h chain.generation (length rs) x written.next q) (λ x q. shut_not_open (other chain.file) h x written.next q)

-- before a piece is written
pub written_still : (chain : Current) (v : View) (rs : List Image) (so_far : List ℕ) → IsTrue v.tells → IsDisk v → IsWritten chain v rs so_far → LeavesOnly v v (Among v.may_leave (IsBegun chain rs))
written_still chain v rs so_far tells disk written =
    let h = next_header chain in
    let f = other chain.file in
    still v (Among v.may_leave (IsBegun chain rs)) (λ _. disk) (λ _. tells)
    (λ _ c left. (c, left, ((old_lists chain v rs (head h ++ 0 ∷ so_far) (IsShut h) written c c (file_of f c) left (sym (with_file-same f c)) (shut_aside f h chain.generation (length rs) (file_of f c) written.next (written.left c left)), inl refl), record { output = refl; current = refl })))

-- a piece more behind what stands there
more_pieces : (h : Header) (image bytes : List ℕ) (from to at : ℕ) → at ≡ 16 + from → from ≤ length image → from ≤ to → bytes ≡ take (to - from) (drop from image) → whole (Write at bytes) (head h ++ 0 ∷ take from image) ≡ head h ++ 0 ∷ take to image
more_pieces h image bytes from to at is inside le piece =
    let start = head h ++ 0 ∷ take from image in
    let long : length start ≡ at = omega (arith, length-append (head h) (0 ∷ take from image), length-take from image) in
    ap (whole (Write at bytes)) (sym (append-nil start)) ∙ over start [] bytes at (sym long)
    ∙ ap (λ (l : List ℕ). start ++ (bytes ++ l)) (drop_all (length bytes) [] (omega arith))
    ∙ ap (λ (l : List ℕ). start ++ l) (append-nil bytes)
    ∙ append_assoc (head h) (0 ∷ take from image) bytes
    ∙ ap (λ (l : List ℕ). head h ++ 0 ∷ (take from image ++ l)) piece
    ∙ ap (λ (l : List ℕ). head h ++ 0 ∷ l) (take_two from to image le)

pub piece_written : (chain : Current) (f : DiskFile) (at from to : ℕ) (bytes image : List ℕ) (old new : View) (rs : List Image) → f ≡ other chain.file → IsMade f (Write at bytes) old new → at ≡ 16 + from → from ≤ length image → from ≤ to → bytes ≡ take (to - from) (drop from image)
    → IsWritten chain old rs (take from image) → IsWritten chain new rs (take to image)
piece_written chain f at from to bytes image old new rs file made is inside le piece written =
    let h = next_header chain in
    beside_after chain (Write at bytes) old new rs (head h ++ 0 ∷ take from image) (head h ++ 0 ∷ take to image) (IsShut h) (IsShut h) (subst (λ (g : DiskFile). IsMade g (Write at bytes) old new) file made) written (more_pieces h image bytes from to at is inside le piece)
    (λ x y q torn. torn_behind (head h) 0 at (length bytes) x y (omega arith) q torn)

-- the place of the next piece is in the file
pub piece_inside : (chain : Current) (f : DiskFile) (from : ℕ) (image : List ℕ) (v : View) (rs : List Image) → f ≡ other chain.file → from ≤ length image → IsWritten chain v rs (take from image) → 16 + from ≤ length (file_of f v.seen)
piece_inside chain f from image v rs file inside written =
    let h = next_header chain in
    let all : length (file_of f v.seen) ≡ length (head h ++ 0 ∷ take from image) = ap (λ (g : DiskFile). length (file_of g v.seen)) file ∙ ap length written.reads in
    omega (arith, all, length-append (head h) (0 ∷ take from image), length-take from image)

pub sync_moments : {T E : Type 0} (chain : Current) (f : DiskFile) (image : List ℕ) (result : Result T E) (old new : View) (rs : List Image) → f ≡ other chain.file → Changes f Sync result old new → IsTrue old.tells → IsDisk old → IsWritten chain old rs image → LeavesOnly old new (Among old.may_leave (IsBegun chain rs))
sync_moments chain f image result old new rs file changes tells disk written =
    let h = next_header chain in
    beside_moments chain Sync result old new rs (head h ++ 0 ∷ image) (IsShut h) (IsShut h) (subst (λ (g : DiskFile). Changes g Sync result old new) file changes) tells disk written
    (λ x y q same. ap (λ (l : List ℕ). take (length (head h) + 1) l) same ∙ front_and_gate (head h) image 0)
    (λ x q. q) (λ x q. shut_aside (other chain.file) h chain.generation (length rs) x written.next q) (λ x q. shut_not_open (other chain.file) h x written.next q)

pub synced : (chain : Current) (f : DiskFile) (image : List ℕ) (old new : View) (rs : List Image) → f ≡ other chain.file → IsMade f Sync old new → IsWritten chain old rs image → IsWhole chain new rs image
synced chain f image old new rs file made written =
    let text = head (next_header chain) ++ 0 ∷ image in
    beside_after chain Sync old new rs text text (IsShut (next_header chain)) (λ x. x ≡ text) (subst (λ (g : DiskFile). IsMade g Sync old new) file made) written refl (λ x y q same. same)

-- the gate is in the file
pub gate_inside : (chain : Current) (f : DiskFile) (image : List ℕ) (v : View) (rs : List Image) → f ≡ other chain.file → IsWhole chain v rs image → 15 ≤ length (file_of f v.seen)
gate_inside chain f image v rs file stands =
    let h = next_header chain in
    let all : length (file_of f v.seen) ≡ length (head h ++ 0 ∷ image) = ap (λ (g : DiskFile). length (file_of g v.seen)) file ∙ ap length stands.reads in
    omega (arith, all, length-append (head h) (0 ∷ image))

-- where the record may stand, it is the one record
spelled_holds : (chain : Current) (v : View) (rs : List Image) (r : Image) (text image : List ℕ) (P : List ℕ → Type 0) → IsBeside chain v rs text P → Spells r image → 2 ≤ chain.count → chain.newest ≡ Some r.fields → Holds (next_header chain) (r ∷ [])
spelled_holds chain v rs r text image P beside spells two newest = joined_holds chain rs r beside.keeps beside.next spells.is_image two newest

pub open_moments : {T E : Type 0} (chain : Current) (f : DiskFile) (image : List ℕ) (result : Result T E) (old new : View) (rs : List Image) (r : Image) → f ≡ other chain.file → Changes f (Write 15 (165 ∷ [])) result old new → IsTrue old.tells → IsDisk old → IsWhole chain old rs image
    → Spells r image → 2 ≤ chain.count → chain.newest ≡ Some r.fields → LeavesOnly old new (Among old.may_leave (IsTurned chain rs r))
open_moments chain f image result old new rs r file changes tells disk stands spells two newest =
    let h = next_header chain in
    let text = head h ++ 0 ∷ image in
    replaced_moments chain (Write 15 (165 ∷ [])) result old new rs r image text (λ x. x ≡ text) (subst (λ (g : DiskFile). Changes g (Write 15 (165 ∷ [])) result old new) file changes) tells disk stands spells (spelled_holds chain old rs r text image (λ x. x ≡ text) stands spells two newest)
    (λ x y q torn. torn_gate (head h) image 0 15 x y (omega arith) q torn)
    (λ x q. (0, q))

pub opened : (chain : Current) (f : DiskFile) (image : List ℕ) (old new : View) (rs : List Image) → f ≡ other chain.file → IsMade f (Write 15 (165 ∷ [])) old new → IsWhole chain old rs image → IsOpening chain new rs image
opened chain f image old new rs file made stands =
    let h = next_header chain in
    let text = head h ++ 0 ∷ image in
    beside_after chain (Write 15 (165 ∷ [])) old new rs text (head h ++ 165 ∷ image) (λ x. x ≡ text) (IsTorn chain image) (subst (λ (g : DiskFile). IsMade g (Write 15 (165 ∷ [])) old new) file made) stands (over_gate (head h) image 0 165 15 (omega arith))
    (λ x y q torn. torn_gate (head h) image 0 15 x y (omega arith) q torn)

pub last_moments : {T E : Type 0} (chain : Current) (f : DiskFile) (image : List ℕ) (result : Result T E) (old new : View) (rs : List Image) (r : Image) → f ≡ other chain.file → Changes f Sync result old new → IsTrue old.tells → IsDisk old → IsOpening chain old rs image
    → Spells r image → 2 ≤ chain.count → chain.newest ≡ Some r.fields → LeavesOnly old new (Among old.may_leave (IsTurned chain rs r))
last_moments chain f image result old new rs r file changes tells disk stands spells two newest =
    let text = head (next_header chain) ++ 165 ∷ image in
    replaced_moments chain Sync result old new rs r image text (IsTorn chain image) (subst (λ (g : DiskFile). Changes g Sync result old new) file changes) tells disk stands spells (spelled_holds chain old rs r text image (IsTorn chain image) stands spells two newest)
    (λ x y q same. (165, same))
    (λ x q. q)

pub lasts : (chain : Current) (f : DiskFile) (image : List ℕ) (old new : View) (rs : List Image) → f ≡ other chain.file → IsMade f Sync old new → IsOpening chain old rs image → IsOpen chain new rs image
lasts chain f image old new rs file made stands =
    let text = head (next_header chain) ++ 165 ∷ image in
    beside_after chain Sync old new rs text text (IsTorn chain image) (λ x. x ≡ text) (subst (λ (g : DiskFile). IsMade g Sync old new) file made) stands refl (λ x y q same. same)

-- ---- the whole

other_twice_on : (chain : Current) (a b c : Store) → OnlyOther chain a b → OnlyOther chain b c → OnlyOther chain a c
other_twice_on chain a b c x y = record { output = y.output ∙ x.output; current = y.current ∙ x.current }

aside_on : (chain : Current) (a b c : Store) → IsAsideOrShut chain a b → IsAsideOrShut chain b c → IsAsideOrShut chain a c
aside_on chain a b c x (inr closed) = inr closed
aside_on chain a b c (inl same) (inl again) = inl (again ∙ same)
aside_on chain a b c (inr closed) (inl again) = inr (subst (IsNotOpen (other chain.file)) (sym again) closed)

pub kept_twice : (chain : Current) (rs : List Image) (a b c : View) → IsTrue a.tells → LeavesOnly a b (Among a.may_leave (IsBegun chain rs)) → LeavesOnly b c (Among b.may_leave (IsBegun chain rs)) → LeavesOnly a c (Among a.may_leave (IsBegun chain rs))
kept_twice chain rs a b c tells first second =
    joined a b c (Among a.may_leave (IsBegun chain rs)) (Among b.may_leave (IsBegun chain rs)) (λ _. tells) first second
    (λ t s from. let was = first.now t from.0 from.1 in (was.0, was.1, ((from.2.0.0, aside_on chain was.0 from.0 s was.2.0.1 from.2.0.1), other_twice_on chain was.0 from.0 s was.2.1 from.2.1)))

pub kept_replaced : (chain : Current) (rs : List Image) (r : Image) (a b : View) → LeavesOnly a b (Among a.may_leave (IsBegun chain rs)) → LeavesOnly a b (Among a.may_leave (IsReplaced chain rs r))
kept_replaced chain rs r a b run =
    weaken a b (Among a.may_leave (IsReplaced chain rs r)) (Among a.may_leave (IsBegun chain rs)) run (λ s from. (from.0, from.1, (inl from.2.0, from.2.1)))

pub replaced_twice : (chain : Current) (rs : List Image) (r : Image) (a b c : View) → IsTrue a.tells → LeavesOnly a b (Among a.may_leave (IsReplaced chain rs r)) → LeavesOnly b c (Among b.may_leave (IsTurned chain rs r)) → LeavesOnly a c (Among a.may_leave (IsReplaced chain rs r))
replaced_twice chain rs r a b c tells first second =
    joined a b c (Among a.may_leave (IsReplaced chain rs r)) (Among b.may_leave (IsTurned chain rs r)) (λ _. tells) first second
    (λ t s from. let was = first.now t from.0 from.1 in (was.0, was.1, (⊎_elim (λ l. inl (l.0, inr l.1)) (λ j. inr j) from.2.0, other_twice_on chain was.0 from.0 s was.2.1 from.2.1)))

abbrev span : ℕ → ℕ → Span
span at n = record { at = at; length = n }

-- what a chain keeps that stands on the other file
one_kept : (chain after : Current) (rs : List Image) (r : Image) (image : List ℕ) → Holds (next_header chain) (r ∷ []) → Spells r image → chain.newest ≡ Some r.fields → StandsOnOther chain after → after.gate ≡ 15 + length image → after.newest_at ≡ 16 → take 1 after.spans ≡ span 16 (length image) ∷ [] → Keeps after (r ∷ [])
one_kept chain after rs r image holds spells newest other_file gate newest_at spans =
    let same = other_file.header in
    let size = spells_length r image spells in
    let max : after.max ≡ chain.max = ap (λ (h : Header). h.max) same in
    let generation : after.generation ≡ chain.generation + 1 = ap (λ (h : Header). h.generation) same in
    let few = holds.few in let number = holds.number in let count = other_file.count in
    record {
      header = subst (λ (h : Header). IsHeldHeader h) (sym same) holds.header;
      images = holds.images;
      order = holds.order;
      few = omega (arith, few, max);
      number = omega (arith, number, generation);
      count = count;
      newest = other_file.newest ∙ newest;
      gate = omega (arith, gate, size);
      newest_at = λ before q same_list. newest_at ∙ ap (λ (l : List Image). 16 + chained_length l) (same_from_push [] before r q same_list).0;
      spans = spans ∙ ap (λ (n : ℕ). span 16 n ∷ []) size;
    }

pub stands : (chain after : Current) (v : View) (rs : List Image) (r : Image) (image : List ℕ) → IsOpen chain v rs image → Spells r image → 2 ≤ chain.count → chain.newest ≡ Some r.fields → StandsOnOther chain after → after.gate ≡ 15 + length image → after.newest_at ≡ 16 → take 1 after.spans ≡ span 16 (length image) ∷ []
    → IsAtRest after v (r ∷ []) []
stands chain after v rs r image beside spells two newest other_file gate newest_at spans =
    let h = next_header chain in
    let f = other chain.file in
    let holds = joined_holds chain rs r beside.keeps beside.next spells.is_image two newest in
    let file = other_file.file in
    let generation : after.generation ≡ chain.generation + 1 = ap (λ (x : Header). x.generation) other_file.header in
    let text : head h ++ 165 ∷ image ≡ front after (r ∷ []) ++ 0 ∷ [] = one_front h r image spells ∙ ap (λ (x : Header). (head x ++ chained (r ∷ [])) ++ 0 ∷ []) (sym other_file.header) in
    let back : other after.file ≡ chain.file = ap other file ∙ other_twice chain.file beside.image_file in
    record {
      keeps = one_kept chain after rs r image holds spells newest other_file gate newest_at spans;
      alone = record {
        image_file = λ e. other_image chain.file (sym file ∙ e);
        aside = λ c left. subst (λ (g : DiskFile). IsAside g after.generation 1 (file_of g c)) (sym back) (subst (λ (n : ℕ). IsAside chain.file n 1 (file_of chain.file c)) (sym generation) (old_aside chain rs beside.gate beside.behind (file_of chain.file c) beside.keeps beside.image_file (beside.stays c left)));
      };
      gate = 0;
      closed = λ e. absurd (omega arith);
      reads = ap (λ (g : DiskFile). file_of g v.seen) file ∙ beside.reads ∙ text;
      left = λ c left. ap (λ (g : DiskFile). file_of g c) file ∙ beside.left c left ∙ text;
    }

-- the one span
pub one_span : (spans : List Span) (s : Span) → length spans ≡ 64 → take 1 (slice_set spans 0 s) ≡ s ∷ []
one_span [] s size = absurd (omega (arith, size))
one_span (x ∷ spans) s size = refl
