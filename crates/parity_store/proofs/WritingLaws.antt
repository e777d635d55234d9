-- What each call leaves of a pool file that is being written.
use Rattle.std.proofs.Common.{◌≡◌, ◌≢◌, ◌⊎◌, inl, inr, ⊎_elim, refl, sym, ◌∙◌, ap, subst, ℕ, suc, ◌+◌, ◌-◌, ◌≤◌, IsTrue, List, [], ◌∷◌, ◌++◌, length, take, drop, get_or, Result, arith, append_assoc, length-append, length-take, take-append-drop}
use Rattle.std.proofs.lemmas.Bool.{cases_eq}
use Rattle.std.proofs.lemmas.List.{append-nil, take_at, drop_at, take-take, drop_more, drop-drop, drop-take, drop_all}
use Rattle.disk_model.specs.declared.disk_file.DiskFile.{DiskFile}
use Rattle.disk_model.specs.Store.{Store, file_of}
use Rattle.disk_model.specs.Change.{Change, Write, Sync, Start, whole, Torn, Crashed}
use Rattle.disk_model.specs.View.{View, IsDisk, On, IsMade, Changes}
use Rattle.disk_model.specs.Keeps.{Untouched}
use Rattle.disk_model.specs.Moments.{Among, LeavesOnly}
use Rattle.disk_model.proofs.Calls.{with_file-same, still, one_change, then_on, weaken_on, made_seen, made_leaves, others_stay, stays_twice}
use Rattle.parity_store.specs.declared.header.PoolHeader.{PoolHeader}
use Rattle.parity_store.specs.declared.piece.Pieces.{Pieces}
use Rattle.parity_store.specs.Layout.{IsPoolHeader, pool_head}
use Rattle.parity_store.specs.Pools.{IsAside}
use Rattle.parity_store.specs.Writing.{IsShut, IsGated, OnlyFile, IsWriting, IsWritten, IsOut, Wrote, IsAsideOrOut, Puts, joined}
use Rattle.parity_store.proofs.StoreLaws.{gate_aside}
use Rattle.parity_store.proofs.TextLaws.{joined_none, joined_more}
use Rattle.parity_store.proofs.MomentLaws.{moments_looked, untouched_file, same_file}

-- ---- bytes

-- a write behind the gate keeps it
pub shut_torn : (h : PoolHeader) (at n : ℕ) (x y : List ℕ) → 16 ≤ at → IsShut h x → Torn at n x y → IsShut h y
shut_torn h at n x y le kept torn = sym (take-take 16 at y le) ∙ ap (λ (l : List ℕ). take 16 l) torn.before ∙ take-take 16 at x le ∙ kept

pub shut_front : (h : PoolHeader) (text : List ℕ) → IsShut h (pool_head h ++ 0 ∷ text)
shut_front h text = ap (λ (l : List ℕ). take 16 l) (sym (append_assoc (pool_head h) (0 ∷ []) text)) ∙ take_at (pool_head h ++ 0 ∷ []) text 16 (omega (arith, length-append (pool_head h) (0 ∷ [])))

pub shut_as : (h : PoolHeader) (text x : List ℕ) → x ≡ pool_head h ++ 0 ∷ text → IsShut h x
shut_as h text x is = ap (λ (l : List ℕ). take 16 l) is ∙ shut_front h text

pub shut_aside : (f : DiskFile) (h : PoolHeader) (g : ℕ) (x : List ℕ) → IsPoolHeader h → IsShut h x → IsAside f g x
shut_aside f h g x held kept =
    gate_aside f h g 0 (drop 16 x) x held (λ e. absurd (omega (arith, e)))
    (sym (take-append-drop 16 x) ∙ ap (λ (l : List ℕ). l ++ drop 16 x) kept ∙ append_assoc (pool_head h) (0 ∷ []) (drop 16 x))

-- a write over what stands behind a front
over : (a more bytes : List ℕ) (at : ℕ) → at ≡ length a → whole (Write at bytes) (a ++ more) ≡ a ++ (bytes ++ drop (length bytes) more)
over a more bytes at is =
    let behind : drop (at + length bytes) (a ++ more) ≡ drop (length bytes) more = ap (λ (n : ℕ). drop n (a ++ more)) (ap (λ (k : ℕ). k + length bytes) is) ∙ sym (drop-drop (length bytes) (length a) (a ++ more)) ∙ ap (drop (length bytes)) (drop_at a more (length a) refl) in
    ap (λ (l : List ℕ). l ++ bytes ++ drop (at + length bytes) (a ++ more)) (take_at a more at (sym is)) ∙ ap (λ (l : List ℕ). a ++ bytes ++ l) behind ∙ append_assoc a bytes (drop (length bytes) more)

over_gate : (before rest : List ℕ) (old gate at : ℕ) → at ≡ length before → whole (Write at (gate ∷ [])) (before ++ old ∷ rest) ≡ before ++ gate ∷ rest
over_gate before rest old gate at is = over before (old ∷ rest) (gate ∷ []) at is

torn_gate : (before rest : List ℕ) (old at : ℕ) (x y : List ℕ) → at ≡ length before → x ≡ before ++ old ∷ rest → Torn at 1 x y → (gate : ℕ) × (y ≡ before ++ gate ∷ rest)
torn_gate before rest old at x y is was torn =
    let gate = get_or y at 0 in
    let long : length (before ++ old ∷ rest) ≡ at + suc (length rest) = omega (arith, length-append before (old ∷ rest)) in
    let old_behind : drop (at + 1) x ≡ rest = ap (λ (l : List ℕ). drop (at + 1) l) (was ∙ sym (append_assoc before (old ∷ []) rest)) ∙ drop_at (before ++ old ∷ []) rest (at + 1) (omega (arith, length-append before (old ∷ []))) in
    let old_front : take at x ≡ before = ap (λ (l : List ℕ). take at l) was ∙ take_at before (old ∷ rest) at (sym is) in
    let new_behind : drop at y ≡ gate ∷ rest = drop_more y at 0 (omega (arith, torn.no_shorter, ap length was, long)) ∙ ap (λ (l : List ℕ). gate ∷ l) (torn.after ∙ old_behind) in
    (gate, sym (take-append-drop at y) ∙ ap (λ (l : List ℕ). l ++ drop at y) (torn.before ∙ old_front) ∙ ap (λ (l : List ℕ). before ++ l) new_behind)

-- a piece more at the end
one_piece : (h : PoolHeader) (written piece : List ℕ) (at : ℕ) → at ≡ 16 + length written → whole (Write at piece) (pool_head h ++ 0 ∷ written) ≡ pool_head h ++ 0 ∷ (written ++ piece)
one_piece h written piece at is =
    let start = pool_head h ++ 0 ∷ written in
    let long : at ≡ length start = omega (arith, is, length-append (pool_head h) (0 ∷ written)) in
    ap (whole (Write at piece)) (sym (append-nil start)) ∙ over start [] piece at long
    ∙ ap (λ (l : List ℕ). start ++ (piece ++ l)) (drop_all (length piece) [] (omega arith))
    ∙ ap (λ (l : List ℕ). start ++ l) (append-nil piece)
    ∙ append_assoc (pool_head h) (0 ∷ written) piece

-- ---- one file alone

pub others_kept : {T E : Type 0} (f : DiskFile) (change : Change) (result : Result T E) (old new : View) → IsTrue old.tells → Changes f change result old new → OnlyFile f old new
others_kept f change result old new tells changes = λ g apart. others_stay f g change result old new (λ e. apart (sym e)) tells changes

pub only_twice : (f : DiskFile) (a b c : View) → OnlyFile f a b → OnlyFile f b c → OnlyFile f a c
only_twice f a b c first second = λ g apart. stays_twice g a b c (first g apart) (second g apart)

pub only_looked : (f : DiskFile) (a b c : View) → IsTrue b.tells → OnlyFile f a b → Untouched b c → OnlyFile f a c
only_looked f a b c tells first looked = λ g apart. stays_twice g a b c (first g apart) (untouched_file g b c tells looked)

pub looked_only : (f : DiskFile) (a b c : View) → IsTrue a.tells → Untouched a b → OnlyFile f b c → OnlyFile f a c
looked_only f a b c tells looked second = λ g apart. stays_twice g a b c (untouched_file g a b tells looked) (second g apart)

-- nothing was done
pub wrote_none : (f : DiskFile) (h : PoolHeader) (v : View) → IsTrue v.tells → IsDisk v → ((c : Store) → v.may_leave c → IsShut h (file_of f c)) → Wrote f h v v
wrote_none f h v tells disk left = record {
  moments = still v (Among v.may_leave (On f (λ _ bytes. IsShut h bytes))) (λ _. disk) (λ _. tells) (λ _ c now. (c, now, (file_of f c, left c now, sym (with_file-same f c))));
  others = λ g apart. same_file g v;
}

pub wrote_once : {T E : Type 0} (f : DiskFile) (h : PoolHeader) (change : Change) (result : Result T E) (old new : View) → Changes f change result old new → IsTrue old.tells → IsDisk old → ((c : Store) → old.may_leave c → IsShut h (file_of f c))
    → ((x y : List ℕ) → IsShut h x → Crashed change (file_of f old.seen) x y → IsShut h y) → Wrote f h old new
wrote_once f h change result old new changes tells disk left step = record {
  moments = one_change f change result old new (IsShut h) (IsShut h) changes tells disk left step (λ x q. q);
  others = others_kept f change result old new tells changes;
}

pub wrote_twice : (f : DiskFile) (h : PoolHeader) (a b c : View) → IsTrue a.tells → Wrote f h a b → Wrote f h b c → Wrote f h a c
wrote_twice f h a b c tells first second = record {
  moments = then_on f a b c (IsShut h) (IsShut h) tells first.moments second.moments (λ x q. q);
  others = only_twice f a b c first.others second.others;
}

pub wrote_looked : (f : DiskFile) (h : PoolHeader) (a b c : View) → IsTrue b.tells → Wrote f h a b → Untouched b c → Wrote f h a c
wrote_looked f h a b c tells first looked = record {
  moments = moments_looked a b c (Among a.may_leave (On f (λ _ bytes. IsShut h bytes))) first.moments looked;
  others = only_looked f a b c tells first.others looked;
}

-- ---- the start

pub start_moments : {T E : Type 0} (f : DiskFile) (h : PoolHeader) (g : ℕ) (bytes : List ℕ) (result : Result T E) (old new : View) → Changes f (Start bytes) result old new → IsTrue old.tells → IsDisk old → IsPoolHeader h → bytes ≡ pool_head h ++ 0 ∷ []
    → ((c : Store) → old.may_leave c → IsAside f g (file_of f c)) → LeavesOnly old new (Among old.may_leave (On f (λ _ bytes. IsAside f g bytes)))
start_moments f h g bytes result old new changes tells disk held is aside =
    one_change f (Start bytes) result old new (IsAside f g) (IsAside f g) changes tells disk aside (λ x y q same. shut_aside f h g y held (shut_as h [] y (same ∙ is))) (λ x q. q)

pub started : (w : Pieces) (h : PoolHeader) (bytes : List ℕ) (old new : View) → IsMade w.file (Start bytes) old new → w.at ≡ 16 → w.held ≡ 0 → bytes ≡ pool_head h ++ 0 ∷ [] → IsWriting w h new []
started w h bytes old new made place none is = record {
  written = [];
  is = ap (λ (n : ℕ). take n w.piece) none;
  place = place;
  reads = made_seen w.file (Start bytes) old new made ∙ is;
  left = made_leaves w.file (Start bytes) old new (λ _. Unit {0}) (IsShut h) made (λ c now. tt) (λ x y q same. shut_as h [] y (same ∙ is));
}

-- ---- the pieces

pub writing_looked : (w : Pieces) (h : PoolHeader) (old new : View) (text : List ℕ) → IsTrue old.tells → IsWriting w h old text → Untouched old new → IsWriting w h new text
writing_looked w h old new text tells so_far looked = record {
  written = so_far.written;
  is = so_far.is;
  place = so_far.place;
  reads = ap (file_of w.file) (looked.seen tells) ∙ so_far.reads;
  left = λ c now. so_far.left c ((looked.crash tells c).0 now);
}

pub writing_kept : (w next : Pieces) (h : PoolHeader) (v : View) (text more : List ℕ) → next.file ≡ w.file → next.at ≡ w.at → take next.held next.piece ≡ take w.held w.piece ++ more → IsWriting w h v text → IsWriting next h v (text ++ more)
writing_kept w next h v text more file at kept so_far = record {
  written = so_far.written;
  is = ap (λ (l : List ℕ). so_far.written ++ l) kept ∙ sym (append_assoc so_far.written (take w.held w.piece) more) ∙ ap (λ (l : List ℕ). l ++ more) so_far.is;
  place = at ∙ so_far.place;
  reads = ap (λ (f : DiskFile). file_of f v.seen) file ∙ so_far.reads;
  left = λ c now. subst (λ (f : DiskFile). IsShut h (file_of f c)) (sym file) (so_far.left c now);
}

pub piece_wrote : {T E : Type 0} (w : Pieces) (h : PoolHeader) (text piece : List ℕ) (result : Result T E) (old new : View) → Changes w.file (Write w.at piece) result old new → IsTrue old.tells → IsDisk old → IsWriting w h old text → Wrote w.file h old new
piece_wrote w h text piece result old new changes tells disk so_far =
    let place = so_far.place in
    wrote_once w.file h (Write w.at piece) result old new changes tells disk so_far.left (λ x y q torn. shut_torn h w.at (length piece) x y (omega (arith, place)) q torn)

pub piece_inside : (w : Pieces) (h : PoolHeader) (v : View) (text : List ℕ) → IsWriting w h v text → w.at ≤ length (file_of w.file v.seen)
piece_inside w h v text so_far =
    let place = so_far.place in
    let all : length (file_of w.file v.seen) ≡ length (pool_head h ++ 0 ∷ so_far.written) = ap length so_far.reads in
    omega (arith, place, all, length-append (pool_head h) (0 ∷ so_far.written))

pub piece_made : (w next : Pieces) (h : PoolHeader) (text : List ℕ) (old new : View) → IsMade w.file (Write w.at (take w.held w.piece)) old new → w.held ≤ length w.piece → next.file ≡ w.file → next.at ≡ w.at + w.held → next.held ≡ 0
    → IsWriting w h old text → IsWriting next h new text
piece_made w next h text old new made fits file at none so_far =
    let piece = take w.held w.piece in
    let place = so_far.place in
    let nothing : take next.held next.piece ≡ [] = ap (λ (n : ℕ). take n next.piece) none in
    record {
      written = so_far.written ++ piece;
      is = ap (λ (l : List ℕ). (so_far.written ++ piece) ++ l) nothing ∙ append-nil (so_far.written ++ piece) ∙ so_far.is;
      place = omega (arith, at, place, length-append so_far.written piece, length-take w.held w.piece, fits);
      reads = ap (λ (f : DiskFile). file_of f new.seen) file ∙ made_seen w.file (Write w.at piece) old new made ∙ ap (whole (Write w.at piece)) so_far.reads ∙ one_piece h so_far.written piece w.at place;
      left = λ c now. subst (λ (f : DiskFile). IsShut h (file_of f c)) (sym file) (made_leaves w.file (Write w.at piece) old new (IsShut h) (IsShut h) made so_far.left (λ x y q torn. shut_torn h w.at (length piece) x y (omega (arith, place)) q torn) c now);
    }

pub written_all : (w : Pieces) (h : PoolHeader) (v : View) (text : List ℕ) → w.held ≡ 0 → IsWriting w h v text → IsWritten w.file h v text
written_all w h v text none so_far =
    let nothing : take w.held w.piece ≡ [] = ap (λ (n : ℕ). take n w.piece) none in
    let all : so_far.written ≡ text = sym (append-nil so_far.written) ∙ ap (λ (l : List ℕ). so_far.written ++ l) (sym nothing) ∙ so_far.is in
    record { reads = so_far.reads ∙ ap (λ (l : List ℕ). pool_head h ++ 0 ∷ l) all; left = so_far.left }

-- ---- the gate

-- each crash leaves the text behind a closed gate
pub record IsSettled (f : DiskFile) (h : PoolHeader) (v : View) (text : List ℕ) : Type 0 where
  pub reads : file_of f v.seen ≡ pool_head h ++ 0 ∷ text
  pub left : (c : Store) → v.may_leave c → file_of f c ≡ pool_head h ++ 0 ∷ text

-- the gate reads as open, and a crash may leave it torn
pub record IsOpening (f : DiskFile) (h : PoolHeader) (v : View) (text : List ℕ) : Type 0 where
  pub reads : file_of f v.seen ≡ pool_head h ++ 165 ∷ text
  pub left : (c : Store) → v.may_leave c → IsGated h text (file_of f c)

-- what a crash may leave while the gate is opened
abbrev pub IsShutOrGated : PoolHeader → List ℕ → List ℕ → Type 0
IsShutOrGated h text bytes = IsShut h bytes ⊎ IsGated h text bytes

abbrev pub Opens : DiskFile → PoolHeader → List ℕ → View → View → Type 0
Opens f h text old new = LeavesOnly old new (Among old.may_leave (On f (λ _ bytes. IsShutOrGated h text bytes)))

pub first_moments : {T E : Type 0} (f : DiskFile) (h : PoolHeader) (text : List ℕ) (result : Result T E) (old new : View) → Changes f Sync result old new → IsTrue old.tells → IsDisk old → IsWritten f h old text → Opens f h text old new
first_moments f h text result old new changes tells disk was =
    one_change f Sync result old new (IsShut h) (IsShutOrGated h text) changes tells disk was.left (λ x y q same. inl (shut_as h text y (same ∙ was.reads))) (λ x q. inl q)

pub first_made : (f : DiskFile) (h : PoolHeader) (text : List ℕ) (old new : View) → IsMade f Sync old new → IsWritten f h old text → IsSettled f h new text
first_made f h text old new made was = record {
  reads = made_seen f Sync old new made ∙ was.reads;
  left = made_leaves f Sync old new (IsShut h) (λ x. x ≡ pool_head h ++ 0 ∷ text) made was.left (λ x y q same. same ∙ was.reads);
}

pub gate_inside : (f : DiskFile) (h : PoolHeader) (text : List ℕ) (v : View) → IsSettled f h v text → 15 ≤ length (file_of f v.seen)
gate_inside f h text v was =
    let all : length (file_of f v.seen) ≡ length (pool_head h ++ 0 ∷ text) = ap length was.reads in
    omega (arith, all, length-append (pool_head h) (0 ∷ text))

gate_step : (f : DiskFile) (h : PoolHeader) (text : List ℕ) (v : View) → IsSettled f h v text → (x y : List ℕ) → x ≡ pool_head h ++ 0 ∷ text → Torn 15 1 x y → IsGated h text y
gate_step f h text v was x y q torn = torn_gate (pool_head h) text 0 15 x y (omega arith) q torn

pub second_moments : {T E : Type 0} (f : DiskFile) (h : PoolHeader) (text : List ℕ) (result : Result T E) (old new : View) → Changes f (Write 15 (165 ∷ [])) result old new → IsTrue old.tells → IsDisk old → IsSettled f h old text → Opens f h text old new
second_moments f h text result old new changes tells disk was =
    one_change f (Write 15 (165 ∷ [])) result old new (λ x. x ≡ pool_head h ++ 0 ∷ text) (IsShutOrGated h text) changes tells disk was.left (λ x y q torn. inr (gate_step f h text old was x y q torn)) (λ x q. inr (0, q))

pub second_made : (f : DiskFile) (h : PoolHeader) (text : List ℕ) (old new : View) → IsMade f (Write 15 (165 ∷ [])) old new → IsSettled f h old text → IsOpening f h new text
second_made f h text old new made was = record {
  reads = made_seen f (Write 15 (165 ∷ [])) old new made ∙ ap (whole (Write 15 (165 ∷ []))) was.reads ∙ over_gate (pool_head h) text 0 165 15 (omega arith);
  left = made_leaves f (Write 15 (165 ∷ [])) old new (λ x. x ≡ pool_head h ++ 0 ∷ text) (IsGated h text) made was.left (gate_step f h text old was);
}

pub third_moments : {T E : Type 0} (f : DiskFile) (h : PoolHeader) (text : List ℕ) (result : Result T E) (old new : View) → Changes f Sync result old new → IsTrue old.tells → IsDisk old → IsOpening f h old text → Opens f h text old new
third_moments f h text result old new changes tells disk was =
    one_change f Sync result old new (IsGated h text) (IsShutOrGated h text) changes tells disk was.left (λ x y q same. inr (165, same ∙ was.reads)) (λ x q. inr q)

pub third_made : (f : DiskFile) (h : PoolHeader) (text : List ℕ) (old new : View) → IsMade f Sync old new → IsOpening f h old text → IsOut f h new text
third_made f h text old new made was = record {
  reads = made_seen f Sync old new made ∙ was.reads;
  left = made_leaves f Sync old new (IsGated h text) (λ x. x ≡ pool_head h ++ 165 ∷ text) made was.left (λ x y q same. same ∙ was.reads);
}

pub opens_twice : (f : DiskFile) (h : PoolHeader) (text : List ℕ) (a b c : View) → IsTrue a.tells → Opens f h text a b → Opens f h text b c → Opens f h text a c
opens_twice f h text a b c tells first second = then_on f a b c (IsShutOrGated h text) (IsShutOrGated h text) tells first second (λ x q. q)

-- ---- the whole

pub puts_started : (f : DiskFile) (h : PoolHeader) (g : ℕ) (text : List ℕ) (a b : View) → LeavesOnly a b (Among a.may_leave (On f (λ _ bytes. IsAside f g bytes))) → Puts f h g text a b
puts_started f h g text a b run = weaken_on f a b (IsAsideOrOut f h g text) (IsAside f g) run (λ x q. inl q)

pub puts_wrote : (f : DiskFile) (h : PoolHeader) (g : ℕ) (text : List ℕ) (a b c : View) → IsTrue a.tells → IsPoolHeader h → Puts f h g text a b → Wrote f h b c → Puts f h g text a c
puts_wrote f h g text a b c tells held first second = then_on f a b c (IsAsideOrOut f h g text) (IsShut h) tells first second.moments (λ x q. inl (shut_aside f h g x held q))

pub puts_opened : (f : DiskFile) (h : PoolHeader) (g : ℕ) (text : List ℕ) (a b c : View) → IsTrue a.tells → IsPoolHeader h → Puts f h g text a b → Opens f h text b c → Puts f h g text a c
puts_opened f h g text a b c tells held first second = then_on f a b c (IsAsideOrOut f h g text) (IsShutOrGated h text) tells first second (λ x q. ⊎_elim (λ shut. inl (shut_aside f h g x held shut)) (λ gated. by_gate x gated) q)
  where
    by_gate : (x : List ℕ) → IsGated h text x → IsAsideOrOut f h g text x
    by_gate x gated = elim (cases_eq gated.0 165) [
      | inl open_gate ↦ inr (gated.1 ∙ ap (λ (n : ℕ). pool_head h ++ n ∷ text) open_gate)
      | inr closed ↦ inl (gate_aside f h g gated.0 text x held closed gated.1)
    ]

-- ---- bytes given one part after the other

pub pushed_more : (text bytes : List ℕ) (done n : ℕ) → done ≤ length bytes → n ≤ length bytes - done → (text ++ take done bytes) ++ take n (take (length bytes - done) (drop done bytes)) ≡ text ++ take (done + n) bytes
pushed_more text bytes done n within fits =
    append_assoc text (take done bytes) (take n (take (length bytes - done) (drop done bytes)))
    ∙ ap (λ (l : List ℕ). text ++ l) (ap (λ (l : List ℕ). take done bytes ++ l) (take-take n (length bytes - done) (drop done bytes) fits) ∙ two_fronts)
  where
    two_fronts : take done bytes ++ take n (drop done bytes) ≡ take (done + n) bytes
    two_fronts =
        ap (λ (l : List ℕ). l ++ take n (drop done bytes)) (sym (take-take done (done + n) bytes (omega arith)))
        ∙ ap (λ (l : List ℕ). take done (take (done + n) bytes) ++ l) (sym (drop-take done n bytes))
        ∙ take-append-drop done (take (done + n) bytes)

-- ---- a loop that looks at the disk and gives one part more

pub wrote_then : (f g : DiskFile) (h : PoolHeader) (a b c : View) → IsTrue a.tells → g ≡ f → Wrote f h a b → Wrote g h b c → Wrote f h a c
wrote_then f g h a b c tells same first second = wrote_twice f h a b c tells first (subst (λ (x : DiskFile). Wrote x h b c) same second)

-- a look, and then a part
pub part_wrote : (f : DiskFile) (w : Pieces) (h : PoolHeader) (a b c d : View) (text : List ℕ) → IsTrue a.tells → IsTrue b.tells → w.file ≡ f → Wrote f h a b → IsWriting w h b text → Untouched b c → (IsWriting w h c text → Wrote w.file h c d) → Wrote f h a d
part_wrote f w h a b c d text tells mid same first so_far looked next =
    wrote_then f w.file h a c d tells same (wrote_looked f h a b c mid first looked) (next (writing_looked w h b c text mid so_far looked))

-- the next one of some byte lists was given
pub next_joined : (w : Pieces) (h : PoolHeader) (v : View) (text : List ℕ) (f : ℕ → List ℕ) (i : ℕ) (part : List ℕ) → part ≡ f i → IsWriting w h v ((text ++ joined f i) ++ part) → IsWriting w h v (text ++ joined f (i + 1))
next_joined w h v text f i part is so_far =
    subst (IsWriting w h v) (append_assoc text (joined f i) part ∙ ap (λ (l : List ℕ). text ++ l) (ap (λ (l : List ℕ). joined f i ++ l) is ∙ sym (joined_more f i))) so_far

-- nothing was given yet
pub none_joined : (w : Pieces) (h : PoolHeader) (v : View) (text : List ℕ) (f : ℕ → List ℕ) → IsWriting w h v text → IsWriting w h v (text ++ joined f 0)
none_joined w h v text f so_far = subst (IsWriting w h v) (sym (ap (λ (l : List ℕ). text ++ l) (joined_none f) ∙ append-nil text)) so_far

-- a file that is not written reads as before
pub source_is : (s f : DiskFile) (a b : View) → s ≢ f → OnlyFile f a b → file_of s b.seen ≡ file_of s a.seen
source_is s f a b apart only = (only s apart).seen

-- before the file is begun
pub puts_none : (f : DiskFile) (h : PoolHeader) (g : ℕ) (text : List ℕ) (v w : View) → IsTrue v.tells → IsDisk v → ((c : Store) → v.may_leave c → IsAside f g (file_of f c)) → Untouched v w → Puts f h g text v w
puts_none f h g text v w tells disk aside looked =
    moments_looked v v w (Among v.may_leave (On f (λ _ bytes. IsAsideOrOut f h g text bytes)))
    (still v (Among v.may_leave (On f (λ _ bytes. IsAsideOrOut f h g text bytes))) (λ _. disk) (λ _. tells) (λ _ c now. (c, now, (file_of f c, inl (aside c now), sym (with_file-same f c))))) looked

pub puts_after : (f : DiskFile) (h : PoolHeader) (g : ℕ) (text : List ℕ) (a b c : View) → IsTrue a.tells → Puts f h g text a b → Puts f h g text b c → Puts f h g text a c
puts_after f h g text a b c tells first second = then_on f a b c (IsAsideOrOut f h g text) (IsAsideOrOut f h g text) tells first second (λ x q. q)
