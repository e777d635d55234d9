-- A disk in memory is a disk, call by call.
use Rattle.std.proofs.Common.{◌≡◌, ◌⊎◌, ◌↔◌, inl, inr, ⊎_elim, refl, sym, ◌∙◌, ap, subst, ℕ, ◌+◌, ◌<◌, ◌≤◌, ◌==◌, ◌||◌, ◌&&◌, nat_lt, Bool, true, false, cond, IsTrue, List, [], ◌∷◌, ◌++◌, length, take, drop, Option, Some, None, Result, OnOk, Ok, Err, arith, append_assoc, length-append, length-take}
use Rattle.std.proofs.lemmas.List.{take-append-le, take_at, drop_at, take_all}
use Rattle.std.proofs.lemmas.Bool.Decides.{nat_tests}
use Rattle.ckpt_base.specs.Faults.{Counts, counted, is_listed}
use Rattle.disk_model.specs.declared.disk_file.DiskFile.{DiskFile}
use Rattle.disk_model.specs.declared.disk_file.DiskFile.TheVariants.{Output, One, Two}
use Rattle.disk_model.specs.Store.{Store, file_of, with_file}
use Rattle.disk_model.specs.Change.{Change, Write, Cut, Sync, Start, whole, Crashed, end_of, data_of}
use Rattle.disk_model.specs.View.{View, On, Becomes, IsMade, Changes, Looks, OnlySyncs, IsDisk}
use Rattle.disk_model.specs.MemoryFile.{FileState, MayLeave, settled, changed, crashed, IsFile, IsTaken, BeginsWithin}
use Rattle.disk_model.specs.MemoryDisk.{Files, state_of, bytes_of, reads_of, with_pending, AllLeft, AreFiles, Event, apply, after, MemoryDisk, may_leave_now, LeftThen, view_of, IsSound, call_fails, passes_room, is_refused, change_fails, FailsExactly, after_look, after_change_call, made, left_pending, after_change, HasRoomFor, crashed_files, started}
use Rattle.disk_model.proofs.Calls.{with_file-same}
use Rattle.disk_model.proofs.Outcomes.{write_becomes, write_file, cut_becomes, cut_file, settled_only, settled_file, seen_left, cases_lt, crashed_left, length-patch}

-- an outcome is one that is the same but for a file
same_others : (f : DiskFile) (v : View) (c : Store) → v.may_leave c → (bytes : List ℕ) × v.may_leave (with_file f bytes c)
same_others f v c left = (file_of f c, subst v.may_leave (sym (with_file-same f c)) left)

-- one change of one file, both ways
pub file_becomes : (s : FileState) (change : Change) (c : List ℕ) → IsFile s → IsTaken change s → MayLeave (changed change s) c ↔ ((d : List ℕ) × MayLeave s d × Crashed change s.seen d c)
file_becomes s (Write at bytes) c is taken = write_becomes s is at bytes taken.0 c
file_becomes s (Cut n) c is taken = cut_becomes s n c is
file_becomes s Sync c is taken = (λ left. (s.seen, seen_left s is, (settled_only (length s.dirty) s.seen c).0 left), λ from. (settled_only (length s.dirty) s.seen c).1 from.2)
file_becomes s (Start header) c is taken = (λ left. (s.seen, seen_left s is, (settled_only (length s.dirty) header c).0 left), λ from. (settled_only (length s.dirty) header c).1 from.2)

pub file_kept : (s : FileState) (change : Change) → IsFile s → IsTaken change s → IsFile (changed change s)
file_kept s (Write at bytes) is taken = write_file s is at bytes taken.0 taken.1
file_kept s (Cut n) is taken = cut_file s n is
file_kept s Sync is taken = settled_file (length s.dirty) s.seen (omega (arith, is.room, is.seen_high))
file_kept s (Start header) is taken = settled_file (length s.dirty) header taken.1

pub file_whole : (s : FileState) (change : Change) → (changed change s).seen ≡ whole change s.seen
file_whole s (Write at bytes) = refl
file_whole s (Cut n) = refl
file_whole s Sync = refl
file_whole s (Start header) = refl

-- the same of the store
pub all_becomes : (f : DiskFile) (change : Change) (m : Files) → AreFiles m → IsTaken change (state_of f m)
    → Becomes (On f (Crashed change (file_of f (bytes_of m)))) (AllLeft m) (AllLeft (apply (f, change) m))
all_becomes Output change m are taken c =
    let iff = file_becomes m.output change c.output are.output taken in (
      λ left. let from = iff.0 left.output in (record c { output = from.0 }, record { output = from.1; one = left.one; two = left.two }, (c.output, from.2, refl)),
      λ from. let eq = from.2.2 in subst (AllLeft (apply (Output, change) m)) (sym eq) (record { output = (file_becomes m.output change from.2.0 are.output taken).1 (from.0.output, from.1.output, from.2.1); one = from.1.one; two = from.1.two }),
    )
all_becomes One change m are taken c =
    let iff = file_becomes m.one change c.one are.one taken in (
      λ left. let from = iff.0 left.one in (record c { one = from.0 }, record { output = left.output; one = from.1; two = left.two }, (c.one, from.2, refl)),
      λ from. let eq = from.2.2 in subst (AllLeft (apply (One, change) m)) (sym eq) (record { output = from.1.output; one = (file_becomes m.one change from.2.0 are.one taken).1 (from.0.one, from.1.one, from.2.1); two = from.1.two }),
    )
all_becomes Two change m are taken c =
    let iff = file_becomes m.two change c.two are.two taken in (
      λ left. let from = iff.0 left.two in (record c { two = from.0 }, record { output = left.output; one = left.one; two = from.1 }, (c.two, from.2, refl)),
      λ from. let eq = from.2.2 in subst (AllLeft (apply (Two, change) m)) (sym eq) (record { output = from.1.output; one = from.1.one; two = (file_becomes m.two change from.2.0 are.two taken).1 (from.0.two, from.1.two, from.2.1) }),
    )

pub all_kept : (f : DiskFile) (change : Change) (m : Files) → AreFiles m → IsTaken change (state_of f m) → AreFiles (apply (f, change) m)
all_kept Output change m are taken = record { output = file_kept m.output change are.output taken; one = are.one; two = are.two }
all_kept One change m are taken = record { output = are.output; one = file_kept m.one change are.one taken; two = are.two }
all_kept Two change m are taken = record { output = are.output; one = are.one; two = file_kept m.two change are.two taken }

pub all_whole : (f : DiskFile) (change : Change) (m : Files) → bytes_of (apply (f, change) m) ≡ with_file f (whole change (file_of f (bytes_of m))) (bytes_of m)
all_whole Output change m = ap (λ (l : List ℕ). with_file Output l (bytes_of m)) (file_whole m.output change)
all_whole One change m = ap (λ (l : List ℕ). with_file One l (bytes_of m)) (file_whole m.one change)
all_whole Two change m = ap (λ (l : List ℕ). with_file Two l (bytes_of m)) (file_whole m.two change)

pub all_seen : (m : Files) → AreFiles m → AllLeft m (bytes_of m)
all_seen m are = record { output = seen_left m.output are.output; one = seen_left m.one are.one; two = seen_left m.two are.two }

-- one file as it reads, or as a crash may leave it
abbrev pub Kept : Store → Files → DiskFile → Store → Type 0
Kept reads files g c = (file_of g c ≡ file_of g reads) ⊎ MayLeave (state_of g files) (file_of g c)

file_left : (g : DiskFile) (m : Files) (c : Store) → AllLeft m c → MayLeave (state_of g m) (file_of g c)
file_left Output m c all = all.output
file_left One m c all = all.one
file_left Two m c all = all.two

-- what reads give is one of the outcomes
pub now_is : (m : Files) → AreFiles m → (c : Store) → may_leave_now (bytes_of m) m c ↔ AllLeft m c
now_is m are c = (
  λ left. record { output = pick m.output c.output are.output (left Output); one = pick m.one c.one are.one (left One); two = pick m.two c.two are.two (left Two) },
  λ all g. inr (file_left g m c all),
)
  where
    pick : (s : FileState) (x : List ℕ) → IsFile s → (x ≡ s.seen) ⊎ MayLeave s x → MayLeave s x
    pick s x is (inl same) = subst (MayLeave s) (sym same) (seen_left s is)
    pick s x is (inr left) = left

-- a change that may have happened in part
abbrev pub IsPlain : Change → Type 0
IsPlain (Write at bytes) = Unit {0}
IsPlain (Cut n) = Unit {0}
IsPlain Sync = ⊥
IsPlain (Start header) = ⊥

not_at_all : (change : Change) (seen x : List ℕ) → IsPlain change → Crashed change seen x x
not_at_all (Write at bytes) seen x plain = record { before = refl; after = refl; no_shorter = omega arith; no_longer = omega arith }
not_at_all (Cut n) seen x plain = record { no_shorter = omega arith; front = take_all (length x) x (omega arith) }
not_at_all Sync seen x plain = absurd plain
not_at_all (Start header) seen x plain = absurd plain

shorter : (n : ℕ) (l : List ℕ) → take (length (take n l)) l ≡ take n l
shorter n l = elim (cases_lt n (length l)) [
  | inl less ↦ ap (λ (k : ℕ). take k l) (omega (arith, length-take n l))
  | inr past ↦ ap (λ (k : ℕ). take k l) (omega (arith, length-take n l)) ∙ take_all (length l) l (omega arith) ∙ sym (take_all n l past)
]

wholly : (change : Change) (s : FileState) → IsPlain change → IsTaken change s → Crashed change s.seen s.seen (whole change s.seen)
wholly (Write at bytes) s plain taken = record {
  before = ap (λ (l : List ℕ). take at l) (append_assoc (take at s.seen) bytes (drop (at + length bytes) s.seen)) ∙ take_at (take at s.seen) (bytes ++ drop (at + length bytes) s.seen) at (omega (arith, length-take at s.seen, taken.0));
  after = drop_at (take at s.seen ++ bytes) (drop (at + length bytes) s.seen) (at + length bytes) (omega (arith, length-append (take at s.seen) bytes, length-take at s.seen, taken.0));
  no_shorter = omega (arith, length-patch at bytes s.seen taken.0);
  no_longer = omega (arith, length-patch at bytes s.seen taken.0);
}
wholly (Cut n) s plain taken = record { no_shorter = omega (arith, length-take n s.seen); front = shorter n s.seen }
wholly Sync s plain taken = absurd plain
wholly (Start header) s plain taken = absurd plain

file_seen : (f : DiskFile) (m : Files) → file_of f (bytes_of m) ≡ (state_of f m).seen
file_seen Output m = refl
file_seen One m = refl
file_seen Two m = refl

pub after-push : (events : List Event) (event : Event) (m : Files) → after (events ++ event ∷ []) m ≡ apply event (after events m)
after-push [] event m = refl
after-push (e ∷ events) event m = after-push events event (apply e m)

-- a state without a pending start
abbrev settled_disk : MemoryDisk → MemoryDisk
settled_disk m = record m { pending = None }

-- a state after one change more
abbrev pub moved : MemoryDisk → Event → ℕ → List Event → MemoryDisk
moved m event faults events = record m { files = apply event m.files; faults = faults; events = events }

module _ (m0 : MemoryDisk) (f : DiskFile) (change : Change) (faults : ℕ) (events : List Event) (are : AreFiles m0.files) (replayed : IsTrue m0.keeps → after m0.events m0.first ≡ m0.files) (taken : IsTaken change (state_of f m0.files)) (kept : IsTrue m0.keeps → events ≡ m0.events ++ (f, change) ∷ []) where
  abbrev m : MemoryDisk
  m = settled_disk m0

  abbrev new : MemoryDisk
  new = moved m (f, change) faults events

  new_files : AreFiles new.files
  new_files = all_kept f change m.files are taken

  pub replayed_next : IsTrue m.keeps → after events m.first ≡ new.files
  replayed_next keeps = ap (λ (es : List Event). after es m.first) (kept keeps) ∙ after-push m.events (f, change) m.first ∙ ap (apply (f, change)) (replayed keeps)

  crash : Becomes (On f (Crashed change (file_of f (bytes_of m.files)))) (may_leave_now (bytes_of m.files) m.files) (may_leave_now (bytes_of new.files) new.files)
  crash c = (
    λ left. let from = (all_becomes f change m.files are taken c).0 ((now_is new.files new_files c).0 left) in (from.0, (now_is m.files are from.0).1 from.1, from.2),
    λ from. (now_is new.files new_files c).1 ((all_becomes f change m.files are taken c).1 (from.0, (now_is m.files are from.0).0 from.1, from.2)),
  )

  pub is_made : IsMade f change (view_of m) (view_of new)
  is_made = record { seen = all_whole f change m.files; crash = crash }

  cases : (a b : ℕ) → a < b + 1 → (a < b) ⊎ (a ≡ b)
  cases a b less = elim (cases_lt a b) [ inl below ↦ inl below | inr past ↦ inr (omega arith) ]

  pub past : IsTrue m.keeps → (t : ℕ) (c : Store) → t ≤ length m.events → (view_of new).left_since t c ↔ ((view_of m).left_since t c ⊎ (view_of new).may_leave c)
  past keeps t c le = (forth, back)
    where
      size : length events ≡ length m.events + 1
      size = ap length (kept keeps) ∙ length-append m.events ((f, change) ∷ [])

      same_front : (k : ℕ) → k ≤ length m.events → after (take k events) m.first ≡ after (take k m.events) m.first
      same_front k le = ap (λ (es : List Event). after (take k es) m.first) (kept keeps) ∙ ap (λ (es : List Event). after es m.first) (take-append-le k m.events ((f, change) ∷ []) le)

      all_front : after (take (length m.events) m.events) m.first ≡ m.files
      all_front = ap (λ (es : List Event). after es m.first) (take_all (length m.events) m.events (omega arith)) ∙ replayed keeps

      forth : (view_of new).left_since t c → (view_of m).left_since t c ⊎ (view_of new).may_leave c
      forth (inl now) = inr now
      forth (inr was) = elim (cases (was.k) (length m.events) (let b = was.earlier in omega (arith, b, size))) [
        | inl less ↦ inl (inr (record { k = was.k; since = was.since; earlier = less; left = subst (λ (x : Files). AllLeft x c) (same_front was.k (omega arith)) was.left }))
        | inr same ↦ inl (inl ((now_is m.files are c).1 (subst (λ (x : Files). AllLeft x c) (ap (λ (k : ℕ). after (take k events) m.first) same ∙ same_front (length m.events) (omega arith) ∙ all_front) was.left)))
      ]

      back : (view_of m).left_since t c ⊎ (view_of new).may_leave c → (view_of new).left_since t c
      back (inl (inl now)) = inr (record { k = length m.events; since = le; earlier = omega (arith, size); left = subst (λ (x : Files). AllLeft x c) (sym (same_front (length m.events) (omega arith) ∙ all_front)) ((now_is m.files are c).0 now) })
      back (inl (inr was)) = let b = was.earlier in inr (record { k = was.k; since = was.since; earlier = omega (arith, b, size); left = subst (λ (x : Files). AllLeft x c) (sym (same_front was.k (omega (arith, b)))) was.left })
      back (inr now) = inl now

  stays : IsPlain change → (c : Store) → (view_of m).may_leave c → (view_of new).may_leave c
  stays plain c left = (is_made.crash c).1 (c, left, (file_of f c, not_at_all change (file_of f (bytes_of m.files)) (file_of f c) plain, sym (with_file-same f c)))

  -- A call that makes its change and answers Ok.
  pub made_law : {T E : Type 0} (x : T) → faults ≡ m.faults → Changes {E = E} f change (Ok x) (view_of m) (view_of new)
  made_law x same = record {
    tells = refl;
    tells_past = refl;
    counts = same;
    does = λ _. is_made;
    later = λ keeps. omega (arith, ap length (kept keeps), length-append m.events ((f, change) ∷ []));
    past = past;
  }

  -- One that makes it and fails: the fuse acted.
  pub fused_law : {T E : Type 0} (e : E) → faults ≡ counted m.faults → m.faults ≤ counted m.faults → IsPlain change → Changes {T = T} f change (Err e) (view_of m) (view_of new)
  fused_law e rose rises plain = record {
    tells = refl;
    tells_past = refl;
    counts = (omega (arith, rose), omega (arith, rose, rises));
    does = λ _. record {
      seen = inr (whole change (file_of f (bytes_of m.files)), subst (λ (x : List ℕ). Crashed change x x (whole change x)) (sym (file_seen f m.files)) (wholly change (state_of f m.files) plain taken), all_whole f change m.files);
      crash = λ c left. inr ((is_made.crash c).0 left);
      kept = λ _ c left. stays plain c left;
      others = λ c left. same_others f (view_of new) c (stays plain c left);
    };
    later = λ keeps. omega (arith, ap length (kept keeps), length-append m.events ((f, change) ∷ []));
    past = past;
  }

-- A call that is refused changes nothing but the counts.
pub refused_law : {T E : Type 0} (m : MemoryDisk) (f : DiskFile) (change : Change) (e : E) → m.faults ≤ counted m.faults → Changes {T = T} f change (Err e) (view_of m) (view_of (after_change_call true m))
refused_law m f change e rises = record {
  tells = refl;
  tells_past = refl;
  counts = (omega arith, rises);
  does = λ _. record { seen = inl refl; crash = λ c left. inl left; kept = λ _ c left. left; others = λ c left. same_others f (view_of m) c left };
  later = λ _. omega arith;
  past = λ _ t c le. (λ left. inl left, λ from. ⊎_elim (λ was. was) (λ now. inl now) from);
}

-- what a pending start leaves of each file
without : (f g : DiskFile) (header : List ℕ) (m : Files) (c : Store) → Kept (with_file f header (bytes_of m)) m g c → Kept (bytes_of m) m g (with_file f (file_of f (bytes_of m)) c)
without Output Output header m c k = inl refl
without Output One header m c k = k
without Output Two header m c k = k
without One Output header m c k = k
without One One header m c k = inl refl
without One Two header m c k = k
without Two Output header m c k = k
without Two One header m c k = k
without Two Two header m c k = inl refl

unstarted : (f g : DiskFile) (header : List ℕ) (m : Files) (c : Store) → MayLeave (state_of f m) (file_of f c) → Kept (with_file f header (bytes_of m)) m g c → Kept (bytes_of m) m g c
unstarted Output Output header m c left k = inr left
unstarted Output One header m c left k = k
unstarted Output Two header m c left k = k
unstarted One Output header m c left k = k
unstarted One One header m c left k = inr left
unstarted One Two header m c left k = k
unstarted Two Output header m c left k = k
unstarted Two One header m c left k = k
unstarted Two Two header m c left k = inr left

still_left : (s : FileState) (x y : List ℕ) → IsFile s → (x ≡ s.seen) ⊎ MayLeave s x → (x ≡ y) ⊎ MayLeave s x
still_left s x y is (inl same) = inr (subst (MayLeave s) (sym same) (seen_left s is))
still_left s x y is (inr left) = inr left

still_kept : (f g : DiskFile) (header : List ℕ) (m : Files) (c : Store) → AreFiles m → Kept (bytes_of m) m g c → Kept (with_file f header (bytes_of m)) m g c
still_kept Output Output header m c are k = still_left m.output c.output header are.output k
still_kept Output One header m c are k = k
still_kept Output Two header m c are k = k
still_kept One Output header m c are k = k
still_kept One One header m c are k = still_left m.one c.one header are.one k
still_kept One Two header m c are k = k
still_kept Two Output header m c are k = k
still_kept Two One header m c are k = k
still_kept Two Two header m c are k = still_left m.two c.two header are.two k

same_file : (f : DiskFile) (x : List ℕ) (s : Store) → file_of f (with_file f x s) ≡ x
same_file Output x s = refl
same_file One x s = refl
same_file Two x s = refl

put_back : (f : DiskFile) (x : List ℕ) (c : Store) → c ≡ with_file f (file_of f c) (with_file f x c)
put_back Output x c = refl
put_back One x c = refl
put_back Two x c = refl

-- A start that the fuse leaves pending.
pending_law : {T E : Type 0} (m0 : MemoryDisk) (f : DiskFile) (header : List ℕ) (e : E) → AreFiles m0.files → m0.faults ≤ counted m0.faults
    → (let m = settled_disk m0 in Changes {T = T} f (Start header) (Err e) (view_of m) (view_of (record (after_change_call true m) { pending = Some (f, header) })))
pending_law m0 f header e are rises = record {
  tells = refl;
  tells_past = refl;
  counts = (omega arith, rises);
  does = λ _. record {
    seen = inr (header, refl, refl);
    crash = λ c left. crash c left (left f);
    kept = λ _ c left. kept c left;
    others = λ c left. same_others f (view_of (record (after_change_call true (settled_disk m0)) { pending = Some (f, header) })) c (kept c left);
  };
  later = λ _. omega arith;
  past = λ _ t c le. (forth t c, back t c);
}
  where
    files : Files
    files = m0.files

    Old : Store → Type 0
    Old c = may_leave_now (bytes_of files) files c

    New : Store → Type 0
    New c = may_leave_now (with_file f header (bytes_of files)) files c

    kept : (c : Store) → Old c → New c
    kept c left g = still_kept f g header files c are (left g)

    crash : (c : Store) → New c → Kept (with_file f header (bytes_of files)) files f c → Old c ⊎ ((d : Store) × Old d × On f (λ _ x. x ≡ header) d c)
    crash c left (inl same) = inr (with_file f (file_of f (bytes_of files)) c, λ g. without f g header files c (left g), (file_of f c, same ∙ same_file f header (bytes_of files), put_back f (file_of f (bytes_of files)) c))
    crash c left (inr was) = inl (λ g. unstarted f g header files c was (left g))

    forth : (t : ℕ) (c : Store) → New c ⊎ LeftThen m0.first m0.events t c → (Old c ⊎ LeftThen m0.first m0.events t c) ⊎ New c
    forth t c (inl now) = inr now
    forth t c (inr was) = inl (inr was)

    back : (t : ℕ) (c : Store) → (Old c ⊎ LeftThen m0.first m0.events t c) ⊎ New c → New c ⊎ LeftThen m0.first m0.events t c
    back t c (inl (inl now)) = inl (λ g. still_kept f g header files c are (now g))
    back t c (inl (inr was)) = inr was
    back t c (inr now) = inl now

-- the tests of a call that is not refused
or_false : (a b : Bool) → (a || b) ≡ false → (a ≡ false) × (b ≡ false)
or_false true b is = absurd (cc is)
or_false false b is = (refl, is)

and_false : (a b : Bool) → (a && b) ≡ false → IsTrue a → b ≡ false
and_false true b is holds = is
and_false false b is holds = absurd (cc holds)

pub not_blown : (m : MemoryDisk) (f : DiskFile) (change : Change) → is_refused m f change ≡ false → m.blown ≡ false
not_blown m f change is = (or_false m.blown (is_listed m.failing (counted m.calls)) (or_false (call_fails m) (passes_room m f change) is).0).0

fits : (a b : ℕ) → nat_lt a b ≡ false → b ≤ a
fits a b is = grind (arith, nat_tests)

pub fits_file : (m : MemoryDisk) (f : DiskFile) (change : Change) → is_refused m f change ≡ false → end_of change ≤ length (state_of f m.files).dirty
fits_file m f change is = fits _ _ (or_false (nat_lt (length (state_of f m.files).dirty) (end_of change)) _ (or_false (call_fails m) (passes_room m f change) is).1).0

pub fits_log : (m : MemoryDisk) (f : DiskFile) (change : Change) → is_refused m f change ≡ false → IsTrue m.keeps → 32 + length (data_of change) ≤ m.log_left
fits_log m f change is keeps = fits _ _ (and_false m.keeps (nat_lt m.log_left (32 + length (data_of change))) (or_false (nat_lt (length (state_of f m.files).dirty) (end_of change)) _ (or_false (call_fails m) (passes_room m f change) is).1).1 keeps)

pub kept_events : {X : Type 0} (keeps : Bool) (a b : X) → IsTrue keeps → cond keeps a b ≡ a
kept_events true a b is = refl
kept_events false a b is = absurd (cc is)

-- A change call without a pending start that is not refused.
module _ (m0 : MemoryDisk) (f : DiskFile) (are : AreFiles m0.files) (replayed : IsTrue m0.keeps → after m0.events m0.first ≡ m0.files) (rises : m0.faults ≤ counted m0.faults) where
  abbrev calm : MemoryDisk
  calm = settled_disk m0

  made_ok : {T E : Type 0} (change : Change) (x : T) → IsTaken change (state_of f calm.files) → Changes {E = E} f change (Ok x) (view_of calm) (view_of (made f change (after_change_call false calm)))
  made_ok change x taken = made_law m0 f change calm.faults (cond calm.keeps (calm.events ++ (f, change) ∷ []) calm.events) are replayed taken (kept_events calm.keeps _ _) x refl

  left_law : {T E : Type 0} (change : Change) (e : E) → IsTaken change (state_of f calm.files) → Changes {T = T} f change (Err e) (view_of calm) (view_of (left_pending f change (after_change_call true calm)))
  left_law (Write at bytes) e taken = fused_law m0 f (Write at bytes) (counted calm.faults) (cond calm.keeps (calm.events ++ (f, Write at bytes) ∷ []) calm.events) are replayed taken (kept_events calm.keeps _ _) e refl rises tt
  left_law (Cut n) e taken = fused_law m0 f (Cut n) (counted calm.faults) (cond calm.keeps (calm.events ++ (f, Cut n) ∷ []) calm.events) are replayed taken (kept_events calm.keeps _ _) e refl rises tt
  left_law Sync e taken = refused_law calm f Sync e rises
  left_law (Start header) e taken = pending_law m0 f header e are rises

-- A change call keeps the laws of a disk, whatever it answers.
pub changes_law : {T E : Type 0} (m : MemoryDisk) (f : DiskFile) (change : Change) (result : Result T E) → IsSound m → m.faults ≤ counted m.faults → BeginsWithin change (file_of f (reads_of m)) → FailsExactly (change_fails m f change) result
    → Changes f change result (view_of m) (view_of (after_change f change m))
changes_law {T} {E} m f change result sound rises within exact = go (is_refused m f change) (m.fuse == 1) refl result exact
  where
    settle : is_refused m f change ≡ false → m ≡ settled_disk m
    settle is = let none = sound.pending (not_blown m f change is) in λ i. record m { pending = none i }

    taken : is_refused m f change ≡ false → IsTaken change (state_of f m.files)
    taken is = (subst (BeginsWithin change) (file_seen f m.files) (subst (λ (x : MemoryDisk). BeginsWithin change (file_of f (reads_of x))) (settle is) within), fits_file m f change is)

    go : (r a : Bool) → is_refused m f change ≡ r → (result : Result T E) → FailsExactly (r || a) result
        → Changes f change result (view_of m) (view_of (cond r (after_change_call (r || a) m) (cond a (left_pending f change (after_change_call (r || a) m)) (made f change (after_change_call (r || a) m)))))
    go true a is (Ok x) exact = absurd (cc exact)
    go true a is (Err e) exact = refused_law m f change e rises
    go false true is (Ok x) exact = absurd (cc exact)
    go false true is (Err e) exact = subst (λ (x : MemoryDisk). Changes {T = T} {E = E} f change (Err e) (view_of x) (view_of (left_pending f change (after_change_call true x)))) (sym (settle is)) (left_law m f sound.are_files sound.replayed rises change e (taken is))
    go false false is (Ok x) exact = subst (λ (y : MemoryDisk). Changes {T = T} {E = E} f change (Ok x) (view_of y) (view_of (made f change (after_change_call false y)))) (sym (settle is)) (made_ok m f sound.are_files sound.replayed rises change x (taken is))
    go false false is (Err e) exact = absurd (cc exact)

-- A call that looks.
pub looks_law : {T E : Type 0} (m : MemoryDisk) (result : Result T E) → FailsExactly (call_fails m) result → m.faults ≤ (after_look m).faults → Looks result (view_of m) (view_of (after_look m))
looks_law m (Ok x) exact rises = record { tells = refl; tells_past = refl; counts = ap (λ (b : Bool). cond b (counted m.faults) m.faults) exact; seen = λ _. refl; crash = λ _ c. (λ left. left, λ left. left); later = λ _. omega arith; past = λ _ t c le. (λ left. left, λ left. left) }
looks_law m (Err e) exact rises =
    let rose : cond (call_fails m) (counted m.faults) m.faults ≡ counted m.faults = ap (λ (b : Bool). cond b (counted m.faults) m.faults) exact in
    record { tells = refl; tells_past = refl; counts = (omega (arith, rose), rises); seen = λ _. refl; crash = λ _ c. (λ left. left, λ left. left); later = λ _. omega arith; past = λ _ t c le. (λ left. left, λ left. left) }

-- what a sync leaves was left before
synced : (v : View) (f : DiskFile) (c : Store) → IsDisk v → ((d : Store) × v.may_leave d × On f (Crashed Sync (file_of f v.seen)) d c) → v.may_leave c
synced v f c disk from = subst v.may_leave (sym (from.2.2 ∙ ap (λ (x : List ℕ). with_file f x from.0) from.2.1)) (disk.apart f v.seen from.0 disk.seen_stays from.1)

-- A sync leaves each file as it reads, and a crash no more than before.
pub sync_law : {T E : Type 0} (m new : View) (f : DiskFile) (result : Result T E) → IsDisk m → IsTrue m.tells → Changes f Sync result m new → OnlySyncs m new
sync_law m new f (Ok x) disk tells call =
    let done = call.does tells in
    record { seen = done.seen ∙ with_file-same f m.seen; crash = λ c left. let from = (done.crash c).0 left in synced m f c disk from }
sync_law m new f (Err e) disk tells call =
    let part = call.does tells in
    record { seen = ⊎_elim (λ same. same) (λ on. on.2 ∙ ap (λ (x : List ℕ). with_file f x m.seen) on.1 ∙ with_file-same f m.seen) part.seen; crash = λ c left. ⊎_elim (λ was. was) (λ from. synced m f c disk from) (part.crash c left) }

fits_room : (pick : ℕ) (s : FileState) → IsFile s → length (crashed pick s) ≤ length s.dirty
fits_room pick s is = let left = crashed_left pick s is in omega (arith, left.no_longer, is.room)

crash_files : (pick : ℕ) (m : Files) → AreFiles m → AreFiles (crashed_files pick m)
crash_files pick m are = record {
  output = settled_file (length m.output.dirty) (crashed pick m.output) (fits_room pick m.output are.output);
  one = settled_file (length m.one.dirty) (crashed pick m.one) (fits_room pick m.one are.one);
  two = settled_file (length m.two.dirty) (crashed pick m.two) (fits_room pick m.two are.two);
}

started_files : (pick : ℕ) (pending : Option (DiskFile × List ℕ)) (m : Files) → HasRoomFor pending m → AreFiles m → AreFiles (started pick pending m)
started_files pick None m fits are = are
started_files pick (Some start) m fits are = go (pick == 0)
  where
    go : (b : Bool) → AreFiles (cond b m (apply (start.0, Start start.1) m))
    go true = are
    go false = all_kept start.0 (Start start.1) m are (tt, fits)

-- A crash leaves files.
pub crash_sound : (pick : ℕ) (pending : Option (DiskFile × List ℕ)) (m : Files) → HasRoomFor pending m → AreFiles m → AreFiles (crashed_files pick (started pick pending m))
crash_sound pick pending m fits are = crash_files pick (started pick pending m) (started_files pick pending m fits are)

crash_kept : (g : DiskFile) (pick : ℕ) (reads : Store) (m : Files) → AreFiles m → Kept reads m g (bytes_of (crashed_files pick m))
crash_kept Output pick reads m are = inr (crashed_left pick m.output are.output)
crash_kept One pick reads m are = inr (crashed_left pick m.one are.one)
crash_kept Two pick reads m are = inr (crashed_left pick m.two are.two)

header_stays : (pick : ℕ) (s : FileState) (header : List ℕ) → length header ≤ length s.dirty → crashed pick (settled (length s.dirty) header) ≡ header
header_stays pick s header fits = (settled_only (length s.dirty) header (crashed pick (settled (length s.dirty) header))).0 (crashed_left pick (settled (length s.dirty) header) (settled_file (length s.dirty) header fits))

crash_started : (f g : DiskFile) (header : List ℕ) (pick : ℕ) (m : Files) → AreFiles m → length header ≤ length (state_of f m).dirty → Kept (with_file f header (bytes_of m)) m g (bytes_of (crashed_files pick (apply (f, Start header) m)))
crash_started Output Output header pick m are fits = inl (header_stays pick m.output header fits)
crash_started Output One header pick m are fits = inr (crashed_left pick m.one are.one)
crash_started Output Two header pick m are fits = inr (crashed_left pick m.two are.two)
crash_started One Output header pick m are fits = inr (crashed_left pick m.output are.output)
crash_started One One header pick m are fits = inl (header_stays pick m.one header fits)
crash_started One Two header pick m are fits = inr (crashed_left pick m.two are.two)
crash_started Two Output header pick m are fits = inr (crashed_left pick m.output are.output)
crash_started Two One header pick m are fits = inr (crashed_left pick m.one are.one)
crash_started Two Two header pick m are fits = inl (header_stays pick m.two header fits)

-- What the crash leaves might have been left.
pub crash_left : (pick : ℕ) (pending : Option (DiskFile × List ℕ)) (m : Files) → HasRoomFor pending m → AreFiles m → may_leave_now (with_pending pending (bytes_of m)) m (bytes_of (crashed_files pick (started pick pending m)))
crash_left pick None m fits are g = crash_kept g pick (bytes_of m) m are
crash_left pick (Some start) m fits are g = go (pick == 0)
  where
    go : (b : Bool) → Kept (with_file start.0 start.1 (bytes_of m)) m g (bytes_of (crashed_files pick (cond b m (apply (start.0, Start start.1) m))))
    go true = crash_kept g pick (with_file start.0 start.1 (bytes_of m)) m are
    go false = crash_started start.0 g start.1 pick m are fits

-- A call that is refused leaves all that is told.
pub refused_looks : {T E : Type 0} (m : MemoryDisk) (f : DiskFile) (change : Change) (result : Result T E) → is_refused m f change ≡ true → Counts result m.faults (after_change f change m).faults → Looks result (view_of m) (view_of (after_change f change m))
refused_looks {T} {E} m f change result is counts = go (is_refused m f change) is counts
  where
    left : Bool → MemoryDisk
    left r = cond r (after_change_call (r || (m.fuse == 1)) m) (cond (m.fuse == 1) (left_pending f change (after_change_call (r || (m.fuse == 1)) m)) (made f change (after_change_call (r || (m.fuse == 1)) m)))

    go : (r : Bool) → r ≡ true → Counts {T = T} {E = E} result m.faults (left r).faults → Looks {T = T} {E = E} result (view_of m) (view_of (left r))
    go true is counts = record { tells = refl; tells_past = refl; counts = counts; seen = λ _. refl; crash = λ _ c. (λ l. l, λ l. l); later = λ _. omega arith; past = λ _ t c le. (λ l. l, λ l. l) }
    go false is counts = absurd (cc is)

pub refused_fails : {T E : Type 0} (m : MemoryDisk) (f : DiskFile) (change : Change) (result : Result T E) → is_refused m f change ≡ true → FailsExactly (change_fails m f change) result → OnOk result ⊥
refused_fails m f change (Ok x) is exact = let wrong : true ≡ false = sym (ap (λ (b : Bool). b || (m.fuse == 1)) is) ∙ exact in absurd (cc wrong)
refused_fails m f change (Err e) is exact = tt
