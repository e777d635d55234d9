-- What a crash may leave of a file after a change is what it might have left before, after the change's step.
use Rattle.std.proofs.Common.{◌≡◌, ◌⊎◌, ◌↔◌, inl, inr, refl, sym, ◌∙◌, ap, ℕ, ◌+◌, ◌-◌, ◌<◌, ◌≤◌, min, max, nat_lt, ◌==◌, Bool, true, false, cond, ◌&&◌, not, List, ◌++◌, length, take, drop, replicate, get_or, map, arith, length-append, length-drop, length-take}
use Rattle.std.proofs.lemmas.List.{take_at, take_all, same_lists, get_or-take, get_or-drop, get_or_append_left, get_or-append_right, get_or-replicate, length-replicate, get_or_default, get_or_past}
use Rattle.std.proofs.lemmas.List.FromFn.{length-map-range_with_len, get_or-map-range_with_len}
use Rattle.std.proofs.lemmas.Bool.Decides.{nat_tests}
use Rattle.std.specs.List.{range_with_len}
use Rattle.disk_model.specs.Change.{Write, Cut, Torn, Shortened}
use Rattle.disk_model.specs.MemoryFile.{FileState, MayLeave, settled, changed, IsFile, is_clean, spoiled, crashed}

pub cases_lt : (a b : ℕ) → (a < b) ⊎ (b ≤ a)
cases_lt a b = elim (nat_lt a b) as (λ t. nat_lt a b ≡ t → (a < b) ⊎ (b ≤ a)) [ true ↦ λ is. inl (grind (arith, nat_tests)) | false ↦ λ is. inr (grind (arith, nat_tests)) ] refl

abbrev pub patch : {X : Type 0} → ℕ → List X → List X → List X
patch at m l = take at l ++ m ++ drop (at + length m) l

pub length-patch : {X : Type 0} (at : ℕ) (m l : List X) → at ≤ length l → length (patch at m l) ≡ max (length l) (at + length m)
length-patch at m l le = omega (arith, length-append (take at l ++ m) (drop (at + length m) l), length-append (take at l) m, length-take at l, length-drop (at + length m) l)

pub patch_below : {X : Type 0} (at : ℕ) (m l : List X) (i : ℕ) (d : X) → at ≤ length l → i < at → get_or (patch at m l) i d ≡ get_or l i d
patch_below at m l i d le less =
    get_or_append_left (take at l ++ m) (drop (at + length m) l) d i (omega (arith, length-append (take at l) m, length-take at l))
    ∙ get_or_append_left (take at l) m d i (omega (arith, length-take at l)) ∙ get_or-take at l i d less

pub patch_in : {X : Type 0} (at : ℕ) (m l : List X) (i : ℕ) (d : X) → at ≤ length l → at ≤ i → i < at + length m → get_or (patch at m l) i d ≡ get_or m (i - at) d
patch_in at m l i d le least less =
    get_or_append_left (take at l ++ m) (drop (at + length m) l) d i (omega (arith, length-append (take at l) m, length-take at l))
    ∙ get_or-append_right (take at l) m at i d (omega (arith, length-take at l)) least

pub patch_above : {X : Type 0} (at : ℕ) (m l : List X) (i : ℕ) (d : X) → at ≤ length l → at + length m ≤ i → get_or (patch at m l) i d ≡ get_or l i d
patch_above at m l i d le least =
    let same : at + length m + (i - (at + length m)) ≡ i = omega arith in
    get_or-append_right (take at l ++ m) (drop (at + length m) l) (at + length m) i d (omega (arith, length-append (take at l) m, length-take at l)) least
    ∙ get_or-drop (at + length m) l (i - (at + length m)) d ∙ ap (λ (k : ℕ). get_or l k d) same

-- a write into a buffer of which the front counts
pub patch_front : (buf bytes : List ℕ) (len at : ℕ) → at ≤ len → len ≤ length buf → at + length bytes ≤ length buf → take (max len (at + length bytes)) (patch at bytes buf) ≡ patch at bytes (take len buf)
patch_front buf bytes len at le fits room =
    let size : length (take len buf) ≡ len = omega (arith, length-take len buf) in
    let whole = length-patch at bytes buf (omega arith) in
    let front = length-patch at bytes (take len buf) (omega arith) in
    same_lists (take (max len (at + length bytes)) (patch at bytes buf)) (patch at bytes (take len buf)) (omega (arith, length-take (max len (at + length bytes)) (patch at bytes buf)))
    (λ i d less.
    let inside : i < max len (at + length bytes) = omega (arith, length-take (max len (at + length bytes)) (patch at bytes buf), less) in
    get_or-take (max len (at + length bytes)) (patch at bytes buf) i d inside ∙ go i d inside)
  where
    go : (i d : ℕ) → i < max len (at + length bytes) → get_or (patch at bytes buf) i d ≡ get_or (patch at bytes (take len buf)) i d
    go i d inside = elim (cases_lt i at) [
      | inl below ↦ patch_below at bytes buf i d (omega arith) below ∙ sym (patch_below at bytes (take len buf) i d (omega (arith, length-take len buf)) below ∙ get_or-take len buf i d (omega arith))
      | inr least ↦ elim (cases_lt i (at + length bytes)) [
        | inl less ↦ patch_in at bytes buf i d (omega arith) least less ∙ sym (patch_in at bytes (take len buf) i d (omega (arith, length-take len buf)) least less)
        | inr more ↦ patch_above at bytes buf i d (omega arith) more ∙ sym (patch_above at bytes (take len buf) i d (omega (arith, length-take len buf)) more ∙ get_or-take len buf i d (omega arith))
      ]
    ]

-- a byte that was not written since is what it was
abbrev old_byte : FileState → List ℕ → ℕ → ℕ
old_byte s c i = cond (is_clean s i) (get_or s.lasting i 0) (get_or c i 0)

-- the outcome before a write from which this one comes
unfoldable before : FileState → List ℕ → List ℕ
before s c = map (old_byte s c) (range_with_len 0 (min (length c) s.high))

length-before : (s : FileState) (c : List ℕ) → length (before s c) ≡ min (length c) s.high
unfolding before
length-before s c = length-map-range_with_len (old_byte s c) 0 (min (length c) s.high)

before_at : (s : FileState) (c : List ℕ) (i d : ℕ) → i < min (length c) s.high → get_or (before s c) i d ≡ old_byte s c i
unfolding before
before_at s c i d less = get_or-map-range_with_len (old_byte s c) 0 (min (length c) s.high) i i d less (omega arith)

less_yes : (a b : ℕ) → a < b → nat_lt a b ≡ true
less_yes a b less = grind (arith, nat_tests)

less_from : (a b : ℕ) → nat_lt a b ≡ true → a < b
less_from a b is = grind (arith, nat_tests)

before_clean : (s : FileState) (c : List ℕ) (i : ℕ) → i < min (length c) s.high → i < length s.lasting → get_or s.dirty i false ≡ false → get_or (before s c) i 0 ≡ get_or s.lasting i 0
before_clean s c i less within clean = before_at s c i 0 less ∙ go (nat_lt i (length s.lasting)) (get_or s.dirty i false) (less_yes i (length s.lasting) within) clean
  where
    go : (a b : Bool) → a ≡ true → b ≡ false → cond (a && not b) (get_or s.lasting i 0) (get_or c i 0) ≡ get_or s.lasting i 0
    go true false is clean = refl
    go true true is clean = absurd (cc clean)
    go false b is clean = absurd (cc is)

before_other : (s : FileState) (c : List ℕ) (i d : ℕ) → i < min (length c) s.high → (i < length s.lasting → get_or s.dirty i false ≡ false → get_or c i 0 ≡ get_or s.lasting i 0) → get_or (before s c) i d ≡ get_or c i 0
before_other s c i d less same = before_at s c i d less ∙ go (nat_lt i (length s.lasting)) (get_or s.dirty i false) (λ a b. same (less_from i (length s.lasting) a) b)
  where
    go : (a b : Bool) → (a ≡ true → b ≡ false → get_or c i 0 ≡ get_or s.lasting i 0) → cond (a && not b) (get_or s.lasting i 0) (get_or c i 0) ≡ get_or c i 0
    go true false h = sym (h refl refl)
    go true true h = refl
    go false b h = refl

module _ (s : FileState) (is : IsFile s) (at : ℕ) (bytes : List ℕ) (le : at ≤ length s.seen) where
  abbrev n : ℕ
  n = length bytes

  abbrev next : FileState
  next = changed (Write at bytes) s

  at_room : at ≤ length s.dirty
  at_room = omega (arith, is.room, is.seen_high)

  dirty_in : (i : ℕ) → at ≤ i → i < at + n → get_or next.dirty i false ≡ true
  dirty_in i least less =
      let size : length (replicate n true) ≡ n = length-replicate n true in
      ap (λ (k : ℕ). get_or (take at s.dirty ++ replicate n true ++ drop (at + k) s.dirty) i false) (sym size)
      ∙ patch_in at (replicate n true) s.dirty i false at_room least (omega (arith, size)) ∙ get_or-replicate n (i - at) true false (omega arith)

  dirty_out : (i : ℕ) → (i < at) ⊎ (at + n ≤ i) → get_or next.dirty i false ≡ get_or s.dirty i false
  dirty_out i (inl less) = let size : length (replicate n true) ≡ n = length-replicate n true in
      ap (λ (k : ℕ). get_or (take at s.dirty ++ replicate n true ++ drop (at + k) s.dirty) i false) (sym size) ∙ patch_below at (replicate n true) s.dirty i false at_room less
  dirty_out i (inr least) = let size : length (replicate n true) ≡ n = length-replicate n true in
      ap (λ (k : ℕ). get_or (take at s.dirty ++ replicate n true ++ drop (at + k) s.dirty) i false) (sym size) ∙ patch_above at (replicate n true) s.dirty i false at_room (omega (arith, size))

  -- a clean byte is outside the range
  outside : (i : ℕ) → get_or next.dirty i false ≡ false → (i < at) ⊎ (at + n ≤ i)
  outside i clean = elim (cases_lt i at) [
    | inl less ↦ inl less
    | inr least ↦ elim (cases_lt i (at + n)) [
      | inl less ↦ absurd (cc (clean, dirty_in i least less))
      | inr more ↦ inr more
    ]
  ]

  module _ (c : List ℕ) where
    module _ (left : MayLeave next c) where
      kept_out : (i : ℕ) → i < length c → (i < at) ⊎ (at + n ≤ i) → i < length s.lasting → get_or s.dirty i false ≡ false → get_or c i 0 ≡ get_or s.lasting i 0
      kept_out i less out within clean = left.kept i within less (dirty_out i out ∙ clean)

      from_old : MayLeave s (before s c)
      from_old = record {
        no_shorter = omega (arith, length-before s c, left.no_shorter, is.low_seen, is.seen_high);
        no_longer = omega (arith, length-before s c);
        kept = λ i within less clean. before_clean s c i (omega (arith, less, length-before s c)) within clean;
      }

      torn : Torn at n (before s c) c
      torn = record {
        before = same_lists (take at c) (take at (before s c)) (omega (arith, length-take at c, length-take at (before s c), length-before s c, is.seen_high, le))
            (λ i d less. let inside : i < at = omega (arith, length-take at c, less) in let within : i < length c = omega (arith, length-take at c, less) in
            get_or-take at c i d inside ∙ get_or_default c i d 0 within
            ∙ sym (get_or-take at (before s c) i d inside ∙ before_other s c i d (omega (arith, within, inside, le, is.seen_high)) (kept_out i within (inl inside))));
        after = same_lists (drop (at + n) c) (drop (at + n) (before s c)) (omega (arith, length-drop (at + n) c, length-drop (at + n) (before s c), length-before s c, left.no_longer))
            (λ i d less. let within : at + n + i < length c = omega (arith, length-drop (at + n) c, less) in
            get_or-drop (at + n) c i d ∙ get_or_default c (at + n + i) d 0 within
            ∙ sym (get_or-drop (at + n) (before s c) i d ∙ before_other s c (at + n + i) d (omega (arith, within, left.no_longer)) (kept_out (at + n + i) within (inr (omega arith)))));
        no_shorter = omega (arith, length-before s c);
        no_longer = omega (arith, length-before s c, left.no_longer);
      }

    to_new : (d : List ℕ) → MayLeave s d → Torn at n d c → MayLeave next c
    to_new d left torn = record {
      no_shorter = omega (arith, left.no_shorter, torn.no_shorter);
      no_longer = omega (arith, left.no_longer, torn.no_longer);
      kept = λ i within less clean.
          let out = outside i clean in
          let was : get_or s.dirty i false ≡ false = sym (dirty_out i out) ∙ clean in
          elim (cases_lt i (length d)) [
            | inl old ↦ same_out i out ∙ left.kept i within old was
            | inr past ↦ absurd (cc (was, is.regrown i (omega (arith, left.no_shorter, past)) (grown i out less past)))
          ];
    }
      where
        same_out : (i : ℕ) → (i < at) ⊎ (at + n ≤ i) → get_or c i 0 ≡ get_or d i 0
        same_out i (inl less) = sym (get_or-take at c i 0 less) ∙ ap (λ (l : List ℕ). get_or l i 0) torn.before ∙ get_or-take at d i 0 less
        same_out i (inr least) =
            let same : at + n + (i - (at + n)) ≡ i = omega arith in
            ap (λ (k : ℕ). get_or c k 0) (sym same) ∙ sym (get_or-drop (at + n) c (i - (at + n)) 0) ∙ ap (λ (l : List ℕ). get_or l (i - (at + n)) 0) torn.after ∙ get_or-drop (at + n) d (i - (at + n)) 0 ∙ ap (λ (k : ℕ). get_or d k 0) same

        grown : (i : ℕ) → (i < at) ⊎ (at + n ≤ i) → i < length c → length d ≤ i → i < length s.seen
        grown i (inl less) within past = omega (arith, less, le)
        grown i (inr least) within past = absurd (omega (arith, torn.no_longer, within, past, least))

    pub write_becomes : MayLeave next c ↔ ((d : List ℕ) × MayLeave s d × Torn at n d c)
    write_becomes = (λ left. (before s c, from_old left, torn left), λ from. to_new from.0 from.1 from.2)

  pub write_file : at + n ≤ length s.dirty → IsFile next
  write_file room =
      let size = length-patch at bytes s.seen le in
      let dirty_size : length next.dirty ≡ length s.dirty = omega (arith, length-append (take at s.dirty ++ replicate n true) (drop (at + n) s.dirty), length-append (take at s.dirty) (replicate n true), length-take at s.dirty, length-drop (at + n) s.dirty, length-replicate n true) in
      record {
        room = omega (arith, dirty_size, is.room);
        low_seen = omega (arith, size, is.low_seen);
        seen_high = omega (arith, size, is.seen_high);
        low_lasting = is.low_lasting;
        lasting_high = omega (arith, is.lasting_high);
        regrown = λ i low within. elim (side i) [
          | inl out ↦ dirty_out i out ∙ is.regrown i low (seen_old i within out)
          | inr in_range ↦ dirty_in i in_range.0 in_range.1
        ];
        kept = λ i was within clean.
            let out = outside i clean in
            let old = seen_old i within out in
            seen_same i out ∙ is.kept i was old (sym (dirty_out i out) ∙ clean);
      }
    where
      side : (i : ℕ) → ((i < at) ⊎ (at + n ≤ i)) ⊎ ((at ≤ i) × (i < at + n))
      side i = elim (cases_lt i at) [
        | inl less ↦ inl (inl less)
        | inr least ↦ elim (cases_lt i (at + n)) [
          | inl less ↦ inr (least, less)
          | inr more ↦ inl (inr more)
        ]
      ]

      seen_old : (i : ℕ) → i < length next.seen → (i < at) ⊎ (at + n ≤ i) → i < length s.seen
      seen_old i within (inl less) = omega (arith, le, less)
      seen_old i within (inr more) = omega (arith, length-patch at bytes s.seen le, within, more)

      seen_same : (i : ℕ) → (i < at) ⊎ (at + n ≤ i) → get_or next.seen i 0 ≡ get_or s.seen i 0
      seen_same i (inl less) = patch_below at bytes s.seen i 0 le less
      seen_same i (inr more) = patch_above at bytes s.seen i 0 le more

-- a file that is lasting
pub settled_file : (room : ℕ) (bytes : List ℕ) → length bytes ≤ room → IsFile (settled room bytes)
settled_file room bytes fits = record {
  room = omega (arith, length-replicate room false);
  low_seen = omega arith;
  seen_high = omega arith;
  low_lasting = omega arith;
  lasting_high = omega arith;
  regrown = λ i low within. absurd (omega arith);
  kept = λ i within less clean. refl;
}

pub settled_only : (room : ℕ) (bytes c : List ℕ) → MayLeave (settled room bytes) c ↔ (c ≡ bytes)
settled_only room bytes c = (
  λ left. same_lists c bytes (omega (arith, left.no_shorter, left.no_longer)) (λ i d less. get_or_default c i d 0 less ∙ left.kept i (omega (arith, less, left.no_longer)) less (clean i) ∙ sym (get_or_default bytes i d 0 (omega (arith, less, left.no_longer)))),
  λ same. record { no_shorter = omega (arith, ap length same); no_longer = omega (arith, ap length same); kept = λ i within less _. ap (λ (l : List ℕ). get_or l i 0) same },
)
  where
    clean : (i : ℕ) → get_or (replicate room false) i false ≡ false
    clean i = elim (cases_lt i room) [
      | inl less ↦ get_or-replicate room i false false less
      | inr past ↦ get_or_past (replicate room false) i false (omega (arith, length-replicate room false, past))
    ]

pub seen_left : (s : FileState) → IsFile s → MayLeave s s.seen
seen_left s is = record { no_shorter = is.low_seen; no_longer = is.seen_high; kept = is.kept }

-- a cut
pub cut_becomes : (s : FileState) (n : ℕ) (c : List ℕ) → IsFile s → MayLeave (changed (Cut n) s) c ↔ ((d : List ℕ) × MayLeave s d × Shortened n d c)
cut_becomes s n c is = (forth, λ from. back from.0 from.1 from.2)
  where
    forth : MayLeave (changed (Cut n) s) c → (d : List ℕ) × MayLeave s d × Shortened n d c
    forth left = elim (cases_lt (length c) s.low) [
      | inr long ↦ (c, record { no_shorter = long; no_longer = left.no_longer; kept = left.kept }, record { no_shorter = omega arith; front = take_all (length c) c (omega arith) })
      | inl short ↦ (
        c ++ drop (length c) s.lasting,
        record {
          no_shorter = omega (arith, length-append c (drop (length c) s.lasting), length-drop (length c) s.lasting, is.low_lasting);
          no_longer = omega (arith, length-append c (drop (length c) s.lasting), length-drop (length c) s.lasting, is.lasting_high, is.low_lasting, short);
          kept = λ i within less clean. elim (cases_lt i (length c)) [
            | inl old ↦ get_or_append_left c (drop (length c) s.lasting) 0 i old ∙ left.kept i within old clean
            | inr past ↦ let same : length c + (i - length c) ≡ i = omega arith in
                get_or-append_right c (drop (length c) s.lasting) (length c) i 0 refl past ∙ get_or-drop (length c) s.lasting (i - length c) 0 ∙ ap (λ (k : ℕ). get_or s.lasting k 0) same
          ];
        },
        record { no_shorter = omega (arith, left.no_shorter, short); front = take_at c (drop (length c) s.lasting) (length c) refl },
      )
    ]

    back : (d : List ℕ) → MayLeave s d → Shortened n d c → MayLeave (changed (Cut n) s) c
    back d left cut =
        let size : length c ≡ min (length c) (length d) = sym (ap length cut.front) ∙ length-take (length c) d in
        record {
          no_shorter = omega (arith, left.no_shorter, cut.no_shorter);
          no_longer = omega (arith, left.no_longer, size);
          kept = λ i within less clean. ap (λ (l : List ℕ). get_or l i 0) (sym cut.front) ∙ get_or-take (length c) d i 0 less ∙ left.kept i within (omega (arith, less, size)) clean;
        }

pub cut_file : (s : FileState) (n : ℕ) → IsFile s → IsFile (changed (Cut n) s)
cut_file s n is =
    let size = length-take n s.seen in
    record {
      room = is.room;
      low_seen = omega (arith, size, is.low_seen);
      seen_high = omega (arith, size, is.seen_high);
      low_lasting = omega (arith, is.low_lasting);
      lasting_high = is.lasting_high;
      regrown = λ i low within. get_or_dirty i low within;
      kept = λ i within inside clean. get_or-take n s.seen i 0 (omega (arith, size, inside)) ∙ is.kept i within (omega (arith, size, inside)) clean;
    }
  where
    get_or_dirty : (i : ℕ) → min s.low n ≤ i → i < length (take n s.seen) → get_or s.dirty i false ≡ true
    get_or_dirty i low within = is.regrown i (omega (arith, low, within, length-take n s.seen)) (omega (arith, within, length-take n s.seen))

-- what the crash of a test leaves is an outcome
pub crashed_left : (pick : ℕ) (s : FileState) → IsFile s → MayLeave s (crashed pick s)
crashed_left pick s is = go (pick == 0) (pick == 1)
  where
    size : length (spoiled pick s) ≡ length s.seen
    size = length-map-range_with_len (λ i. cond (is_clean s i) (get_or s.seen i 0) pick) 0 (length s.seen)

    same : (a b : Bool) (i : ℕ) → a ≡ true → b ≡ false → cond (a && not b) (get_or s.seen i 0) pick ≡ get_or s.seen i 0
    same true false i is clean = refl
    same true true i is clean = absurd (cc clean)
    same false b i is clean = absurd (cc is)

    go : (a b : Bool) → MayLeave s (cond a s.lasting (cond b s.seen (spoiled pick s)))
    go true b = record { no_shorter = is.low_lasting; no_longer = is.lasting_high; kept = λ i within less clean. refl }
    go false true = seen_left s is
    go false false = record {
      no_shorter = omega (arith, size, is.low_seen);
      no_longer = omega (arith, size, is.seen_high);
      kept = λ i within less clean.
          let inside : i < length s.seen = omega (arith, size) in
          get_or-map-range_with_len (λ i. cond (is_clean s i) (get_or s.seen i 0) pick) 0 (length s.seen) i i 0 inside (omega arith)
          ∙ same (nat_lt i (length s.lasting)) (get_or s.dirty i false) i (less_yes i (length s.lasting) within) clean
          ∙ is.kept i within inside clean;
    }

pub same_state : (a a' l : List ℕ) (d d' : List Bool) (low h h' : ℕ) → a ≡ a' → d ≡ d' → h ≡ h'
    → (let x : FileState = record { seen = a; lasting = l; dirty = d; low = low; high = h } in let y : FileState = record { seen = a'; lasting = l; dirty = d'; low = low; high = h' } in x ≡ y)
same_state a a' l d d' low h h' p q r = λ i. record { seen = p i; lasting = l; dirty = q i; low = low; high = r i }

pub length-marked : (at n : ℕ) (d : List Bool) → at + n ≤ length d → length (take at d ++ replicate n true ++ drop (at + n) d) ≡ length d
length-marked at n d room = omega (arith, length-append (take at d ++ replicate n true) (drop (at + n) d), length-append (take at d) (replicate n true), length-take at d, length-drop (at + n) d, length-replicate n true)

-- a buffer of which the front counts, spoiled
pub spoiled_front : (seen lasting : List ℕ) (dirty : List Bool) (len lasting_len pick : ℕ) → len ≤ length seen → lasting_len ≤ length lasting
    → map (λ i. cond (nat_lt i lasting_len && not (get_or dirty i false)) (get_or seen i 0) pick) (range_with_len 0 len)
    ≡ spoiled pick (record { seen = take len seen; lasting = take lasting_len lasting; dirty = dirty; low = 0; high = 0 })
spoiled_front seen lasting dirty len lasting_len pick fits lasting_fits =
    let size : length (take len seen) ≡ len = omega (arith, length-take len seen) in
    let last : length (take lasting_len lasting) ≡ lasting_len = omega (arith, length-take lasting_len lasting) in
    same_lists _ _ (length-map-range_with_len (λ i. cond (nat_lt i lasting_len && not (get_or dirty i false)) (get_or seen i 0) pick) 0 len ∙ sym (length-map-range_with_len (λ i. cond (nat_lt i (length (take lasting_len lasting)) && not (get_or dirty i false)) (get_or (take len seen) i 0) pick) 0 (length (take len seen)) ∙ size))
    (λ i d less.
    let inside : i < len = omega (arith, less, length-map-range_with_len (λ i. cond (nat_lt i lasting_len && not (get_or dirty i false)) (get_or seen i 0) pick) 0 len) in
    get_or-map-range_with_len (λ i. cond (nat_lt i lasting_len && not (get_or dirty i false)) (get_or seen i 0) pick) 0 len i i d inside (omega arith)
    ∙ sym (get_or-map-range_with_len (λ i. cond (nat_lt i (length (take lasting_len lasting)) && not (get_or dirty i false)) (get_or (take len seen) i 0) pick) 0 (length (take len seen)) i i d (omega (arith, size)) (omega arith)
    ∙ ap (λ (k : ℕ). cond (nat_lt i k && not (get_or dirty i false)) (get_or (take len seen) i 0) pick) last
    ∙ ap (λ (b : ℕ). cond (nat_lt i lasting_len && not (get_or dirty i false)) b pick) (get_or-take len seen i 0 inside)))
