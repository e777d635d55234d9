-- The joined content of records.
use Rattle.std.proofs.Common.{◌≡◌, ◌≢◌, ⊎_elim, inl, inr, refl, sym, ◌∙◌, ap, ℕ, ◌+◌, ◌-◌, ◌<◌, ◌≤◌, ◌==◌, nat_le, nat_lt, ◌&&◌, Bool, true, false, cond, List, [], ◌∷◌, ◌++◌, length, replicate, Option, Some, None, arith}
use Rattle.std.specs.Prelude.{slice_index, slice_index_or, slice_get, if◌then◌else◌}
use Rattle.std.specs.Option.{option_or}
use Rattle.std.proofs.Math.ListN.{set}
use Rattle.std.proofs.lemmas.Bool.{cases_lt, cases_eq}
use Rattle.std.proofs.lemmas.Bool.Decides.{nat_tests}
use Rattle.std.proofs.lemmas.List.{get_or-replicate, get_or_past, get_or-set_same, get_or-set_other, length-replicate}
use Rattle.std.proofs.lemmas.Option.{slice_get_past, slice_get-get_or}
use Rattle.page_frames.specs.Words.{words_of}
use Rattle.page_frames.specs.Frame.{IsElsewhere}
use Rattle.page_frames.proofs.Words.{length_words}
use Rattle.image_format.specs.Image.{WordRun, Image, AreRuns, word_in_run, word_in_runs}
use Rattle.image_chain.specs.Memory.{memory, joined, kept_word}

-- nothing is listed at first
pub none_listed : (n : ℕ) (words : List ℕ) (listed : List Bool) (c : ℕ) → listed ≡ replicate n false → kept_word (joined words listed) c ≡ None
none_listed n words listed c is =
    let none : slice_index_or listed c false ≡ false = ap (λ (l : List Bool). slice_index_or l c false) is ∙ ⊎_elim (λ lt. get_or-replicate n c false false lt) (λ ge. get_or_past (replicate n false) c false (omega (arith, length-replicate n false))) (cases_lt c n) in
    ap (λ (b : Bool). cond b (Some (slice_index words c)) None) none

-- whether a cell is among the first i cells of a run
abbrev pub among : ℕ → ℕ → ℕ → Bool
among first i c = nat_le first c && nat_lt c (first + i)

-- ---- cells that are listed, one after another

pub not_yet_marked : (listed : List Bool) (first c : ℕ) → slice_index_or listed c false ≡ cond (among first 0 c) true (slice_index_or listed c false)
not_yet_marked listed first c = let t : among first 0 c ≡ false = grind (arith, nat_tests) in sym (ap (λ (b : Bool). cond b true (slice_index_or listed c false)) t)

pub one_more_marked : (now old : List Bool) (first i c : ℕ) → first + i < length now → slice_index_or now c false ≡ cond (among first i c) true (slice_index_or old c false)
    → slice_index_or (set now (first + i) true) c false ≡ cond (among first (i + 1) c) true (slice_index_or old c false)
one_more_marked now old first i c lt so_far = ⊎_elim
    (λ here.
    let u : among first (i + 1) c ≡ true = grind (arith, nat_tests) in
    ap (λ (x : ℕ). slice_index_or (set now (first + i) true) x false) here ∙ get_or-set_same now (first + i) true false lt ∙ sym (ap (λ (b : Bool). cond b true (slice_index_or old c false)) u))
    (λ elsewhere.
    let u : among first (i + 1) c ≡ among first i c = same_test elsewhere in
    get_or-set_other now (first + i) c true false elsewhere ∙ so_far ∙ ap (λ (b : Bool). cond b true (slice_index_or old c false)) (sym u))
    (cases_eq c (first + i))
  where
    same_test : c ≢ first + i → among first (i + 1) c ≡ among first i c
    same_test elsewhere = ⊎_elim
        (λ low. (let a : among first (i + 1) c ≡ false = grind (arith, nat_tests) in let b : among first i c ≡ false = grind (arith, nat_tests) in a ∙ sym b))
        (λ high. ⊎_elim
        (λ inside. (let a : among first (i + 1) c ≡ true = grind (arith, nat_tests) in let b : among first i c ≡ true = grind (arith, nat_tests) in a ∙ sym b))
        (λ outside. (let a : among first (i + 1) c ≡ false = grind (arith, nat_tests) in let b : among first i c ≡ false = grind (arith, nat_tests) in a ∙ sym b))
        (cases_lt c (first + i)))
        (cases_lt c first)

-- the cells of a run are loaded, and listed
pub run_loaded : (old new : List ℕ) (listed marked : List Bool) (bytes : List ℕ) (first count c : ℕ) → ((i : ℕ) → i < count → slice_index new (first + i) ≡ slice_index (words_of bytes count) i)
    → ((k : ℕ) → IsElsewhere first count k → slice_index new k ≡ slice_index old k) → ((k : ℕ) → slice_index_or marked k false ≡ cond (among first count k) true (slice_index_or listed k false))
    → kept_word (joined new marked) c ≡ cond (among first count c) (Some (slice_index (words_of bytes count) (c - first))) (kept_word (joined old listed) c)
run_loaded old new listed marked bytes first count c loaded same marks = ⊎_elim
    (λ low.
    let t : among first count c ≡ false = grind (arith, nat_tests) in
    outside t (same c (inl low)))
    (λ high. ⊎_elim
    (λ inside.
    let t : among first count c ≡ true = grind (arith, nat_tests) in
    let e : first + (c - first) ≡ c = omega arith in
    let marked_is : slice_index_or marked c false ≡ true = marks c ∙ ap (λ (b : Bool). cond b true (slice_index_or listed c false)) t in
    let word : slice_index new c ≡ slice_index (words_of bytes count) (c - first) = ap (slice_index new) (sym e) ∙ loaded (c - first) (omega arith) in
    ap (λ (b : Bool). cond b (Some (slice_index new c)) None) marked_is ∙ ap Some word
    ∙ sym (ap (λ (b : Bool). cond b (Some (slice_index (words_of bytes count) (c - first))) (kept_word (joined old listed) c)) t))
    (λ past.
    let t : among first count c ≡ false = grind (arith, nat_tests) in
    outside t (same c (inr past)))
    (cases_lt c (first + count)))
    (cases_lt c first)
  where
    outside : among first count c ≡ false → slice_index new c ≡ slice_index old c
        → kept_word (joined new marked) c ≡ cond (among first count c) (Some (slice_index (words_of bytes count) (c - first))) (kept_word (joined old listed) c)
    outside t word =
        let marked_is : slice_index_or marked c false ≡ slice_index_or listed c false = marks c ∙ ap (λ (b : Bool). cond b true (slice_index_or listed c false)) t in
        ap (λ (b : Bool). cond b (Some (slice_index new c)) None) marked_is ∙ ap (λ (w : ℕ). cond (slice_index_or listed c false) (Some w) None) word
        ∙ sym (ap (λ (b : Bool). cond b (Some (slice_index (words_of bytes count) (c - first))) (kept_word (joined old listed) c)) t)

-- all cells of the run are listed
pub run_listed : (bytes : List ℕ) (first count c : ℕ) (now old : Option ℕ) → now ≡ cond (among first count c) (Some (slice_index (words_of bytes count) (c - first))) old
    → now ≡ option_or (word_in_run (record { first = first; words = words_of bytes count }) c) old
run_listed bytes first count c now old is = is ∙ ⊎_elim
    (λ low. let t : nat_le first c ≡ false = grind (arith, nat_tests) in rw t refl)
    (λ high. let t : nat_le first c ≡ true = grind (arith, nat_tests) in ⊎_elim
    (λ inside. let u : nat_lt c (first + count) ≡ true = grind (arith, nat_tests) in rw (t, u, slice_get-get_or (words_of bytes count) (c - first) 0 (omega (arith, length_words bytes 0 count))) refl)
    (λ outside. let u : nat_lt c (first + count) ≡ false = grind (arith, nat_tests) in rw (t, u, slice_get_past (words_of bytes count) (c - first) (omega (arith, length_words bytes 0 count))) refl)
    (cases_lt c (first + count)))
    (cases_lt c first)

-- ---- run after run

no_word : (r : WordRun) (c : ℕ) → c < r.first → word_in_run r c ≡ None
no_word r c lt = let t : nat_le r.first c ≡ false = grind (arith, nat_tests) in ap (λ (b : Bool). cond b (slice_get r.words (c - r.first)) None) t

below_all : (low : ℕ) (rs : List WordRun) (c : ℕ) → AreRuns low rs → c < low → word_in_runs rs c ≡ None
below_all low [] c are lt = refl
below_all low (r ∷ rs) c are lt =
    let rises = are.0.rises in
    rw (no_word r c (omega arith), below_all (r.first + length r.words + 1) rs c are.1 (omega arith)) refl

-- a cell of one run is in no later one
pub next_run : (low : ℕ) (r : WordRun) (rs : List WordRun) (c : ℕ) (old new total : Option ℕ) → AreRuns low (r ∷ rs) → new ≡ option_or (word_in_run r c) old → option_or (word_in_runs (r ∷ rs) c) old ≡ total → option_or (word_in_runs rs c) new ≡ total
next_run low r rs c old new total are is so_far = ap (option_or (word_in_runs rs c)) is ∙ turned ∙ so_far
  where
    turned : option_or (word_in_runs rs c) (option_or (word_in_run r c) old) ≡ option_or (option_or (word_in_run r c) (word_in_runs rs c)) old
    turned = ⊎_elim
        (λ before. rw (below_all (r.first + length r.words + 1) rs c are.1 (omega arith)) (joined_none (word_in_run r c)))
        (λ after. ap (λ (o : Option ℕ). option_or (word_in_runs rs c) (option_or o old)) (past after) ∙ sym (ap (λ (o : Option ℕ). option_or (option_or o (word_in_runs rs c)) old) (past after)))
        (cases_lt c (r.first + length r.words))
      where
        joined_none : (o : Option ℕ) → option_or o old ≡ option_or (option_or o None) old
        joined_none None = refl
        joined_none (Some x) = refl

        past : r.first + length r.words ≤ c → word_in_run r c ≡ None
        past le = let t : nat_le r.first c ≡ true = grind (arith, nat_tests) in ap (λ (b : Bool). cond b (slice_get r.words (c - r.first)) None) t ∙ slice_get_past r.words (c - r.first) (omega arith)

-- ---- record after record

pub memory_push : (rs : List Image) (r : Image) (c : ℕ) → memory (rs ++ r ∷ []) c ≡ option_or (word_in_runs r.runs c) (memory rs c)
memory_push [] r c = none_behind (word_in_runs r.runs c)
  where
    none_behind : (o : Option ℕ) → option_or None o ≡ option_or o None
    none_behind None = refl
    none_behind (Some x) = refl
memory_push (s ∷ rs) r c = ap (λ (o : Option ℕ). option_or o (word_in_runs s.runs c)) (memory_push rs r c) ∙ grouped (word_in_runs r.runs c) (memory rs c) (word_in_runs s.runs c)
  where
    grouped : (a b d : Option ℕ) → option_or (option_or a b) d ≡ option_or a (option_or b d)
    grouped None b d = refl
    grouped (Some x) b d = refl

-- ---- past the end

-- no cell past the end is listed
pub none_past : (words : List ℕ) (listed : List Bool) (n c : ℕ) → length listed ≡ n → n ≤ c → kept_word (joined words listed) c ≡ None
none_past words listed n c size past =
    let none : slice_index_or listed c false ≡ false = get_or_past listed c false (omega (arith, size)) in
    ap (λ (b : Bool). cond b (Some (slice_index words c)) None) none
