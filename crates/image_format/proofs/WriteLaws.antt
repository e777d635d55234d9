-- Runs that are written.
use Rattle.std.proofs.Common.{◌≡◌, refl, sym, ◌∙◌, ap, subst, ℕ, zero, suc, ◌+◌, ◌-◌, ◌*◌, ◌<◌, ◌≤◌, ◌^◌, nat_le, nat_lt, ◌||◌, Bool, true, false, ⊎_elim, List, [], ◌∷◌, ◌++◌, length, get_or, take, drop, Some, None, arith, append_assoc}
use Rattle.std.specs.Prelude.{slice_index, slice_get, if◌then◌else◌}
use Rattle.std.specs.Option.{option_or}
use Rattle.std.specs.List.{flat_map}
use Rattle.std.specs.Int.{w64, to_be_bytes}
use Rattle.std.proofs.lemmas.Bool.{cases_lt}
use Rattle.std.proofs.lemmas.Bool.Decides.{nat_tests}
use Rattle.std.proofs.lemmas.List.{append-nil, take_more, drop_more, drop_all, flat_map_more, get_or-take, get_or-drop, length-drop, length-take, length-take-le}
use Rattle.std.proofs.lemmas.Option.{slice_get_past, slice_get-get_or}
use Rattle.cell_sets.specs.declared.runs.Run.{Run}
use Rattle.cell_sets.specs.Runs.{in_run, in_runs, IsRising}
use Rattle.image_format.specs.declared.fields.Fields.{Fields}
use Rattle.image_format.specs.Image.{AreWords, AreRuns, AreFields, IsImage, word_in_run, word_in_runs}
use Rattle.image_format.specs.Spelling.{head_bytes, run_bytes, runs_length, length_with, spelling}
use Rattle.image_format.specs.Written.{filled_run, filled, image_of, listed_word, AreListed, HasCells, size_of_runs, HasWords}

-- four texts, one after another
pub four_more : (old a b c d a' b' c' d' n1 n2 n3 n4 : List ℕ) → a ≡ a' → b ≡ b' → c ≡ c' → d ≡ d' → n1 ≡ old ++ a → n2 ≡ n1 ++ b → n3 ≡ n2 ++ c → n4 ≡ n3 ++ d → n4 ≡ old ++ (a' ++ (b' ++ (c' ++ d')))
four_more old a b c d a' b' c' d' n1 n2 n3 n4 ea eb ec ed e1 e2 e3 e4 =
    e4 ∙ ap (λ (l : List ℕ). l ++ d) (e3 ∙ ap (λ (l : List ℕ). l ++ c) (e2 ∙ ap (λ (l : List ℕ). l ++ b) e1))
    ∙ append_assoc ((old ++ a) ++ b) c d ∙ append_assoc (old ++ a) b (c ++ d) ∙ append_assoc old a (b ++ (c ++ d))
    ∙ rw (ea, eb, ec, ed) refl

-- ---- bounds

pub rising_low : (low : ℕ) (runs : List Run) (high : ℕ) → IsRising low runs high → low ≤ high
rising_low low [] high is = is
rising_low low (r ∷ runs) high is = let a = is.0 in let b = rising_low (r.first + r.count + 1) runs high is.2 in omega arith

pub sizes_short : (low : ℕ) (runs : List Run) → IsRising low runs 262145 → size_of_runs runs + 8 * low ≤ 2097160
sizes_short low [] is = omega arith
sizes_short low (r ∷ runs) is = let a = is.0 in let more = sizes_short (r.first + r.count + 1) runs is.2 in omega arith

pub few_runs : (low : ℕ) (runs : List Run) → IsRising low runs 262145 → 2 * length runs + low ≤ 262145
few_runs low [] is = omega arith
few_runs low (r ∷ runs) is = let a = is.0 in let b = is.1 in let more = few_runs (r.first + r.count + 1) runs is.2 in omega arith

-- ---- the image that was written

pub runs_written : (low : ℕ) (memory : List ℕ) (runs : List Run) → IsRising low runs 262145 → IsRising low runs (length memory + 1) → HasWords memory runs → AreRuns low (filled memory runs)
runs_written low memory [] rising cells words = tt
runs_written low memory (r ∷ runs) rising cells words =
    let a = rising_low (r.first + r.count + 1) runs 262145 rising.2 in
    let b = rising_low (r.first + r.count + 1) runs (length memory + 1) cells.2 in
    let n : length (take r.count (drop r.first memory)) ≡ r.count = length-take-le r.count (drop r.first memory) (omega (arith, length-drop r.first memory)) in
    let low_is = rising.0 in let some = rising.1 in
    let next : r.first + length (take r.count (drop r.first memory)) + 1 ≡ r.first + r.count + 1 = omega arith in (
      record { rises = low_is; some = omega arith; within = omega arith; words = words.0 },
      subst (λ (k : ℕ). AreRuns k (filled memory runs)) (sym next) (runs_written (r.first + r.count + 1) memory runs rising.2 cells.2 words.1),
    )

pub sizes_written : (low : ℕ) (memory : List ℕ) (runs : List Run) → IsRising low runs (length memory + 1) → runs_length (filled memory runs) ≡ size_of_runs runs
sizes_written low memory [] cells = refl
sizes_written low memory (r ∷ runs) cells =
    let b = rising_low (r.first + r.count + 1) runs (length memory + 1) cells.2 in
    let n : length (take r.count (drop r.first memory)) ≡ r.count = length-take-le r.count (drop r.first memory) (omega (arith, length-drop r.first memory)) in
    let more = sizes_written (r.first + r.count + 1) memory runs cells.2 in
    omega arith

pub length_written : (memory : List ℕ) (runs : List Run) → length (filled memory runs) ≡ length runs
length_written memory [] = refl
length_written memory (r ∷ runs) = ap suc (length_written memory runs)

-- ---- as the loops go

-- the run at hand, and those that are left
pub left_cells : (runs : List Run) (i : ℕ) (d : Run) (high : ℕ) → i < length runs → (low : ℕ) × IsRising low (drop i runs) (high + 1) → (get_or runs i d).first + (get_or runs i d).count ≤ high
left_cells runs i d high lt is =
    let here : IsRising is.0 (get_or runs i d ∷ drop (i + 1) runs) (high + 1) = subst (λ (rs : List Run). IsRising is.0 rs (high + 1)) (drop_more runs i d lt) is.1 in
    let next = rising_low _ _ _ here.2 in
    omega arith

pub left_rising : (runs : List Run) (i : ℕ) (d : Run) (high : ℕ) → i < length runs → (low : ℕ) × IsRising low (drop i runs) high → (low : ℕ) × IsRising low (drop (i + 1) runs) high
left_rising runs i d high lt is =
    let here : IsRising is.0 (get_or runs i d ∷ drop (i + 1) runs) high = subst (λ (rs : List Run). IsRising is.0 rs high) (drop_more runs i d lt) is.1 in
    ((get_or runs i d).first + (get_or runs i d).count + 1, here.2)

pub left_size : (runs : List Run) (i : ℕ) (d : Run) → i < length runs → size_of_runs (drop i runs) ≡ 8 + 8 * (get_or runs i d).count + size_of_runs (drop (i + 1) runs)
left_size runs i d lt = ap size_of_runs (drop_more runs i d lt)

pub left_list : (memory now new total : List ℕ) (runs : List Run) (i : ℕ) (d : Run) → i < length runs → new ≡ now ++ run_bytes (filled_run memory (get_or runs i d))
    → now ++ flat_map run_bytes (filled memory (drop i runs)) ≡ total → new ++ flat_map run_bytes (filled memory (drop (i + 1) runs)) ≡ total
left_list memory now new total runs i d lt one so_far =
    let rest = flat_map run_bytes (filled memory (drop (i + 1) runs)) in
    ap (λ (l : List ℕ). l ++ rest) one ∙ append_assoc now (run_bytes (filled_run memory (get_or runs i d))) rest
    ∙ sym (ap (λ (rs : List Run). now ++ flat_map run_bytes (filled memory rs)) (drop_more runs i d lt)) ∙ so_far

pub left_words : (memory : List ℕ) (runs all : List Run) (i : ℕ) (d : Run) → i < length runs → AreWords (take (get_or runs i d).count (drop (get_or runs i d).first memory))
    → (HasWords memory (drop i runs) → HasWords memory all) → HasWords memory (drop (i + 1) runs) → HasWords memory all
left_words memory runs all i d lt one so_far more = so_far (subst (HasWords memory) (sym (drop_more runs i d lt)) (one, more))

pub no_runs_left : (memory now total : List ℕ) (runs : List Run) (i : ℕ) → length runs ≤ i → now ++ flat_map run_bytes (filled memory (drop i runs)) ≡ total → now ≡ total
no_runs_left memory now total runs i le so_far = sym (append-nil now) ∙ sym (ap (λ (rs : List Run). now ++ flat_map run_bytes (filled memory rs)) (drop_all i runs le)) ∙ so_far

pub no_words_left : (memory : List ℕ) (runs : List Run) (i : ℕ) → length runs ≤ i → (HasWords memory (drop i runs) → HasWords memory runs) → HasWords memory runs
no_words_left memory runs i le so_far = so_far (subst (HasWords memory) (sym (drop_all i runs le)) tt)

pub no_size_left : (runs : List Run) (i : ℕ) → length runs ≤ i → size_of_runs (drop i runs) ≡ 0
no_size_left runs i le = ap size_of_runs (drop_all i runs le)

-- ---- word by word

AreWords-push : (xs : List ℕ) (x : ℕ) → AreWords xs → x < 2 ^ 64 → AreWords (xs ++ x ∷ [])
AreWords-push [] x h lt zero = lt
AreWords-push [] x h lt (suc i) = omega arith
AreWords-push (y ∷ ys) x h lt zero = h 0
AreWords-push (y ∷ ys) x h lt (suc i) = AreWords-push ys x (λ k. h (suc k)) lt i

pub words_more : (xs : List ℕ) (i : ℕ) → i < length xs → get_or xs i 0 < 2 ^ 64 → AreWords (take i xs) → AreWords (take (i + 1) xs)
words_more xs i lt small so_far = subst AreWords (sym (take_more xs i 0 lt)) (AreWords-push (take i xs) (get_or xs i 0) so_far small)

pub texts_more : (old now new text xs : List ℕ) (i w : ℕ) → i < length xs → w ≡ get_or xs i 0 → text ≡ to_be_bytes w64 w → new ≡ now ++ text → now ≡ old ++ flat_map (to_be_bytes w64) (take i xs) → new ≡ old ++ flat_map (to_be_bytes w64) (take (i + 1) xs)
texts_more old now new text xs i w lt is spelled one so_far =
    one ∙ ap (λ (l : List ℕ). now ++ l) spelled ∙ ap (λ (l : List ℕ). l ++ to_be_bytes w64 w) so_far ∙ flat_map_more (to_be_bytes w64) old (take i xs) w
    ∙ ap (λ (x : ℕ). old ++ flat_map (to_be_bytes w64) (take i xs ++ x ∷ [])) is
    ∙ ap (λ (l : List ℕ). old ++ flat_map (to_be_bytes w64) l) (sym (take_more xs i 0 lt))

-- ---- the whole record

pub record_written : (f : Fields) (memory : List ℕ) (runs : List Run) (whole : ℕ) (old n1 n2 n3 : List ℕ) → HasCells memory runs → whole ≡ 109 + size_of_runs runs
    → n1 ≡ old ++ head_bytes f whole (length runs) → n2 ≡ n1 ++ flat_map run_bytes (filled memory runs) → n3 ≡ n2 ++ 0 ∷ [] → n3 ≡ old ++ spelling (image_of f runs memory) 0
record_written f memory runs whole old n1 n2 n3 cells is e1 e2 e3 =
    let body = flat_map run_bytes (filled memory runs) in
    let size : whole ≡ length_with (filled memory runs) = let s = sizes_written 0 memory runs cells in omega arith in
    e3 ∙ ap (λ (l : List ℕ). l ++ 0 ∷ []) (e2 ∙ ap (λ (l : List ℕ). l ++ body) e1)
    ∙ append_assoc (old ++ head_bytes f whole (length runs)) body (0 ∷ []) ∙ append_assoc old (head_bytes f whole (length runs)) (body ++ 0 ∷ [])
    ∙ ap (λ (n : ℕ). old ++ (head_bytes f n (length runs) ++ (body ++ 0 ∷ []))) size
    ∙ ap (λ (n : ℕ). old ++ (head_bytes f (length_with (filled memory runs)) n ++ (body ++ 0 ∷ []))) (sym (length_written memory runs))
    ∙ ap (λ (l : List ℕ). old ++ l) (sym (append_assoc (head_bytes f (length_with (filled memory runs)) (length (filled memory runs))) body (0 ∷ [])))

pub image_written : (f : Fields) (memory : List ℕ) (runs : List Run) → AreFields f → AreListed runs → HasCells memory runs → HasWords memory runs → IsImage (image_of f runs memory)
image_written f memory runs fields rising cells words =
    let few = few_runs 0 runs rising in
    let n = length_written memory runs in
    record { fields = fields; runs = runs_written 0 memory runs rising cells words; count = omega arith }

-- ---- the word of each cell

none_below : (low : ℕ) (runs : List Run) (high c : ℕ) → IsRising low runs high → c < low → in_runs runs c ≡ false
none_below low [] high c is lt = refl
none_below low (r ∷ runs) high c is lt =
    let a = is.0 in
    let more = none_below (r.first + r.count + 1) runs high c is.2 (omega arith) in
    let here : in_run r c ≡ false = grind (arith, nat_tests) in
    rw (here, more) refl

run_word : (r : Run) (memory : List ℕ) (c : ℕ) → r.first + r.count ≤ length memory → word_in_run (filled_run memory r) c ≡ (if in_run r c then Some (slice_index memory c) else None)
run_word r memory c le = ⊎_elim
    (λ below. let t : nat_le r.first c ≡ false = grind (arith, nat_tests) in rw t refl)
    (λ above. let t : nat_le r.first c ≡ true = grind (arith, nat_tests) in ⊎_elim
    (λ inside. let u : nat_lt c (r.first + r.count) ≡ true = grind (arith, nat_tests) in rw (t, u) (got inside above))
    (λ past. let u : nat_lt c (r.first + r.count) ≡ false = grind (arith, nat_tests) in rw (t, u) (slice_get_past (take r.count (drop r.first memory)) (c - r.first) (omega (arith, length-take r.count (drop r.first memory)))))
    (cases_lt c (r.first + r.count)))
    (cases_lt c r.first)
  where
    got : c < r.first + r.count → r.first ≤ c → slice_get (take r.count (drop r.first memory)) (c - r.first) ≡ Some (slice_index memory c)
    got lt ge =
        let xs = drop r.first memory in
        let i : r.first + (c - r.first) ≡ c = omega arith in
        slice_get-get_or (take r.count xs) (c - r.first) 0 (omega (arith, length-take r.count xs, length-drop r.first memory))
        ∙ ap Some (get_or-take r.count xs (c - r.first) 0 (omega arith) ∙ get_or-drop r.first memory (c - r.first) 0 ∙ ap (slice_index memory) i)

pub listed_words : (low : ℕ) (runs : List Run) (memory : List ℕ) (c : ℕ) → IsRising low runs (length memory + 1) → word_in_runs (filled memory runs) c ≡ listed_word runs memory c
listed_words low [] memory c is = refl
listed_words low (r ∷ runs) memory c is =
    let next = rising_low _ _ _ is.2 in
    let here = run_word r memory c (omega arith) in
    let more = listed_words (r.first + r.count + 1) runs memory c is.2 in
    rw (here, more) (joined (in_run r c) (in_runs runs c))
  where
    joined : (a b : Bool) → option_or (if a then Some (slice_index memory c) else None) (if b then Some (slice_index memory c) else None) ≡ (if a || b then Some (slice_index memory c) else None)
    joined true b = refl
    joined false b = refl
