-- Runs, one after another.
use Rattle.std.proofs.Common.{◌≡◌, refl, sym, ◌∙◌, ap, subst, ℕ, zero, suc, ◌+◌, ◌-◌, ◌*◌, ◌<◌, ◌≤◌, ◌^◌, nat_le, ◌&&◌, true, List, [], ◌∷◌, ◌++◌, length, Result, Ok, Err, IsOk, arith, append_assoc, length-append, inl, inr, rules}
use Rattle.std.specs.Prelude.{slice_index}
use Rattle.std.specs.List.{flat_map}
use Rattle.std.specs.Int.{w32, w64, to_be_bytes}
use Rattle.std.proofs.lemmas.Bool.{cases_lt}
use Rattle.std.proofs.lemmas.Bool.Decides.{nat_tests}
use Rattle.std.proofs.lemmas.List.{places, take_all, get_or_past, append-nil}
use Rattle.page_frames.specs.Words.{eight, word_at, words_from, words_of}
use Rattle.page_frames.proofs.Words.{length_words, get_words, word_of, word_eight, bytes_of_words}
use Rattle.image_format.specs.Image.{WordRun, IsBytes, AreWords, IsRun, AreRuns}
use Rattle.image_format.specs.Spelling.{run_bytes, runs_length}
use Rattle.image_format.specs.Reading.{◌>>=◌, bytes_at, field_at, run_at, runs_at, rest_of, runs_of}
use Rattle.image_format.specs.Runs.{IsWithin}
use Rattle.image_format.proofs.FieldLaws.{bind_ok, ok_is, Takes, Takes-then, wide32, wide64, field_takes, bytes_takes, field_again, bytes_again}

-- ---- words

pub length_encoded : (words : List ℕ) → length (flat_map (to_be_bytes w64) words) ≡ 8 * length words
length_encoded [] = refl
length_encoded (w ∷ words) = let more = length_encoded words in omega (arith, length-append (to_be_bytes w64 w) (flat_map (to_be_bytes w64) words))

-- eight bytes are a word
words_fit : (bytes : List ℕ) (n : ℕ) → IsBytes bytes → AreWords (words_of bytes n)
words_fit bytes n fits k =
    elim (cases_lt k n) [
      | inl lt ↦ rw (get_words bytes 0 n k lt) (rw (word_eight bytes (0 + k)) (wide64.below (eight bytes ((0 + k) * 8)) (eight_fit bytes ((0 + k) * 8) fits)))
      | inr le ↦ rw (get_or_past (words_of bytes n) k 0 (omega (arith, length_words bytes 0 n))) (omega arith)
    ]
  where
    eight_fit : (bs : List ℕ) (a : ℕ) → IsBytes bs → IsBytes (eight bs a)
    eight_fit bs a small zero = small a
    eight_fit bs a small (suc zero) = small (a + 1)
    eight_fit bs a small (suc (suc zero)) = small (a + 2)
    eight_fit bs a small (suc (suc (suc zero))) = small (a + 3)
    eight_fit bs a small (suc (suc (suc (suc zero)))) = small (a + 4)
    eight_fit bs a small (suc (suc (suc (suc (suc zero))))) = small (a + 5)
    eight_fit bs a small (suc (suc (suc (suc (suc (suc zero)))))) = small (a + 6)
    eight_fit bs a small (suc (suc (suc (suc (suc (suc (suc zero))))))) = small (a + 7)
    eight_fit bs a small (suc (suc (suc (suc (suc (suc (suc (suc n)))))))) = omega arith

-- the bytes of words, read as words
words_again : (before words rest : List ℕ) (c : ℕ) → length before ≡ c * 8 → AreWords words → words_from (before ++ (flat_map (to_be_bytes w64) words ++ rest)) c (length words) ≡ words
words_again before [] rest c len fits = refl
words_again before (w ∷ words) rest c len fits =
    let text = to_be_bytes w64 w in
    let after = flat_map (to_be_bytes w64) words ++ rest in
    let bytes = before ++ (flat_map (to_be_bytes w64) (w ∷ words) ++ rest) in
    let regrouped : bytes ≡ (before ++ text) ++ after = ap (λ (l : List ℕ). before ++ l) (append_assoc text (flat_map (to_be_bytes w64) words) rest) ∙ sym (append_assoc before text after) in
    let first : word_at bytes c ≡ w = word_of bytes text c (λ i lt. ap (λ (l : List ℕ). slice_index l (c * 8 + i)) regrouped ∙ here before text after (c * 8) i len lt) ∙ wide64.again w (fits 0) in
    let more : words_from bytes (c + 1) (length words) ≡ words = ap (λ (l : List ℕ). words_from l (c + 1) (length words)) regrouped ∙ words_again (before ++ text) words rest (c + 1) (omega (arith, length-append before text)) (λ i. fits (suc i)) in
    ap (λ (x : ℕ). x ∷ words_from bytes (c + 1) (length words)) first ∙ ap (λ (l : List ℕ). w ∷ l) more
  where
    here : (before text after : List ℕ) (n i : ℕ) → length before ≡ n → i < length text → slice_index ((before ++ text) ++ after) (n + i) ≡ slice_index text i
    here before text after n i len lt = search (rules, places)

-- ---- one run

pub run_takes : (end least : ℕ) (bytes : List ℕ) (x : WordRun × List ℕ) → IsBytes bytes → run_at end least bytes ≡ Ok x → Takes bytes (run_bytes x.0) x.1 × IsRun least x.0
unfolding run_at
run_takes end least bytes x fits e =
    let a = bind_ok (field_at w32 (λ n. nat_le least n) (end - length bytes) end bytes) (λ first. field_at w32 (λ n. nat_le 1 n && nat_le (first.0 + n) 262144) (end - length first.1) end first.1 >>= λ count. bytes_at (8 * count.0) end count.1 >>= λ words. Ok (record { first = first.0; words = words_of words.0 count.0 }, words.1)) x e in
    let b = bind_ok (field_at w32 (λ n. nat_le 1 n && nat_le (a.0.0 + n) 262144) (end - length a.0.1) end a.0.1) (λ count. bytes_at (8 * count.0) end count.1 >>= λ words. Ok (record { first = a.0.0; words = words_of words.0 count.0 }, words.1)) x a.2 in
    let c = bind_ok (bytes_at (8 * b.0.0) end b.0.1) (λ words. Ok (record { first = a.0.0; words = words_of words.0 b.0.0 }, words.1)) x b.2 in
    let t0 = field_takes w32 (2 ^ 32) wide32 (λ n. nat_le least n) (end - length bytes) end bytes a.0 fits a.1 in
    let t1 = field_takes w32 (2 ^ 32) wide32 (λ n. nat_le 1 n && nat_le (a.0.0 + n) 262144) (end - length a.0.1) end a.0.1 b.0 t0.0.rest_fits b.1 in
    let t2 = bytes_takes (8 * b.0.0) end b.0.1 c.0 t1.0.rest_fits c.1 in
    let words = words_of c.0.0 b.0.0 in
    let count : length words ≡ b.0.0 = length_words c.0.0 0 b.0.0 in
    let encoded : flat_map (to_be_bytes w64) words ≡ c.0.0 = bytes_of_words c.0.0 0 b.0.0 t2.2 (omega (arith, t2.1)) ∙ take_all (b.0.0 * 8) c.0.0 (omega (arith, t2.1)) in
    let t2' : Takes b.0.1 (flat_map (to_be_bytes w64) words) c.0.1 = subst (λ (text : List ℕ). Takes b.0.1 text c.0.1) (sym encoded) t2.0 in
    let t1' : Takes a.0.1 (to_be_bytes w32 (length words)) b.0.1 = subst (λ (n : ℕ). Takes a.0.1 (to_be_bytes w32 n) b.0.1) (sym count) t1.0 in
    let e12 = Takes-then a.0.1 (to_be_bytes w32 (length words)) b.0.1 (flat_map (to_be_bytes w64) words) c.0.1 t1' t2' in
    let e02 = Takes-then bytes (to_be_bytes w32 a.0.0) a.0.1 (to_be_bytes w32 (length words) ++ flat_map (to_be_bytes w64) words) c.0.1 t0.0 e12 in
    let made : WordRun × List ℕ = (record { first = a.0.0; words = words }, c.0.1) in
    let low : least ≤ a.0.0 = grind (arith, nat_tests, t0.2) in
    let some : 1 ≤ b.0.0 = grind (arith, nat_tests, t1.2) in
    let within : a.0.0 + b.0.0 ≤ 262144 = grind (arith, nat_tests, t1.2) in
    subst (λ (y : WordRun × List ℕ). Takes bytes (run_bytes y.0) y.1 × IsRun least y.0) (ok_is made x c.2)
    (e02, record { rises = low; some = omega arith; within = omega arith; words = words_fit c.0.0 b.0.0 t2.2 })

pub run_again : (end least : ℕ) (r : WordRun) (rest : List ℕ) → IsRun least r → run_at end least (run_bytes r ++ rest) ≡ Ok (r, rest)
unfolding run_at
run_again end least r rest is =
    let n = length r.words in
    let text = flat_map (to_be_bytes w64) r.words in
    let bytes = run_bytes r ++ rest in
    let after = to_be_bytes w32 n ++ (text ++ rest) in
    let regrouped : bytes ≡ to_be_bytes w32 r.first ++ after = append_assoc (to_be_bytes w32 r.first) (to_be_bytes w32 n ++ text) rest ∙ ap (λ (l : List ℕ). to_be_bytes w32 r.first ++ l) (append_assoc (to_be_bytes w32 n) text rest) in
    let low : nat_le least r.first ≡ true = let h = is.rises in grind (arith, nat_tests) in
    let in_range : (nat_le 1 n && nat_le (r.first + n) 262144) ≡ true = let s = is.some in let w = is.within in grind (arith, nat_tests) in
    let words : words_of text n ≡ r.words = ap (λ (l : List ℕ). words_from l 0 n) (sym (append-nil text)) ∙ words_again [] r.words [] 0 refl is.words in
    let s = is.some in let w = is.within in
    ap (λ (l : List ℕ). field_at w32 (λ n. nat_le least n) (end - length bytes) end l >>= λ first. field_at w32 (λ n. nat_le 1 n && nat_le (first.0 + n) 262144) (end - length first.1) end first.1 >>= λ count. bytes_at (8 * count.0) end count.1 >>= λ words. Ok (record { first = first.0; words = words_of words.0 count.0 }, words.1)) regrouped
    ∙ rw (
      field_again w32 (2 ^ 32) wide32 (λ n. nat_le least n) (end - length bytes) end r.first after (omega arith) low,
      field_again w32 (2 ^ 32) wide32 (λ m. nat_le 1 m && nat_le (r.first + m) 262144) (end - length after) end n (text ++ rest) (omega arith) in_range,
      bytes_again (8 * n) end text rest (length_encoded r.words),
      words,
    ) refl

-- what a run that was read says of numbers
pub run_bounds : (end least first count : ℕ) (words bytes more : List ℕ) → IsBytes bytes → run_at end least bytes ≡ Ok (record { first = first; words = words_of words count }, more)
    → IsWithin least first count (length more) (length bytes)
run_bounds end least first count words bytes more fits e =
    let t = run_takes end least bytes (record { first = first; words = words_of words count }, more) fits e in
    let is = t.1 in
    let n : length (words_of words count) ≡ count = length_words words 0 count in
    let size = length_run (record { first = first; words = words_of words count }) in
    let all = ap length t.0.parts ∙ length-append (run_bytes (record { first = first; words = words_of words count })) more in
    let rises = is.rises in let some = is.some in let within = is.within in
    record { rises = rises; some = omega arith; within = omega arith; size = omega arith }
  where
    length_run : (r : WordRun) → length (run_bytes r) ≡ 8 + 8 * length r.words
    length_run r = let e = length_encoded r.words in omega (arith, length-append (to_be_bytes w32 r.first) (to_be_bytes w32 (length r.words) ++ flat_map (to_be_bytes w64) r.words), length-append (to_be_bytes w32 (length r.words)) (flat_map (to_be_bytes w64) r.words))

-- ---- many runs

pub length_runs : (runs : List WordRun) → length (flat_map run_bytes runs) ≡ runs_length runs
length_runs [] = refl
length_runs (r ∷ runs) =
    let more = length_runs runs in
    let words = flat_map (to_be_bytes w64) r.words in
    let e = length_encoded r.words in
    omega (arith, length-append words (flat_map run_bytes runs))

pub runs_take : (n end least : ℕ) (bytes : List ℕ) (x : List WordRun × List ℕ) → IsBytes bytes → runs_at n end least bytes ≡ Ok x → Takes bytes (flat_map run_bytes x.0) x.1 × (length x.0 ≡ n) × AreRuns least x.0
unfolding runs_at
runs_take zero end least bytes x fits e =
    subst (λ (y : List WordRun × List ℕ). Takes bytes (flat_map run_bytes y.0) y.1 × (length y.0 ≡ 0) × AreRuns least y.0) (ok_is ([], bytes) x e) (record { parts = refl; rest_fits = fits }, refl, tt)
runs_take (suc n) end least bytes x fits e =
    let a = bind_ok (run_at end least bytes) (λ run. runs_at n end (run.0.first + length run.0.words + 1) run.1 >>= λ more. Ok (run.0 ∷ more.0, more.1)) x e in
    let next = a.0.0.first + length a.0.0.words + 1 in
    let b = bind_ok (runs_at n end next a.0.1) (λ more. Ok (a.0.0 ∷ more.0, more.1)) x a.2 in
    let one = run_takes end least bytes a.0 fits a.1 in
    let others = runs_take n end next a.0.1 b.0 one.0.rest_fits b.1 in
    let both = Takes-then bytes (run_bytes a.0.0) a.0.1 (flat_map run_bytes b.0.0) b.0.1 one.0 others.0 in
    let made : List WordRun × List ℕ = (a.0.0 ∷ b.0.0, b.0.1) in
    subst (λ (y : List WordRun × List ℕ). Takes bytes (flat_map run_bytes y.0) y.1 × (length y.0 ≡ suc n) × AreRuns least y.0) (ok_is made x b.2) (both, ap suc others.1, (one.1, others.2))

pub runs_again : (end least : ℕ) (runs : List WordRun) (rest : List ℕ) → AreRuns least runs → runs_at (length runs) end least (flat_map run_bytes runs ++ rest) ≡ Ok (runs, rest)
unfolding runs_at
runs_again end least [] rest are = refl
runs_again end least (r ∷ runs) rest are =
    let after = flat_map run_bytes runs ++ rest in
    ap (runs_at (suc (length runs)) end least) (append_assoc (run_bytes r) (flat_map run_bytes runs) rest)
    ∙ rw (run_again end least r after are.0, runs_again end (r.first + length r.words + 1) runs rest are.1) refl

-- ---- as the loop goes

put_front : (run : WordRun) (read : Result (List WordRun × List ℕ) ℕ) → rest_of (read >>= λ more. Ok (run ∷ more.0, more.1)) ≡ rest_of read
put_front run (Ok x) = refl
put_front run (Err e) = refl

step : (n end least : ℕ) (bytes : List ℕ) (run : WordRun) (more : List ℕ) → run_at end least bytes ≡ Ok (run, more) → runs_at (suc n) end least bytes ≡ (runs_at n end (run.first + length run.words + 1) more >>= λ others. Ok (run ∷ others.0, others.1))
unfolding runs_at
step n end least bytes run more is = ap (λ (r : Result (WordRun × List ℕ) ℕ). r >>= λ run. runs_at n end (run.0.first + length run.0.words + 1) run.1 >>= λ more. Ok (run.0 ∷ more.0, more.1)) is

stuck : (n end least : ℕ) (bytes : List ℕ) (e : ℕ) → run_at end least bytes ≡ Err e → runs_at (suc n) end least bytes ≡ Err e
unfolding runs_at
stuck n end least bytes e is = ap (λ (r : Result (WordRun × List ℕ) ℕ). r >>= λ run. runs_at n end (run.0.first + length run.0.words + 1) run.1 >>= λ more. Ok (run.0 ∷ more.0, more.1)) is

none : (end least : ℕ) (bytes : List ℕ) → runs_at 0 end least bytes ≡ Ok ([], bytes)
unfolding runs_at
none end least bytes = refl

-- the run that was read, with the number of its words as the code has it
next_least : (first count : ℕ) (words : List ℕ) → first + length (words_of words count) + 1 ≡ first + count + 1
next_least first count words = let n = length_words words 0 count in omega arith

pub goes_on : (count i end least first n : ℕ) (words bytes more : List ℕ) (total : Result (List ℕ) ℕ) → i < count → run_at end least bytes ≡ Ok (record { first = first; words = words_of words n }, more)
    → rest_of (runs_at (count - i) end least bytes) ≡ total → rest_of (runs_at (count - (i + 1)) end (first + n + 1) more) ≡ total
goes_on count i end least first n words bytes more total less is so_far =
    let k : count - i ≡ suc (count - (i + 1)) = omega arith in
    let run : WordRun = record { first = first; words = words_of words n } in
    ap (λ (low : ℕ). rest_of (runs_at (count - (i + 1)) end low more)) (sym (next_least first n words))
    ∙ sym (put_front run (runs_at (count - (i + 1)) end (first + length (words_of words n) + 1) more))
    ∙ sym (ap rest_of (step (count - (i + 1)) end least bytes run more is))
    ∙ sym (ap (λ (m : ℕ). rest_of (runs_at m end least bytes)) k) ∙ so_far

pub fails : (count i end least : ℕ) (bytes : List ℕ) (e : ℕ) (total : Result (List ℕ) ℕ) → i < count → run_at end least bytes ≡ Err e → rest_of (runs_at (count - i) end least bytes) ≡ total → total ≡ Err e
fails count i end least bytes e total less is so_far =
    let k : count - i ≡ suc (count - (i + 1)) = omega arith in
    sym so_far ∙ ap (λ (m : ℕ). rest_of (runs_at m end least bytes)) k ∙ ap rest_of (stuck (count - (i + 1)) end least bytes e is)

pub ends : (count i end least : ℕ) (bytes : List ℕ) (total : Result (List ℕ) ℕ) → count ≤ i → rest_of (runs_at (count - i) end least bytes) ≡ total → total ≡ Ok bytes
ends count i end least bytes total le so_far =
    let k : count - i ≡ 0 = omega arith in
    sym so_far ∙ ap (λ (m : ℕ). rest_of (runs_at m end least bytes)) k ∙ ap rest_of (none end least bytes)

pub none_left : (end least : ℕ) (bytes : List ℕ) → runs_of (runs_at 0 end least bytes) ≡ []
none_left end least bytes = ap runs_of (none end least bytes)

pub one_left : (left end least first count : ℕ) (words bytes more : List ℕ) → run_at end least bytes ≡ Ok (record { first = first; words = words_of words count }, more) → IsOk (runs_at (suc left) end least bytes)
    → IsOk (runs_at left end (first + count + 1) more) × (runs_of (runs_at (suc left) end least bytes) ≡ record { first = first; words = words_of words count } ∷ runs_of (runs_at left end (first + count + 1) more))
one_left left end least first count words bytes more is ok =
    let run : WordRun = record { first = first; words = words_of words count } in
    let all : runs_at (suc left) end least bytes ≡ (runs_at left end (first + count + 1) more >>= λ others. Ok (run ∷ others.0, others.1)) =
    step left end least bytes run more is ∙ ap (λ (low : ℕ). runs_at left end low more >>= λ others. Ok (run ∷ others.0, others.1)) (next_least first count words) in
    go run (runs_at left end (first + count + 1) more) (runs_at (suc left) end least bytes) all ok
  where
    go : (run : WordRun) (rest all : Result (List WordRun × List ℕ) ℕ) → all ≡ (rest >>= λ more. Ok (run ∷ more.0, more.1)) → IsOk all → IsOk rest × (runs_of all ≡ run ∷ runs_of rest)
    go run (Ok x) all step ok = (grind arith, ap runs_of step)
    go run (Err e) all step ok = absurd (grind arith)

pub not_bad : (left end least : ℕ) (bytes : List ℕ) (e : ℕ) → run_at end least bytes ≡ Err e → IsOk (runs_at (suc left) end least bytes) → ⊥
not_bad left end least bytes e is ok = let all = stuck left end least bytes e is in grind arith
