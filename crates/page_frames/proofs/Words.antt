-- Lemmas on the words of a list of bytes.
use Rattle.std.proofs.Common.{◌≡◌, ◌≢◌, ℕ, zero, suc, ◌+◌, ◌-◌, ◌*◌, ◌/◌, ◌<◌, ◌≤◌, ◌^◌, List, [], ◌∷◌, ◌++◌, length, get_or, take, drop, refl, sym, ap, ◌∙◌, subst, arith, rules, append_assoc, length-append, add-one, ⊎_elim}
use Rattle.std.proofs.lemmas.Bool.{cases_lt}
use Rattle.std.specs.Prelude.{slice_index, slice_set, slice_range, replicate}
use Rattle.std.specs.List.{flat_map}
use Rattle.std.specs.Int.{w64, to_be_bytes, from_be_bytes}
use Rattle.std.proofs.lemmas.Nat.{be_bytes_8, from_be_bytes-to_be_bytes_8}
use Rattle.std.proofs.lemmas.Grind.{common_steps}
use Rattle.std.proofs.lemmas.List.{places, get_or-replicate, same_lists, get_or_past, take_all}
use Rattle.std.proofs.Common.{length-drop, length-take-le, drop-cons}
use borrow.Rule.Slice.PartMut.{put_mid}
use Rattle.page_frames.specs.Words.{eight, word_at, words_from, words_of, fill_word}
use Rattle.page_frames.specs.Frame.{IsElsewhere, frame_bytes, page_words}

pub length_words : (bytes : List ℕ) (c n : ℕ) → length (words_from bytes c n) ≡ n
length_words bytes c zero = refl
length_words bytes c (suc n) = ap suc (length_words bytes (c + 1) n)

pub get_words : (bytes : List ℕ) (c n k : ℕ) → k < n → slice_index (words_from bytes c n) k ≡ word_at bytes (c + k)
get_words bytes c zero k h = absurd (omega arith)
get_words bytes c (suc n) zero h = let e : c + 0 ≡ c = omega arith in ap (word_at bytes) (sym e)
get_words bytes c (suc n) (suc k) h =
    let e : c + 1 + k ≡ c + suc k = omega arith in
    get_words bytes (c + 1) n k (omega arith) ∙ ap (word_at bytes) e

-- the words of bytes of which one cell was changed
pub set_words : (a b : List ℕ) (w c n k : ℕ) → k < n → ((j : ℕ) → j ≢ c + k → word_at b j ≡ word_at a j) → word_at b (c + k) ≡ w → words_from b c n ≡ slice_set (words_from a c n) k w
set_words a b w c zero k h other here = absurd (omega arith)
set_words a b w c (suc n) zero h other here =
    let e : c + 0 ≡ c = omega arith in
    let rest : words_from b (c + 1) n ≡ words_from a (c + 1) n = same_words a b (c + 1) n (λ j le. other j (omega arith)) in
    let first : word_at b c ≡ w = ap (word_at b) (sym e) ∙ here in
    ap (λ v. v ∷ words_from b (c + 1) n) first ∙ ap (λ l. w ∷ l) rest
  where
    same_words : (a b : List ℕ) (c n : ℕ) → ((k : ℕ) → c ≤ k → word_at b k ≡ word_at a k) → words_from b c n ≡ words_from a c n
    same_words a b c zero h = refl
    same_words a b c (suc n) h = ap (λ v. v ∷ words_from b (c + 1) n) (h c (omega arith)) ∙ ap (λ l. word_at a c ∷ l) (same_words a b (c + 1) n (λ k le. h k (omega arith)))
set_words a b w c (suc n) (suc k) h other here =
    let e : c + 1 + k ≡ c + suc k = omega arith in
    let first : word_at b c ≡ word_at a c = other c (omega arith) in
    ap (λ v. v ∷ words_from b (c + 1) n) first
    ∙ ap (λ l. word_at a c ∷ l) (set_words a b w (c + 1) n k (omega arith) (λ j ne. other j (λ q. ne (q ∙ sym e))) (ap (word_at b) e ∙ here))

-- words of equal bytes
pub word_of : (xs bs : List ℕ) (k : ℕ) → ((i : ℕ) → i < 8 → slice_index xs (k * 8 + i) ≡ slice_index bs i) → word_at xs k ≡ from_be_bytes w64 bs
unfolding word_at
word_of xs bs k h =
    let e : k * 8 + 0 ≡ k * 8 = omega arith in
    let h0 : slice_index xs (k * 8) ≡ slice_index bs 0 = ap (slice_index xs) (sym e) ∙ h 0 (omega arith) in
    let h1 = h 1 (omega arith) in let h2 = h 2 (omega arith) in let h3 = h 3 (omega arith) in let h4 = h 4 (omega arith) in
    let h5 = h 5 (omega arith) in let h6 = h 6 (omega arith) in let h7 = h 7 (omega arith) in
    omega arith

pub word_eight : (xs : List ℕ) (k : ℕ) → word_at xs k ≡ from_be_bytes w64 (eight xs (k * 8))
unfolding word_at
word_eight xs k = refl

eight_get : (bs : List ℕ) (a i : ℕ) → i < 8 → slice_index bs (a + i) ≡ slice_index (eight bs a) i
eight_get bs a zero h = let e : a + 0 ≡ a = omega arith in ap (slice_index bs) e
eight_get bs a (suc zero) h = refl
eight_get bs a (suc (suc zero)) h = refl
eight_get bs a (suc (suc (suc zero))) h = refl
eight_get bs a (suc (suc (suc (suc zero)))) h = refl
eight_get bs a (suc (suc (suc (suc (suc zero))))) h = refl
eight_get bs a (suc (suc (suc (suc (suc (suc zero)))))) h = refl
eight_get bs a (suc (suc (suc (suc (suc (suc (suc zero))))))) h = refl
eight_get bs a (suc (suc (suc (suc (suc (suc (suc (suc n)))))))) h = absurd (omega arith)

-- the elements of a list of which a part was overwritten
mid_same : (a n j : ℕ) (xs ys : List ℕ) → a + n ≤ length xs → length ys ≡ n → j < n → slice_index (put_mid a n xs ys) (a + j) ≡ slice_index ys j
mid_same a n j xs ys le l h = search (rules, places)

mid_below : (a n j : ℕ) (xs ys : List ℕ) → a + n ≤ length xs → length ys ≡ n → j < a → slice_index (put_mid a n xs ys) j ≡ slice_index xs j
mid_below a n j xs ys le l h = search (rules, places)

mid_above : (a n j : ℕ) (xs ys : List ℕ) → a + n ≤ length xs → length ys ≡ n → a + n ≤ j → slice_index (put_mid a n xs ys) j ≡ slice_index xs j
mid_above a n j xs ys le l h = search (rules, places)

kept : (bs ys : List ℕ) (c k i : ℕ) → k ≢ c → c * 8 + 8 ≤ length bs → length ys ≡ 8 → i < 8 → slice_index (put_mid (c * 8) 8 bs ys) (k * 8 + i) ≡ slice_index bs (k * 8 + i)
kept bs ys c k i ne le l h = ⊎_elim (λ lt. mid_below (c * 8) 8 (k * 8 + i) bs ys le l (omega arith)) (λ ge. mid_above (c * 8) 8 (k * 8 + i) bs ys le l (omega arith)) (cases_lt k c)

-- a word's bytes written at a cell
pub put_here : (bs : List ℕ) (c w : ℕ) → w < 2 ^ 64 → c * 8 + 8 ≤ length bs → word_at (put_mid (c * 8) 8 bs (to_be_bytes w64 w)) c ≡ w
put_here bs c w fits le = word_of _ (to_be_bytes w64 w) c (λ i h. mid_same (c * 8) 8 i bs (to_be_bytes w64 w) le refl h) ∙ from_be_bytes-to_be_bytes_8 w fits

pub put_other : (bs : List ℕ) (c w k : ℕ) → k ≢ c → c * 8 + 8 ≤ length bs → word_at (put_mid (c * 8) 8 bs (to_be_bytes w64 w)) k ≡ word_at bs k
put_other bs c w k ne le = word_of _ (eight bs (k * 8)) k (λ i h. kept bs (to_be_bytes w64 w) c k i ne le refl h ∙ eight_get bs (k * 8) i h) ∙ sym (word_eight bs k)

pub words_put : (bs : List ℕ) (c w n : ℕ) → w < 2 ^ 64 → c < n → n * 8 ≤ length bs → words_of (put_mid (c * 8) 8 bs (to_be_bytes w64 w)) n ≡ slice_set (words_of bs n) c w
words_put bs c w n fits lt le = set_words bs _ w 0 n c lt (λ j ne. put_other bs c w j (λ e. ne (e ∙ omega arith)) (omega arith)) (put_here' fits)
  where
    put_here' : w < 2 ^ 64 → word_at (put_mid (c * 8) 8 bs (to_be_bytes w64 w)) (0 + c) ≡ w
    put_here' f = let e : 0 + c ≡ c = omega arith in ap (word_at _) e ∙ put_here bs c w f (omega arith)

-- the bytes of n words are the bytes themselves
front : (bs : List ℕ) (a b k m : ℕ) → a < length bs → b ≡ suc a → m ≡ suc k → take m (drop a bs) ≡ slice_index bs a ∷ take k (drop b bs)
front bs a b k m lt eb em = ap (λ i. take i (drop a bs)) em ∙ ap (take (suc k)) (drop-cons bs a 0 lt) ∙ ap (λ i. slice_index bs a ∷ take k (drop i bs)) (sym eb)

eight_more : (bs : List ℕ) (a m n : ℕ) → a + 8 ≤ length bs → n ≡ m + 8 → take n (drop a bs) ≡ eight bs a ++ take m (drop (a + 8) bs)
eight_more bs a m n le e =
    front bs a (a + 1) (m + 7) n (omega arith) (omega arith) (omega arith)
    ∙ ap (λ l. slice_index bs a ∷ l) (front bs (a + 1) (a + 2) (m + 6) (m + 7) (omega arith) (omega arith) (omega arith)
    ∙ ap (λ l. slice_index bs (a + 1) ∷ l) (front bs (a + 2) (a + 3) (m + 5) (m + 6) (omega arith) (omega arith) (omega arith)
    ∙ ap (λ l. slice_index bs (a + 2) ∷ l) (front bs (a + 3) (a + 4) (m + 4) (m + 5) (omega arith) (omega arith) (omega arith)
    ∙ ap (λ l. slice_index bs (a + 3) ∷ l) (front bs (a + 4) (a + 5) (m + 3) (m + 4) (omega arith) (omega arith) (omega arith)
    ∙ ap (λ l. slice_index bs (a + 4) ∷ l) (front bs (a + 5) (a + 6) (m + 2) (m + 3) (omega arith) (omega arith) (omega arith)
    ∙ ap (λ l. slice_index bs (a + 5) ∷ l) (front bs (a + 6) (a + 7) (m + 1) (m + 2) (omega arith) (omega arith) (omega arith)
    ∙ ap (λ l. slice_index bs (a + 6) ∷ l) (front bs (a + 7) (a + 8) m (m + 1) (omega arith) (omega arith) (omega arith))))))))

eight_bytes : (bs : List ℕ) (c : ℕ) → ((i : ℕ) → slice_index bs i < 256) → to_be_bytes w64 (word_at bs c) ≡ eight bs (c * 8)
eight_bytes bs c small = be_bytes_8 (eight bs (c * 8)) (word_at bs c) refl (λ i. in_eight bs (c * 8) small i) (word_eight bs c)
  where
    in_eight : (bs : List ℕ) (a : ℕ) → ((i : ℕ) → slice_index bs i < 256) → (i : ℕ) → slice_index (eight bs a) i < 256
    in_eight bs a small zero = small a
    in_eight bs a small (suc zero) = small (a + 1)
    in_eight bs a small (suc (suc zero)) = small (a + 2)
    in_eight bs a small (suc (suc (suc zero))) = small (a + 3)
    in_eight bs a small (suc (suc (suc (suc zero)))) = small (a + 4)
    in_eight bs a small (suc (suc (suc (suc (suc zero))))) = small (a + 5)
    in_eight bs a small (suc (suc (suc (suc (suc (suc zero)))))) = small (a + 6)
    in_eight bs a small (suc (suc (suc (suc (suc (suc (suc zero))))))) = small (a + 7)
    in_eight bs a small (suc (suc (suc (suc (suc (suc (suc (suc n)))))))) = omega arith

pub bytes_of_words : (bs : List ℕ) (c n : ℕ) → ((i : ℕ) → slice_index bs i < 256) → (c + n) * 8 ≤ length bs → flat_map (to_be_bytes w64) (words_from bs c n) ≡ take (n * 8) (drop (c * 8) bs)
bytes_of_words bs c zero small le = refl
bytes_of_words bs c (suc n) small le =
    let at : (c + 1) * 8 ≡ c * 8 + 8 = omega arith in
    let rest = bytes_of_words bs (c + 1) n small (omega arith) in
    ap (λ l. l ++ flat_map (to_be_bytes w64) (words_from bs (c + 1) n)) (eight_bytes bs c small)
    ∙ ap (λ l. eight bs (c * 8) ++ l) (rest ∙ ap (λ a. take (n * 8) (drop a bs)) at)
    ∙ sym (eight_more bs (c * 8) (n * 8) (suc n * 8) (omega arith) (omega arith))

-- the words from cell c on among all
words_part : (bs : List ℕ) (a c n k : ℕ) → c + k ≤ n → take k (drop c (words_from bs a n)) ≡ words_from bs (a + c) k
words_part bs a zero n zero le = refl
words_part bs a zero zero (suc k) le = absurd (omega arith)
words_part bs a zero (suc n) (suc k) le =
    let e : a + 0 ≡ a = omega arith in
    let f : a + 1 + 0 ≡ a + 1 = omega arith in
    ap (λ l. word_at bs a ∷ l) (words_part bs (a + 1) zero n k (omega arith) ∙ ap (λ i. words_from bs i k) f) ∙ ap (λ i. words_from bs i (suc k)) (sym e)
words_part bs a (suc c) zero k le = absurd (omega arith)
words_part bs a (suc c) (suc n) k le =
    let e : a + 1 + c ≡ a + suc c = omega arith in
    words_part bs (a + 1) c n k (omega arith) ∙ ap (λ i. words_from bs i k) e

word_fits : (bs : List ℕ) (c : ℕ) → ((i : ℕ) → slice_index bs i < 256) → word_at bs c < 2 ^ 64
unfolding word_at
word_fits bs c small =
    let h0 = small (c * 8) in let h1 = small (c * 8 + 1) in let h2 = small (c * 8 + 2) in let h3 = small (c * 8 + 3) in
    let h4 = small (c * 8 + 4) in let h5 = small (c * 8 + 5) in let h6 = small (c * 8 + 6) in let h7 = small (c * 8 + 7) in
    omega arith

-- the words of n cells that stand in bytes are words
pub words_fit : (bs : List ℕ) (c n : ℕ) → ((i : ℕ) → slice_index bs i < 256) → (i : ℕ) → slice_index (words_from bs c n) i < 2 ^ 64
words_fit bs c zero small i = omega arith
words_fit bs c (suc n) small zero = word_fits bs c small
words_fit bs c (suc n) small (suc i) = words_fit bs (c + 1) n small i

-- the cells from the first on, and their bytes
pub cells_are : (bs : List ℕ) (first count n : ℕ) → first + count ≤ n → take count (drop first (words_of bs n)) ≡ words_from bs first count
cells_are bs first count n le = let z : 0 + first ≡ first = omega arith in words_part bs 0 first n count le ∙ ap (λ i. words_from bs i count) z

pub frame_is : (bs : List ℕ) (p n : ℕ) → ((i : ℕ) → slice_index bs i < 256) → n * 8 ≤ length bs → 512 * p + 512 ≤ n → frame_bytes (words_of bs n) p ≡ take 4096 (drop (p * 4096) bs)
frame_is bs p n small fits le =
    let k : 512 * p + 512 - 512 * p ≡ 512 = omega arith in
    let z : 0 + 512 * p ≡ 512 * p = omega arith in
    let at : 512 * p * 8 ≡ p * 4096 = omega arith in
    ap (flat_map (to_be_bytes w64)) (ap (λ i. take i (drop (512 * p) (words_of bs n))) k ∙ words_part bs 0 (512 * p) n 512 le ∙ ap (λ i. words_from bs i 512) z)
    ∙ bytes_of_words bs (512 * p) 512 small (omega arith)
    ∙ ap (λ i. take 4096 (drop i bs)) at

-- words of equal bytes
pub words_fill : (m b c n : ℕ) → (c + n) * 8 ≤ m → words_from (replicate m b) c n ≡ replicate n (fill_word b)
words_fill m b c zero le = refl
words_fill m b c (suc n) le =
    let first : word_at (replicate m b) c ≡ fill_word b = word_of (replicate m b) (replicate 8 b) c (λ i h. get_or-replicate m (c * 8 + i) b 0 (omega arith) ∙ sym (get_or-replicate 8 i b 0 h)) in
    ap (λ v. v ∷ words_from (replicate m b) (c + 1) n) first ∙ ap (λ l. fill_word b ∷ l) (words_fill m b (c + 1) n (omega arith))

-- a view of n words has length n
pub length_view : (bytes words : List ℕ) (n : ℕ) → words_of bytes n ≡ words → length words ≡ n
length_view bytes words n e = ap length (sym e) ∙ length_words bytes 0 n

-- words from two places whose bytes are the same
same_words_from : (a b : List ℕ) (c d n : ℕ) → ((k : ℕ) → k < n → word_at a (c + k) ≡ word_at b (d + k)) → words_from a c n ≡ words_from b d n
same_words_from a b c d zero h = refl
same_words_from a b c d (suc n) h =
    let ec : c + 0 ≡ c = omega arith in
    let ed : d + 0 ≡ d = omega arith in
    let first : word_at a c ≡ word_at b d = ap (word_at a) (sym ec) ∙ h 0 (omega arith) ∙ ap (word_at b) ed in
    ap (λ v. v ∷ words_from a (c + 1) n) first
    ∙ ap (λ l. word_at b d ∷ l) (same_words_from a b (c + 1) (d + 1) n (λ k lt. let fc : c + 1 + k ≡ c + suc k = omega arith in let fd : d + suc k ≡ d + 1 + k = omega arith in ap (word_at a) fc ∙ h (suc k) (omega arith) ∙ ap (word_at b) fd))

-- the bytes of a cell that lies on no page but p
kept_elsewhere : (bs ys : List ℕ) (p k i : ℕ) → k / 512 ≢ p → p * 4096 + 4096 ≤ length bs → length ys ≡ 4096 → i < 8 → slice_index (put_mid (p * 4096) 4096 bs ys) (k * 8 + i) ≡ slice_index bs (k * 8 + i)
kept_elsewhere bs ys p k i ne le l h =
    ⊎_elim
    (λ lt. mid_below (p * 4096) 4096 (k * 8 + i) bs ys le l (omega arith))
    (λ ge. ⊎_elim (λ lt. absurd (ne (omega arith))) (λ past. mid_above (p * 4096) 4096 (k * 8 + i) bs ys le l (omega arith)) (cases_lt k (512 * p + 512)))
    (cases_lt k (512 * p))

-- after 4,096 bytes were written over page p, the words of every other page are the same
pub page_same : (bs ys : List ℕ) (p n c : ℕ) → n * 8 ≤ length bs → 512 * p + 512 ≤ n → length ys ≡ 4096 → c / 512 ≢ p → slice_index (words_of (put_mid (p * 4096) 4096 bs ys) n) c ≡ slice_index (words_of bs n) c
page_same bs ys p n c fits le l ne =
    let new = put_mid (p * 4096) 4096 bs ys in
    ⊎_elim
    (λ lt.
    get_words new 0 n c lt
    ∙ word_of new (eight bs ((0 + c) * 8)) (0 + c) (λ i h. kept_elsewhere bs ys p (0 + c) i (λ e. ne (ap (λ k. k / 512) (zero-plus c) ∙ e)) (omega arith) l h ∙ eight_get bs ((0 + c) * 8) i h)
    ∙ sym (word_eight bs (0 + c))
    ∙ sym (get_words bs 0 n c lt))
    (λ ge. get_or_past (words_of new n) c 0 (omega (arith, length_words new 0 n)) ∙ sym (get_or_past (words_of bs n) c 0 (omega (arith, length_words bs 0 n))))
    (cases_lt c n)
  where
    zero-plus : (c : ℕ) → c ≡ 0 + c
    zero-plus c = omega arith

-- and its own words are those of the bytes
pub page_is : (bs ys : List ℕ) (p n : ℕ) → n * 8 ≤ length bs → 512 * p + 512 ≤ n → length ys ≡ 4096 → page_words (words_of (put_mid (p * 4096) 4096 bs ys) n) p ≡ words_of ys 512
page_is bs ys p n fits le l =
    let new = put_mid (p * 4096) 4096 bs ys in
    let k : 512 * p + 512 - 512 * p ≡ 512 = omega arith in
    let z : 0 + 512 * p ≡ 512 * p = omega arith in
    ap (λ i. take i (drop (512 * p) (words_of new n))) k ∙ words_part new 0 (512 * p) n 512 le ∙ ap (λ i. words_from new i 512) z
    ∙ same_words_from new ys (512 * p) 0 512 (λ j h. word_of new (eight ys ((0 + j) * 8)) (512 * p + j) (λ i lt. at_byte j i h lt ∙ eight_get ys ((0 + j) * 8) i lt) ∙ sym (word_eight ys (0 + j)))
  where
    at_byte : (j i : ℕ) → j < 512 → i < 8 → slice_index (put_mid (p * 4096) 4096 bs ys) ((512 * p + j) * 8 + i) ≡ slice_index ys ((0 + j) * 8 + i)
    at_byte j i h lt =
        let e : (512 * p + j) * 8 + i ≡ p * 4096 + ((0 + j) * 8 + i) = omega arith in
        ap (slice_index (put_mid (p * 4096) 4096 bs ys)) e ∙ mid_same (p * 4096) 4096 ((0 + j) * 8 + i) bs ys (omega arith) l (omega arith)

-- the bytes of 512 words that were read from 4,096 bytes are those bytes
pub bytes_back : (ys : List ℕ) → ((i : ℕ) → slice_index ys i < 256) → length ys ≡ 4096 → flat_map (to_be_bytes w64) (words_of ys 512) ≡ ys
bytes_back ys small l = bytes_of_words ys 0 512 small (omega arith) ∙ take_all 4096 ys (omega arith)

-- a place of a part of a list
taken_get : (bs : List ℕ) (a n j : ℕ) → j < n → slice_index (take n (drop a bs)) j ≡ slice_index bs (a + j)
taken_get bs a n j lt = search (rules, places)

-- a part of a list that is long enough
pub length_part : (bs : List ℕ) (a n : ℕ) → a + n ≤ length bs → length (take n (drop a bs)) ≡ n
length_part bs a n le = length-take-le n (drop a bs) (omega (arith, length-drop a bs))

-- the words of 4,096 bytes that were taken from page p
pub page_taken : (bs : List ℕ) (p n : ℕ) → n * 8 ≤ length bs → 512 * p + 512 ≤ n → words_of (take 4096 (drop (p * 4096) bs)) 512 ≡ page_words (words_of bs n) p
page_taken bs p n fits le =
    let ys = take 4096 (drop (p * 4096) bs) in
    let k : 512 * p + 512 - 512 * p ≡ 512 = omega arith in
    let z : 0 + 512 * p ≡ 512 * p = omega arith in
    same_words_from ys bs 0 (512 * p) 512 (λ j h. word_of ys (eight bs ((512 * p + j) * 8)) (0 + j) (λ i lt. at_byte j i h lt ∙ eight_get bs ((512 * p + j) * 8) i lt) ∙ sym (word_eight bs (512 * p + j)))
    ∙ sym (ap (λ i. take i (drop (512 * p) (words_of bs n))) k ∙ words_part bs 0 (512 * p) n 512 le ∙ ap (λ i. words_from bs i 512) z)
  where
    at_byte : (j i : ℕ) → j < 512 → i < 8 → slice_index (take 4096 (drop (p * 4096) bs)) ((0 + j) * 8 + i) ≡ slice_index bs ((512 * p + j) * 8 + i)
    at_byte j i h lt =
        let e : p * 4096 + ((0 + j) * 8 + i) ≡ (512 * p + j) * 8 + i = omega arith in
        taken_get bs (p * 4096) 4096 ((0 + j) * 8 + i) (omega arith) ∙ ap (slice_index bs) e

-- ---- a run of cells whose bytes were written

part_loaded : (bs ys : List ℕ) (first count i : ℕ) → (first + count) * 8 ≤ length bs → length ys ≡ count * 8 → i < count → word_at (put_mid (first * 8) (count * 8) bs ys) (first + i) ≡ word_at ys (0 + i)
part_loaded bs ys first count i le l lt =
    word_of (put_mid (first * 8) (count * 8) bs ys) (eight ys ((0 + i) * 8)) (first + i) (λ j h. at_byte j h ∙ eight_get ys ((0 + i) * 8) j h) ∙ sym (word_eight ys (0 + i))
  where
    at_byte : (j : ℕ) → j < 8 → slice_index (put_mid (first * 8) (count * 8) bs ys) ((first + i) * 8 + j) ≡ slice_index ys ((0 + i) * 8 + j)
    at_byte j h =
        let e : (first + i) * 8 + j ≡ first * 8 + ((0 + i) * 8 + j) = omega arith in
        ap (slice_index (put_mid (first * 8) (count * 8) bs ys)) e ∙ mid_same (first * 8) (count * 8) ((0 + i) * 8 + j) bs ys (omega arith) l (omega arith)

pub cells_loaded : (bs ys : List ℕ) (first count n i : ℕ) → n * 8 ≤ length bs → first + count ≤ n → length ys ≡ count * 8 → i < count
    → slice_index (words_of (put_mid (first * 8) (count * 8) bs ys) n) (first + i) ≡ slice_index (words_of ys count) i
cells_loaded bs ys first count n i fits le l lt =
    let new = put_mid (first * 8) (count * 8) bs ys in
    let e : 0 + (first + i) ≡ first + i = omega arith in
    get_words new 0 n (first + i) (omega arith) ∙ ap (word_at new) e ∙ part_loaded bs ys first count i (omega arith) l lt ∙ sym (get_words ys 0 count i lt)

part_kept : (bs ys : List ℕ) (first count c : ℕ) → (first + count) * 8 ≤ length bs → length ys ≡ count * 8 → IsElsewhere first count c → word_at (put_mid (first * 8) (count * 8) bs ys) (0 + c) ≡ word_at bs (0 + c)
part_kept bs ys first count c le l out =
    word_of (put_mid (first * 8) (count * 8) bs ys) (eight bs ((0 + c) * 8)) (0 + c) (λ j h. at_byte j h ∙ eight_get bs ((0 + c) * 8) j h) ∙ sym (word_eight bs (0 + c))
  where
    at_byte : (j : ℕ) → j < 8 → slice_index (put_mid (first * 8) (count * 8) bs ys) ((0 + c) * 8 + j) ≡ slice_index bs ((0 + c) * 8 + j)
    at_byte j h = ⊎_elim
        (λ low. mid_below (first * 8) (count * 8) ((0 + c) * 8 + j) bs ys (omega arith) l (omega arith))
        (λ high. mid_above (first * 8) (count * 8) ((0 + c) * 8 + j) bs ys (omega arith) l (omega arith))
        out

pub cells_kept : (bs ys : List ℕ) (first count n c : ℕ) → n * 8 ≤ length bs → first + count ≤ n → length ys ≡ count * 8 → IsElsewhere first count c
    → slice_index (words_of (put_mid (first * 8) (count * 8) bs ys) n) c ≡ slice_index (words_of bs n) c
cells_kept bs ys first count n c fits le l out =
    let new = put_mid (first * 8) (count * 8) bs ys in
    ⊎_elim
    (λ lt. get_words new 0 n c lt ∙ part_kept bs ys first count c (omega arith) l out ∙ sym (get_words bs 0 n c lt))
    (λ past. get_or_past (words_of new n) c 0 (omega (arith, length_words new 0 n)) ∙ sym (get_or_past (words_of bs n) c 0 (omega (arith, length_words bs 0 n))))
    (cases_lt c n)
