-- Runs of letters, digits and `_`.
use Rattle.std.proofs.Common.{◌≡◌, ℕ, ◌<◌, List, [], ◌∷◌, length, take, refl, ap, arith, true, false, Bool, cond}
use Rattle.std.proofs.lemmas.List.Sums.{take_while-cons}
use Rattle.c_tree.specs.Scan.{run, is_word, is_digit, line_rest, is_no_newline}

pub run_some : (b : ℕ) (bs : List ℕ) → is_word b ≡ true → 0 < length (run (b ∷ bs))
run_some b bs h = rw (take_while-cons is_word b bs, h) (omega arith)

front_of : (b : ℕ) (bs : List ℕ) (w : Bool) → take (length (run bs)) bs ≡ run bs → take (length (cond w (b ∷ run bs) [])) (b ∷ bs) ≡ cond w (b ∷ run bs) []
front_of b bs true e = ap (λ xs. b ∷ xs) e
front_of b bs false e = refl

pub run_front : (bs : List ℕ) → take (length (run bs)) bs ≡ run bs
run_front [] = refl
run_front (b ∷ bs) = rw (take_while-cons is_word b bs) (front_of b bs (is_word b) (run_front bs))

pub digit_word : (b : ℕ) → is_digit b ≡ true → is_word b ≡ true
digit_word b h = rw h refl

line_of : (b : ℕ) (bs : List ℕ) (w : Bool) → take (length (line_rest bs)) bs ≡ line_rest bs → take (length (cond w (b ∷ line_rest bs) [])) (b ∷ bs) ≡ cond w (b ∷ line_rest bs) []
line_of b bs true e = ap (λ xs. b ∷ xs) e
line_of b bs false e = refl

pub line_front : (bs : List ℕ) → take (length (line_rest bs)) bs ≡ line_rest bs
line_front [] = refl
line_front (b ∷ bs) = rw (take_while-cons is_no_newline b bs) (line_of b bs (is_no_newline b) (line_front bs))
