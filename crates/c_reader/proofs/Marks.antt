-- Runs and marks take bytes.
use Rattle.std.proofs.Common.{◌≡◌, ℕ, ◌<◌, ◌≤◌, List, [], ◌∷◌, length, get_or, Option, Some, None, refl, sym, ap, ◌∙◌, arith, true, false, Bool, subst}
use Rattle.std.specs.Prelude.{◌==◌, ◌&&◌}
use Rattle.c_tree.specs.declared.token.Word.{Word}
use Rattle.c_tree.specs.declared.token.Piece.{Piece}
use Rattle.c_tree.specs.Scan.{is_digit, is_word, run, number, unsuffixed, numbered, named, keyword, long_mark, next_byte}
use Rattle.c_reader.specs.Scanning.{Takes}
use Rattle.c_reader.proofs.Runs as runs

pub run_some : (b : ℕ) (bs : List ℕ) → is_word b ≡ true → 0 < length (run (b ∷ bs))
run_some b bs h = runs.run_some b bs h

numbered_at : (o : Option ℕ) (n len : ℕ) → 0 < n → n ≤ len → Takes (numbered o n) len
numbered_at None n len p l = tt
numbered_at (Some v) n len p l = (p, l)

pub numbered_takes : (p : Piece) (b : ℕ) (bs : List ℕ) → p ≡ numbered (number (unsuffixed (run (b ∷ bs)))) (length (run (b ∷ bs))) → is_digit b ≡ true → length (run (b ∷ bs)) ≤ length (b ∷ bs) → Takes p (length (b ∷ bs))
numbered_takes p b bs e d l = subst (λ q. Takes q (length (b ∷ bs))) (sym e) (numbered_at (number (unsuffixed (run (b ∷ bs)))) (length (run (b ∷ bs))) (length (b ∷ bs)) (run_some b bs (runs.digit_word b d)) l)

named_at : (o : Option Word) (r : List ℕ) (len : ℕ) → 0 < length r → length r ≤ len → Takes (named o r) len
named_at None r len p l = (p, l)
named_at (Some w) r len p l = (p, l)

pub named_takes : (p : Piece) (b : ℕ) (bs : List ℕ) → p ≡ named (keyword (run (b ∷ bs))) (run (b ∷ bs)) → is_word b ≡ true → length (run (b ∷ bs)) ≤ length (b ∷ bs) → Takes p (length (b ∷ bs))
named_takes p b bs e d l = subst (λ q. Takes q (length (b ∷ bs))) (sym e) (named_at (keyword (run (b ∷ bs))) (run (b ∷ bs)) (length (b ∷ bs)) (run_some b bs d) l)

both_zero : (x : Bool) → (x && false) ≡ false
both_zero true = refl
both_zero false = refl

no_mark : (b : ℕ) → long_mark b 0 ≡ None
no_mark b = rw (both_zero (b == 61), both_zero (b == 33), both_zero (b == 60), both_zero (b == 62), both_zero (b == 38), both_zero (b == 124)) refl

-- a mark of two bytes has a second one
pub some_more : (b : ℕ) (bs : List ℕ) (w : Word) → long_mark b (next_byte bs) ≡ Some w → 0 < length bs
some_more b [] w h = let q : None ≡ Some w = sym (no_mark b) ∙ h in absurd cc
some_more b (c ∷ bs) w h = omega arith

-- the same, of bytes whose first is of a word
pub name_takes : (p : Piece) (bytes r : List ℕ) → p ≡ named (keyword r) r → r ≡ run bytes → is_word (get_or bytes 0 0) ≡ true → 1 ≤ length bytes → length r ≤ length bytes → Takes p (length bytes)
name_takes p [] r e v d n l = absurd (omega arith)
name_takes p (b ∷ bs) r e v d n l = named_takes p b bs (e ∙ ap (λ x. named (keyword x) x) v) d (subst (λ x. length x ≤ length (b ∷ bs)) v l)
