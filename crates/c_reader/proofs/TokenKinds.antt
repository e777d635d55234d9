-- Kinds of tokens, and tests of numbers.
use Rattle.std.proofs.Common.{◌≡◌, ℕ, ◌<◌, ◌≤◌, List, [], ◌∷◌, Some, refl, ap, ◌∙◌, sym, arith, true, false, Bool}
use Rattle.std.specs.Prelude.{nat_lt, ◌==◌, if◌then◌else◌}
use Rattle.std.proofs.lemmas.Grind.{common_steps}
use Rattle.c_tree.specs.declared.token.Token.{Token}
use Rattle.c_tree.specs.declared.token.Kind.{Kind}
use Rattle.c_tree.specs.declared.token.Kind.TheVariants as kind
use Rattle.c_tree.specs.declared.token.Word.{Word}
use Rattle.c_tree.specs.declared.token.Word.TheVariants as word
use Rattle.c_tree.specs.Scan.{Spot, at}
use Rattle.c_tree.specs.Expressions.{the}
use Rattle.c_reader.specs.Reading.{code, same, if_same, word_of, after_word, after}

pub lt_true : (a b : ℕ) → a < b → nat_lt a b ≡ true
lt_true a b h = grind (arith, common_steps)

pub lt_false : (a b : ℕ) → b ≤ a → nat_lt a b ≡ false
lt_false a b h = grind (arith, common_steps)

pub lt_is : (a b : ℕ) → nat_lt a b ≡ true → a < b
lt_is a b h = grind (arith, common_steps)

pub not_lt_is : (a b : ℕ) → nat_lt a b ≡ false → b ≤ a
not_lt_is a b h = grind (arith, common_steps)

eq_is : (a b : ℕ) → (a == b) ≡ true → a ≡ b
eq_is a b h = grind (arith, common_steps)

eq_true : (a : ℕ) → (a == a) ≡ true
eq_true a = grind (arith, common_steps)

-- the word of a number
decode : ℕ → Word
decode n = (if nat_lt n 24 then (if nat_lt n 12 then (if nat_lt n 6 then (if nat_lt n 3 then (if nat_lt n 1 then word.Int else (if nat_lt n 2 then word.Long else word.Void)) else (if nat_lt n 4 then word.Main else (if nat_lt n 5 then word.Return else word.If))) else (if nat_lt n 9 then (if nat_lt n 7 then word.Else else (if nat_lt n 8 then word.While else word.For)) else (if nat_lt n 10 then word.Do else (if nat_lt n 11 then word.Break else word.Continue)))) else (if nat_lt n 18 then (if nat_lt n 15 then (if nat_lt n 13 then word.Putchar else (if nat_lt n 14 then word.Printf else word.Getchar)) else (if nat_lt n 16 then word.Checkpoint else (if nat_lt n 17 then word.Exclude else word.Eof))) else (if nat_lt n 21 then (if nat_lt n 19 then word.Null else (if nat_lt n 20 then word.Other else word.LParen)) else (if nat_lt n 22 then word.RParen else (if nat_lt n 23 then word.LBrace else word.RBrace))))) else (if nat_lt n 36 then (if nat_lt n 30 then (if nat_lt n 27 then (if nat_lt n 25 then word.LBracket else (if nat_lt n 26 then word.RBracket else word.Semi)) else (if nat_lt n 28 then word.Comma else (if nat_lt n 29 then word.Assign else word.OrOr))) else (if nat_lt n 33 then (if nat_lt n 31 then word.AndAnd else (if nat_lt n 32 then word.Bar else word.Caret)) else (if nat_lt n 34 then word.Ampersand else (if nat_lt n 35 then word.EqualEqual else word.Unequal)))) else (if nat_lt n 42 then (if nat_lt n 39 then (if nat_lt n 37 then word.Less else (if nat_lt n 38 then word.AtMost else word.Greater)) else (if nat_lt n 40 then word.AtLeast else (if nat_lt n 41 then word.ShiftLeft else word.ShiftRight))) else (if nat_lt n 45 then (if nat_lt n 43 then word.Plus else (if nat_lt n 44 then word.Minus else word.Star)) else (if nat_lt n 47 then (if nat_lt n 46 then word.Slash else word.Percent) else (if nat_lt n 48 then word.Bang else word.Tilde))))))

decoded : (w : Word) → decode (code w) ≡ w
unfolding decode
decoded word.Int = refl
decoded word.Long = refl
decoded word.Void = refl
decoded word.Main = refl
decoded word.Return = refl
decoded word.If = refl
decoded word.Else = refl
decoded word.While = refl
decoded word.For = refl
decoded word.Do = refl
decoded word.Break = refl
decoded word.Continue = refl
decoded word.Putchar = refl
decoded word.Printf = refl
decoded word.Getchar = refl
decoded word.Checkpoint = refl
decoded word.Exclude = refl
decoded word.Eof = refl
decoded word.Null = refl
decoded word.Other = refl
decoded word.LParen = refl
decoded word.RParen = refl
decoded word.LBrace = refl
decoded word.RBrace = refl
decoded word.LBracket = refl
decoded word.RBracket = refl
decoded word.Semi = refl
decoded word.Comma = refl
decoded word.Assign = refl
decoded word.OrOr = refl
decoded word.AndAnd = refl
decoded word.Bar = refl
decoded word.Caret = refl
decoded word.Ampersand = refl
decoded word.EqualEqual = refl
decoded word.Unequal = refl
decoded word.Less = refl
decoded word.AtMost = refl
decoded word.Greater = refl
decoded word.AtLeast = refl
decoded word.ShiftLeft = refl
decoded word.ShiftRight = refl
decoded word.Plus = refl
decoded word.Minus = refl
decoded word.Star = refl
decoded word.Slash = refl
decoded word.Percent = refl
decoded word.Bang = refl
decoded word.Tilde = refl

pub same_is : (v w : Word) → same v w ≡ true → v ≡ w
same_is v w h = sym (decoded v) ∙ ap decode (eq_is (code v) (code w) h) ∙ decoded w

pub same_self : (w : Word) → same w w ≡ true
same_self w = eq_true (code w)

-- where a token stands
abbrev pub spot_of : Token → Spot
spot_of t = record { line = t.line; constants = t.constants }

if_same_is : (b : Bool) (ts us : List Token) → if_same b ts ≡ Some us → (b ≡ true) × (ts ≡ us)
if_same_is true ts us h = (refl, cc)
if_same_is false ts us h = absurd cc

word_kind : (w : Word) (k : Kind) (ts us : List Token) → after_word w (word_of k) ts ≡ Some us → (k ≡ kind.Word w) × (ts ≡ us)
word_kind w (kind.Word v) ts us h = let p = if_same_is (same v w) ts us h in (ap kind.Word (same_is v w p.0), p.1)
word_kind w (kind.Num n) ts us h = absurd cc
word_kind w (kind.Name x) ts us h = absurd cc
word_kind w (kind.Format ps) ts us h = absurd cc

-- a keyword or mark stood in front
pub after_is : (w : Word) (ts us : List Token) → after w ts ≡ Some us → (s : Spot) × (ts ≡ the s w ∷ us)
after_is w [] us h = absurd cc
after_is w (t ∷ ts) us h =
    let p = word_kind w t.kind ts us h in
    (spot_of t, ap (λ k. at (spot_of t) k ∷ ts) p.0 ∙ ap (λ xs. the (spot_of t) w ∷ xs) p.1)
