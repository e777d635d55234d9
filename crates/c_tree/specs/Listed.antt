-- Spellings with commas between them.
use Rattle.std.specs.Prelude.{ℕ, max, List, [], ◌∷◌}
use Rattle.c_tree.specs.declared.token.Token.{Token}
use Rattle.c_tree.specs.declared.token.Word.TheVariants as word
use Rattle.c_tree.specs.Scan.{Spot}
use Rattle.c_tree.specs.Expressions.{the}

-- one spelling or more
pub data Listed (F : Type 0) : Type 0 where
  Last : F → Listed F
  Then : F → (comma : Spot) → Listed F → Listed F

-- the tokens of all, and these behind them
abbrev pub tokens : {F : Type 0} → (F → List Token → List Token) → Listed F → List Token → List Token
tokens one (Last f) ts = one f ts
tokens one (Then f c fs) ts = one f (the c word.Comma ∷ tokens one fs ts)

abbrev pub trees : {F A : Type 0} → (F → A) → Listed F → List A
trees one (Last f) = one f ∷ []
trees one (Then f c fs) = one f ∷ trees one fs

-- each is well
abbrev pub AreWell : {F : Type 0} → (F → Type 0) → Listed F → Type 0
AreWell one (Last f) = one f
AreWell one (Then f c fs) = one f × AreWell one fs

-- the depth of the deepest
abbrev pub depth : {F : Type 0} → (F → ℕ) → Listed F → ℕ
depth one (Last f) = one f
depth one (Then f c fs) = max (one f) (depth one fs)
