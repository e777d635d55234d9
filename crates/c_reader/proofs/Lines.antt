-- The tokens of a line that begins with `#`, piece after piece.
use Rattle.std.proofs.Common.{◌≡◌, ℕ, zero, suc, ◌<◌, ◌≤◌, List, [], ◌∷◌, ◌++◌, length, drop, refl, sym, ap, ◌∙◌, arith, append_assoc, append-nil, length-drop}
use Rattle.c_tree.specs.declared.token.Kind.{Kind}
use Rattle.c_tree.specs.declared.token.Kind.TheVariants as kind
use Rattle.c_tree.specs.declared.token.Word.TheVariants as word
use Rattle.c_tree.specs.declared.token.Piece.{Piece}
use Rattle.c_tree.specs.declared.token.Piece.TheVariants as p
use Rattle.c_tree.specs.Scan.{piece, with_kind, kinds_within, kinds}

-- the kinds of the whole are those so far and those from here on, in pieces enough
pub record GoingLine (line : List ℕ) (ks : List Kind) (rest : List ℕ) : Type 0 where
  pub turns : ℕ
  pub within : length rest ≤ length line
  pub enough : length rest ≤ turns
  pub same : kinds line ≡ ks ++ kinds_within turns rest

pub starts : (line : List ℕ) → GoingLine line [] line
starts line = record { turns = length line; within = omega arith; enough = omega arith; same = refl }

over_at : (n : ℕ) (bs : List ℕ) → length bs ≡ 0 → kinds_within n bs ≡ []
over_at zero [] h = refl
over_at (suc n) [] h = refl
over_at n (b ∷ bs) h = absurd (omega arith)

step_at : (n : ℕ) (bs : List ℕ) → 0 < length bs → kinds_within (suc n) bs ≡ with_kind (piece bs) (λ k. kinds_within n (drop k bs))
step_at n [] h = absurd (omega arith)
step_at n (b ∷ bs) h = refl

-- a piece is left before the end
record Left (line : List ℕ) (ks : List Kind) (rest : List ℕ) (x : Piece) : Type 0 where
  more : ℕ
  enough : length rest ≤ suc more
  same : kinds line ≡ ks ++ with_kind x (λ k. kinds_within more (drop k rest))

left_of : (line : List ℕ) (ks : List Kind) (rest : List ℕ) (x : Piece) (n : ℕ) → length rest ≤ n → kinds line ≡ ks ++ kinds_within n rest → 0 < length rest → piece rest ≡ x → Left line ks rest x
left_of line ks rest x zero e s h q = absurd (omega arith)
left_of line ks rest x (suc n) e s h q =
    record { more = n; enough = e; same = s ∙ ap (λ v. ks ++ v) (step_at n rest h ∙ ap (λ y. with_kind y (λ k. kinds_within n (drop k rest))) q) }

module _ (line : List ℕ) (ks : List Kind) (rest : List ℕ) (g : GoingLine line ks rest) where
  pub over : length rest ≡ 0 → kinds line ≡ ks
  over h = g.same ∙ ap (λ v. ks ++ v) (over_at g.turns rest h) ∙ append-nil ks

  module _ (h : 0 < length rest) where
    pub blank : (n m : ℕ) → piece rest ≡ p.Blank n m → 0 < n → n ≤ length rest → GoingLine line ks (drop n rest)
    blank n m e pos w =
        let t = left_of line ks rest (p.Blank n m) g.turns g.enough g.same h e in
        record { turns = t.more; within = omega (arith, g.within, length-drop n rest); enough = omega (arith, t.enough, length-drop n rest); same = t.same }

    pub token : (x : Kind) (n : ℕ) → piece rest ≡ p.Is x n → 0 < n → n ≤ length rest → GoingLine line (ks ++ x ∷ []) (drop n rest)
    token x n e pos w =
        let t = left_of line ks rest (p.Is x n) g.turns g.enough g.same h e in
        record { turns = t.more; within = omega (arith, g.within, length-drop n rest); enough = omega (arith, t.enough, length-drop n rest); same = t.same ∙ sym (append_assoc ks (x ∷ []) (kinds_within t.more (drop n rest))) }

    pub hash : piece rest ≡ p.Hash → kinds line ≡ ks ++ kind.Word word.Other ∷ []
    hash e = (left_of line ks rest p.Hash g.turns g.enough g.same h e).same

    pub bad_byte : (n : ℕ) → piece rest ≡ p.BadByte n → kinds line ≡ ks ++ kind.Word word.Other ∷ []
    bad_byte n e = (left_of line ks rest (p.BadByte n) g.turns g.enough g.same h e).same

    pub bad_number : piece rest ≡ p.BadNumber → kinds line ≡ ks ++ kind.Word word.Other ∷ []
    bad_number e = (left_of line ks rest p.BadNumber g.turns g.enough g.same h e).same

    pub unended : piece rest ≡ p.Unended → kinds line ≡ ks ++ kind.Word word.Other ∷ []
    unended e = (left_of line ks rest p.Unended g.turns g.enough g.same h e).same
