-- A string, byte after byte.
use Rattle.std.proofs.Common.{◌≡◌, ℕ, suc, ◌+◌, ◌<◌, ◌≤◌, List, [], ◌∷◌, ◌++◌, length, drop, get_or, refl, sym, ap, ◌∙◌, arith, drop-cons}
use Rattle.std.proofs.lemmas.List.{drop_all}
use Rattle.c_tree.specs.declared.token.Kind.TheVariants as kind
use Rattle.c_tree.specs.declared.token.Piece.TheVariants as piece
use Rattle.c_tree.specs.declared.token.Within.{Within}
use Rattle.c_tree.specs.declared.token.Within.TheVariants as within
use Rattle.c_tree.specs.declared.token.Turn.{Turn}
use Rattle.c_tree.specs.declared.token.Turn.TheVariants as turn'
use Rattle.c_tree.specs.declared.tree.PrintPiece.{PrintPiece}
use Rattle.c_tree.specs.Scan.{turn, turned, string}

-- to go on from the i-th byte gives what the whole gives
pub record InString (bytes : List ℕ) (w : Within) (ps : List PrintPiece) (n i : ℕ) : Type 0 where
  pub count : n ≡ i + 1
  pub same : string w ps n (drop i bytes) ≡ string within.Plain [] 1 bytes

pub starts : (bytes : List ℕ) → InString bytes within.Plain [] 1 0
starts bytes = record { count = omega arith; same = refl }

module _ (bytes : List ℕ) (w : Within) (ps : List PrintPiece) (n i : ℕ) (g : InString bytes w ps n i) where
  pub over : length bytes ≤ i → string within.Plain [] 1 bytes ≡ piece.BadByte n
  over l = sym g.same ∙ ap (string w ps n) (drop_all i bytes l)

  module _ (l : i < length bytes) (t : Turn) (h : t ≡ turn w (get_or bytes i 0)) where
    next : string within.Plain [] 1 bytes ≡ turned t ps n (λ v qs. string v qs (n + 1) (drop (suc i) bytes))
    next = sym g.same ∙ ap (string w ps n) (drop-cons bytes i 0 l) ∙ ap (λ u. turned u ps n (λ v qs. string v qs (n + 1) (drop (suc i) bytes))) (sym h)

    moved : (v : Within) (qs : List PrintPiece) → string within.Plain [] 1 bytes ≡ string v qs (n + 1) (drop (suc i) bytes) → InString bytes v qs (n + 1) (i + 1)
    moved v qs e = record { count = omega (arith, g.count); same = (let k : i + 1 ≡ suc i = omega arith in ap (λ k. string v qs (n + 1) (drop k bytes)) k) ∙ sym e }

    pub closes : t ≡ turn'.Closes → string within.Plain [] 1 bytes ≡ piece.Is (kind.Format ps) (n + 1)
    closes e = next ∙ ap (λ u. turned u ps n (λ v qs. string v qs (n + 1) (drop (suc i) bytes))) e

    pub spoils : t ≡ turn'.Spoils → string within.Plain [] 1 bytes ≡ piece.BadByte n
    spoils e = next ∙ ap (λ u. turned u ps n (λ v qs. string v qs (n + 1) (drop (suc i) bytes))) e

    pub writes : (p : PrintPiece) → t ≡ turn'.Writes p → InString bytes within.Plain (ps ++ p ∷ []) (n + 1) (i + 1)
    writes p e = moved within.Plain (ps ++ p ∷ []) (next ∙ ap (λ u. turned u ps n (λ v qs. string v qs (n + 1) (drop (suc i) bytes))) e)

    pub goes : (v : Within) → t ≡ turn'.Goes v → InString bytes v ps (n + 1) (i + 1)
    goes v e = moved v ps (next ∙ ap (λ u. turned u ps n (λ v qs. string v qs (n + 1) (drop (suc i) bytes))) e)
