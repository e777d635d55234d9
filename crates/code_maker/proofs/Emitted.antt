-- The code of nodes, as it is made.
use Rattle.std.proofs.Common.{◌≡◌, ℕ, suc, ◌+◌, ◌-◌, ◌<◌, ◌≤◌, drop, List, [], ◌∷◌, ◌++◌, length, append_assoc, refl, ap, ◌∙◌, arith}
use Rattle.std.proofs.lemmas.List.{drop_all, append-nil}
use Rattle.c_tree.specs.declared.tree.PrintPiece.{PrintPiece}
use Rattle.c_tree.specs.declared.tree.PrintPiece.TheVariants as print
use Rattle.machine_code.specs.declared.instr.Instr.{Instr}
use Rattle.machine_code.specs.declared.instr.Instr.TheVariants as instr
use Rattle.code_maker.specs.NodeCode.{piece_code, drops}

-- writes the pieces, where so many values are left to be written
abbrev pub pieces_from : ℕ → List PrintPiece → List Instr
pieces_from n [] = []
pieces_from n (print.Byte b ∷ ps) = instr.OutB b ∷ pieces_from n ps
pieces_from n (print.Number ∷ ps) = instr.OutN (n - 1) ∷ pieces_from (n - 1) ps

left_pieces : (n k : ℕ) (ps : List PrintPiece) → piece_code n k ps ≡ pieces_from (n - k) ps
left_pieces n k [] = refl
left_pieces n k (print.Byte b ∷ ps) = ap (λ is. instr.OutB b ∷ is) (left_pieces n k ps)
left_pieces n k (print.Number ∷ ps) =
    let e : n - 1 - k ≡ n - k - 1 = omega arith in
    let f : n - (k + 1) ≡ n - k - 1 = omega arith in
    let r = left_pieces n (k + 1) ps in
    cc

pub all_pieces : (n : ℕ) (ps : List PrintPiece) → piece_code n 0 ps ≡ pieces_from n ps
all_pieces n ps = left_pieces n 0 ps ∙ ap (λ m. pieces_from m ps) (omega arith)

pub drops_next : (n i : ℕ) → i < n → drops (n - i) ≡ instr.Drop ∷ drops (n - (i + 1))
drops_next n i h = ap drops (let e : n - i ≡ suc (n - (i + 1)) = omega arith in e)

pub drops_over : (n i : ℕ) → n - i ≡ 0 → drops (n - i) ≡ []
drops_over n i h = ap drops h

pub drops_kept : (code old new : List Instr) (n i : ℕ) → i < n → code ++ drops (n - i) ≡ old ++ drops n → new ≡ code ++ instr.Drop ∷ [] → new ++ drops (n - (i + 1)) ≡ old ++ drops n
drops_kept code old new n i h k e = let d = drops_next n i h in let a = append_assoc code (instr.Drop ∷ []) (drops (n - (i + 1))) in cc

pub pieces_done : (code old : List Instr) (n left i : ℕ) (ps : List PrintPiece) → length ps ≤ i → code ++ pieces_from left (drop i ps) ≡ old ++ pieces_from n ps → code ≡ old ++ piece_code n 0 ps
pieces_done code old n left i ps h k = let d = drop_all i ps h in let a = append-nil code in let e = all_pieces n ps in cc
