-- The code of each kind of expression, from those of its parts.
use Rattle.std.proofs.Common.{◌≡◌, ℕ, ◌+◌, ℤ, pos, List, [], ◌∷◌, ◌++◌, length, length-append, append_assoc, sym, ap, ◌∙◌, arith}
use Rattle.std.specs.Prelude.{slice_set, Result, OnOk}
use Rattle.std.proofs.lemmas.Result.{on_ok_weaker}
use Rattle.std.proofs.Math.Seq.{set-append_seam}
use Rattle.c_tree.specs.declared.resolved.Direction.{Direction}
use Rattle.c_tree.specs.declared.resolved.RUnary.{RUnary}
use Rattle.c_tree.specs.declared.resolved.RBinary.{RBinary}
use Rattle.c_tree.specs.declared.resolved.RExpr.{RExpr}
use Rattle.c_tree.specs.declared.resolved.RExpr.TheOpen.{RExpr-F}
use Rattle.c_tree.specs.declared.resolved.RExpr.TheFolds.{fold-roll-RExpr}
use Rattle.c_tree.specs.declared.resolved.RExpr.TheVariants as expr
use Rattle.machine_code.specs.declared.instr.Instr.{Instr}
use Rattle.machine_code.specs.declared.instr.Instr.TheVariants as instr
use Rattle.code_maker.specs.ExprCode.{Block, both, then_one, and_block, or_block, unary_instr, binary_instr, move_instr, expr_block_at, expr_block}

-- ---- each kind

pub block_num : (n : ℤ) → expr_block (expr.Num n) ≡ (λ p. instr.Num n ∷ [])
block_num n = ap expr_block (sym (expr.rolls-Num n)) ∙ fold-roll-RExpr Block expr_block_at (RExpr-F.Num n)

pub block_cell : (c : ℕ) → expr_block (expr.Cell c) ≡ (λ p. instr.LoadC c ∷ [])
block_cell c = ap expr_block (sym (expr.rolls-Cell c)) ∙ fold-roll-RExpr Block expr_block_at (RExpr-F.Cell c)

pub block_local : (i : ℕ) → expr_block (expr.Local i) ≡ (λ p. instr.LoadL i ∷ [])
block_local i = ap expr_block (sym (expr.rolls-Local i)) ∙ fold-roll-RExpr Block expr_block_at (RExpr-F.Local i)

pub block_object : (o : ℕ) → expr_block (expr.Object o) ≡ (λ p. instr.Addr o ∷ [])
block_object o = ap expr_block (sym (expr.rolls-Object o)) ∙ fold-roll-RExpr Block expr_block_at (RExpr-F.Object o)

pub block_null : expr_block expr.Null ≡ (λ p. instr.Num (pos 0) ∷ [])
block_null = ap expr_block (sym expr.rolls-Null) ∙ fold-roll-RExpr Block expr_block_at RExpr-F.Null

pub block_unary : (op : RUnary) (x : RExpr) → expr_block (expr.Unary op x) ≡ then_one (expr_block x) (unary_instr op)
block_unary op x = ap expr_block (sym (expr.rolls-Unary op x)) ∙ fold-roll-RExpr Block expr_block_at (RExpr-F.Unary op x)

pub block_binary : (op : RBinary) (x y : RExpr) → expr_block (expr.Binary op x y) ≡ then_one (both (expr_block x) (expr_block y)) (binary_instr op)
block_binary op x y = ap expr_block (sym (expr.rolls-Binary op x y)) ∙ fold-roll-RExpr Block expr_block_at (RExpr-F.Binary op x y)

pub block_and : (x y : RExpr) → expr_block (expr.And x y) ≡ and_block (expr_block x) (expr_block y)
block_and x y = ap expr_block (sym (expr.rolls-And x y)) ∙ fold-roll-RExpr Block expr_block_at (RExpr-F.And x y)

pub block_or : (x y : RExpr) → expr_block (expr.Or x y) ≡ or_block (expr_block x) (expr_block y)
block_or x y = ap expr_block (sym (expr.rolls-Or x y)) ∙ fold-roll-RExpr Block expr_block_at (RExpr-F.Or x y)

pub block_move : (x y : RExpr) (d : Direction) → expr_block (expr.Move x y d) ≡ then_one (both (expr_block x) (expr_block y)) (move_instr d)
block_move x y d = ap expr_block (sym (expr.rolls-Move x y d)) ∙ fold-roll-RExpr Block expr_block_at (RExpr-F.Move x y d)

pub block_fetch : (x : RExpr) → expr_block (expr.Fetch x) ≡ then_one (expr_block x) instr.Fetch
block_fetch x = ap expr_block (sym (expr.rolls-Fetch x)) ∙ fold-roll-RExpr Block expr_block_at (RExpr-F.Fetch x)

-- ---- one block behind another

emits_both : (a b : Block) (old first second : List Instr) (i : Instr) → first ≡ old ++ a (length old) → second ≡ first ++ b (length first) → second ++ i ∷ [] ≡ old ++ then_one (both a b) i (length old)
emits_both a b old first second i h k =
    let n : length first ≡ length old + length (a (length old)) = omega (arith, length-append old (a (length old)), ap length h) in
    let as' = a (length old) in let bs = b (length old + length as') in
    let e = append_assoc old as' bs in let f = append_assoc old (as' ++ bs) (i ∷ []) in
    cc

-- ---- a jump that is patched

-- the instruction behind some becomes another, and more follow
patched : (old as' bs ts : List Instr) (i j : Instr) → slice_set (((old ++ as') ++ i ∷ []) ++ bs) (length (old ++ as')) j ++ ts ≡ old ++ (as' ++ (j ∷ (bs ++ ts)))
patched old as' bs ts i j =
    ap (λ xs. slice_set xs (length (old ++ as')) j ++ ts) (append_assoc (old ++ as') (i ∷ []) bs)
    ∙ ap (λ xs. xs ++ ts) (set-append_seam (old ++ as') i bs j)
    ∙ append_assoc (old ++ as') (j ∷ bs) ts ∙ append_assoc old as' (j ∷ (bs ++ ts))

emits_and : (a b : Block) (old first second : List Instr) (i : Instr) → first ≡ old ++ a (length old) → second ≡ (first ++ i ∷ []) ++ b (length (first ++ i ∷ []))
    → slice_set second (length first) (instr.JumpZ (length second + 2)) ++ (instr.Test ∷ instr.Jump (length second + 2 + 1) ∷ instr.Num (pos 0) ∷ []) ≡ old ++ and_block a b (length old)
emits_and a b old first second i h k =
    let q = length old + length (a (length old)) + 1 in
    let p : length (first ++ i ∷ []) ≡ q = omega (arith, length-append first (i ∷ []), length-append old (a (length old)), ap length h) in
    let e : second ≡ ((old ++ a (length old)) ++ i ∷ []) ++ b q = cc in
    let n : length second ≡ q + length (b q) = omega (arith, ap length e, length-append ((old ++ a (length old)) ++ i ∷ []) (b q), length-append (old ++ a (length old)) (i ∷ []), length-append old (a (length old))) in
    let z = q + length (b q) + 2 in
    let s = patched old (a (length old)) (b q) (instr.Test ∷ instr.Jump (z + 1) ∷ instr.Num (pos 0) ∷ []) i (instr.JumpZ z) in
    cc

-- the third of three instructions behind some becomes another, and more follow
patched_third : (first bs ts : List Instr) (i j k l : Instr) → slice_set ((first ++ (i ∷ j ∷ k ∷ [])) ++ bs) (length first + 2) l ++ ts ≡ first ++ (i ∷ j ∷ l ∷ (bs ++ ts))
patched_third first bs ts i j k l =
    let e : (first ++ (i ∷ j ∷ k ∷ [])) ++ bs ≡ (first ++ (i ∷ j ∷ [])) ++ (k ∷ bs) = append_assoc first (i ∷ j ∷ k ∷ []) bs ∙ sym (append_assoc first (i ∷ j ∷ []) (k ∷ bs)) in
    let n : length first + 2 ≡ length (first ++ (i ∷ j ∷ [])) = sym (length-append first (i ∷ j ∷ [])) in
    let s = set-append_seam (first ++ (i ∷ j ∷ [])) k bs l in
    let f : ((first ++ (i ∷ j ∷ [])) ++ (l ∷ bs)) ++ ts ≡ first ++ (i ∷ j ∷ l ∷ (bs ++ ts)) = ap (λ xs. xs ++ ts) (append_assoc first (i ∷ j ∷ []) (l ∷ bs)) ∙ append_assoc first (i ∷ j ∷ l ∷ bs) ts in
    cc

emits_or : (a b : Block) (old first middle second : List Instr) → first ≡ old ++ a (length old)
    → middle ≡ first ++ (instr.JumpZ (length first + 3) ∷ instr.Num (pos 1) ∷ instr.Jump 0 ∷ []) → second ≡ middle ++ b (length middle)
    → slice_set second (length first + 2) (instr.Jump (length second + 1)) ++ instr.Test ∷ [] ≡ old ++ or_block a b (length old)
emits_or a b old first middle second h m k =
    let q = length old + length (a (length old)) + 3 in
    let n : length first + 3 ≡ q = omega (arith, length-append old (a (length old)), ap length h) in
    let o : length middle ≡ q = omega (arith, length-append first (instr.JumpZ (length first + 3) ∷ instr.Num (pos 1) ∷ instr.Jump 0 ∷ []), ap length m) in
    let z : length second + 1 ≡ q + length (b q) + 1 = omega (arith, ap length k, length-append middle (b (length middle)), ap (λ i. length (b i)) o) in
    let s = patched_third first (b q) (instr.Test ∷ []) (instr.JumpZ (length first + 3)) (instr.Num (pos 1)) (instr.Jump 0) (instr.Jump (length second + 1)) in
    let f = append_assoc old (a (length old)) (instr.JumpZ q ∷ instr.Num (pos 1) ∷ instr.Jump (q + length (b q) + 1) ∷ (b q ++ (instr.Test ∷ []))) in
    cc

-- ---- the code of an expression, made of those of its parts

pub makes_fetch : {E : Type 0} (r : Result (Unit {0}) E) {e x gx : RExpr} (old new : List Instr) {first : List Instr} → e ≡ expr.Fetch x → gx ≡ x → first ≡ old ++ expr_block gx (length old)
    → OnOk r (new ≡ first ++ instr.Fetch ∷ []) → OnOk r (new ≡ old ++ expr_block e (length old))
makes_fetch r {x = x} old new h g f = on_ok_weaker r (λ k.
    let b = ap (λ (b : Block). b (length old)) (block_fetch x) in let a = append_assoc old (expr_block x (length old)) (instr.Fetch ∷ []) in cc)

pub makes_move : {E : Type 0} (r : Result (Unit {0}) E) {e x y gx gy : RExpr} (old new : List Instr) {first second : List Instr} (d : Direction) {i : Instr} → e ≡ expr.Move x y d → gx ≡ x → gy ≡ y → i ≡ move_instr d
    → first ≡ old ++ expr_block gx (length old) → second ≡ first ++ expr_block gy (length first) → OnOk r (new ≡ second ++ i ∷ []) → OnOk r (new ≡ old ++ expr_block e (length old))
makes_move r {x = x} {y = y} {gx = gx} {gy = gy} old new {first = first} {second = second} d {i = i} h g g' m f s = on_ok_weaker r (λ k.
    let b = ap (λ (b : Block). b (length old)) (block_move x y d) in let a = emits_both (expr_block gx) (expr_block gy) old first second i f s in cc)

pub makes_and : {E : Type 0} (r : Result (Unit {0}) E) {e x y gx gy : RExpr} (old new : List Instr) {first middle second : List Instr} {n : ℕ} → e ≡ expr.And x y → gx ≡ x → gy ≡ y → first ≡ old ++ expr_block gx (length old)
    → n ≡ length first → middle ≡ first ++ instr.JumpZ 0 ∷ [] → second ≡ middle ++ expr_block gy (length middle)
    → OnOk r (new ≡ slice_set second n (instr.JumpZ (length second + 2)) ++ (instr.Test ∷ instr.Jump (length second + 2 + 1) ∷ instr.Num (pos 0) ∷ [])) → OnOk r (new ≡ old ++ expr_block e (length old))
makes_and r {x = x} {y = y} {gx = gx} {gy = gy} old new {first = first} {second = second} h g g' f l m s = on_ok_weaker r (λ k.
    let b = ap (λ (b : Block). b (length old)) (block_and x y) in let a = emits_and (expr_block gx) (expr_block gy) old first second (instr.JumpZ 0) f cc in cc)

pub makes_or : {E : Type 0} (r : Result (Unit {0}) E) {e x y gx gy : RExpr} (old new : List Instr) {first middle second : List Instr} {n : ℕ} → e ≡ expr.Or x y → gx ≡ x → gy ≡ y → first ≡ old ++ expr_block gx (length old)
    → n ≡ length first + 2 → middle ≡ first ++ (instr.JumpZ (length first + 3) ∷ instr.Num (pos 1) ∷ instr.Jump 0 ∷ []) → second ≡ middle ++ expr_block gy (length middle)
    → OnOk r (new ≡ slice_set second n (instr.Jump (length second + 1)) ++ instr.Test ∷ []) → OnOk r (new ≡ old ++ expr_block e (length old))
makes_or r {x = x} {y = y} {gx = gx} {gy = gy} old new {first = first} {middle = middle} {second = second} h g g' f l m s = on_ok_weaker r (λ k.
    let b = ap (λ (b : Block). b (length old)) (block_or x y) in let a = emits_or (expr_block gx) (expr_block gy) old first middle second f m s in cc)
