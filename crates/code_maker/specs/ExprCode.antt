-- The code of expressions: it leaves the value on top of the operands, or traps.
use Rattle.std.specs.Prelude.{ℕ, ◌+◌, pos, List, [], ◌∷◌, ◌++◌, length}
use Rattle.c_tree.specs.declared.resolved.Direction.{Direction}
use Rattle.c_tree.specs.declared.resolved.Direction.TheVariants as direction
use Rattle.c_tree.specs.declared.resolved.RUnary.{RUnary}
use Rattle.c_tree.specs.declared.resolved.RUnary.TheVariants as unary
use Rattle.c_tree.specs.declared.resolved.RBinary.{RBinary}
use Rattle.c_tree.specs.declared.resolved.RBinary.TheVariants as binary
use Rattle.c_tree.specs.declared.resolved.RExpr.{RExpr}
use Rattle.c_tree.specs.declared.resolved.RExpr.TheOpen.{RExpr-F}
use Rattle.c_tree.specs.declared.resolved.RExpr.TheFolds.{fold-RExpr}
use Rattle.machine_code.specs.declared.instr.Instr.{Instr}
use Rattle.machine_code.specs.declared.instr.Instr.TheVariants as instr

-- the instruction of a one-sided operator (C99 6.5.3.3)
abbrev pub unary_instr : RUnary → Instr
unary_instr unary.Neg = instr.Neg
unary_instr unary.Not = instr.Not
unary_instr unary.Inv = instr.Inv

-- the instruction of a two-sided operator (C99 6.5.5 to 6.5.12)
abbrev pub binary_instr : RBinary → Instr
binary_instr binary.Add = instr.Add
binary_instr binary.Sub = instr.Sub
binary_instr binary.Mul = instr.Mul
binary_instr binary.Div = instr.Div
binary_instr binary.Rem = instr.Rem
binary_instr binary.Shl = instr.Shl
binary_instr binary.Shr = instr.Shr
binary_instr binary.BitAnd = instr.And
binary_instr binary.BitOr = instr.Or
binary_instr binary.BitXor = instr.Xor
binary_instr binary.Equal = instr.Eq
binary_instr binary.Unequal = instr.Ne
binary_instr binary.Less = instr.Lt
binary_instr binary.AtMost = instr.Le
binary_instr binary.Greater = instr.Gt
binary_instr binary.AtLeast = instr.Ge

-- the instruction that moves a pointer (C99 6.5.6)
abbrev pub move_instr : Direction → Instr
move_instr direction.Forward = instr.Move
move_instr direction.Back = instr.Back

-- instructions, by the place at which they begin
abbrev pub Block : Type 0
Block = ℕ → List Instr

-- one block behind another
abbrev pub both : Block → Block → Block
both a b p = a p ++ b (p + length (a p))

-- one instruction behind a block
abbrev pub then_one : Block → Instr → Block
then_one a i p = a p ++ i ∷ []

-- where the left is 0 the right is jumped over, and 0 is left in its place (C99 6.5.13)
abbrev pub and_block : Block → Block → Block
and_block a b p =
    let q = p + length (a p) + 1 in
    let zero_at = q + length (b q) + 2 in
    a p ++ (instr.JumpZ zero_at ∷ (b q ++ (instr.Test ∷ instr.Jump (zero_at + 1) ∷ instr.Num (pos 0) ∷ [])))

-- where the left is not 0 the right is jumped over, and 1 is left in its place (C99 6.5.14)
abbrev pub or_block : Block → Block → Block
or_block a b p =
    let q = p + length (a p) + 3 in
    a p ++ (instr.JumpZ q ∷ instr.Num (pos 1) ∷ instr.Jump (q + length (b q) + 1) ∷ (b q ++ (instr.Test ∷ [])))

-- the code of an expression, from those of its parts
abbrev pub expr_block_at : RExpr-F Block → Block
expr_block_at (RExpr-F.Num n) p = instr.Num n ∷ []
expr_block_at (RExpr-F.Cell c) p = instr.LoadC c ∷ []
expr_block_at (RExpr-F.Local i) p = instr.LoadL i ∷ []
expr_block_at (RExpr-F.Object o) p = instr.Addr o ∷ []
expr_block_at RExpr-F.Null p = instr.Num (pos 0) ∷ []
expr_block_at (RExpr-F.Unary op x) p = then_one x (unary_instr op) p
expr_block_at (RExpr-F.Binary op x y) p = then_one (both x y) (binary_instr op) p
expr_block_at (RExpr-F.And x y) p = and_block x y p
expr_block_at (RExpr-F.Or x y) p = or_block x y p
expr_block_at (RExpr-F.Move x y d) p = then_one (both x y) (move_instr d) p
expr_block_at (RExpr-F.Fetch x) p = then_one x instr.Fetch p

abbrev pub expr_block : RExpr → Block
expr_block = fold-RExpr Block expr_block_at

-- the values of expressions, the first lowest
abbrev pub values_block : List RExpr → Block
values_block [] p = []
values_block (e ∷ es) p = both (expr_block e) (values_block es) p
