-- The code of expressions has its operands.
use Rattle.std.proofs.Common.{◌≡◌, ℕ, ◌+◌, ◌<◌, ◌≤◌, max, [], ◌∷◌, ◌++◌, length, Option, Some, None, Bool, true, false, pos, refl, sym, subst, arith}
use Rattle.std.specs.Prelude.{slice_get, if◌then◌else◌}
use Rattle.c_tree.specs.declared.resolved.Direction.{Direction}
use Rattle.c_tree.specs.declared.resolved.Direction.TheVariants as direction
use Rattle.c_tree.specs.declared.resolved.RUnary.{RUnary}
use Rattle.c_tree.specs.declared.resolved.RUnary.TheVariants as unary
use Rattle.c_tree.specs.declared.resolved.RBinary.{RBinary}
use Rattle.c_tree.specs.declared.resolved.RBinary.TheVariants as binary
use Rattle.c_tree.specs.declared.resolved.RExpr.{RExpr}
use Rattle.c_tree.specs.declared.resolved.RExpr.TheViews.{roll-RExpr}
use Rattle.c_tree.specs.declared.resolved.RExpr.TheOpen.{RExpr-F}
use Rattle.c_tree.specs.declared.resolved.RExpr.TheFolds.{map-RExpr, fold-roll-RExpr, ind-RExpr}
use Rattle.c_tree.specs.Kinds.{World, Signature, kind_at, kind, of_numbers, of_alike, of_binary, of_move, of_pointed}
use Rattle.machine_code.specs.declared.instr.Instr.{Instr}
use Rattle.machine_code.specs.declared.instr.Instr.TheVariants as instr
use Rattle.machine_code.specs.CodeView.{CodeView, locals_from}
use Rattle.machine_code.specs.Needs.{needs, gives, EachNext, parameters_of}
use Rattle.machine_code.specs.Valid.{Names, LevelAt}
use Rattle.code_maker.specs.ExprCode.{Block, unary_instr, binary_instr, move_instr, both, then_one, and_block, or_block, expr_block_at, expr_block}
use Rattle.code_maker.specs.Depths.{expr_depth_at, expr_depth}
use Rattle.code_maker.proofs.DepthList.{Setting, IsSound, Fits, one_fits, both_fit}
use Rattle.code_maker.proofs.ValidJumps.{and_rest, or_rest}

-- what the bodies of a world name is there
pub record Serves (c : CodeView) (cells own : ℕ) (w : World) : Type 0 where
  pub cell : (i : ℕ) (b : Bool) → w.cell i ≡ Some b → i < cells
  pub local : (i : ℕ) (b : Bool) → w.local i ≡ Some b → i < locals_from c.functions own
  pub object : (o : ℕ) → w.has_address o ≡ true → o < length c.objects
  pub function : (f : ℕ) (g : Signature) → w.function f ≡ Some g → f < length c.functions
  pub parameters : (f : ℕ) (g : Signature) → w.function f ≡ Some g → parameters_of (slice_get c.functions f) ≡ length g.parameters
  pub main : w.is_main ≡ true → own ≡ 0

-- ---- kinds

-- it keeps the rules
abbrev pub HasKind : Option Bool → Type 0
HasKind k = (b : Bool) × (k ≡ Some b)

no_kind : {b : Bool} → {A : Type 0} → None ≡ Some b → A
no_kind e = absurd (cc)

numbers_have : (a b : Option Bool) (r : Bool) → of_numbers a b ≡ Some r → HasKind a × HasKind b
numbers_have None b r e = no_kind e
numbers_have (Some true) b r e = no_kind e
numbers_have (Some false) None r e = no_kind e
numbers_have (Some false) (Some true) r e = no_kind e
numbers_have (Some false) (Some false) r e = ((false, refl), (false, refl))

alike_have : (a b : Option Bool) (r : Bool) → of_alike a b ≡ Some r → HasKind a × HasKind b
alike_have None b r e = no_kind e
alike_have (Some true) None r e = no_kind e
alike_have (Some true) (Some true) r e = ((true, refl), (true, refl))
alike_have (Some true) (Some false) r e = no_kind e
alike_have (Some false) b r e = numbers_have (Some false) b r e

binary_have : (op : RBinary) (a b : Option Bool) (r : Bool) → of_binary op a b ≡ Some r → HasKind a × HasKind b
binary_have binary.Equal a b r e = alike_have a b r e
binary_have binary.Unequal a b r e = alike_have a b r e
binary_have op a b r e = numbers_have a b r e

move_have : (a b : Option Bool) (r : Bool) → of_move a b ≡ Some r → HasKind a × HasKind b
move_have None b r e = no_kind e
move_have (Some false) b r e = no_kind e
move_have (Some true) None r e = no_kind e
move_have (Some true) (Some true) r e = no_kind e
move_have (Some true) (Some false) r e = ((true, refl), (false, refl))

pub pointed_has : (a : Option Bool) (r : Bool) → of_pointed a ≡ Some r → HasKind a
pointed_has None r e = no_kind e
pointed_has (Some false) r e = no_kind e
pointed_has (Some true) r e = (true, refl)

address_is : (h : Bool) (r : Bool) → (if h then Some true else None) ≡ Some r → h ≡ true
address_is true r e = refl
address_is false r e = no_kind e

-- ---- blocks of expressions: of this kind, with at most n operands, which leave one more

abbrev pub Good : Setting → Option Bool → ℕ → Block → Type 0
Good S k n a = (1 ≤ n) × ((b : Bool) → k ≡ Some b → (p d : ℕ) → d + n ≤ S.code.stack → Fits S p (a p) d (d + 1))

module _ (S : Setting) where
  -- an instruction that puts a word
  good_put : (k : Option Bool) (i : Instr) → needs S.code i ≡ 0 → gives i ≡ 1 → ((d : ℕ) → LevelAt i d) → ((b : Bool) → k ≡ Some b → (p : ℕ) → S.low ≤ p → p < S.last → Names S.code p i) → ((b : Bool) → k ≡ Some b → (p : ℕ) → IsSound S.code S.cells S.most p i)
      → ((P : ℕ → Type 0) (p : ℕ) → P (p + 1) → EachNext P i p) → ((P : ℕ → Type 0) (p : ℕ) → EachNext P i p → P (p + 1)) → Good S k 1 (λ p. i ∷ [])
  good_put k i takes leaves level names sound to from = (omega arith, λ b e p d room. one_fits S p i d (d + 1) (omega arith) (omega arith) (omega arith) (level d) (names b e p) (sound b e p) (λ P. to P p) (λ P. from P p))

  -- one operand is replaced
  pub replace_fits : (i : Instr) → needs S.code i ≡ 1 → gives i ≡ 1 → ((d : ℕ) → LevelAt i d) → ((p : ℕ) → Names S.code p i) → ((p : ℕ) → IsSound S.code S.cells S.most p i) → ((P : ℕ → Type 0) (p : ℕ) → P (p + 1) → EachNext P i p) → ((P : ℕ → Type 0) (p : ℕ) → EachNext P i p → P (p + 1))
      → (p d : ℕ) → d + 1 ≤ S.code.stack → Fits S p (i ∷ []) (d + 1) (d + 1)
  replace_fits i takes leaves level names sound to from p d room = one_fits S p i (d + 1) (d + 1) (omega arith) room (omega arith) (level (d + 1)) (λ a b. names p) (sound p) (λ P. to P p) (λ P. from P p)

  -- two operands are replaced by one
  join_fits : (i : Instr) → needs S.code i ≡ 2 → gives i ≡ 1 → ((d : ℕ) → LevelAt i d) → ((p : ℕ) → Names S.code p i) → ((p : ℕ) → IsSound S.code S.cells S.most p i) → ((P : ℕ → Type 0) (p : ℕ) → P (p + 1) → EachNext P i p) → ((P : ℕ → Type 0) (p : ℕ) → EachNext P i p → P (p + 1))
      → (p d : ℕ) → d + 1 + 1 ≤ S.code.stack → Fits S p (i ∷ []) (d + 1 + 1) (d + 1)
  join_fits i takes leaves level names sound to from p d room = one_fits S p i (d + 1 + 1) (d + 1) (omega arith) room (omega arith) (level (d + 1 + 1)) (λ a b. names p) (sound p) (λ P. to P p) (λ P. from P p)

  unary_fits : (op : RUnary) (p d : ℕ) → d + 1 ≤ S.code.stack → Fits S p (unary_instr op ∷ []) (d + 1) (d + 1)
  unary_fits unary.Neg = replace_fits instr.Neg refl refl (λ d. tt) (λ p. tt) (λ p. tt) (λ P p h. h) (λ P p h. h)
  unary_fits unary.Not = replace_fits instr.Not refl refl (λ d. tt) (λ p. tt) (λ p. tt) (λ P p h. h) (λ P p h. h)
  unary_fits unary.Inv = replace_fits instr.Inv refl refl (λ d. tt) (λ p. tt) (λ p. tt) (λ P p h. h) (λ P p h. h)

  binary_fits : (op : RBinary) (p d : ℕ) → d + 1 + 1 ≤ S.code.stack → Fits S p (binary_instr op ∷ []) (d + 1 + 1) (d + 1)
  binary_fits binary.Add = join_fits instr.Add refl refl (λ d. tt) (λ p. tt) (λ p. tt) (λ P p h. h) (λ P p h. h)
  binary_fits op = join_fits (binary_instr op) refl refl (λ d. tt) (λ p. tt) (λ p. tt) (λ P p h. h) (λ P p h. h)

  move_fits : (to : Direction) (p d : ℕ) → d + 1 + 1 ≤ S.code.stack → Fits S p (move_instr to ∷ []) (d + 1 + 1) (d + 1)
  move_fits direction.Forward = join_fits instr.Move refl refl (λ d. tt) (λ p. tt) (λ p. tt) (λ P p h. h) (λ P p h. h)
  move_fits direction.Back = join_fits instr.Back refl refl (λ d. tt) (λ p. tt) (λ p. tt) (λ P p h. h) (λ P p h. h)

  good_last : (k r : Option Bool) (n : ℕ) (a : Block) (i : Instr) → ((b : Bool) → r ≡ Some b → HasKind k) → ((p d : ℕ) → d + 1 ≤ S.code.stack → Fits S p (i ∷ []) (d + 1) (d + 1)) → Good S k n a → Good S r n (then_one a i)
  good_last k r n a i has fi g = (
    g.0,
    λ b e p d room.
        let h = has b e in
        both_fit S p (a p) (i ∷ []) d (d + 1) (d + 1) (g.1 h.0 h.1 p d room) (fi (p + length (a p)) d (omega (arith, g.0))),
  )

  good_join : (k l r : Option Bool) (m n : ℕ) (a b : Block) (i : Instr) → ((s : Bool) → r ≡ Some s → HasKind k × HasKind l) → ((p d : ℕ) → d + 1 + 1 ≤ S.code.stack → Fits S p (i ∷ []) (d + 1 + 1) (d + 1)) → Good S k m a → Good S l n b → Good S r (max m (n + 1)) (then_one (both a b) i)
  good_join k l r m n a b i has fi g h = (
    omega arith,
    λ s e p d room.
        let x = has s e in
        let q = p + length (a p) in
        let x0 = g.1 x.0.0 x.0.1 p d (omega arith) in
        let x1 = h.1 x.1.0 x.1.1 q (d + 1) (omega arith) in
        let x2 = both_fit S p (a p) (b q) d (d + 1) (d + 1 + 1) x0 x1 in
        both_fit S p (a p ++ b q) (i ∷ []) d (d + 1 + 1) (d + 1) x2 (fi (p + length (a p ++ b q)) d (omega (arith, h.0))),
  )

  good_and : (k l : Option Bool) (m n : ℕ) (a b : Block) → Good S k m a → Good S l n b → Good S (of_numbers k l) (max m n) (and_block a b)
  good_and k l m n a b g h = (
    omega (arith, g.0),
    λ s e p d room.
        let x = numbers_have k l s e in
        let q = p + length (a p) in
        both_fit S p (a p) (instr.JumpZ (q + 1 + length (b (q + 1)) + 2) ∷ (b (q + 1) ++ (instr.Test ∷ instr.Jump (q + 1 + length (b (q + 1)) + 2 + 1) ∷ instr.Num (pos 0) ∷ []))) d (d + 1) (d + 1) (g.1 x.0.0 x.0.1 p d (omega arith))
        (and_rest S q d (b (q + 1)) (omega (arith, g.0)) (h.1 x.1.0 x.1.1 (q + 1) d (omega arith))),
  )

  good_or : (k l : Option Bool) (m n : ℕ) (a b : Block) → Good S k m a → Good S l n b → Good S (of_numbers k l) (max m n) (or_block a b)
  good_or k l m n a b g h = (
    omega (arith, g.0),
    λ s e p d room.
        let x = numbers_have k l s e in
        let q = p + length (a p) in
        both_fit S p (a p) (instr.JumpZ (q + 3) ∷ instr.Num (pos 1) ∷ instr.Jump (q + 3 + length (b (q + 3)) + 1) ∷ (b (q + 3) ++ (instr.Test ∷ []))) d (d + 1) (d + 1) (g.1 x.0.0 x.0.1 p d (omega arith))
        (or_rest S q d (b (q + 3)) (omega (arith, g.0)) (h.1 x.1.0 x.1.1 (q + 3) d (omega arith))),
  )

  module _ (w : World) (serves : Serves S.code S.cells S.own w) where
    abbrev GoodExpr : RExpr → Type 0
    GoodExpr e = Good S (kind w e) (expr_depth e) (expr_block e)

    abbrev GoodLayer : RExpr-F RExpr → Type 0
    GoodLayer x = Good S (kind_at w (map-RExpr RExpr (Option Bool) (kind w) x)) (expr_depth_at (map-RExpr RExpr ℕ expr_depth x)) (expr_block_at (map-RExpr RExpr Block expr_block x))

    good_layer : (y : RExpr-F ((e : RExpr) × GoodExpr e)) → GoodLayer (map-RExpr ((e : RExpr) × GoodExpr e) RExpr (λ e. e.0) y)
    good_layer (RExpr-F.Num n) = good_put (Some false) (instr.Num n) refl refl (λ d. tt) (λ b e p low le. tt) (λ b e p. tt) (λ P p h. h) (λ P p h. h)
    good_layer (RExpr-F.Cell c) = good_put (w.cell c) (instr.LoadC c) refl refl (λ d. tt) (λ b e p low le. tt) (λ b e p. serves.cell c b e) (λ P p h. h) (λ P p h. h)
    good_layer (RExpr-F.Local i) = good_put (w.local i) (instr.LoadL i) refl refl (λ d. tt)
        (λ b e p low le. subst (λ s. i < locals_from S.code.functions s) (sym (S.at_home p low (omega arith))) (serves.local i b e)) (λ b e p. tt) (λ P p h. h) (λ P p h. h)
    good_layer (RExpr-F.Object o) = good_put (if w.has_address o then Some true else None) (instr.Addr o) refl refl (λ d. tt) (λ b e p low le. serves.object o (address_is (w.has_address o) b e)) (λ b e p. tt) (λ P p h. h) (λ P p h. h)
    good_layer RExpr-F.Null = good_put (Some true) (instr.Num (pos 0)) refl refl (λ d. tt) (λ b e p low le. tt) (λ b e p. tt) (λ P p h. h) (λ P p h. h)
    good_layer (RExpr-F.Unary op x) = good_last (kind w x.0) (of_numbers (kind w x.0) (Some false)) (expr_depth x.0) (expr_block x.0) (unary_instr op) (λ b e. (numbers_have (kind w x.0) (Some false) b e).0) (unary_fits op) x.1
    good_layer (RExpr-F.Binary op x y) = good_join (kind w x.0) (kind w y.0) (of_binary op (kind w x.0) (kind w y.0)) (expr_depth x.0) (expr_depth y.0) (expr_block x.0) (expr_block y.0) (binary_instr op) (binary_have op (kind w x.0) (kind w y.0)) (binary_fits op) x.1 y.1
    good_layer (RExpr-F.And x y) = good_and (kind w x.0) (kind w y.0) (expr_depth x.0) (expr_depth y.0) (expr_block x.0) (expr_block y.0) x.1 y.1
    good_layer (RExpr-F.Or x y) = good_or (kind w x.0) (kind w y.0) (expr_depth x.0) (expr_depth y.0) (expr_block x.0) (expr_block y.0) x.1 y.1
    good_layer (RExpr-F.Move x y to) = good_join (kind w x.0) (kind w y.0) (of_move (kind w x.0) (kind w y.0)) (expr_depth x.0) (expr_depth y.0) (expr_block x.0) (expr_block y.0) (move_instr to) (move_have (kind w x.0) (kind w y.0)) (move_fits to) x.1 y.1
    good_layer (RExpr-F.Fetch x) = good_last (kind w x.0) (of_pointed (kind w x.0)) (expr_depth x.0) (expr_block x.0) instr.Fetch (pointed_has (kind w x.0)) (replace_fits instr.Fetch refl refl (λ d. tt) (λ p. tt) (λ p. tt) (λ P p h. h) (λ P p h. h)) x.1

    -- each expression that keeps the rules
    pub good_expr : (e : RExpr) → GoodExpr e
    good_expr = ind-RExpr GoodExpr (λ x y is.
        let l : GoodLayer x = subst GoodLayer is (good_layer y) in
        let n = expr_depth_at (map-RExpr RExpr ℕ expr_depth x) in
        let a = expr_block_at (map-RExpr RExpr Block expr_block x) in
        let l1 = subst (λ k. Good S k n a) (sym (fold-roll-RExpr (Option Bool) (kind_at w) x)) l in
        let l2 = subst (λ m. Good S (kind w (roll-RExpr x)) m a) (sym (fold-roll-RExpr ℕ expr_depth_at x)) l1 in
        subst (λ b. Good S (kind w (roll-RExpr x)) (expr_depth (roll-RExpr x)) b) (sym (fold-roll-RExpr Block expr_block_at x)) l2)
