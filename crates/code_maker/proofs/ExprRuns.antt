-- The code of an expression leaves its value on top of the operands, or traps as it does.
use Rattle.std.proofs.Common.{◌≡◌, ℕ, ◌+◌, List, [], ◌∷◌, ◌++◌, length, Option, Some, None, Result, Ok, Err, Bool, true, false, cond, pos, refl, sym, ap, ◌∙◌, subst, arith, length-append, get_or-append-add}
use Rattle.std.specs.Prelude.{slice_get, slice_index_or, if◌then◌else◌}
use Rattle.ckpt_base.specs.declared.trap.Trap.{Trap}
use Rattle.ckpt_base.specs.Pointer.{pointer_word, moved, cell_of}
use Rattle.ckpt_base.specs.Word.{word_of, word_holds, truth_word}
use Rattle.c_tree.specs.declared.resolved.Direction.{Direction}
use Rattle.c_tree.specs.declared.resolved.Direction.TheVariants.{Forward, Back}
use Rattle.c_tree.specs.declared.resolved.RUnary.{RUnary}
use Rattle.c_tree.specs.declared.resolved.RUnary.TheVariants as unary'
use Rattle.c_tree.specs.declared.resolved.RBinary.{RBinary}
use Rattle.c_tree.specs.declared.resolved.RBinary.TheVariants as binary'
use Rattle.c_tree.specs.declared.resolved.RExpr.{RExpr}
use Rattle.c_tree.specs.declared.resolved.RExpr.TheViews.{roll-RExpr}
use Rattle.c_tree.specs.declared.resolved.RExpr.TheOpen.{RExpr-F}
use Rattle.c_tree.specs.declared.resolved.RExpr.TheFolds.{map-RExpr, fold-roll-RExpr, ind-RExpr}
use Rattle.c_tree.specs.State.{State, Value, ◌>>=◌, unary, binary, places, fetched, object_word, value_at, value}
use Rattle.c_tree.specs.Kinds.{World as Rules, of_numbers, of_binary, of_move, of_pointed, kind_at, kind}
use Rattle.machine_code.specs.declared.instr.Instr.{Instr}
use Rattle.machine_code.specs.declared.instr.Instr.TheVariants as instr
use Rattle.machine_code.specs.declared.event.Caller.{Caller}
use Rattle.machine_code.specs.CodeView.{CodeView}
use Rattle.machine_code.specs.State.{State as Machine, top}
use Rattle.machine_code.specs.Row.{row, answered}
use Rattle.machine_code.specs.Row as row'
use Rattle.machine_code.specs.Run.{World, unprotected}
use Rattle.code_maker.specs.ExprCode.{Block, both, then_one, unary_instr, binary_instr, move_instr, and_block, or_block, expr_block_at, expr_block}
use Rattle.code_maker.proofs.Has.{HasAt, has_front, has_back}
use Rattle.code_maker.proofs.Stand.{machine, stand, Gives, gives_on, gives_then, gives_at, gives_answer, gives_jump, reaches_test}

-- ---- the rows of operators

unary_row : (c : CodeView) (s : Machine) (m : List ℕ) (op : RUnary) → row c unprotected s m (unary_instr op) ≡ answered s m 1 (Ok (unary op (top s 0)))
unary_row c s m unary'.Neg = refl
unary_row c s m unary'.Not = refl
unary_row c s m unary'.Inv = refl

binary_row : (c : CodeView) (s : Machine) (m : List ℕ) (op : RBinary) → row c unprotected s m (binary_instr op) ≡ answered s m 2 (binary op (top s 1) (top s 0))
binary_row c s m binary'.Add = refl
binary_row c s m binary'.Sub = refl
binary_row c s m binary'.Mul = refl
binary_row c s m binary'.Div = refl
binary_row c s m binary'.Rem = refl
binary_row c s m binary'.Shl = refl
binary_row c s m binary'.Shr = refl
binary_row c s m binary'.BitAnd = refl
binary_row c s m binary'.BitOr = refl
binary_row c s m binary'.BitXor = refl
binary_row c s m binary'.Equal = refl
binary_row c s m binary'.Unequal = refl
binary_row c s m binary'.Less = refl
binary_row c s m binary'.AtMost = refl
binary_row c s m binary'.Greater = refl
binary_row c s m binary'.AtLeast = refl

move_row : (c : CodeView) (s : Machine) (m : List ℕ) (d : Direction) → row c unprotected s m (move_instr d) ≡ answered s m 2 (moved c.objects (top s 1) (places d (top s 0)))
move_row c s m Forward = refl
move_row c s m Back = refl

fetched_row : (s : Machine) (m : List ℕ) (r : Result ℕ Trap) → row'.fetched s m r ≡ answered s m 1 (r >>= (λ a. Ok (slice_index_or m a 0)))
fetched_row s m (Ok a) = refl
fetched_row s m (Err t) = refl

-- ---- the kinds of parts

pub of_numbers_parts : (a b : Option Bool) (k : Bool) → of_numbers a b ≡ Some k → (a ≡ Some false) × (b ≡ Some false)
of_numbers_parts None b k h = absurd (cc)
of_numbers_parts (Some true) b k h = absurd (cc)
of_numbers_parts (Some false) None k h = absurd (cc)
of_numbers_parts (Some false) (Some true) k h = absurd (cc)
of_numbers_parts (Some false) (Some false) k h = (refl, refl)

-- each is of some kind
abbrev pub BothKinds : Option Bool → Option Bool → Type 0
BothKinds a b = ((x : Bool) × (a ≡ Some x)) × ((y : Bool) × (b ≡ Some y))

pub numbers_both : (a b : Option Bool) (k : Bool) → of_numbers a b ≡ Some k → BothKinds a b
numbers_both a b k h = let p = of_numbers_parts a b k h in ((false, p.0), (false, p.1))

alike_both : (a b : Option Bool) (k : Bool) → of_binary binary'.Equal a b ≡ Some k → BothKinds a b
alike_both (Some true) (Some true) k h = ((true, refl), (true, refl))
alike_both (Some true) (Some false) k h = absurd (cc)
alike_both (Some true) None k h = absurd (cc)
alike_both (Some false) b k h = numbers_both (Some false) b k h
alike_both None b k h = numbers_both None b k h

pub binary_both : (op : RBinary) (a b : Option Bool) (k : Bool) → of_binary op a b ≡ Some k → BothKinds a b
binary_both binary'.Equal a b k h = alike_both a b k h
binary_both binary'.Unequal a b k h = alike_both a b k h
binary_both op a b k h = numbers_both a b k h

pub move_both : (a b : Option Bool) (k : Bool) → of_move a b ≡ Some k → BothKinds a b
move_both (Some true) (Some false) k h = ((true, refl), (false, refl))
move_both (Some true) (Some true) k h = absurd (cc)
move_both (Some true) None k h = absurd (cc)
move_both (Some false) b k h = absurd (cc)
move_both None b k h = absurd (cc)

pub pointed_some : (a : Option Bool) (k : Bool) → of_pointed a ≡ Some k → (x : Bool) × (a ≡ Some x)
pointed_some (Some x) k h = (x, refl)
pointed_some None k h = absurd (cc)

has_address_there : (b : Bool) (k : Bool) → (if b then Some true else None) ≡ Some k → b ≡ true
has_address_there true k h = refl
has_address_there false k h = absurd (cc)

-- the pointer to each object that has an address is a word
abbrev pub AddressesFit : Rules → Type 0
AddressesFit w = (o : ℕ) → w.has_address o ≡ true → object_word o ≡ pointer_word o 0

module _ (c : CodeView) (w : Rules) (fit : AddressesFit w) (low : List ℕ) (ks : List Caller) (t : State) (objects : t.variables.objects ≡ c.objects) where
  -- a block that keeps the rules leaves this value
  abbrev Runs : Block → Value → Option Bool → Type 0
  Runs b v k = (x : Bool) → k ≡ Some x → (q : ℕ) (ops : List ℕ) → HasAt c.instrs q (b q) → Gives c low ks t (stand low ks t q ops) (q + length (b q)) ops (v t.variables)

  -- one instruction behind a block
  then_runs : (b : Block) (i : Instr) (q q1 : ℕ) (ops ops1 : List ℕ) (r : Result ℕ Trap) (f : ℕ → Result ℕ Trap) (u : World) → q1 ≡ q + length (b q) → HasAt c.instrs q (b q ++ i ∷ []) → Gives c low ks t u q1 ops1 r
      → ((a : ℕ) → slice_get c.instrs q1 ≡ Some i → Gives c low ks t (stand low ks t q1 (a ∷ ops1)) (q1 + 1) ops (f a)) → Gives c low ks t u (q + length (b q ++ i ∷ [])) ops (r >>= f)
  then_runs b i q q1 ops ops1 r f u e has g h =
      let at : slice_get c.instrs q1 ≡ Some i = subst (λ z. slice_get c.instrs z ≡ Some i) (sym e) (has_back c.instrs q (b q) (i ∷ []) has).0 in
      let len = length-append (b q) (i ∷ []) in
      gives_at c low ks t u (q1 + 1) (q + length (b q ++ i ∷ [])) ops (r >>= f) (omega (arith, len)) (gives_then c low ks t u q1 (q1 + 1) ops1 ops r f g (λ a. h a at))

  -- an operator on two values
  two_run : (x y : Block) (vx vy : Value) (kx ky : Option Bool) (i : Instr) (f : ℕ → ℕ → Result ℕ Trap) → Runs x vx kx → Runs y vy ky → BothKinds kx ky
      → ((q a b : ℕ) (ops : List ℕ) → row c unprotected (machine low ks t q (b ∷ a ∷ ops)) t.variables.cells i ≡ answered (machine low ks t q (b ∷ a ∷ ops)) t.variables.cells 2 (f a b))
      → (q : ℕ) (ops : List ℕ) → HasAt c.instrs q (then_one (both x y) i q) → Gives c low ks t (stand low ks t q ops) (q + length (then_one (both x y) i q)) ops (vx t.variables >>= (λ a. vy t.variables >>= f a))
  two_run x y vx vy kx ky i f rx ry k is q ops has =
      let q1 = q + length (x q) in
      let q2 = q1 + length (y q1) in
      let has_both = has_front c.instrs q (both x y q) (i ∷ []) has in
      let len = length-append (x q) (y q1) in
      let at = (has_back c.instrs q (both x y q) (i ∷ []) has).0 in
      let at' : slice_get c.instrs q2 ≡ Some i = subst (λ z. slice_get c.instrs z ≡ Some i) (omega (arith, len)) at in
      let len' = length-append (both x y q) (i ∷ []) in
      gives_at c low ks t (stand low ks t q ops) (q2 + 1) (q + length (then_one (both x y) i q)) ops _ (omega (arith, len, len'))
      (gives_then c low ks t (stand low ks t q ops) q1 (q2 + 1) ops ops (vx t.variables) (λ a. vy t.variables >>= f a) (rx k.0.0 k.0.1 q ops (has_front c.instrs q (x q) (y q1) has_both))
      (λ a. gives_then c low ks t (stand low ks t q1 (a ∷ ops)) q2 (q2 + 1) (a ∷ ops) ops (vy t.variables) (f a) (ry k.1.0 k.1.1 q1 (a ∷ ops) (has_back c.instrs q (x q) (y q1) has_both))
      (λ b. gives_answer c low ks t q2 (b ∷ a ∷ ops) 2 i (f a b) at' (is q2 a b ops))))

  -- the value is made 0 or 1
  truth_run : (y : Block) (vy : Value) (ky : Option Bool) (is : List Instr) → Runs y vy ky → (x : Bool) → ky ≡ Some x → (q : ℕ) (ops : List ℕ) → HasAt c.instrs q (y q ++ (instr.Test ∷ is))
      → Gives c low ks t (stand low ks t q ops) (q + length (y q) + 1) ops (vy t.variables >>= (λ b. Ok (truth_word (word_holds b))))
  truth_run y vy ky is ry x k q ops has =
      let q1 = q + length (y q) in
      let back = has_back c.instrs q (y q) (instr.Test ∷ is) has in
      gives_then c low ks t (stand low ks t q ops) q1 (q1 + 1) ops ops (vy t.variables) _ (ry x k q ops (has_front c.instrs q (y q) (instr.Test ∷ is) has))
      (λ b. gives_answer c low ks t q1 (b ∷ ops) 1 instr.Test (Ok (truth_word (word_holds b))) back.0 refl)

  and_ends : (y : Block) (vy : Value) (ky : Option Bool) (x : Bool) (q1 : ℕ) (ops : List ℕ) → Runs y vy ky → ky ≡ Some x → (h : Bool)
      → HasAt c.instrs (q1 + 1) (y (q1 + 1) ++ (instr.Test ∷ instr.Jump (q1 + 1 + length (y (q1 + 1)) + 2 + 1) ∷ instr.Num (pos 0) ∷ []))
      → Gives c low ks t (stand low ks t (cond h (q1 + 1) (q1 + 1 + length (y (q1 + 1)) + 2)) ops) (q1 + 1 + length (y (q1 + 1)) + 2 + 1) ops (if h then vy t.variables >>= (λ b. Ok (truth_word (word_holds b))) else Ok 0)
  and_ends y vy ky x q1 ops ry k true has =
      let q = q1 + 1 in
      let back = has_back c.instrs q (y q) _ has in
      gives_jump c low ks t (stand low ks t q ops) (q + length (y q) + 1) (q + length (y q) + 2 + 1) ops _ back.1.0 (truth_run y vy ky _ ry x k q ops has)
  and_ends y vy ky x q1 ops ry k false has =
      let q = q1 + 1 in
      let z = q + length (y q) + 2 in
      let back = has_back c.instrs q (y q) _ has in
      let at : slice_get c.instrs z ≡ Some (instr.Num (pos 0)) = subst (λ p. slice_get c.instrs p ≡ Some (instr.Num (pos 0))) (omega arith) back.1.1.0 in
      gives_answer c low ks t z ops 0 (instr.Num (pos 0)) (Ok 0) at refl

  and_run : (x y : Block) (vx vy : Value) (kx ky : Option Bool) → Runs x vx kx → Runs y vy ky → Runs (and_block x y) (value_at (RExpr-F.And vx vy)) (of_numbers kx ky)
  and_run x y vx vy kx ky rx ry k is q ops has =
      let kinds = of_numbers_parts kx ky k is in
      let q1 = q + length (x q) in
      let z = q1 + 1 + length (y (q1 + 1)) + 2 in
      let rest = y (q1 + 1) ++ (instr.Test ∷ instr.Jump (z + 1) ∷ instr.Num (pos 0) ∷ []) in
      let back = has_back c.instrs q (x q) (instr.JumpZ z ∷ rest) has in
      let len = length-append (x q) (instr.JumpZ z ∷ rest) in
      let len' = length-append (y (q1 + 1)) (instr.Test ∷ instr.Jump (z + 1) ∷ instr.Num (pos 0) ∷ []) in
      gives_at c low ks t (stand low ks t q ops) (z + 1) (q + length (and_block x y q)) ops _ (omega (arith, len, len'))
      (gives_then c low ks t (stand low ks t q ops) q1 (z + 1) ops ops (vx t.variables) _ (rx false kinds.0 q ops (has_front c.instrs q (x q) _ has))
      (λ a. gives_on c low ks t _ _ (z + 1) ops _ (reaches_test c low ks t q1 z a ops back.0) (and_ends y vy ky false q1 ops ry kinds.1 (word_holds a) back.1)))

  or_ends : (y : Block) (vy : Value) (ky : Option Bool) (x : Bool) (q1 : ℕ) (ops : List ℕ) → Runs y vy ky → ky ≡ Some x → (h : Bool)
      → HasAt c.instrs (q1 + 1) (instr.Num (pos 1) ∷ instr.Jump (q1 + 3 + length (y (q1 + 3)) + 1) ∷ (y (q1 + 3) ++ (instr.Test ∷ [])))
      → Gives c low ks t (stand low ks t (cond h (q1 + 1) (q1 + 3)) ops) (q1 + 3 + length (y (q1 + 3)) + 1) ops (if h then Ok 1 else vy t.variables >>= (λ b. Ok (truth_word (word_holds b))))
  or_ends y vy ky x q1 ops ry k true has =
      gives_jump c low ks t (stand low ks t (q1 + 1) ops) (q1 + 1 + 1) _ ops (Ok 1) has.1.0 (gives_answer c low ks t (q1 + 1) ops 0 (instr.Num (pos 1)) (Ok 1) has.0 refl)
  or_ends y vy ky x q1 ops ry k false has =
      let e : q1 + 1 + 1 + 1 ≡ q1 + 3 = omega arith in
      truth_run y vy ky [] ry x k (q1 + 3) ops (subst (λ z. HasAt c.instrs z (y (q1 + 3) ++ (instr.Test ∷ []))) e has.1.1)

  or_run : (x y : Block) (vx vy : Value) (kx ky : Option Bool) → Runs x vx kx → Runs y vy ky → Runs (or_block x y) (value_at (RExpr-F.Or vx vy)) (of_numbers kx ky)
  or_run x y vx vy kx ky rx ry k is q ops has =
      let kinds = of_numbers_parts kx ky k is in
      let q1 = q + length (x q) in
      let z = q1 + 3 in
      let rest = y z ++ (instr.Test ∷ []) in
      let more : List Instr = instr.Num (pos 1) ∷ instr.Jump (z + length (y z) + 1) ∷ rest in
      let back = has_back c.instrs q (x q) (instr.JumpZ z ∷ more) has in
      let len = length-append (x q) (instr.JumpZ z ∷ more) in
      let len' = length-append (y z) (instr.Test ∷ []) in
      gives_at c low ks t (stand low ks t q ops) (z + length (y z) + 1) (q + length (or_block x y q)) ops _ (omega (arith, len, len'))
      (gives_then c low ks t (stand low ks t q ops) q1 (z + length (y z) + 1) ops ops (vx t.variables) _ (rx false kinds.0 q ops (has_front c.instrs q (x q) _ has))
      (λ a. gives_on c low ks t _ _ (z + length (y z) + 1) ops _ (reaches_test c low ks t q1 z a ops back.0) (or_ends y vy ky false q1 ops ry kinds.1 (word_holds a) back.1)))

  fetch_run : (x : Block) (vx : Value) (kx : Option Bool) → Runs x vx kx → Runs (then_one x instr.Fetch) (value_at (RExpr-F.Fetch vx)) (of_pointed kx)
  fetch_run x vx kx rx k is q ops has =
      let p = pointed_some kx k is in
      then_runs x instr.Fetch q _ ops ops (vx t.variables) (λ a. fetched a t.variables) (stand low ks t q ops) refl has (rx p.0 p.1 q ops (has_front c.instrs q (x q) _ has))
      (λ a at. gives_answer c low ks t (q + length (x q)) (a ∷ ops) 1 instr.Fetch (fetched a t.variables) at
      (fetched_row (machine low ks t (q + length (x q)) (a ∷ ops)) t.variables.cells (cell_of c.objects a)
      ∙ ap (λ os. answered (machine low ks t (q + length (x q)) (a ∷ ops)) t.variables.cells 1 (cell_of os a >>= (λ z. Ok (slice_index_or t.variables.cells z 0)))) (sym objects)))

  -- one layer of an expression, over parts that were seen to
  module _ (X Y : Type 0) (p : X → Y) (b : Y → Block) (v : Y → Value) (k : Y → Option Bool) (h : (x : X) → Runs (b (p x)) (v (p x)) (k (p x))) where
    layer_runs : (y : RExpr-F X) → Runs (expr_block_at (map-RExpr Y Block b (map-RExpr X Y p y))) (value_at (map-RExpr Y Value v (map-RExpr X Y p y))) (kind_at w (map-RExpr Y (Option Bool) k (map-RExpr X Y p y)))
    layer_runs (RExpr-F.Num n) = λ x is q ops has. gives_answer c low ks t q ops 0 (instr.Num n) (Ok (word_of n)) has.0 refl
    layer_runs (RExpr-F.Cell d) = λ x is q ops has. gives_answer c low ks t q ops 0 (instr.LoadC d) (Ok (slice_index_or t.variables.cells d 0)) has.0 refl
    layer_runs (RExpr-F.Local i) = λ x is q ops has. gives_answer c low ks t q ops 0 (instr.LoadL i) (Ok (slice_index_or t.variables.locals i 0)) has.0
        (ap (λ a. answered (machine low ks t q ops) t.variables.cells 0 (Ok a)) (get_or-append-add low t.variables.locals i 0))
    layer_runs (RExpr-F.Object o) = λ x is q ops has. gives_answer c low ks t q ops 0 (instr.Addr o) (Ok (object_word o)) has.0
        (ap (λ a. answered (machine low ks t q ops) t.variables.cells 0 (Ok a)) (sym (fit o (has_address_there (w.has_address o) x is))))
    layer_runs RExpr-F.Null = λ x is q ops has. gives_answer c low ks t q ops 0 (instr.Num (pos 0)) (Ok 0) has.0 refl
    layer_runs (RExpr-F.Unary op x) = λ z is q ops has.
        let kinds = of_numbers_parts (k (p x)) (Some false) z is in
        let bx = b (p x) in
        then_runs bx (unary_instr op) q _ ops ops (v (p x) t.variables) (λ a. Ok (unary op a)) (stand low ks t q ops) refl has (h x false kinds.0 q ops (has_front c.instrs q (bx q) _ has))
        (λ a at. gives_answer c low ks t (q + length (bx q)) (a ∷ ops) 1 (unary_instr op) (Ok (unary op a)) at (unary_row c (machine low ks t (q + length (bx q)) (a ∷ ops)) t.variables.cells op))
    layer_runs (RExpr-F.Binary op x y) = λ z is. two_run (b (p x)) (b (p y)) (v (p x)) (v (p y)) (k (p x)) (k (p y)) (binary_instr op) (binary op) (h x) (h y) (binary_both op (k (p x)) (k (p y)) z is)
        (λ q a d ops. binary_row c (machine low ks t q (d ∷ a ∷ ops)) t.variables.cells op)
    layer_runs (RExpr-F.And x y) = and_run (b (p x)) (b (p y)) (v (p x)) (v (p y)) (k (p x)) (k (p y)) (h x) (h y)
    layer_runs (RExpr-F.Or x y) = or_run (b (p x)) (b (p y)) (v (p x)) (v (p y)) (k (p x)) (k (p y)) (h x) (h y)
    layer_runs (RExpr-F.Move x y d) = λ z is. two_run (b (p x)) (b (p y)) (v (p x)) (v (p y)) (k (p x)) (k (p y)) (move_instr d) (λ a n. moved t.variables.objects a (places d n)) (h x) (h y) (move_both (k (p x)) (k (p y)) z is)
        (λ q a n ops. move_row c (machine low ks t q (n ∷ a ∷ ops)) t.variables.cells d
        ∙ ap (λ os. answered (machine low ks t q (n ∷ a ∷ ops)) t.variables.cells 2 (moved os a (places d n))) (sym objects))
    layer_runs (RExpr-F.Fetch x) = fetch_run (b (p x)) (v (p x)) (k (p x)) (h x)

  abbrev pub ExprRuns : RExpr → Type 0
  ExprRuns e = Runs (expr_block e) (value e) (kind w e)

  pub expr_runs : (e : RExpr) → ExprRuns e
  expr_runs = ind-RExpr ExprRuns (λ x y is.
      let l = layer_runs _ RExpr (λ e. e.0) expr_block value (kind w) (λ e. e.1) y in
      let l1 = subst (λ z. Runs (expr_block_at (map-RExpr RExpr Block expr_block z)) (value_at (map-RExpr RExpr Value value z)) (kind_at w (map-RExpr RExpr (Option Bool) (kind w) z))) is l in
      let l2 = subst (λ z. Runs z (value_at (map-RExpr RExpr Value value x)) (kind_at w (map-RExpr RExpr (Option Bool) (kind w) x))) (sym (fold-roll-RExpr Block expr_block_at x)) l1 in
      let l3 = subst (λ z. Runs (expr_block (roll-RExpr x)) z (kind_at w (map-RExpr RExpr (Option Bool) (kind w) x))) (sym (fold-roll-RExpr Value value_at x)) l2 in
      subst (λ z. Runs (expr_block (roll-RExpr x)) (value (roll-RExpr x)) z) (sym (fold-roll-RExpr (Option Bool) (kind_at w) x)) l3)
