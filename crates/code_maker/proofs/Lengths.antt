-- How long a code is depends neither on where it begins nor on where it jumps to.
use Rattle.std.proofs.Common.{◌≡◌, ℕ, suc, ◌+◌, Bool, true, false, List, [], ◌∷◌, ◌++◌, length, length-append, Option, Some, None, refl, sym, ap, subst, arith}
use Rattle.std.specs.Prelude.{if◌then◌else◌, ◌==◌}
use Rattle.c_tree.specs.declared.resolved.RExpr.{RExpr}
use Rattle.c_tree.specs.declared.resolved.RExpr.TheOpen.{RExpr-F}
use Rattle.c_tree.specs.declared.resolved.RExpr.TheFolds.{map-RExpr, fold-roll-RExpr, ind-RExpr}
use Rattle.c_tree.specs.declared.resolved.RPlace.{RPlace}
use Rattle.c_tree.specs.declared.resolved.RPlace.TheVariants as place
use Rattle.access_summary.specs.Edges.{Edge}
use Rattle.flow_graph.specs.declared.node.NodeWork.{NodeWork}
use Rattle.flow_graph.specs.declared.node.NodeWork.TheVariants as work
use Rattle.machine_code.specs.declared.instr.Instr.{Instr}
use Rattle.machine_code.specs.declared.instr.Instr.TheVariants.{Jump, Call, OutC}
use Rattle.code_maker.specs.ExprCode.{Block, both, then_one, and_block, or_block, expr_block_at, expr_block, values_block}
use Rattle.code_maker.specs.NodeCode.{set_block, given_block, keep_answer, print_code, entry_jump, go_on, work_block, segment, segments}

-- as long at each place
abbrev pub IsSteady : Block → Type 0
IsSteady b = (p q : ℕ) → length (b p) ≡ length (b q)

-- ---- expressions

pub steady_both : (a b : Block) → IsSteady a → IsSteady b → IsSteady (both a b)
steady_both a b ha hb p q = omega (arith, length-append (a p) (b (p + length (a p))), length-append (a q) (b (q + length (a q))), ha p q, hb (p + length (a p)) (q + length (a q)))

pub steady_one : (a : Block) (i : Instr) → IsSteady a → IsSteady (then_one a i)
steady_one a i ha p q = omega (arith, length-append (a p) (i ∷ []), length-append (a q) (i ∷ []), ha p q)

same_length : (as' as'' bs bs' : List Instr) → length as' ≡ length as'' → length bs ≡ length bs' → length (as' ++ bs) ≡ length (as'' ++ bs')
same_length as' as'' bs bs' h k = omega (arith, length-append as' bs, length-append as'' bs', h, k)

steady_and : (a b : Block) → IsSteady a → IsSteady b → IsSteady (and_block a b)
steady_and a b ha hb p q = same_length _ _ _ _ (ha p q) (ap (λ n. suc n) (same_length _ _ _ _ (hb _ _) refl))

steady_or : (a b : Block) → IsSteady a → IsSteady b → IsSteady (or_block a b)
steady_or a b ha hb p q = same_length _ _ _ _ (ha p q) (ap (λ n. suc (suc (suc n))) (same_length _ _ _ _ (hb _ _) refl))

module _ (X Y : Type 0) (fst : X → Y) (f : Y → Block) (steady : (x : X) → IsSteady (f (fst x))) where
  layer : (y : RExpr-F X) → IsSteady (expr_block_at (map-RExpr Y Block f (map-RExpr X Y fst y)))
  layer (RExpr-F.Num n) p q = refl
  layer (RExpr-F.Cell c) p q = refl
  layer (RExpr-F.Local i) p q = refl
  layer (RExpr-F.Object o) p q = refl
  layer RExpr-F.Null p q = refl
  layer (RExpr-F.Unary op x) p q = steady_one (f (fst x)) _ (steady x) p q
  layer (RExpr-F.Binary op x y) p q = steady_one (both (f (fst x)) (f (fst y))) _ (steady_both _ _ (steady x) (steady y)) p q
  layer (RExpr-F.And x y) p q = steady_and (f (fst x)) (f (fst y)) (steady x) (steady y) p q
  layer (RExpr-F.Or x y) p q = steady_or (f (fst x)) (f (fst y)) (steady x) (steady y) p q
  layer (RExpr-F.Move x y d) p q = steady_one (both (f (fst x)) (f (fst y))) _ (steady_both _ _ (steady x) (steady y)) p q
  layer (RExpr-F.Fetch x) p q = steady_one (f (fst x)) _ (steady x) p q

pub steady_expr : (e : RExpr) → IsSteady (expr_block e)
steady_expr = ind-RExpr (λ e. IsSteady (expr_block e))
    (λ x y is.
    let l = layer _ RExpr (λ e. e.0) expr_block (λ e. e.1) y in
    let k = subst (λ z. IsSteady (expr_block_at (map-RExpr RExpr Block expr_block z))) is l in
    subst IsSteady (sym (fold-roll-RExpr Block expr_block_at x)) k)

pub steady_values : (es : List RExpr) → IsSteady (values_block es)
steady_values [] p q = refl
steady_values (e ∷ es) p q = steady_both (expr_block e) (values_block es) (steady_expr e) (steady_values es) p q

-- ---- nodes

steady_given : (e : Option RExpr) → IsSteady (given_block e)
steady_given None p q = refl
steady_given (Some e) p q = steady_expr e p q

steady_set : (d : RPlace) (value : Block) → IsSteady value → IsSteady (set_block d value)
steady_set (place.Cell c) value h = steady_one value _ h
steady_set (place.Local i) value h = steady_one value _ h
steady_set (place.At e) value h = steady_one (both (expr_block e) value) _ (steady_both _ _ (steady_expr e) h)

behind : (as' as'' bs : List Instr) → length as' ≡ length as'' → length (as' ++ bs) ≡ length (as'' ++ bs)
behind as' as'' bs h = same_length as' as'' bs bs h refl

module _ (start start' : ℕ → ℕ) where
  jump_length : (n : ℕ) (b : Bool) → length (if b then [] else (Jump (start n) ∷ [])) ≡ length (if b then [] else (Jump (start' n) ∷ []))
  jump_length n true = refl
  jump_length n false = refl

  -- as long wherever the segments begin
  pub go_on_length : (m : ℕ) (to : Option ℕ) → length (go_on start m to) ≡ length (go_on start' m to)
  go_on_length m None = refl
  go_on_length m (Some n) = jump_length n (n == m + 1)

  pub entry_jump_length : (entry : ℕ) → length (entry_jump start entry) ≡ length (entry_jump start' entry)
  entry_jump_length entry = go_length (entry == 0)
    where
      go_length : (b : Bool) → length (if b then [] else (Jump (start entry) ∷ [])) ≡ length (if b then [] else (Jump (start' entry) ∷ []))
      go_length true = refl
      go_length false = refl

  onward : (b : Block) (m : ℕ) (is : List Instr) (to : Option ℕ) (p q : ℕ) → IsSteady b → length (b p ++ (is ++ go_on start m to)) ≡ length (b q ++ (is ++ go_on start' m to))
  onward b m is to p q h = same_length (b p) (b q) _ _ (h p q) (same_length is is _ _ refl (go_on_length m to))

  pub work_length : (m : ℕ) (to : Edge) (w : NodeWork) (p q : ℕ) → length (work_block start m to w p) ≡ length (work_block start' m to w q)
  work_length m to (work.Declare d e) p q = onward (set_block d (given_block e)) m [] to.0 p q (steady_set d (given_block e) (steady_given e))
  work_length m to (work.Set d e) p q = onward (set_block d (expr_block e)) m [] to.0 p q (steady_set d (expr_block e) (steady_expr e))
  work_length m to (work.Call d f es) p q = onward (values_block es) m (Call f ∷ keep_answer d) to.0 p q (steady_values es)
  work_length m to (work.Input d) p q = ap (λ n. suc n) (same_length (keep_answer d) (keep_answer d) _ _ refl (go_on_length m to.0))
  work_length m to (work.Return e) p q = behind (expr_block e p) (expr_block e q) _ (steady_expr e p q)
  work_length m to (work.ReturnCall f es) p q = behind (values_block es p) (values_block es q) _ (steady_values es p q)
  work_length m to work.ReturnInput p q = refl
  work_length m to (work.Put e) p q = onward (expr_block e) m (OutC ∷ []) to.0 p q (steady_expr e)
  work_length m to (work.Print ps es) p q = onward (values_block es) m (print_code (length es) ps) to.0 p q (steady_values es)
  work_length m to (work.Test e) p q = same_length (expr_block e p) (expr_block e q) _ _ (steady_expr e p q) (ap (λ n. suc n) (go_on_length m to.0))
  work_length m to work.Checkpoint p q = ap (λ n. suc n) (go_on_length m to.0)
  work_length m to (work.Exclude k) p q = ap (λ n. suc n) (go_on_length m to.0)
  work_length m to work.End p q = refl

  pub segment_length : (m : ℕ) (to : Edge) (w : NodeWork) (p q : ℕ) → length (segment start m to w p) ≡ length (segment start' m to w q)
  segment_length m to work.End p q = refl
  segment_length m to (work.Declare d e) p q = ap (λ n. suc n) (work_length m to (work.Declare d e) (p + 1) (q + 1))
  segment_length m to (work.Set d e) p q = ap (λ n. suc n) (work_length m to (work.Set d e) (p + 1) (q + 1))
  segment_length m to (work.Call d f es) p q = ap (λ n. suc n) (work_length m to (work.Call d f es) (p + 1) (q + 1))
  segment_length m to (work.Input d) p q = ap (λ n. suc n) (work_length m to (work.Input d) (p + 1) (q + 1))
  segment_length m to (work.Return e) p q = ap (λ n. suc n) (work_length m to (work.Return e) (p + 1) (q + 1))
  segment_length m to (work.ReturnCall f es) p q = ap (λ n. suc n) (work_length m to (work.ReturnCall f es) (p + 1) (q + 1))
  segment_length m to work.ReturnInput p q = refl
  segment_length m to (work.Put e) p q = ap (λ n. suc n) (work_length m to (work.Put e) (p + 1) (q + 1))
  segment_length m to (work.Print ps es) p q = ap (λ n. suc n) (work_length m to (work.Print ps es) (p + 1) (q + 1))
  segment_length m to (work.Test e) p q = ap (λ n. suc n) (work_length m to (work.Test e) (p + 1) (q + 1))
  segment_length m to work.Checkpoint p q = ap (λ n. suc n) (work_length m to work.Checkpoint (p + 1) (q + 1))
  segment_length m to (work.Exclude k) p q = ap (λ n. suc n) (work_length m to (work.Exclude k) (p + 1) (q + 1))

  pub segments_length : (m : ℕ) (tos : List Edge) (ws : List NodeWork) (p q : ℕ) → length (segments start m tos ws p) ≡ length (segments start' m tos ws q)
  segments_length m [] ws p q = refl
  segments_length m (to ∷ tos) [] p q = refl
  segments_length m (to ∷ tos) (w ∷ ws) p q = same_length (segment start m to w p) (segment start' m to w q) _ _ (segment_length m to w p q) (segments_length (m + 1) tos ws _ _)
