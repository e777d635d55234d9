-- How many instructions expressions and nodes have.
use Rattle.std.proofs.Common.{◌≡◌, ℕ, zero, suc, ◌+◌, ◌*◌, ◌≤◌, List, [], ◌∷◌, ◌++◌, length, map, count_by, Option, Some, None, Bool, true, false, pos, refl, sym, ap, subst, arith, length-append, eqb-true}
use Rattle.std.proofs.lemmas.Bool.{and_parts}
use Rattle.std.proofs.lemmas.List.Sums.{sum_by-cons}
use Rattle.std.specs.Prelude.{if◌then◌else◌, ◌==◌, nat_eq}
use Rattle.std.specs.List.{list_all}
use Rattle.c_tree.specs.declared.tree.PrintPiece.{PrintPiece}
use Rattle.c_tree.specs.declared.tree.PrintPiece.TheVariants as print
use Rattle.c_tree.specs.declared.resolved.RExpr.{RExpr}
use Rattle.c_tree.specs.declared.resolved.RExpr.TheViews.{roll-RExpr}
use Rattle.c_tree.specs.declared.resolved.RExpr.TheOpen.{RExpr-F}
use Rattle.c_tree.specs.declared.resolved.RExpr.TheFolds.{map-RExpr, fold-roll-RExpr, ind-RExpr}
use Rattle.c_tree.specs.declared.resolved.RPlace.{RPlace}
use Rattle.c_tree.specs.declared.resolved.RPlace.TheVariants as place
use Rattle.c_tree.specs.Kinds.{World as Rules, is_number, is_hole, prints}
use Rattle.access_summary.specs.Edges.{Edge}
use Rattle.flow_graph.specs.declared.node.NodeWork.{NodeWork}
use Rattle.flow_graph.specs.declared.node.NodeWork.TheVariants as work
use Rattle.flow_graph.specs.WorkRules.{work_keeps}
use Rattle.machine_code.specs.declared.instr.Instr.{Instr}
use Rattle.machine_code.specs.declared.instr.Instr.TheVariants as instr
use Rattle.code_maker.specs.ExprCode.{Block, both, then_one, and_block, or_block, unary_instr, binary_instr, move_instr, expr_block_at, expr_block, values_block}
use Rattle.code_maker.specs.NodeCode.{set_block, given_block, keep_answer, piece_code, drops, print_code, go_on, start_of, segment, segments}
use Rattle.code_maker.specs.Parts.{expr_parts_at, expr_parts, some_parts, all_parts, place_parts, kept_parts, bytes_in}
use Rattle.code_maker.proofs.Acts.{holes, holes_counted}

-- ---- expressions

-- a block of at most 4 instructions for each of so many parts, of which there is one
abbrev IsSmall : Block → ℕ → Type 0
IsSmall b n = (1 ≤ n) × ((q : ℕ) → length (b q) ≤ 4 * n)

one_small : (b : Block) (i : Instr) (n : ℕ) → IsSmall b n → IsSmall (then_one b i) (1 + n)
one_small b i n h = (omega arith, λ q. omega (arith, length-append (b q) (i ∷ []), h.1 q))

two_small : (x y : Block) (i : Instr) (n m : ℕ) → IsSmall x n → IsSmall y m → IsSmall (then_one (both x y) i) (1 + n + m)
two_small x y i n m h k = (
  omega arith,
  λ q. omega (arith, length-append (both x y q) (i ∷ []), length-append (x q) (y (q + length (x q))), h.1 q, k.1 (q + length (x q))),
)

and_small : (x y : Block) (n m : ℕ) → IsSmall x n → IsSmall y m → IsSmall (and_block x y) (1 + n + m)
and_small x y n m h k = (
  omega arith,
  λ q.
      (let q1 = q + length (x q) + 1 in
      let z = q1 + length (y q1) + 2 in
      let rest : List Instr = instr.Test ∷ instr.Jump (z + 1) ∷ instr.Num (pos 0) ∷ [] in
      omega (arith, length-append (x q) (instr.JumpZ z ∷ (y q1 ++ rest)), length-append (y q1) rest, h.1 q, k.1 q1)),
)

or_small : (x y : Block) (n m : ℕ) → IsSmall x n → IsSmall y m → IsSmall (or_block x y) (1 + n + m)
or_small x y n m h k = (
  omega arith,
  λ q.
      (let q1 = q + length (x q) + 3 in
      let rest : List Instr = instr.Test ∷ [] in
      let more : List Instr = instr.JumpZ q1 ∷ instr.Num (pos 1) ∷ instr.Jump (q1 + length (y q1) + 1) ∷ (y q1 ++ rest) in
      omega (arith, length-append (x q) more, length-append (y q1) rest, h.1 q, k.1 q1)),
)

module _ (X Y : Type 0) (p : X → Y) (b : Y → Block) (n : Y → ℕ) (h : (x : X) → IsSmall (b (p x)) (n (p x))) where
  layer_small : (y : RExpr-F X) → IsSmall (expr_block_at (map-RExpr Y Block b (map-RExpr X Y p y))) (expr_parts_at (map-RExpr Y ℕ n (map-RExpr X Y p y)))
  layer_small (RExpr-F.Num v) = (omega arith, λ q. omega arith)
  layer_small (RExpr-F.Cell d) = (omega arith, λ q. omega arith)
  layer_small (RExpr-F.Local i) = (omega arith, λ q. omega arith)
  layer_small (RExpr-F.Object o) = (omega arith, λ q. omega arith)
  layer_small RExpr-F.Null = (omega arith, λ q. omega arith)
  layer_small (RExpr-F.Unary op x) = one_small (b (p x)) (unary_instr op) (n (p x)) (h x)
  layer_small (RExpr-F.Binary op x y) = two_small (b (p x)) (b (p y)) (binary_instr op) (n (p x)) (n (p y)) (h x) (h y)
  layer_small (RExpr-F.And x y) = and_small (b (p x)) (b (p y)) (n (p x)) (n (p y)) (h x) (h y)
  layer_small (RExpr-F.Or x y) = or_small (b (p x)) (b (p y)) (n (p x)) (n (p y)) (h x) (h y)
  layer_small (RExpr-F.Move x y d) = two_small (b (p x)) (b (p y)) (move_instr d) (n (p x)) (n (p y)) (h x) (h y)
  layer_small (RExpr-F.Fetch x) = one_small (b (p x)) instr.Fetch (n (p x)) (h x)

pub expr_small : (e : RExpr) → IsSmall (expr_block e) (expr_parts e)
expr_small = ind-RExpr (λ e. IsSmall (expr_block e) (expr_parts e)) (λ x y is.
    let l = layer_small _ RExpr (λ e. e.0) expr_block expr_parts (λ e. e.1) y in
    let l1 = subst (λ z. IsSmall (expr_block_at (map-RExpr RExpr Block expr_block z)) (expr_parts_at (map-RExpr RExpr ℕ expr_parts z))) is l in
    let l2 = subst (λ z. IsSmall z (expr_parts_at (map-RExpr RExpr ℕ expr_parts x))) (sym (fold-roll-RExpr Block expr_block_at x)) l1 in
    subst (λ z. IsSmall (expr_block (roll-RExpr x)) z) (sym (fold-roll-RExpr ℕ expr_parts_at x)) l2)

parts_cons : (e : RExpr) (es : List RExpr) → all_parts (e ∷ es) ≡ expr_parts e + all_parts es
parts_cons e es = sum_by-cons (λ x. x) (expr_parts e) (map expr_parts es)

values_small : (es : List RExpr) (q : ℕ) → length (values_block es q) ≤ 4 * all_parts es
values_small [] q = omega arith
values_small (e ∷ es) q =
    let q1 = q + length (expr_block e q) in
    omega (arith, length-append (expr_block e q) (values_block es q1), (expr_small e).1 q, values_small es q1, parts_cons e es)

values_few : (es : List RExpr) → length es ≤ all_parts es
values_few [] = omega arith
values_few (e ∷ es) = omega (arith, (expr_small e).0, values_few es, parts_cons e es)

-- ---- nodes

-- at most so many instructions
abbrev pub work_limit : NodeWork → ℕ
work_limit (work.Declare d e) = 16 * (1 + place_parts d + some_parts e)
work_limit (work.Set d e) = 16 * (place_parts d + expr_parts e)
work_limit (work.Call d f es) = 16 * (1 + kept_parts d + all_parts es)
work_limit (work.Input d) = 16 * (1 + kept_parts d)
work_limit (work.Return e) = 16 * (1 + expr_parts e)
work_limit (work.ReturnCall f es) = 16 * (1 + all_parts es)
work_limit (work.Put e) = 16 * (1 + expr_parts e)
work_limit (work.Print ps es) = 16 * (1 + all_parts es) + bytes_in ps
work_limit (work.Test e) = 4 * expr_parts e + 3
work_limit work.End = 2
work_limit v = 16

set_small : (d : RPlace) (b : Block) (n : ℕ) → ((q : ℕ) → length (b q) ≤ n) → (q : ℕ) → length (set_block d b q) ≤ 4 * place_parts d + n
set_small (place.Cell d) b n h q = omega (arith, length-append (b q) (instr.StoreC d ∷ []), h q)
set_small (place.Local i) b n h q = omega (arith, length-append (b q) (instr.StoreL i ∷ []), h q)
set_small (place.At e) b n h q =
    let x = expr_block e q in
    let q1 = q + length x in
    omega (arith, length-append (x ++ b q1) (instr.Put ∷ []), length-append x (b q1), (expr_small e).1 q, h q1)

place_some : (d : RPlace) → 1 ≤ place_parts d
place_some (place.Cell c) = omega arith
place_some (place.Local i) = omega arith
place_some (place.At e) = omega arith

given_small : (e : Option RExpr) (q : ℕ) → length (given_block e q) ≤ 4 * some_parts e + 1
given_small None q = omega arith
given_small (Some e) q = omega (arith, (expr_small e).1 q)

keep_small : (d : Option RPlace) → length (keep_answer d) ≤ 1
keep_small None = omega arith
keep_small (Some (place.Cell d)) = omega arith
keep_small (Some (place.Local i)) = omega arith
keep_small (Some (place.At e)) = omega arith

pieces_long : (n k : ℕ) (ps : List PrintPiece) → length (piece_code n k ps) ≡ bytes_in ps + holes ps
pieces_long n k [] = refl
pieces_long n k (print.Byte b ∷ ps) = omega (arith, pieces_long n k ps)
pieces_long n k (print.Number ∷ ps) = omega (arith, pieces_long n (k + 1) ps)

drops_long : (n : ℕ) → length (drops n) ≡ n
drops_long zero = refl
drops_long (suc n) = ap suc (drops_long n)

go_on_small : (st : ℕ → ℕ) (m : ℕ) (to : Option ℕ) → length (go_on st m to) ≤ 1
go_on_small st m None = omega arith
go_on_small st m (Some n) = by_test (n == m + 1)
  where
    by_test : (b : Bool) → length (if b then [] else instr.Jump (st n) ∷ []) ≤ 1
    by_test true = omega arith
    by_test false = omega arith

print_small : (w : Rules) (ps : List PrintPiece) (es : List RExpr) → prints w ps es ≡ true → (q : ℕ) (rest : List Instr) → length rest ≤ 1 → 1 + length (values_block es q ++ (print_code (length es) ps ++ rest)) ≤ 16 * (1 + all_parts es) + bytes_in ps
print_small w ps es h q rest le =
    let k = and_parts (nat_eq (length es) (count_by is_hole ps)) (list_all (is_number w) es) h in
    let same = eqb-true (length es) (count_by is_hole ps) k.0 in
    let a = piece_code (length es) 0 ps in
    omega (arith, length-append (values_block es q) (print_code (length es) ps ++ rest), length-append (print_code (length es) ps) rest, length-append a (drops (length es)), pieces_long (length es) 0 ps, drops_long (length es), holes_counted ps, same, values_small es q, values_few es)

module _ (w : Rules) (st : ℕ → ℕ) (m : ℕ) (to : Edge) where
  pub segment_small : (v : NodeWork) → work_keeps w v ≡ true → (q : ℕ) → length (segment st m to v q) ≤ work_limit v
  segment_small (work.Declare d e) h q =
      let b = set_block d (given_block e) (q + 1) in
      omega (arith, length-append b (go_on st m to.0), set_small d (given_block e) (4 * some_parts e + 1) (given_small e) (q + 1), go_on_small st m to.0)
  segment_small (work.Set d e) h q =
      let b = set_block d (expr_block e) (q + 1) in
      omega (arith, length-append b (go_on st m to.0), set_small d (expr_block e) (4 * expr_parts e) (expr_small e).1 (q + 1), go_on_small st m to.0, place_some d, (expr_small e).0)
  segment_small (work.Call d f es) h q =
      let b = values_block es (q + 1) in
      omega (arith, length-append b (instr.Call f ∷ (keep_answer d ++ go_on st m to.0)), length-append (keep_answer d) (go_on st m to.0), values_small es (q + 1), keep_small d, go_on_small st m to.0)
  segment_small (work.Input d) h q = omega (arith, length-append (keep_answer d) (go_on st m to.0), keep_small d, go_on_small st m to.0)
  segment_small (work.Return e) h q = omega (arith, length-append (expr_block e (q + 1)) (instr.Ret ∷ []), (expr_small e).1 (q + 1))
  segment_small (work.ReturnCall f es) h q = omega (arith, length-append (values_block es (q + 1)) (instr.Call f ∷ instr.Ret ∷ []), values_small es (q + 1))
  segment_small work.ReturnInput h q = omega arith
  segment_small (work.Put e) h q = omega (arith, length-append (expr_block e (q + 1)) (instr.OutC ∷ go_on st m to.0), (expr_small e).1 (q + 1), go_on_small st m to.0)
  segment_small (work.Print ps es) h q = let s = print_small w ps es h (q + 1) (go_on st m to.0) (go_on_small st m to.0) in omega (arith, s)
  segment_small (work.Test e) h q = omega (arith, length-append (expr_block e (q + 1)) (instr.JumpZ (start_of st to.1) ∷ go_on st m to.0), (expr_small e).1 (q + 1), go_on_small st m to.0)
  segment_small work.Checkpoint h q = omega (arith, go_on_small st m to.0)
  segment_small (work.Exclude k) h q = omega (arith, go_on_small st m to.0)
  segment_small work.End h q = omega arith

-- ---- nodes one behind another

abbrev pub works_limit : List NodeWork → ℕ
works_limit [] = 0
works_limit (v ∷ ws) = work_limit v + works_limit ws

pub limit_both : (ws vs : List NodeWork) → works_limit (ws ++ vs) ≡ works_limit ws + works_limit vs
limit_both [] vs = omega arith
limit_both (v ∷ ws) vs = omega (arith, limit_both ws vs)

pub segments_small : (w : Rules) (st : ℕ → ℕ) (tos : List Edge) (ws : List NodeWork) → list_all (work_keeps w) ws ≡ true → (m q : ℕ) → length (segments st m tos ws q) ≤ works_limit ws
segments_small w st [] ws h m q = omega arith
segments_small w st (t ∷ tos) [] h m q = omega arith
segments_small w st (t ∷ tos) (v ∷ ws) h m q =
    let k = and_parts (work_keeps w v) (list_all (work_keeps w) ws) h in
    let s = segment st m t v q in
    omega (arith, length-append s (segments st (m + 1) tos ws (q + length s)), segment_small w st m t v k.0 q, segments_small w st tos ws k.1 (m + 1) (q + length s))
