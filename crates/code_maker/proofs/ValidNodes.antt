-- The code of nodes has its operands.
use Rattle.std.proofs.Common.{◌≡◌, ℕ, zero, suc, ◌+◌, ◌-◌, ◌<◌, ◌≤◌, max, List, [], ◌∷◌, ◌++◌, length, Option, Some, None, Bool, true, false, cond, pos, refl, sym, ap, ◌∙◌, subst, arith}
use Rattle.std.specs.Prelude.{◌&&◌, ◌==◌, ◌≢◌, if◌then◌else◌, is_some, nat_eq, count_by, IsTrue}
use Rattle.std.specs.List.{list_all}
use Rattle.std.proofs.lemmas.List.Sums.{sum_by-cons}
use Rattle.std.proofs.lemmas.Option.{get_or_from_slice_get}
use borrow.Author.Tests.{eqb-true}
use Rattle.c_tree.specs.declared.tree.PrintPiece.{PrintPiece}
use Rattle.c_tree.specs.declared.tree.PrintPiece.TheVariants as print
use Rattle.c_tree.specs.declared.resolved.RExpr.{RExpr}
use Rattle.c_tree.specs.declared.resolved.RPlace.{RPlace}
use Rattle.c_tree.specs.declared.resolved.RPlace.TheVariants as place
use Rattle.c_tree.specs.Kinds.{World, Signature, kind, agree, is_number, place_kind, is_variable, stores, answers, starts, are_given, answer_of, call_kind, is_hole, prints}
use Rattle.access_summary.specs.Edges.{Edge}
use Rattle.flow_graph.specs.declared.node.NodeWork.{NodeWork}
use Rattle.flow_graph.specs.declared.node.NodeWork.TheVariants as work
use Rattle.flow_graph.specs.WorkRules.{work_keeps}
use Rattle.flow_graph.specs.Joined.{FitsWork}
use Rattle.machine_code.specs.declared.instr.Instr.{Instr}
use Rattle.machine_code.specs.declared.instr.Instr.TheVariants as instr
use Rattle.machine_code.specs.CodeView.{CodeView, home, locals_from}
use Rattle.machine_code.specs.Valid.{has_checkpoint}
use Rattle.code_maker.specs.ExprCode.{Block, expr_block, values_block}
use Rattle.code_maker.specs.NodeCode.{set_block, given_block, keep_answer, piece_code, drops, print_code, go_on, work_block, segment}
use Rattle.code_maker.specs.Depths.{expr_depth, values_depth, set_depth, given_depth, work_depth}
use Rattle.code_maker.proofs.DepthList.{Setting, Place, Fits, place_with, later, to_start, none_fits, one_fits, both_fit}
use Rattle.code_maker.proofs.ValidExprs.{Serves, HasKind, Good, good_expr, pointed_has}

-- ---- rules

pub both_true : (a b : Bool) → (a && b) ≡ true → (a ≡ true) × (b ≡ true)
both_true true b h = (refl, h)
both_true false b h = absurd (cc)

not_true : {A : Type 0} → false ≡ true → A
not_true h = absurd (cc)

agree_has : (a b : Option Bool) → agree a b ≡ true → HasKind a × HasKind b
agree_has None b h = not_true h
agree_has (Some true) None h = not_true h
agree_has (Some true) (Some true) h = ((true, refl), (true, refl))
agree_has (Some true) (Some false) h = not_true h
agree_has (Some false) None h = not_true h
agree_has (Some false) (Some true) h = not_true h
agree_has (Some false) (Some false) h = ((false, refl), (false, refl))

some_has : (k : Option Bool) → is_some k ≡ true → HasKind k
some_has None h = not_true h
some_has (Some b) h = (b, refl)

variable_has : (w : World) (p : RPlace) → is_variable w p ≡ true → HasKind (place_kind w p)
variable_has w (place.Cell c) h = some_has (w.cell c) h
variable_has w (place.Local i) h = some_has (w.local i) h
variable_has w (place.At e) h = not_true h

-- each of them keeps the rules
abbrev EachHas : World → List RExpr → Type 0
EachHas w [] = Unit {0}
EachHas w (e ∷ es) = HasKind (kind w e) × EachHas w es

numbers_have : (w : World) (es : List RExpr) → list_all (is_number w) es ≡ true → EachHas w es
numbers_have w [] h = tt
numbers_have w (e ∷ es) h = let x = both_true (is_number w e) (list_all (is_number w) es) h in ((agree_has (Some false) (kind w e) x.0).1, numbers_have w es x.1)

given_have : (w : World) (ps : List Bool) (es : List RExpr) → are_given w ps es ≡ true → EachHas w es × (length ps ≡ length es)
given_have w [] [] h = (tt, refl)
given_have w [] (e ∷ es) h = not_true h
given_have w (p ∷ ps) [] h = not_true h
given_have w (p ∷ ps) (e ∷ es) h =
    let x = both_true (agree (Some p) (kind w e)) (are_given w ps es) h in
    let y = given_have w ps es x.1 in
    (((agree_has (Some p) (kind w e) x.0).1, y.0), ap suc y.1)

if_given : (b c r : Bool) → (if b then Some c else None) ≡ Some r → b ≡ true
if_given true c r h = refl
if_given false c r h = absurd (none_is h)
  where
    none_is : {r : Bool} → None ≡ Some r → ⊥
    none_is h = cc

-- a call that keeps the rules
record IsCall (w : World) (f : ℕ) (es : List RExpr) : Type 0 where
  signature : Signature
  is : w.function f ≡ Some signature
  given : EachHas w es
  count : length signature.parameters ≡ length es

call_is : (w : World) (f : ℕ) (es : List RExpr) (o : Option Signature) (r : Bool) → w.function f ≡ o → answer_of w o es ≡ Some r → IsCall w f es
call_is w f es None r is h = absurd (none_is h)
  where
    none_is : {r : Bool} → None ≡ Some r → ⊥
    none_is h = cc
call_is w f es (Some g) r is h =
    let x = given_have w g.parameters es (if_given (are_given w g.parameters es) g.gives_pointer r h) in
    record { signature = g; is = is; given = x.0; count = x.1 }

-- where the answer of a call is kept
abbrev IsKept : World → Option RPlace → Type 0
IsKept w None = Unit {0}
IsKept w (Some p) = HasKind (place_kind w p)

answers_have : (w : World) (o : Option RPlace) (k : Option Bool) → answers w o k ≡ true → IsKept w o × HasKind k
answers_have w None k h = (tt, some_has k h)
answers_have w (Some p) k h = let x = both_true (is_variable w p) (stores w p k) h in agree_has (place_kind w p) k x.1

pub length_below : (es : List RExpr) → length es ≤ values_depth es
length_below [] = omega arith
length_below (e ∷ es) = let h = length_below es in omega arith

-- ---- instructions that end a block, or jump

module _ (S : Setting) (p : ℕ) where
  ret_fits : 1 ≤ S.code.stack → Fits S p (instr.Ret ∷ []) 1 0
  ret_fits room at low le = record {
    depths = 1 ∷ [];
    same = refl;
    first = λ D h e. get_or_from_slice_get D p 1 0 h.0;
    places = λ D level h e u q from_p to_p. subst (Place S D) (omega arith)
        (place_with S.code S.cells S.most D p instr.Ret 1 at.0 (get_or_from_slice_get D p 1 0 h.0) (omega arith) room tt tt tt tt u);
    unreached = λ u none. refl;
  }

  module _ (n : ℕ) (there : n < S.size) where
    pub jump_fits : Fits S p (instr.Jump (S.start n) ∷ []) 0 0
    jump_fits at low le = record {
      depths = 0 ∷ [];
      same = refl;
      first = λ D h e. get_or_from_slice_get D p 0 0 h.0;
      places = λ D level h e u q from_p to_p. subst (Place S D) (omega arith)
          (place_with S.code S.cells S.most D p (instr.Jump (S.start n)) 0 at.0 (get_or_from_slice_get D p 0 0 h.0) (omega arith) (omega arith) tt tt tt (to_start S D p n low (omega arith) there level) u);
      unreached = λ u none. refl;
    }

    zero_jump_fits : 1 ≤ S.code.stack → Fits S p (instr.JumpZ (S.start n) ∷ []) 1 0
    zero_jump_fits room at low le = record {
      depths = 1 ∷ [];
      same = refl;
      first = λ D h e. get_or_from_slice_get D p 1 0 h.0;
      places = λ D level h e u q from_p to_p. subst (Place S D) (omega arith)
          (place_with S.code S.cells S.most D p (instr.JumpZ (S.start n)) 1 at.0 (get_or_from_slice_get D p 1 0 h.0) (omega arith) room tt tt tt
          (to_start S D p n low (omega arith) there level, later S D p (p + 1) 0 low (omega arith) (omega arith) e) u);
      unreached = λ u none. refl;
    }

    go_on_fits : (m : ℕ) → Fits S p (go_on S.start m (Some n)) 0 0
    go_on_fits m = by_test (n == m + 1)
      where
        by_test : (b : Bool) → Fits S p (if b then [] else instr.Jump (S.start n) ∷ []) 0 0
        by_test true = none_fits S p 0
        by_test false = jump_fits

-- the segment of each node but the end begins with a tick
pub ticked_block : (start : ℕ → ℕ) (m : ℕ) (to : Edge) (wk : NodeWork) (p : ℕ) → wk ≢ work.End → segment start m to wk p ≡ instr.Tick ∷ work_block start m to wk (p + 1)
ticked_block start m to work.End p other = absurd (other refl)
ticked_block start m to wk p other = refl

-- ---- what nodes do

-- what stands in the table of checkpoints, and among the directives
abbrev pub IsMarked : CodeView → ℕ → ℕ → ℕ → NodeWork → Type 0
IsMarked c most m p work.Checkpoint = IsTrue (has_checkpoint c m (p + 1))
IsMarked c most m p (work.Exclude k) = (1 ≤ k) × (k ≤ most)
IsMarked c most m p wk = Unit {0}

module _ (S : Setting) (w : World) (serves : Serves S.code S.cells S.own w) where
  values_fit : (es : List RExpr) → EachHas w es → (p d : ℕ) → d + values_depth es ≤ S.code.stack → Fits S p (values_block es p) d (d + length es)
  values_fit [] h p d room = let z : d ≡ d + 0 = omega arith in subst (λ n. Fits S p [] d n) z (none_fits S p d)
  values_fit (e ∷ es) h p d room =
      let q = p + length (expr_block e p) in
      let x = (good_expr S w serves e).1 h.0.0 h.0.1 p d (omega arith) in
      let y = values_fit es h.1 q (d + 1) (omega arith) in
      let z : d + 1 + length es ≡ d + length (e ∷ es) = omega arith in
      subst (λ n. Fits S p (values_block (e ∷ es) p) d n) z (both_fit S p (expr_block e p) (values_block es q) d (d + 1) (d + 1 + length es) x y)

  all_values_fit : (es : List RExpr) → EachHas w es → (p : ℕ) → values_depth es ≤ S.code.stack → Fits S p (values_block es p) 0 (length es)
  all_values_fit es h p room = let z : 0 + length es ≡ length es = omega arith in subst (λ n. Fits S p (values_block es p) 0 n) z (values_fit es h p 0 (omega arith))

  store_cell_fits : (c : ℕ) → HasKind (w.cell c) → (p : ℕ) → 1 ≤ S.code.stack → Fits S p (instr.StoreC c ∷ []) 1 0
  store_cell_fits c h p room = one_fits S p (instr.StoreC c) 1 0 (omega arith) room refl tt (λ a b. tt) (serves.cell c h.0 h.1) (λ P h. h) (λ P h. h)

  store_local_fits : (i : ℕ) → HasKind (w.local i) → (p : ℕ) → 1 ≤ S.code.stack → Fits S p (instr.StoreL i ∷ []) 1 0
  store_local_fits i h p room = one_fits S p (instr.StoreL i) 1 0 (omega arith) room refl tt
      (λ low lt. subst (λ s. i < locals_from S.code.functions s) (sym (S.at_home p low (omega arith))) (serves.local i h.0 h.1)) tt (λ P h. h) (λ P h. h)

  drop_fits : (p d : ℕ) → d + 1 ≤ S.code.stack → Fits S p (instr.Drop ∷ []) (d + 1) d
  drop_fits p d room = one_fits S p instr.Drop (d + 1) d (omega arith) room (omega arith) tt (λ a b. tt) tt (λ P h. h) (λ P h. h)

  set_fits : (to : RPlace) (k : Option Bool) (n : ℕ) (a : Block) → Good S k n a → HasKind k → HasKind (place_kind w to) → (p : ℕ) → set_depth to n ≤ S.code.stack → Fits S p (set_block to a p) 0 0
  set_fits (place.Cell c) k n a g h t p room =
      both_fit S p (a p) (instr.StoreC c ∷ []) 0 1 0 (g.1 h.0 h.1 p 0 (omega arith)) (store_cell_fits c t (p + length (a p)) (omega (arith, g.0)))
  set_fits (place.Local i) k n a g h t p room =
      both_fit S p (a p) (instr.StoreL i ∷ []) 0 1 0 (g.1 h.0 h.1 p 0 (omega arith)) (store_local_fits i t (p + length (a p)) (omega (arith, g.0)))
  set_fits (place.At e) k n a g h t p room =
      let pointer = pointed_has (kind w e) t.0 t.1 in
      let q = p + length (expr_block e p) in
      let x = (good_expr S w serves e).1 pointer.0 pointer.1 p 0 (omega arith) in
      let y = g.1 h.0 h.1 q 1 (omega arith) in
      let xy = both_fit S p (expr_block e p) (a q) 0 1 2 x y in
      let r = p + length (expr_block e p ++ a q) in
      both_fit S p (expr_block e p ++ a q) (instr.Put ∷ []) 0 2 0 xy (one_fits S r instr.Put 2 0 (omega arith) (omega (arith, g.0)) refl tt (λ a b. tt) tt (λ P h. h) (λ P h. h))

  given_good : (v : Option RExpr) → Option Bool
  given_good None = Some false
  given_good (Some e) = kind w e

  given_is : (v : Option RExpr) → Good S (given_good v) (given_depth v) (given_block v)
  unfolding given_good
  given_is None = (omega arith, λ b e p d room. one_fits S p (instr.Num (pos 0)) d (d + 1) (omega arith) (omega arith) (omega arith) tt (λ a b. tt) tt (λ P h. h) (λ P h. h))
  given_is (Some e) = good_expr S w serves e

  starts_have : (to : RPlace) (v : Option RExpr) → starts w to v ≡ true → HasKind (given_good v) × HasKind (place_kind w to)
  unfolding given_good
  starts_have to None h = ((false, refl), variable_has w to h)
  starts_have to (Some e) h = let x = agree_has (place_kind w to) (kind w e) (both_true (is_variable w to) (stores w to (kind w e)) h).1 in (x.1, x.0)

  keep_fits : (o : Option RPlace) → IsKept w o → (p : ℕ) → 1 ≤ S.code.stack → Fits S p (keep_answer o) 1 0
  keep_fits None h p room = drop_fits p 0 room
  keep_fits (Some (place.Cell c)) h p room = store_cell_fits c h p room
  keep_fits (Some (place.Local i)) h p room = store_local_fits i h p room
  keep_fits (Some (place.At e)) h p room = drop_fits p 0 room

  drops_fit : (n p : ℕ) → n ≤ S.code.stack → Fits S p (drops n) n 0
  drops_fit zero p room = none_fits S p 0
  drops_fit (suc n) p room =
      let z : n + 1 ≡ suc n = omega arith in
      both_fit S p (instr.Drop ∷ []) (drops n) (suc n) n 0 (subst (λ k. Fits S p (instr.Drop ∷ []) k n) z (drop_fits p n (omega arith))) (drops_fit n (p + 1) (omega arith))

  pieces_fit : (n k : ℕ) (ps : List PrintPiece) → k + count_by is_hole ps ≤ n → n ≤ S.code.stack → (p : ℕ) → Fits S p (piece_code n k ps) n n
  pieces_fit n k [] h room p = none_fits S p n
  pieces_fit n k (print.Byte b ∷ ps) h room p =
      let count = sum_by-cons (λ x. cond (is_hole x) 1 0) (print.Byte b) ps in
      both_fit S p (instr.OutB b ∷ []) (piece_code n k ps) n n n (one_fits S p (instr.OutB b) n n (omega arith) room (omega arith) tt (λ a b. tt) tt (λ P h. h) (λ P h. h))
      (pieces_fit n k ps (omega (arith, count)) room (p + 1))
  pieces_fit n k (print.Number ∷ ps) h room p =
      let count = sum_by-cons (λ x. cond (is_hole x) 1 0) print.Number ps in
      both_fit S p (instr.OutN (n - 1 - k) ∷ []) (piece_code n (k + 1) ps) n n n (one_fits S p (instr.OutN (n - 1 - k)) n n (omega (arith, count)) room (omega (arith, count)) tt (λ a b. tt) tt (λ P h. h) (λ P h. h))
      (pieces_fit n (k + 1) ps (omega (arith, count)) room (p + 1))

  call_fits : (f : ℕ) (es : List RExpr) → IsCall w f es → (p : ℕ) → length es ≤ S.code.stack → Fits S p (instr.Call f ∷ []) (length es) 1
  call_fits f es call p room =
      let e = serves.parameters f call.signature call.is in
      let t = call.count in
      one_fits S p (instr.Call f) (length es) 1 (omega arith) room (omega arith) tt (λ a b. serves.function f call.signature call.is) tt (λ P h. h) (λ P h. h)

  in_fits : (p : ℕ) → 1 ≤ S.code.stack → Fits S p (instr.In ∷ []) 0 1
  in_fits p room = one_fits S p instr.In 0 1 (omega arith) (omega arith) refl tt (λ a b. tt) tt (λ P h. h) (λ P h. h)

  -- three blocks in a row
  three_fit : (p : ℕ) (a b c : List Instr) (d e f g : ℕ) → Fits S p a d e → Fits S (p + length a) b e f → Fits S (p + length a + length b) c f g → Fits S p (a ++ (b ++ c)) d g
  three_fit p a b c d e f g x y z = both_fit S p a (b ++ c) d e g x (both_fit S (p + length a) b c e f g y z)

  home_is : w.is_main ≡ true → (p : ℕ) → S.low ≤ p → p < S.last → home S.code.functions p ≡ 0
  home_is h p low lt = S.at_home p low (omega arith) ∙ serves.main h

  module _ (m : ℕ) (p : ℕ) (a : ℕ) (there : a < S.size) where
    abbrev on : ℕ → List Instr
    on q = go_on S.start m (Some a)

    abbrev onward : Edge
    onward = (Some a, None)

    set_node_fits : (to : RPlace) (k : Option Bool) (n : ℕ) (v : Block) → Good S k n v → HasKind k → HasKind (place_kind w to) → set_depth to n ≤ S.code.stack → Fits S p (set_block to v p ++ go_on S.start m (Some a)) 0 0
    set_node_fits to k n v g h t room = both_fit S p (set_block to v p) (go_on S.start m (Some a)) 0 0 0 (set_fits to k n v g h t p room) (go_on_fits S (p + length (set_block to v p)) a there m)

    call_node_fits : (d : Option RPlace) (f : ℕ) (es : List RExpr) → IsCall w f es → IsKept w d → max (values_depth es) 1 ≤ S.code.stack → Fits S p (work_block S.start m onward (work.Call d f es) p) 0 0
    call_node_fits d f es call kept room =
        let v = values_block es p in
        let k = keep_answer d in
        let q = p + length v in
        three_fit p v (instr.Call f ∷ []) (k ++ go_on S.start m (Some a)) 0 (length es) 1 0 (all_values_fit es call.given p (omega arith)) (call_fits f es call q (omega (arith, length_below es)))
        (both_fit S (q + 1) k (go_on S.start m (Some a)) 1 0 0 (keep_fits d kept (q + 1) (omega arith)) (go_on_fits S (q + 1 + length k) a there m))

    input_node_fits : (d : Option RPlace) → IsKept w d → 1 ≤ S.code.stack → Fits S p (work_block S.start m onward (work.Input d) p) 0 0
    input_node_fits d kept room =
        let k = keep_answer d in
        three_fit p (instr.In ∷ []) k (go_on S.start m (Some a)) 0 1 0 0 (in_fits p room) (keep_fits d kept (p + 1) room) (go_on_fits S (p + 1 + length k) a there m)

    return_node_fits : (e : RExpr) → HasKind (kind w e) → expr_depth e ≤ S.code.stack → Fits S p (work_block S.start m onward (work.Return e) p) 0 0
    return_node_fits e h room =
        let g = good_expr S w serves e in
        both_fit S p (expr_block e p) (instr.Ret ∷ []) 0 1 0 (g.1 h.0 h.1 p 0 (omega arith)) (ret_fits S (p + length (expr_block e p)) (omega (arith, g.0)))

    return_call_node_fits : (f : ℕ) (es : List RExpr) → IsCall w f es → max (values_depth es) 1 ≤ S.code.stack → Fits S p (work_block S.start m onward (work.ReturnCall f es) p) 0 0
    return_call_node_fits f es call room =
        let v = values_block es p in
        let q = p + length v in
        three_fit p v (instr.Call f ∷ []) (instr.Ret ∷ []) 0 (length es) 1 0 (all_values_fit es call.given p (omega arith)) (call_fits f es call q (omega (arith, length_below es))) (ret_fits S (q + 1) (omega arith))

    put_node_fits : (e : RExpr) → HasKind (kind w e) → expr_depth e ≤ S.code.stack → Fits S p (work_block S.start m onward (work.Put e) p) 0 0
    put_node_fits e h room =
        let g = good_expr S w serves e in
        let q = p + length (expr_block e p) in
        three_fit p (expr_block e p) (instr.OutC ∷ []) (go_on S.start m (Some a)) 0 1 0 0 (g.1 h.0 h.1 p 0 (omega arith))
        (one_fits S q instr.OutC 1 0 (omega arith) (omega (arith, g.0)) refl tt (λ a b. tt) tt (λ P h. h) (λ P h. h)) (go_on_fits S (q + 1) a there m)

    print_node_fits : (ps : List PrintPiece) (es : List RExpr) → prints w ps es ≡ true → values_depth es ≤ S.code.stack → Fits S p (work_block S.start m onward (work.Print ps es) p) 0 0
    print_node_fits ps es h room =
        let x = both_true (nat_eq (length es) (count_by is_hole ps)) (list_all (is_number w) es) h in
        let count : length es ≡ count_by is_hole ps = eqb-true (length es) (count_by is_hole ps) x.0 in
        let n = length es in
        let v = values_block es p in
        let q = p + length v in
        let pc = piece_code n 0 ps in
        let few : n ≤ S.code.stack = omega (arith, length_below es) in
        three_fit p v (print_code n ps) (go_on S.start m (Some a)) 0 n 0 0 (all_values_fit es (numbers_have w es x.1) p room)
        (both_fit S q pc (drops n) n n 0 (pieces_fit n 0 ps (omega arith) few q) (drops_fit n (q + length pc) few)) (go_on_fits S (q + length (print_code n ps)) a there m)

    checkpoint_node_fits : w.is_main ≡ true → IsTrue (has_checkpoint S.code m (p + 1)) → Fits S p (work_block S.start m onward work.Checkpoint p) 0 0
    checkpoint_node_fits main listed =
        both_fit S p (instr.Ckpt m ∷ []) (go_on S.start m (Some a)) 0 0 0 (one_fits S p (instr.Ckpt m) 0 0 (omega arith) (omega arith) refl refl (home_is main p) listed (λ P h. h) (λ P h. h)) (go_on_fits S (p + 1) a there m)

    exclude_node_fits : (k : ℕ) → w.is_main ≡ true → (1 ≤ k) × (k ≤ S.most) → Fits S p (work_block S.start m onward (work.Exclude k) p) 0 0
    exclude_node_fits k main marked =
        both_fit S p (instr.Excl k ∷ []) (go_on S.start m (Some a)) 0 0 0 (one_fits S p (instr.Excl k) 0 0 (omega arith) (omega arith) refl tt (home_is main p) marked (λ P h. h) (λ P h. h)) (go_on_fits S (p + 1) a there m)

    test_node_fits : (e : RExpr) → HasKind (kind w e) → expr_depth e ≤ S.code.stack → (b : ℕ) → b < S.size → Fits S p (work_block S.start m (Some a, Some b) (work.Test e) p) 0 0
    test_node_fits e h room b else_there =
        let g = good_expr S w serves e in
        let q = p + length (expr_block e p) in
        three_fit p (expr_block e p) (instr.JumpZ (S.start b) ∷ []) (go_on S.start m (Some a)) 0 1 0 0 (g.1 h.0 h.1 p 0 (omega arith)) (zero_jump_fits S q b else_there (omega (arith, g.0))) (go_on_fits S (q + 1) a there m)

  -- each kind of node but the end
  work_fits : (m : ℕ) (to : Edge) (wk : NodeWork) (p : ℕ) → work_keeps w wk ≡ true → work_depth wk ≤ S.code.stack → FitsWork S.size wk to → IsMarked S.code S.most m p wk → wk ≢ work.End → Fits S p (work_block S.start m to wk p) 0 0
  work_fits m to (work.Declare d v) p h room t marked other =
      let x = starts_have d v h in
      subst (λ y. Fits S p (work_block S.start m y (work.Declare d v) p) 0 0) (sym t.1) (set_node_fits m p t.0 t.2 d (given_good v) (given_depth v) (given_block v) (given_is v) x.0 x.1 room)
  work_fits m to (work.Set d e) p h room t marked other =
      let x = agree_has (place_kind w d) (kind w e) h in
      subst (λ y. Fits S p (work_block S.start m y (work.Set d e) p) 0 0) (sym t.1) (set_node_fits m p t.0 t.2 d (kind w e) (expr_depth e) (expr_block e) (good_expr S w serves e) x.1 x.0 room)
  work_fits m to (work.Call d f es) p h room t marked other =
      let x = answers_have w d (call_kind w f es) h in
      subst (λ y. Fits S p (work_block S.start m y (work.Call d f es) p) 0 0) (sym t.1) (call_node_fits m p t.0 t.2 d f es (call_is w f es (w.function f) x.1.0 refl x.1.1) x.0 room)
  work_fits m to (work.Input d) p h room t marked other =
      subst (λ y. Fits S p (work_block S.start m y (work.Input d) p) 0 0) (sym t.1) (input_node_fits m p t.0 t.2 d (answers_have w d (Some false) h).0 room)
  work_fits m to (work.Return e) p h room t marked other =
      subst (λ y. Fits S p (work_block S.start m y (work.Return e) p) 0 0) (sym t.1) (return_node_fits m p t.0 t.2 e (agree_has (Some w.gives_pointer) (kind w e) h).1 room)
  work_fits m to (work.ReturnCall f es) p h room t marked other =
      let x = (agree_has (Some w.gives_pointer) (call_kind w f es) h).1 in
      subst (λ y. Fits S p (work_block S.start m y (work.ReturnCall f es) p) 0 0) (sym t.1) (return_call_node_fits m p t.0 t.2 f es (call_is w f es (w.function f) x.0 refl x.1) room)
  work_fits m to work.ReturnInput p h room t marked other =
      both_fit S p (instr.In ∷ []) (instr.Ret ∷ []) 0 1 0 (in_fits p room) (ret_fits S (p + 1) room)
  work_fits m to (work.Put e) p h room t marked other =
      subst (λ y. Fits S p (work_block S.start m y (work.Put e) p) 0 0) (sym t.1) (put_node_fits m p t.0 t.2 e (agree_has (Some false) (kind w e) h).1 room)
  work_fits m to (work.Print ps es) p h room t marked other =
      subst (λ y. Fits S p (work_block S.start m y (work.Print ps es) p) 0 0) (sym t.1) (print_node_fits m p t.0 t.2 ps es h room)
  work_fits m to (work.Test e) p h room t marked other =
      subst (λ y. Fits S p (work_block S.start m y (work.Test e) p) 0 0) (sym t.2) (test_node_fits m p t.0 t.3 e (agree_has (Some false) (kind w e) h).1 room t.1 t.4)
  work_fits m to work.Checkpoint p h room t marked other =
      subst (λ y. Fits S p (work_block S.start m y work.Checkpoint p) 0 0) (sym t.1) (checkpoint_node_fits m p t.0 t.2 h marked)
  work_fits m to (work.Exclude k) p h room t marked other =
      subst (λ y. Fits S p (work_block S.start m y (work.Exclude k) p) 0 0) (sym t.1) (exclude_node_fits m p t.0 t.2 k h marked)
  work_fits m to work.End p h room t marked other = absurd (other refl)

  tick_fits : (p : ℕ) → Fits S p (instr.Tick ∷ []) 0 0
  tick_fits p = one_fits S p instr.Tick 0 0 (omega arith) (omega arith) refl refl (λ a b. tt) tt (λ P h. h) (λ P h. h)

  pub segment_fits : (m : ℕ) (to : Edge) (wk : NodeWork) (p : ℕ) → work_keeps w wk ≡ true → work_depth wk ≤ S.code.stack → FitsWork S.size wk to → IsMarked S.code S.most m (p + 1) wk → wk ≢ work.End → Fits S p (segment S.start m to wk p) 0 0
  segment_fits m to wk p h room t marked other =
      subst (λ is. Fits S p is 0 0) (sym (ticked_block S.start m to wk p other))
      (both_fit S p (instr.Tick ∷ []) (work_block S.start m to wk (p + 1)) 0 0 0 (tick_fits p) (work_fits m to wk (p + 1) h room t marked other))
