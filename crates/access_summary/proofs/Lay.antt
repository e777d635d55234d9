-- Edges are appended, the last first.
use Rattle.std.proofs.Common.{◌≡◌, ℕ, zero, suc, ◌+◌, ◌-◌, ◌<◌, List, [], ◌∷◌, ◌++◌, length, map, reverse, take, drop, sum, Option, Some, None, refl, sym, ap, ◌∙◌, subst, arith}
use Rattle.std.specs.Prelude.{slice_get, slice_set}
use Rattle.std.proofs.lemmas.List.{append_assoc, reverse-append, reverse-reverse, map-append, length-append, take_all, drop_all}
use Rattle.std.proofs.lemmas.List.Sums.{sum_by-cons, sum_by-append}
use Rattle.c_tree.specs.declared.resolved.RExpr.{RExpr}
use Rattle.c_tree.specs.declared.resolved.RStmt.{RStmt}
use Rattle.c_tree.specs.declared.resolved.RStmt.TheViews.{roll-RArm}
use Rattle.c_tree.specs.declared.resolved.RStmt.TheVariants as stmt
use Rattle.c_tree.specs.declared.resolved.RStmt.TheOpen.{RStmt-F, RArm-F}
use Rattle.c_tree.specs.declared.resolved.RStmt.TheFolds.{map-RStmt, fold-roll-RStmt, fold-roll-RArm, fold_out-RArm, ind-RStmt}
use Rattle.c_tree.specs.declared.resolved.RArm.{RArm, out-RArm}
use Rattle.c_tree.specs.Nodes.{nodes_at, arm_nodes_at, node_count, arm_count}
use Rattle.access_summary.specs.Edges as edges
use Rattle.access_summary.specs.Edges.{Edge, Targets, laid_at, laid, arm_at, arm_laid, entry_all, edges_all, entry_arms, edges_arms, test, loop_targets, to_end, edges_of_body}
use Rattle.access_summary.specs.Laying.{IsLaid, Block, Arms, last_laid}

-- ---- the sizes of the statements

size_if : (arms : List RArm) → node_count (stmt.If arms None) ≡ sum (map arm_count arms)
size_if arms = ap node_count (sym (stmt.rolls-If arms None)) ∙ fold-roll-RStmt ℕ ℕ nodes_at arm_nodes_at (RStmt-F.If arms None)

size_if_last : (arms : List RArm) (s : RStmt) → node_count (stmt.If arms (Some s)) ≡ sum (map arm_count arms) + node_count s
size_if_last arms s = ap node_count (sym (stmt.rolls-If arms (Some s))) ∙ fold-roll-RStmt ℕ ℕ nodes_at arm_nodes_at (RStmt-F.If arms (Some s))

size_of_arm : (a : RArm) → arm_count a ≡ 1 + node_count (out-RArm a).body
size_of_arm a = fold_out-RArm ℕ ℕ nodes_at arm_nodes_at a

-- ---- the two sizes are one

module _ (X X' Y Y' : Type 0) (p : X → Y) (q : X' → Y') (f1 : Y → edges.Laid) (g1 : Y' → edges.Laid) (f2 : Y → ℕ) (g2 : Y' → ℕ) (hf : (x : X) → (f1 (p x)).size ≡ f2 (p x)) (hg : (x : X') → 1 + (g1 (q x)).size ≡ g2 (q x)) where
  sizes_all : (xs : List X) → edges.size_all (map f1 (map p xs)) ≡ sum (map f2 (map p xs))
  sizes_all [] = refl
  sizes_all (x ∷ xs) = omega (arith, hf x, sizes_all xs, sum_by-cons (λ n. n) (f2 (p x)) (map f2 (map p xs)))

  sizes_arms : (xs : List X') → edges.size_arms (map g1 (map q xs)) ≡ sum (map g2 (map q xs))
  sizes_arms [] = refl
  sizes_arms (x ∷ xs) = omega (arith, hg x, sizes_arms xs, sum_by-cons (λ n. n) (g2 (q x)) (map g2 (map q xs)))

  size_layer : (y : RStmt-F X X') → (laid_at (map-RStmt Y Y' edges.Laid edges.Laid f1 g1 (map-RStmt X X' Y Y' p q y))).size ≡ nodes_at (map-RStmt Y Y' ℕ ℕ f2 g2 (map-RStmt X X' Y Y' p q y))
  size_layer (RStmt-F.Block ss) = sizes_all ss
  size_layer (RStmt-F.If arms None) = omega (arith, sizes_arms arms)
  size_layer (RStmt-F.If arms (Some x)) = omega (arith, sizes_arms arms, hf x)
  size_layer (RStmt-F.While e x) = omega (arith, hf x)
  size_layer (RStmt-F.Do x e) = omega (arith, hf x)
  size_layer (RStmt-F.For init e update x) = omega (arith, hf x)
  size_layer RStmt-F.Empty = refl
  size_layer RStmt-F.Break = refl
  size_layer RStmt-F.Continue = refl
  size_layer (RStmt-F.Declare a e) = refl
  size_layer (RStmt-F.Set a e) = refl
  size_layer (RStmt-F.Call a h es) = refl
  size_layer (RStmt-F.Input a) = refl
  size_layer (RStmt-F.Return e) = refl
  size_layer (RStmt-F.ReturnCall h es) = refl
  size_layer RStmt-F.ReturnInput = refl
  size_layer (RStmt-F.Put e) = refl
  size_layer (RStmt-F.Print ps es) = refl
  size_layer RStmt-F.Checkpoint = refl
  size_layer (RStmt-F.Exclude k) = refl

-- a statement has as many edges' nodes as nodes
pub laid_size : (s : RStmt) → (laid s).size ≡ node_count s
laid_size = ind-RStmt (λ s. (laid s).size ≡ node_count s) (λ a. 1 + (arm_laid a).size ≡ arm_count a)
    (λ x y is.
    let l = size_layer _ _ RStmt _ (λ e. e.0) (λ e. e.0) laid arm_laid node_count arm_count (λ e. e.1) (λ e. e.1) y in
    let k = subst (λ z. (laid_at (map-RStmt RStmt _ edges.Laid edges.Laid laid arm_laid z)).size ≡ nodes_at (map-RStmt RStmt _ ℕ ℕ node_count arm_count z)) is l in
    ap (λ (z : edges.Laid). z.size) (fold-roll-RStmt edges.Laid edges.Laid laid_at arm_at x) ∙ k ∙ sym (fold-roll-RStmt ℕ ℕ nodes_at arm_nodes_at x))
    (λ x y is.
    let k : (laid x.body).size ≡ node_count x.body = subst (λ (z : RArm-F RStmt RArm). (laid z.body).size ≡ node_count z.body) is y.body.1 in
    let p : (arm_laid (roll-RArm x)).size ≡ (laid x.body).size = ap (λ (z : edges.Laid). z.size) (fold-roll-RArm edges.Laid edges.Laid laid_at arm_at x) in
    omega (arith, k, p, fold-roll-RArm ℕ ℕ nodes_at arm_nodes_at x))

-- ---- lists

pub sum_more : (ns : List ℕ) (n : ℕ) → sum (ns ++ n ∷ []) ≡ sum ns + n
sum_more ns n = omega (arith, sum_by-append (λ n. n) ns (n ∷ []))

take_next : {A : Type 0} → (xs : List A) (k : ℕ) (x : A) → slice_get xs k ≡ Some x → take (suc k) xs ≡ take k xs ++ x ∷ []
take_next [] k x h = absurd cc
take_next (y ∷ xs) zero x h = let e : y ≡ x = cc in ap (λ v. v ∷ []) e
take_next (y ∷ xs) (suc k) x h = ap (λ v. y ∷ v) (take_next xs k x h)

drop_next : {A : Type 0} → (xs : List A) (k : ℕ) (x : A) → slice_get xs k ≡ Some x → drop k xs ≡ x ∷ drop (suc k) xs
drop_next [] k x h = absurd cc
drop_next (y ∷ xs) zero x h = let e : y ≡ x = cc in ap (λ v. v ∷ xs) e
drop_next (y ∷ xs) (suc k) x h = drop_next xs k x h

set_seam : {A : Type 0} → (xs ys : List A) (d e : A) → slice_set (xs ++ d ∷ ys) (length xs) e ≡ xs ++ e ∷ ys
set_seam [] ys d e = refl
set_seam (x ∷ xs) ys d e = ap (λ v. x ∷ v) (set_seam xs ys d e)

sum_next : {A : Type 0} → (f : A → ℕ) (xs : List A) (k : ℕ) (x : A) → slice_get xs k ≡ Some x → sum (map f (take (suc k) xs)) ≡ sum (map f (take k xs)) + f x
sum_next f xs k x h = ap (λ v. sum (map f v)) (take_next xs k x h) ∙ ap sum (map-append f (take k xs) (x ∷ [])) ∙ sum_more (map f (take k xs)) (f x)

-- ---- the equations of the layout

laid_block : (ss : List RStmt) → laid (stmt.Block ss) ≡ laid_at (RStmt-F.Block (map laid ss))
laid_block ss = ap laid (sym (stmt.rolls-Block ss)) ∙ fold-roll-RStmt edges.Laid edges.Laid laid_at arm_at (RStmt-F.Block ss)

abbrev if_laid : List RArm → Option RStmt → edges.Laid
if_laid arms last = record {
  size = edges.size_arms (map arm_laid arms) + (last_laid last).size;
  entry = entry_arms (map arm_laid arms) (last_laid last);
  edges = edges_arms (map arm_laid arms) (last_laid last);
}

laid_if : (arms : List RArm) (last : Option RStmt) → laid (stmt.If arms last) ≡ if_laid arms last
laid_if arms None = ap laid (sym (stmt.rolls-If arms None)) ∙ fold-roll-RStmt edges.Laid edges.Laid laid_at arm_at (RStmt-F.If arms None)
laid_if arms (Some s) = ap laid (sym (stmt.rolls-If arms (Some s))) ∙ fold-roll-RStmt edges.Laid edges.Laid laid_at arm_at (RStmt-F.If arms (Some s))

laid_do : (s : RStmt) (e : RExpr) → laid (stmt.Do s e) ≡ laid_at (RStmt-F.Do (laid s) e)
laid_do s e = ap laid (sym (stmt.rolls-Do s e)) ∙ fold-roll-RStmt edges.Laid edges.Laid laid_at arm_at (RStmt-F.Do s e)

laid_arm : (a : RArm) → arm_laid a ≡ laid (out-RArm a).body
laid_arm a = fold_out-RArm edges.Laid edges.Laid laid_at arm_at a

-- what was laid, by any name of its layout
laid_as : (s : RStmt) (l : edges.Laid) (m : ℕ) (to : Targets) (e : ℕ) (xs ys : List Edge) → laid s ≡ l → e ≡ l.entry m to → reverse ys ≡ l.edges m to ++ reverse xs → IsLaid s m to e xs ys
laid_as s l m to e xs ys h p q = (p ∙ ap (λ (z : edges.Laid). z.entry m to) (sym h), q ∙ ap (λ (z : edges.Laid). z.edges m to ++ reverse xs) (sym h))

-- ---- a block

pub block_number : (first : ℕ) (to : Targets) (old : List Edge) (items : List RStmt) (i m next : ℕ) (now : List Edge) (s : RStmt) → Block first to old items i m next now → 0 < i → slice_get items (i - 1) ≡ Some s
    → m ≡ first + sum (map node_count (take (i - 1) items)) + node_count s
block_number first to old items i m next now s b lt h =
    let e : i ≡ suc (i - 1) = omega arith in
    let k = ap (λ v. sum (map node_count (take v items))) e ∙ sum_next node_count items (i - 1) s h in
    omega (arith, b.number, k)

pub block_more : (first : ℕ) (to : Targets) (old : List Edge) (items : List RStmt) (i m next : ℕ) (now : List Edge) (s : RStmt) (k e : ℕ) (now' : List Edge) → Block first to old items i m next now → 0 < i → slice_get items (i - 1) ≡ Some s → k ≡ node_count s
    → IsLaid s (m - k) (record { next = next; out_of_loop = to.out_of_loop; again = to.again; end = to.end }) e now now' → Block first to old items (i - 1) (m - k) e now'
block_more first to old items i m next now s k e now' b lt h ks l =
    let n = block_number first to old items i m next now s b lt h in
    let d = ap (λ v. map laid v) (drop_next items (i - 1) s h) in
    let p : suc (i - 1) ≡ i = omega arith in
    let q : m ≡ m - k + (laid s).size = omega (arith, n, ks, laid_size s) in
    let t : next ≡ entry_all (map laid (drop (suc (i - 1)) items)) (m - k + (laid s).size) to =
    b.begins ∙ ap (λ v. entry_all (map laid (drop v items)) m to) (sym p) ∙ ap (λ v. entry_all (map laid (drop (suc (i - 1)) items)) v to) q in
    let r : reverse now ≡ edges_all (map laid (drop (suc (i - 1)) items)) (m - k + (laid s).size) to ++ reverse old =
    b.stands ∙ ap (λ v. edges_all (map laid (drop v items)) m to ++ reverse old) (sym p) ∙ ap (λ v. edges_all (map laid (drop (suc (i - 1)) items)) v to ++ reverse old) q in
    let to' : ℕ → Targets = λ v. record { next = v; out_of_loop = to.out_of_loop; again = to.again; end = to.end } in
    record {
      within = omega (arith, b.within);
      number = omega (arith, n, ks);
      begins = l.0 ∙ ap (λ v. (laid s).entry (m - k) (to' v)) t ∙ ap (λ v. entry_all v (m - k) to) (sym d);
      stands = l.1 ∙ ap (λ v. (laid s).edges (m - k) (to' v) ++ reverse now) t ∙ ap (λ v. (laid s).edges (m - k) (to' (entry_all (map laid (drop (suc (i - 1)) items)) (m - k + (laid s).size) to)) ++ v) r
          ∙ sym (append_assoc ((laid s).edges (m - k) (to' (entry_all (map laid (drop (suc (i - 1)) items)) (m - k + (laid s).size) to))) (edges_all (map laid (drop (suc (i - 1)) items)) (m - k + (laid s).size) to) (reverse old))
          ∙ ap (λ v. edges_all v (m - k) to ++ reverse old) (sym d);
    }

-- a block is laid where its statements are
pub block_done : (x : RStmt) (first k : ℕ) (to : Targets) (old : List Edge) (items ss : List RStmt) (next : ℕ) (now : List Edge) → x ≡ stmt.Block ss → items ≡ ss → k ≡ first → Block k to old items 0 k next now → IsLaid x first to next old now
block_done x first k to old items ss next now is its ks b = laid_as x (laid_at (RStmt-F.Block (map laid items))) first to next old now (ap laid (is ∙ ap stmt.Block (sym its)) ∙ laid_block items)
    (b.begins ∙ ap (λ v. entry_all (map laid items) v to) ks) (b.stands ∙ ap (λ v. edges_all (map laid items) v to ++ reverse old) ks)

pub block_size : (x : RStmt) (items ss : List RStmt) → x ≡ stmt.Block ss → items ≡ ss → node_count x ≡ sum (map node_count items)
block_size x items ss is its = ap node_count (is ∙ ap stmt.Block (sym its) ∙ sym (stmt.rolls-Block items)) ∙ fold-roll-RStmt ℕ ℕ nodes_at arm_nodes_at (RStmt-F.Block items)

-- ---- the arms of an `if`

pub arms_number : (first : ℕ) (items : List RArm) (i m : ℕ) (a : RArm) → m ≡ first + sum (map arm_count (take i items)) → 0 < i → slice_get items (i - 1) ≡ Some a
    → m ≡ first + sum (map arm_count (take (i - 1) items)) + (1 + node_count (out-RArm a).body)
arms_number first items i m a ms lt h =
    let e : i ≡ suc (i - 1) = omega arith in
    let k = ap (λ v. sum (map arm_count (take v items))) e ∙ sum_next arm_count items (i - 1) a h in
    omega (arith, ms, k, size_of_arm a)

pub arms_more : (x : RStmt) (first : ℕ) (to : Targets) (old : List Edge) (items : List RArm) (i m entry : ℕ) (now : List Edge) (a : RArm) (k body : ℕ) (now' now'' : List Edge)
    → Arms x first to old items i m entry now → 0 < i → slice_get items (i - 1) ≡ Some a → k ≡ node_count (out-RArm a).body → IsLaid (out-RArm a).body (m - k) to body now now' → reverse now'' ≡ test body entry ∷ reverse now'
    → Arms x first to old items (i - 1) (m - k - 1) (m - k - 1) now''
arms_more x first to old items i m entry now a k body now' now'' b lt h ks l pu =
    let p' = laid (out-RArm a).body in
    let n = arms_number first items i m a b.number lt h in
    let d = ap (λ v. map arm_laid v) (drop_next items (i - 1) a h) ∙ ap (λ v. v ∷ map arm_laid (drop (suc (i - 1)) items)) (laid_arm a) in
    let p : suc (i - 1) ≡ i = omega arith in
    let j = m - k - 1 in
    let q : m ≡ j + 1 + p'.size = omega (arith, n, ks, laid_size (out-RArm a).body) in
    let q' : m - k ≡ j + 1 = omega (arith, n, ks) in
    let rest = map arm_laid (drop (suc (i - 1)) items) in
    let last = last_laid b.last in
    let t : entry ≡ entry_arms rest last (j + 1 + p'.size) to =
    b.begins ∙ ap (λ v. entry_arms (map arm_laid (drop v items)) last m to) (sym p) ∙ ap (λ v. entry_arms rest last v to) q in
    let r : reverse now ≡ edges_arms rest last (j + 1 + p'.size) to ++ reverse old =
    b.stands ∙ ap (λ v. edges_arms (map arm_laid (drop v items)) last m to ++ reverse old) (sym p) ∙ ap (λ v. edges_arms rest last v to ++ reverse old) q in
    let s : reverse now' ≡ p'.edges (j + 1) to ++ edges_arms rest last (j + 1 + p'.size) to ++ reverse old =
    l.1 ∙ ap (λ v. p'.edges v to ++ reverse now) q' ∙ ap (λ v. p'.edges (j + 1) to ++ v) r ∙ sym (append_assoc (p'.edges (j + 1) to) (edges_arms rest last (j + 1 + p'.size) to) (reverse old)) in
    let u : test body entry ≡ test (p'.entry (j + 1) to) (entry_arms rest last (j + 1 + p'.size) to) =
    ap (λ v. test v entry) (l.0 ∙ ap (λ v. p'.entry v to) q') ∙ ap (λ v. test (p'.entry (j + 1) to) v) t in
    record {
      last = b.last;
      is = b.is;
      within = omega (arith, b.within);
      number = omega (arith, n, ks);
      begins = ap (λ v. entry_arms v last j to) (sym d);
      stands = pu ∙ ap (λ v. v ∷ reverse now') u ∙ ap (λ v. test (p'.entry (j + 1) to) (entry_arms rest last (j + 1 + p'.size) to) ∷ v) s ∙ ap (λ v. edges_arms v last j to ++ reverse old) (sym d);
    }

pub arms_done : (x : RStmt) (first : ℕ) (to : Targets) (old : List Edge) (items : List RArm) (i m entry : ℕ) (now : List Edge) → Arms x first to old items i m entry now → i ≡ 0 → IsLaid x first to entry old now
arms_done x first to old items i m entry now b z =
    let n : m ≡ first = omega (arith, b.number, ap (λ v. sum (map arm_count (take v items))) z) in
    laid_as x (if_laid items b.last) first to entry old now (ap laid b.is ∙ laid_if items b.last)
    (b.begins ∙ ap (λ v. entry_arms (map arm_laid (drop v items)) (last_laid b.last) m to) z ∙ ap (λ v. entry_arms (map arm_laid items) (last_laid b.last) v to) n)
    (b.stands ∙ ap (λ v. edges_arms (map arm_laid (drop v items)) (last_laid b.last) m to ++ reverse old) z ∙ ap (λ v. edges_arms (map arm_laid items) (last_laid b.last) v to ++ reverse old) n)

-- ---- the test of a `do`, which stands before its body in the list

turned : (xs ys zs : List Edge) → reverse ys ≡ zs ++ reverse xs → ys ≡ xs ++ reverse zs
turned xs ys zs h = sym (reverse-reverse ys) ∙ ap reverse h ∙ reverse-append zs (reverse xs) ∙ ap (λ v. v ++ reverse zs) (reverse-reverse xs)

pub do_done : (x s : RStmt) (e : RExpr) (first k : ℕ) (to : Targets) (body : ℕ) (d : Edge) (old n1 n2 n3 : List Edge) (t : Targets) → x ≡ stmt.Do s e → k ≡ first + node_count s → t ≡ loop_targets k to → n1 ≡ old ++ d ∷ [] → IsLaid s first t body n1 n2
    → n3 ≡ slice_set n2 (length old) (test body to.next) → IsLaid x first to body old n3
do_done x s e first k to body d old n1 n2 n3 t is ks ts h l st =
    let q : k ≡ first + (laid s).size = omega (arith, ks, laid_size s) in
    let u = ts ∙ ap (λ v. loop_targets v to) q in
    let ns = (laid s).edges first t in
    let n2s : n2 ≡ old ++ (d ∷ reverse ns) = turned n1 n2 ns l.1 ∙ ap (λ v. v ++ reverse ns) h ∙ append_assoc old (d ∷ []) (reverse ns) in
    let n3s : n3 ≡ old ++ (test body to.next ∷ reverse ns) = st ∙ ap (λ v. slice_set v (length old) (test body to.next)) n2s ∙ set_seam old (reverse ns) d (test body to.next) in
    let r : reverse n3 ≡ ns ++ test body to.next ∷ [] ++ reverse old =
    ap reverse n3s ∙ reverse-append old (test body to.next ∷ reverse ns) ∙ ap (λ v. v ++ reverse old) (reverse-append (test body to.next ∷ []) (reverse ns) ∙ ap (λ v. v ++ (test body to.next ∷ [])) (reverse-reverse ns)) in
    let w = loop_targets (first + (laid s).size) to in
    let p1 = l.0 ∙ ap (λ v. (laid s).entry first v) u in
    laid_as x (laid_at (RStmt-F.Do (laid s) e)) first to body old n3 (ap laid is ∙ laid_do s e) p1
    (r ∙ ap (λ v. (laid s).edges first v ++ test body to.next ∷ [] ++ reverse old) u
    ∙ ap (λ v. (laid s).edges first w ++ test v to.next ∷ [] ++ reverse old) p1)

-- ---- the beginning

abbrev pub count_some : Option RStmt → ℕ
count_some None = 0
count_some (Some s) = node_count s

if_size : (arms : List RArm) (last : Option RStmt) → node_count (stmt.If arms last) ≡ sum (map arm_count arms) + count_some last
if_size arms None = omega (arith, size_if arms)
if_size arms (Some s) = size_if_last arms s

pub begun : (x : RStmt) (first : ℕ) (to : Targets) (old : List Edge) (items : List RArm) (last : Option RStmt) (m entry : ℕ) (now : List Edge) → x ≡ stmt.If items last → m + count_some last ≡ first + node_count x
    → entry ≡ (last_laid last).entry m to → reverse now ≡ (last_laid last).edges m to ++ reverse old → Arms x first to old items (length items) m entry now
begun x first to old items last m entry now is h e r = record {
  last = last;
  is = is;
  within = omega arith;
  number = omega (arith, h, ap node_count is, if_size items last, ap (λ v. sum (map arm_count v)) (take_all (length items) items (omega arith)));
  begins = e ∙ ap (λ v. entry_arms (map arm_laid v) (last_laid last) m to) (sym (drop_all (length items) items (omega arith)));
  stands = r ∙ ap (λ v. edges_arms (map arm_laid v) (last_laid last) m to ++ reverse old) (sym (drop_all (length items) items (omega arith)));
}

-- the last statement of an `if` is laid before its arms
pub begun_some : (x : RStmt) (first : ℕ) (to : Targets) (old : List Edge) (items arms : List RArm) (last : Option RStmt) (s g g' : RStmt) (z k m entry : ℕ) (now : List Edge) → x ≡ stmt.If arms last → items ≡ arms → last ≡ Some s
    → z ≡ node_count x → k ≡ node_count g → g ≡ s → g' ≡ s → m ≡ first + z - k → IsLaid g' m to entry old now → Arms x first to old items (length items) m entry now
begun_some x first to old items arms last s g g' z k m entry now is its ls zs ks gs gs' ms l =
    let is' : x ≡ stmt.If items (Some s) = is ∙ ap (λ v. stmt.If v last) (sym its) ∙ ap (λ v. stmt.If items v) ls in
    begun x first to old items (Some s) m entry now is' (omega (arith, ap node_count is', if_size items (Some s), zs, ks, ap node_count gs, ms))
    (l.0 ∙ ap (λ v. (laid v).entry m to) gs') (l.1 ∙ ap (λ v. (laid v).edges m to ++ reverse old) gs')

pub begun_none : (x : RStmt) (first : ℕ) (to : Targets) (old : List Edge) (items arms : List RArm) (last : Option RStmt) (z : ℕ) → x ≡ stmt.If arms last → items ≡ arms → last ≡ None → z ≡ node_count x
    → Arms x first to old items (length items) (first + z) to.next old
begun_none x first to old items arms last z is its ls zs =
    let is' : x ≡ stmt.If items None = is ∙ ap (λ v. stmt.If v last) (sym its) ∙ ap (λ v. stmt.If items v) ls in
    begun x first to old items None (first + z) to.next old is' (omega (arith, zs)) refl refl

-- the nodes of the arms fit before what is behind them
pub arms_fit : (x : RStmt) (items arms : List RArm) (last : Option RStmt) → x ≡ stmt.If arms last → items ≡ arms → node_count x ≡ sum (map arm_count items) + count_some last
arms_fit x items arms last is its = ap node_count (is ∙ ap (λ v. stmt.If v last) (sym its)) ∙ if_size items last

-- the end node stands behind all others
pub whole : (k entry : ℕ) (body : RStmt) (n0 n1 n2 ns : List Edge) → k ≡ node_count body → n0 ≡ [] → n1 ≡ n0 ++ (None, None) ∷ [] → IsLaid body 0 (to_end k) entry n1 n2 → ns ≡ reverse n2 → (entry, ns) ≡ edges_of_body body
whole k entry body n0 n1 n2 ns ks e0 e1 l r =
    let q = ks ∙ sym (laid_size body) in
    let end : List Edge = (None, None) ∷ [] in
    let n1s : n1 ≡ end = e1 ∙ ap (λ v. v ++ end) e0 in
    let p1 = l.0 ∙ ap (λ v. (laid body).entry 0 (to_end v)) q in
    let p2 = r ∙ l.1 ∙ ap (λ v. (laid body).edges 0 (to_end k) ++ reverse v) n1s ∙ ap (λ v. (laid body).edges 0 (to_end v) ++ end) q in
    ap (λ v. (v, ns)) p1 ∙ ap (λ v. ((laid body).entry 0 (to_end (laid body).size), v)) p2

-- ---- the edges are as many as the nodes

module _ (X X' Y Y' : Type 0) (p : X → Y) (q : X' → Y') (f : Y → edges.Laid) (g : Y' → edges.Laid) (hf : (x : X) (m : ℕ) (t : Targets) → length ((f (p x)).edges m t) ≡ (f (p x)).size) (hg : (x : X') (m : ℕ) (t : Targets) → length ((g (q x)).edges m t) ≡ (g (q x)).size) where
  edges_sized : (xs : List X) (m : ℕ) (t : Targets) → length (edges_all (map f (map p xs)) m t) ≡ edges.size_all (map f (map p xs))
  edges_sized [] m t = refl
  edges_sized (x ∷ xs) m t =
      let u : Targets = record t { next = entry_all (map f (map p xs)) (m + (f (p x)).size) t } in
      omega (arith, hf x m u, edges_sized xs (m + (f (p x)).size) t, length-append ((f (p x)).edges m u) (edges_all (map f (map p xs)) (m + (f (p x)).size) t))

  arms_sized : (xs : List X') (last : edges.Laid) → ((m : ℕ) (t : Targets) → length (last.edges m t) ≡ last.size) → (m : ℕ) (t : Targets) → length (edges_arms (map g (map q xs)) last m t) ≡ edges.size_arms (map g (map q xs)) + last.size
  arms_sized [] last l m t = omega (arith, l m t)
  arms_sized (x ∷ xs) last l m t =
      let k = m + 1 + (g (q x)).size in
      omega (arith, hg x (m + 1) t, arms_sized xs last l k t, length-append ((g (q x)).edges (m + 1) t) (edges_arms (map g (map q xs)) last k t))

  sized_layer : (y : RStmt-F X X') (m : ℕ) (t : Targets) → (let l = laid_at (map-RStmt Y Y' edges.Laid edges.Laid f g (map-RStmt X X' Y Y' p q y)) in length (l.edges m t) ≡ l.size)
  sized_layer (RStmt-F.Block ss) m t = edges_sized ss m t
  sized_layer (RStmt-F.If arms None) m t = arms_sized arms (edges.last_of None) (λ m t. refl) m t
  sized_layer (RStmt-F.If arms (Some x)) m t = arms_sized arms (f (p x)) (hf x) m t
  sized_layer (RStmt-F.While e x) m t = omega (arith, hf x (m + 1) (loop_targets m t))
  sized_layer (RStmt-F.Do x e) m t =
      let u = loop_targets (m + (f (p x)).size) t in
      omega (arith, hf x m u, length-append ((f (p x)).edges m u) (test ((f (p x)).entry m u) t.next ∷ []))
  sized_layer (RStmt-F.For None e None x) m t = omega (arith, hf x (m + 0 + 1 + 0) (loop_targets (m + 0 + 0) t))
  sized_layer (RStmt-F.For None e (Some u) x) m t = omega (arith, hf x (m + 0 + 1 + 1) (loop_targets (m + 0 + 1) t))
  sized_layer (RStmt-F.For (Some i) e None x) m t = omega (arith, hf x (m + 1 + 1 + 0) (loop_targets (m + 1 + 0) t))
  sized_layer (RStmt-F.For (Some i) e (Some u) x) m t = omega (arith, hf x (m + 1 + 1 + 1) (loop_targets (m + 1 + 1) t))
  sized_layer RStmt-F.Empty m t = refl
  sized_layer RStmt-F.Break m t = refl
  sized_layer RStmt-F.Continue m t = refl
  sized_layer (RStmt-F.Declare a e) m t = refl
  sized_layer (RStmt-F.Set a e) m t = refl
  sized_layer (RStmt-F.Call a h es) m t = refl
  sized_layer (RStmt-F.Input a) m t = refl
  sized_layer (RStmt-F.Return e) m t = refl
  sized_layer (RStmt-F.ReturnCall h es) m t = refl
  sized_layer RStmt-F.ReturnInput m t = refl
  sized_layer (RStmt-F.Put e) m t = refl
  sized_layer (RStmt-F.Print ps es) m t = refl
  sized_layer RStmt-F.Checkpoint m t = refl
  sized_layer (RStmt-F.Exclude k) m t = refl

abbrev IsSized : edges.Laid → Type 0
IsSized l = (m : ℕ) (t : Targets) → length (l.edges m t) ≡ l.size

pub laid_sized : (s : RStmt) → IsSized (laid s)
laid_sized = ind-RStmt (λ s. IsSized (laid s)) (λ a. IsSized (arm_laid a))
    (λ x y is.
    let l = sized_layer _ _ RStmt _ (λ e. e.0) (λ e. e.0) laid arm_laid (λ e. e.1) (λ e. e.1) y in
    let k = subst (λ z. IsSized (laid_at (map-RStmt RStmt _ edges.Laid edges.Laid laid arm_laid z))) is l in
    subst IsSized (sym (fold-roll-RStmt edges.Laid edges.Laid laid_at arm_at x)) k)
    (λ x y is.
    let k : IsSized (laid x.body) = subst (λ (z : RArm-F RStmt RArm). IsSized (laid z.body)) is y.body.1 in
    subst IsSized (sym (fold-roll-RArm edges.Laid edges.Laid laid_at arm_at x)) k)

-- how many edges a body has
pub body_sized : (body : RStmt) → length ((edges_of_body body).1) ≡ node_count body + 1
body_sized body =
    let to = to_end (laid body).size in
    omega (arith, laid_size body, laid_sized body 0 to, length-append ((laid body).edges 0 to) ((None, None) ∷ []))
