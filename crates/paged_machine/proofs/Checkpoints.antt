-- Where a machine stands that begins, or that goes on after a checkpoint.
use Rattle.std.proofs.Common.{◌≡◌, ◌≢◌, ℕ, zero, suc, ◌+◌, ◌-◌, ◌*◌, ◌<◌, ◌≤◌, List, [], ◌∷◌, length, get_or, Bool, true, false, ◌==◌, refl, sym, ap, ◌∙◌, subst, arith, ⊎_elim}
use Rattle.std.specs.Prelude.{slice_index, ◌&&◌, ◌||◌, map}
use Rattle.std.specs.List.{list_any}
use Rattle.std.proofs.lemmas.Bool.{cases_lt}
use Rattle.std.proofs.lemmas.Bool.Decides.{nat_tests}
use Rattle.machine_code.specs.declared.instr.Instr.TheVariants.{Ckpt}
use Rattle.machine_code.specs.CodeView.{CodeView, Checkpoint, node, place_after, most_locals}
use Rattle.machine_code.specs.Valid.{IsValid, AreDepths, has_checkpoint, IsNewAt, AreDistinct}
use Rattle.machine_code.specs.State.{standing}
use Rattle.paged_machine.specs.Standing.{IsAt, StandsBy}
use Rattle.paged_machine.proofs.Homes.{locals_main, home_main}
use Rattle.paged_machine.proofs.Stays.{stands_there}

-- a machine with no call active and no operands
pub standing_fits : (c : CodeView) (ds : List ℕ) (p t : ℕ) (l : Bool) (a b : ℕ) → IsValid c → AreDepths c ds → IsAt c ds p 0 0 → 1001 * c.stack ≤ a → 1001 * most_locals c.functions ≤ b → StandsBy c ds (record { state = standing p t; live = l; operand_room = a; local_room = b })
standing_fits c ds p t l a b v d at ra rb = record {
  valid = v;
  depths = d;
  below = omega arith;
  locals_below = omega arith;
  here = at;
  callers = (refl, refl);
  calls = omega arith;
  operand_room = ra;
  local_room = rb;
}

pub at_main : (c : CodeView) (ds : List ℕ) → IsValid c → AreDepths c ds → IsAt c ds 0 0 0
at_main c ds v d = record { within = v.some; operands = d.main; locals = locals_main c 0 v (home_main c.functions) }

-- the entry of a checkpoint that the table has
pub record Entry (n q : ℕ) (ks : List Checkpoint) : Type 0 where
  pub index : ℕ
  pub within : index < length ks
  pub is_node : node (get_or ks index (0, 0)) ≡ n
  pub is_place : place_after (get_or ks index (0, 0)) ≡ q

both_true : (a b : Bool) → (a && b) ≡ true → (a ≡ true) × (b ≡ true)
both_true true true e = (refl, refl)
both_true true false e = absurd (cc)
both_true false b e = absurd (cc)

equal : (a b : ℕ) → (a == b) ≡ true → a ≡ b
equal a b e = grind (arith, nat_tests)

pub entry_of : (n q : ℕ) (ks : List Checkpoint) → list_any (λ k. (node k == n) && (place_after k == q)) ks ≡ true → Entry n q ks
entry_of n q [] e = absurd (cc)
entry_of n q (k ∷ ks) e = by_test ((node k == n) && (place_after k == q)) refl e (entry_of n q ks)
  where
    by_test : (b : Bool) → ((node k == n) && (place_after k == q)) ≡ b → (b || list_any (λ k. (node k == n) && (place_after k == q)) ks) ≡ true → (list_any (λ k. (node k == n) && (place_after k == q)) ks ≡ true → Entry n q ks) → Entry n q (k ∷ ks)
    by_test true t e more = let both = both_true (node k == n) (place_after k == q) t in record { index = 0; within = omega arith; is_node = equal (node k) n both.0; is_place = equal (place_after k) q both.1 }
    by_test false t e more = let r = more e in record { index = suc r.index; within = omega (arith, r.within); is_node = r.is_node; is_place = r.is_place }

map_node : (ks : List Checkpoint) (i : ℕ) → i < length ks → (i < length (map node ks)) × (slice_index (map node ks) i ≡ node (get_or ks i (0, 0)))
map_node [] i lt = absurd (omega arith)
map_node (k ∷ ks) zero lt = (omega arith, refl)
map_node (k ∷ ks) (suc i) lt = let h = map_node ks i (omega arith) in let l = h.0 in (omega arith, h.1)

earlier : (ks : List Checkpoint) (i j : ℕ) → AreDistinct (map node ks) → i < j → j < length ks → node (get_or ks i (0, 0)) ≢ node (get_or ks j (0, 0))
unfolding IsNewAt
earlier ks i j d lt le = λ same. let hi = map_node ks i (omega arith) in let hj = map_node ks j le in d j hj.0 i lt (hi.1 ∙ same ∙ sym hj.1)

-- a node has one place
pub one_place : (c : CodeView) (n q r : ℕ) → IsValid c → has_checkpoint c n q ≡ true → has_checkpoint c n r ≡ true → q ≡ r
one_place c n q r v e f =
    let a = entry_of n q c.checkpoints e in
    let b = entry_of n r c.checkpoints f in
    let same : a.index ≡ b.index =
    ⊎_elim
    (λ lt. absurd (earlier c.checkpoints a.index b.index v.nodes lt b.within (a.is_node ∙ sym b.is_node)))
    (λ ge. ⊎_elim
    (λ lt. absurd (earlier c.checkpoints b.index a.index v.nodes lt a.within (b.is_node ∙ sym a.is_node)))
    (λ le. omega arith)
    (cases_lt b.index a.index))
    (cases_lt a.index b.index) in
    sym a.is_place ∙ ap (λ i. place_after (get_or c.checkpoints i (0, 0))) same ∙ b.is_place

-- behind a checkpoint there is no operand and no local
pub at_checkpoint : (c : CodeView) (ds : List ℕ) (n q : ℕ) → IsValid c → AreDepths c ds → has_checkpoint c n q ≡ true → IsAt c ds q 0 0
at_checkpoint c ds n q v d e =
    let a = entry_of n q c.checkpoints e in
    let is = v.entries a.index (0, 0) a.within in
    let p = place_after (get_or c.checkpoints a.index (0, 0)) - 1 in
    let fine = stands_there c ds p (Ckpt (node (get_or c.checkpoints a.index (0, 0)))) d is.1 in
    let above = is.0 in
    let to : p + 1 ≡ q = omega (arith, a.is_place) in
    let none : slice_index ds p - 0 + 0 ≡ 0 = omega (arith, fine.level) in
    subst (λ k. IsAt c ds k 0 0) to (record { within = fine.next.within; operands = fine.next.depth ∙ none; locals = locals_main c (p + 1) v (fine.next.same ∙ fine.names) })
