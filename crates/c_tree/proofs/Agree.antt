-- What a statement does with some ticks depends on what follows only at as many or fewer, so that a loop is its own turns.
use Rattle.std.proofs.Common.{◌≡◌, ℕ, zero, suc, ◌+◌, ◌<◌, ◌≤◌, List, [], ◌∷◌, Option, Some, None, Ok, Err, true, false, Bool, cond, Result, map, refl, sym, subst, arith}
use Rattle.std.specs.Prelude.{slice_get}
use Rattle.ckpt_base.specs.declared.trap.Trap.{Trap}
use Rattle.ckpt_base.specs.Word.{word_holds}
use Rattle.ckpt_base.specs.Run.{Run}
use Rattle.c_tree.specs.declared.resolved.RExpr.{RExpr}
use Rattle.c_tree.specs.declared.resolved.RAssign.{RAssign}
use Rattle.c_tree.specs.declared.resolved.RInit.{RInit}
use Rattle.c_tree.specs.declared.resolved.RArm.{RArm}
use Rattle.c_tree.specs.declared.resolved.RStmt.{RStmt}
use Rattle.c_tree.specs.declared.resolved.RStmt.TheOpen.{RStmt-F, RArm-F}
use Rattle.c_tree.specs.declared.resolved.RStmt.TheFolds.{fold-RArm, map-RStmt, fold-roll-RStmt, fold-roll-RArm, ind-RStmt}
use Rattle.c_tree.specs.declared.resolved.RFunction.{RFunction}
use Rattle.c_tree.specs.Nodes.{init_count, assign_count}
use Rattle.c_tree.specs.State.{State, Value, Action, value, values, test_value, declare, set, store, put, assign, begin, write_out, take, input, exclude, checkpoint, ticked, with_locals}
use Rattle.c_tree.specs.Meaning.{Then, tick, given, acts, chooses, single, Ways, Calls, Piece, ArmPiece, all_of, nothing, tests, turns, loop, loop_ways, perhaps, begins, stored, handed_on, makes_call, piece_at, arm_at, piece, body_ways, called, calls_within}
use Rattle.c_tree.specs.Agreement.{Agree, AgreeWays, Steady}

abbrev pub SteadyPiece : Piece → Type 0
SteadyPiece p = (m : ℕ) → Steady (p.does m)

abbrev pub SteadyCalls : Calls → Type 0
SteadyCalls calls = (f : ℕ) (as' : List ℕ) (n : ℕ) (b b' : ℕ → Then) → ((a : ℕ) → Agree n (b a) (b' a)) → Agree n (calls f as' b) (calls f as' b')

tick_less : (k k' : Then) (s : State) (m : ℕ) → ((t : State) (j : ℕ) → j < m → k t j ≡ k' t j) → tick k s m ≡ tick k' s m
tick_less k k' s zero h = refl
tick_less k k' s (suc m) h = h (ticked s) m (omega arith)

tick_agrees : (n : ℕ) (k k' : Then) → Agree n k k' → Agree n (tick k) (tick k')
tick_agrees n k k' h s m le = tick_less k k' s m (λ t j lt. h t j (omega arith))

given_agrees : {A : Type 0} → (r : Result A Trap) (s : State) (go go' : A → Run) → ((a : A) → go a ≡ go' a) → given r s go ≡ given r s go'
given_agrees (Ok a) s go go' h = h a
given_agrees (Err t) s go go' h = refl

either_agrees : (b : Bool) (x x' y y' : Run) → x ≡ x' → y ≡ y' → cond b x y ≡ cond b x' y'
either_agrees true x x' y y' p q = p
either_agrees false x x' y y' p q = q

chooses_same : (v : Value) (k k' l l' : Then) (s : State) (m : ℕ) → k s m ≡ k' s m → l s m ≡ l' s m → chooses v k l s m ≡ chooses v k' l' s m
chooses_same v k k' l l' s m p q = given_agrees (v s.variables) s _ _ (λ a. either_agrees (word_holds a) _ _ _ _ p q)

chooses_agrees : (n : ℕ) (v : Value) (k k' l l' : Then) → Agree n k k' → Agree n l l' → Agree n (chooses v k l) (chooses v k' l')
chooses_agrees n v k k' l l' p q s m le = chooses_same v k k' l l' s m (p s m le) (q s m le)

acts_agrees : (n : ℕ) (act : Action) (k k' : Then) → Agree n k k' → Agree n (acts act k) (acts act k')
acts_agrees n act k k' h s m le = given_agrees (act s) s _ _ (λ t. h t m le)

single_agrees : (n : ℕ) (act : Action) (k k' : Then) → Agree n k k' → Agree n (single act k) (single act k')
single_agrees n act k k' h = tick_agrees n (acts act k) (acts act k') (acts_agrees n act k k' h)

perhaps_agrees : (u : Option RAssign) (n : ℕ) (k k' : Then) → Agree n k k' → Agree n (perhaps u k) (perhaps u k')
perhaps_agrees None n k k' h = h
perhaps_agrees (Some x) n k k' h = single_agrees n (assign x) k k' h

begins_agrees : (i : Option RInit) (n : ℕ) (k k' : Then) → Agree n k k' → Agree n (begins i k) (begins i k')
begins_agrees None n k k' h = h
begins_agrees (Some x) n k k' h = single_agrees n (begin x) k k' h

turns_steady : (b : ℕ) (e : Value) (body : Ways → Then) (u : Option RAssign) → Steady body → Steady (turns b e body (perhaps u))
turns_steady zero e body u h n w w' a = λ s m le. refl
turns_steady (suc b) e body u h n w w' a =
    let k = turns b e body (perhaps u) in
    let l = perhaps_agrees u n (k w) (k w') (turns_steady b e body u h n w w' a) in
    let x = loop_ways (perhaps u (k w)) w in
    let x' = loop_ways (perhaps u (k w')) w' in
    tick_agrees n (chooses e (body x) w.next) (chooses e (body x') w'.next)
    (chooses_agrees n e (body x) (body x') w.next w'.next (h n x x' (record { next = l; out_of_loop = a.next; again = l; back = a.back })) a.next)

loop_steady : (e : Value) (body : Ways → Then) (u : Option RAssign) → Steady body → Steady (loop e body (perhaps u))
loop_steady e body u h n w w' a = λ s m le. turns_steady (suc m) e body u h n w w' a s m le

module _ (calls : Calls) (sc : SteadyCalls calls) (X X' Y Y' : Type 0) (p : X → Y) (q : X' → Y') (f : Y → Piece) (g : Y' → ArmPiece) (hf : (x : X) → SteadyPiece (f (p x))) (hg : (x : X') → SteadyPiece (g (q x)).body) where
  all_parts : (xs : List X) (m n : ℕ) (w w' : Ways) → AgreeWays n w w' → Agree n (all_of (map f (map p xs)) m w) (all_of (map f (map p xs)) m w')
  all_parts [] m n w w' a = a.next
  all_parts (x ∷ xs) m n w w' a = hf x m n _ _ (record { next = all_parts xs _ n w w' a; out_of_loop = a.out_of_loop; again = a.again; back = a.back })

  test_parts : (xs : List X') (last : Piece) → SteadyPiece last → (m n : ℕ) (w w' : Ways) → AgreeWays n w w' → Agree n (tests (map g (map q xs)) last m w) (tests (map g (map q xs)) last m w')
  test_parts [] last l m n w w' a = l m n w w' a
  test_parts (x ∷ xs) last l m n w w' a =
      let y = g (q x) in
      let rest = tests (map g (map q xs)) last (m + 1 + y.body.size) in
      tick_agrees n (chooses y.test (y.body.does (m + 1) w) (rest w)) (chooses y.test (y.body.does (m + 1) w') (rest w'))
      (chooses_agrees n y.test (y.body.does (m + 1) w) (y.body.does (m + 1) w') (rest w) (rest w') (hg x (m + 1) n w w' a) (test_parts xs last l (m + 1 + y.body.size) n w w' a))

  call_agrees : (n f : ℕ) (es : List RExpr) (on on' : List ℕ → ℕ → Then) → ((ls : List ℕ) (b : ℕ) → Agree n (on ls b) (on' ls b)) → Agree n (tick (makes_call calls f es on)) (tick (makes_call calls f es on'))
  call_agrees n f es on on' h = tick_agrees n (makes_call calls f es on) (makes_call calls f es on')
      (λ s m le. given_agrees (values es s.variables) s _ _ (λ as'. sc f as' n (on s.variables.locals) (on' s.variables.locals) (h s.variables.locals) s m le))

  layer : (y : RStmt-F X X') → SteadyPiece (piece_at calls (map-RStmt Y Y' Piece ArmPiece f g (map-RStmt X X' Y Y' p q y)))
  layer RStmt-F.Empty m n w w' a = a.next
  layer RStmt-F.Break m n w w' a = a.out_of_loop
  layer RStmt-F.Continue m n w w' a = a.again
  layer (RStmt-F.Declare d e) m n w w' a = single_agrees n (declare d e) w.next w'.next a.next
  layer (RStmt-F.Set d e) m n w w' a = single_agrees n (set d e) w.next w'.next a.next
  layer (RStmt-F.Call p k es) m n w w' a = call_agrees n k es (stored (store p) w.next) (stored (store p) w'.next) (λ ls b s m le. acts_agrees n (store p b) w.next w'.next a.next (with_locals ls s) m le)
  layer (RStmt-F.Input p) m n w w' a = single_agrees n (input p) w.next w'.next a.next
  layer (RStmt-F.ReturnCall k es) m n w w' a = call_agrees n k es (handed_on w.back) (handed_on w'.back) (λ ls b s m le. a.back b (with_locals ls s) m le)
  layer RStmt-F.ReturnInput m n w w' a = tick_agrees n _ _ (λ s m le. a.back (take s).0 (take s).1 m le)
  layer (RStmt-F.Print ps es) m n w w' a = single_agrees n (write_out ps es) w.next w'.next a.next
  layer RStmt-F.Checkpoint m n w w' a = single_agrees n (checkpoint m) w.next w'.next a.next
  layer (RStmt-F.Exclude k) m n w w' a = single_agrees n (exclude k) w.next w'.next a.next
  layer (RStmt-F.Put e) m n w w' a = single_agrees n (put e) w.next w'.next a.next
  layer (RStmt-F.Return e) m n w w' a = tick_agrees n _ _ (λ t j lt. given_agrees (value e t.variables) t _ _ (λ b. a.back b t j lt))
  layer (RStmt-F.Block ss) m n w w' a = all_parts ss m n w w' a
  layer (RStmt-F.If arms None) m n w w' a = test_parts arms nothing (λ i n w w' a. a.next) m n w w' a
  layer (RStmt-F.If arms (Some x)) m n w w' a = test_parts arms (f (p x)) (hf x) m n w w' a
  layer (RStmt-F.While e x) m n w w' a = loop_steady (test_value (Some e)) ((f (p x)).does (m + 1)) None (hf x (m + 1)) n w w' a
  layer (RStmt-F.Do x e) m n w w' a =
      let l = loop_steady (test_value (Some e)) ((f (p x)).does m) None (hf x m) n w w' a in
      hf x m n _ _ (record { next = l; out_of_loop = a.next; again = l; back = a.back })
  layer (RStmt-F.For init e u x) m n w w' a =
      let k = m + init_count init + 1 + assign_count u in
      let body = (f (p x)).does k in
      begins_agrees init n (loop (test_value e) body (perhaps u) w) (loop (test_value e) body (perhaps u) w') (loop_steady (test_value e) body u (hf x k) n w w' a)

module _ (calls : Calls) (sc : SteadyCalls calls) where
  abbrev arm_piece : RArm → ArmPiece
  arm_piece = fold-RArm Piece ArmPiece (piece_at calls) (arm_at calls)

  pub piece_steady : (s : RStmt) → SteadyPiece (piece calls s)
  piece_steady = ind-RStmt (λ s. SteadyPiece (piece calls s)) (λ a. SteadyPiece (arm_piece a).body)
      (λ x y is.
      let l = layer calls sc _ _ RStmt _ (λ e. e.0) (λ e. e.0) (piece calls) arm_piece (λ e. e.1) (λ e. e.1) y in
      let k = subst (λ z. SteadyPiece (piece_at calls (map-RStmt RStmt _ Piece ArmPiece (piece calls) arm_piece z))) is l in
      subst SteadyPiece (sym (fold-roll-RStmt Piece ArmPiece (piece_at calls) (arm_at calls) x)) k)
      (λ x y is.
      let k : SteadyPiece (piece calls x.body) = subst (λ (z : RArm-F RStmt RArm). SteadyPiece (piece calls z.body)) is y.body.1 in
      subst (λ (a : ArmPiece). SteadyPiece a.body) (sym (fold-roll-RArm Piece ArmPiece (piece_at calls) (arm_at calls) x)) k)

called_steady : (calls : Calls) → SteadyCalls calls → (f : Option RFunction) (as' : List ℕ) (n : ℕ) (b b' : ℕ → Then) → ((a : ℕ) → Agree n (b a) (b' a)) → Agree n (called calls f as' b) (called calls f as' b')
called_steady calls sc None as' n b b' h = λ s m le. refl
called_steady calls sc (Some f) as' n b b' h = λ s m le. piece_steady calls sc f.body 0 n (body_ways b) (body_ways b') (record { next = h 0; out_of_loop = h 0; again = h 0; back = h }) _ m le

pub calls_steady : (fs : List RFunction) (c : ℕ) → SteadyCalls (calls_within fs c)
calls_steady fs zero f as' n b b' h = λ s m le. refl
calls_steady fs (suc c) f as' n b b' h = called_steady (calls_within fs c) (calls_steady fs c) (slice_get fs f) as' n b b' h

module _ (e : Value) (body : Ways → Then) (u : Option RAssign) (st : Steady body) (w : Ways) where
  -- more turns than ticks are enough
  enough : (k n b b' : ℕ) → n ≤ k → n < b → n < b' → (s : State) → turns b e body (perhaps u) w s n ≡ turns b' e body (perhaps u) w s n
  enough k n zero b' le h h' s = absurd (omega arith)
  enough k n (suc b) zero le h h' s = absurd (omega arith)
  enough zero n (suc b) (suc b') le h h' s =
      tick_less (chooses e (body (loop_ways (perhaps u (turns b e body (perhaps u) w)) w)) w.next) (chooses e (body (loop_ways (perhaps u (turns b' e body (perhaps u) w)) w)) w.next) s n (λ t j lt. absurd (omega arith))
  enough (suc k) n (suc b) (suc b') le h h' s =
      let x = loop_ways (perhaps u (turns b e body (perhaps u) w)) w in
      let x' = loop_ways (perhaps u (turns b' e body (perhaps u) w)) w in
      tick_less (chooses e (body x) w.next) (chooses e (body x') w.next) s n (λ t j lt.
      let l = perhaps_agrees u j (turns b e body (perhaps u) w) (turns b' e body (perhaps u) w) (λ v m lm. enough k m b b' (omega arith) (omega arith) (omega arith) v) in
      chooses_same e (body x) (body x') w.next w.next t j (st j x x' (record { next = l; out_of_loop = λ v m lm. refl; again = l; back = λ a v m lm. refl }) t j (omega arith)) refl)

  -- a loop is a turn before the loop
  pub unrolls : (s : State) (n : ℕ) → loop e body (perhaps u) w s n ≡ tick (chooses e (body (loop_ways (perhaps u (loop e body (perhaps u) w)) w)) w.next) s n
  unrolls s n =
      let x = loop_ways (perhaps u (turns n e body (perhaps u) w)) w in
      let x' = loop_ways (perhaps u (loop e body (perhaps u) w)) w in
      tick_less (chooses e (body x) w.next) (chooses e (body x') w.next) s n (λ t j lt.
      let l = perhaps_agrees u j (turns n e body (perhaps u) w) (loop e body (perhaps u) w) (λ v m lm. enough m m n (suc m) (omega arith) (omega arith) (omega arith) v) in
      chooses_same e (body x) (body x') w.next w.next t j (st j x x' (record { next = l; out_of_loop = λ v m lm. refl; again = l; back = λ a v m lm. refl }) t j (omega arith)) refl)
