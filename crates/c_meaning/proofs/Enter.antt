-- Statements that are begun.
use Rattle.std.proofs.Common.{◌≡◌, ℕ, ◌+◌, ◌<◌, ◌≤◌, List, [], ◌∷◌, map, Option, Some, None, refl, sym, ap, subst, ◌∙◌, arith}
use Rattle.std.specs.Prelude.{MatchOption}
use Rattle.std.specs.Borrow.{Bor}
use Rattle.ckpt_base.specs.Run.{Run}
use Rattle.c_tree.specs.declared.tree.PrintPiece.{PrintPiece}
use Rattle.c_tree.specs.declared.resolved.RAssign.{RAssign}
use Rattle.c_tree.specs.declared.resolved.RInit.{RInit}
use Rattle.c_tree.specs.declared.resolved.RExpr.{RExpr}
use Rattle.c_tree.specs.declared.resolved.RPlace.{RPlace}
use Rattle.c_tree.specs.declared.resolved.RArm.{RArm}
use Rattle.c_tree.specs.declared.resolved.RStmt.{RStmt}
use Rattle.c_tree.specs.declared.resolved.RStmt.TheOpen.{RStmt-F}
use Rattle.c_tree.specs.declared.resolved.RStmt.TheFolds.{fold-roll-RStmt}
use Rattle.c_tree.specs.declared.resolved.RStmt.TheVariants as stmt
use Rattle.c_tree.specs.Nodes.{init_count, assign_count}
use Rattle.c_tree.specs.State.{State, Action, Value, value, test_value, declare, set, store, put, begin, write_out, take, input, exclude, checkpoint}
use Rattle.c_tree.specs.Meaning.{Then, Ways, Calls, Piece, ArmPiece, tick, given, acts, chooses, single, tests, loop, loop_ways, perhaps, begins, stored, handed_on, makes_call, piece_at, arm_at, piece}
use Rattle.c_meaning.specs.declared.progress.Progress.{Progress}
use Rattle.c_meaning.specs.declared.evaluator.Evaluator.{Evaluator}
use Rattle.c_meaning.specs.declared.work.Loop.{Loop}
use Rattle.c_meaning.specs.declared.work.Frame.{Frame}
use Rattle.c_meaning.specs.declared.work.End.{End}
use Rattle.c_meaning.specs.declared.work.End.TheVariants as end'
use Rattle.c_meaning.specs.declared.work.Single.{Single}
use Rattle.c_meaning.specs.declared.work.Item.{Item}
use Rattle.c_meaning.specs.declared.work.Item.TheVariants as item
use Rattle.c_meaning.specs.Memory.{test_of}
use Rattle.c_meaning.specs.Working.{todo, calls, before, ways, ways_on, behind, action, end_item, update_of, looping, turn_ways, arm_piece, last_piece, From, Stands, Skipped, size, size_at, total, last_weight, weights}
use Rattle.c_tree.proofs.Agree.{piece_steady, calls_steady, unrolls}
use Rattle.c_meaning.proofs.Going.{moved, added}

-- ---- the equations of a statement

module _ (c : Calls) where
  pub piece_block : (ss : List RStmt) → piece c (stmt.Block ss) ≡ piece_at c (RStmt-F.Block (map (piece c) ss))
  piece_block ss = ap (piece c) (sym (stmt.rolls-Block ss)) ∙ fold-roll-RStmt Piece ArmPiece (piece_at c) (arm_at c) (RStmt-F.Block ss)

  piece_while : (x : RExpr) (b : RStmt) → piece c (stmt.While x b) ≡ piece_at c (RStmt-F.While x (piece c b))
  piece_while x b = ap (piece c) (sym (stmt.rolls-While x b)) ∙ fold-roll-RStmt Piece ArmPiece (piece_at c) (arm_at c) (RStmt-F.While x b)

  piece_do : (b : RStmt) (x : RExpr) → piece c (stmt.Do b x) ≡ piece_at c (RStmt-F.Do (piece c b) x)
  piece_do b x = ap (piece c) (sym (stmt.rolls-Do b x)) ∙ fold-roll-RStmt Piece ArmPiece (piece_at c) (arm_at c) (RStmt-F.Do b x)

  piece_for : (i : Option RInit) (x : Option RExpr) (u : Option RAssign) (b : RStmt) → piece c (stmt.For i x u b) ≡ piece_at c (RStmt-F.For i x u (piece c b))
  piece_for i x u b = ap (piece c) (sym (stmt.rolls-For i x u b)) ∙ fold-roll-RStmt Piece ArmPiece (piece_at c) (arm_at c) (RStmt-F.For i x u b)

  piece_if : (arms : List RArm) (last : Option RStmt) → (m : ℕ) (w : Ways) → (piece c (stmt.If arms last)).does m w ≡ tests (map (arm_piece c) arms) (last_piece c last) m w
  piece_if arms None m w = ap (λ (p : Piece). p.does m w) (ap (piece c) (sym (stmt.rolls-If arms None)) ∙ fold-roll-RStmt Piece ArmPiece (piece_at c) (arm_at c) (RStmt-F.If arms None))
  piece_if arms (Some s) m w = ap (λ (p : Piece). p.does m w) (ap (piece c) (sym (stmt.rolls-If arms (Some s))) ∙ fold-roll-RStmt Piece ArmPiece (piece_at c) (arm_at c) (RStmt-F.If arms (Some s)))

  piece_empty : piece c stmt.Empty ≡ piece_at c RStmt-F.Empty
  piece_empty = ap (piece c) (sym stmt.rolls-Empty) ∙ fold-roll-RStmt Piece ArmPiece (piece_at c) (arm_at c) RStmt-F.Empty

  piece_break : piece c stmt.Break ≡ piece_at c RStmt-F.Break
  piece_break = ap (piece c) (sym stmt.rolls-Break) ∙ fold-roll-RStmt Piece ArmPiece (piece_at c) (arm_at c) RStmt-F.Break

  piece_continue : piece c stmt.Continue ≡ piece_at c RStmt-F.Continue
  piece_continue = ap (piece c) (sym stmt.rolls-Continue) ∙ fold-roll-RStmt Piece ArmPiece (piece_at c) (arm_at c) RStmt-F.Continue

  piece_declare : (p : RPlace) (x : Option RExpr) → piece c (stmt.Declare p x) ≡ piece_at c (RStmt-F.Declare p x)
  piece_declare p x = ap (piece c) (sym (stmt.rolls-Declare p x)) ∙ fold-roll-RStmt Piece ArmPiece (piece_at c) (arm_at c) (RStmt-F.Declare p x)

  piece_set : (p : RPlace) (x : RExpr) → piece c (stmt.Set p x) ≡ piece_at c (RStmt-F.Set p x)
  piece_set p x = ap (piece c) (sym (stmt.rolls-Set p x)) ∙ fold-roll-RStmt Piece ArmPiece (piece_at c) (arm_at c) (RStmt-F.Set p x)

  piece_put : (x : RExpr) → piece c (stmt.Put x) ≡ piece_at c (RStmt-F.Put x)
  piece_put x = ap (piece c) (sym (stmt.rolls-Put x)) ∙ fold-roll-RStmt Piece ArmPiece (piece_at c) (arm_at c) (RStmt-F.Put x)

  piece_call : (p : Option RPlace) (f : ℕ) (xs : List RExpr) → piece c (stmt.Call p f xs) ≡ piece_at c (RStmt-F.Call p f xs)
  piece_call p f xs = ap (piece c) (sym (stmt.rolls-Call p f xs)) ∙ fold-roll-RStmt Piece ArmPiece (piece_at c) (arm_at c) (RStmt-F.Call p f xs)

  piece_return_call : (f : ℕ) (xs : List RExpr) → piece c (stmt.ReturnCall f xs) ≡ piece_at c (RStmt-F.ReturnCall f xs)
  piece_return_call f xs = ap (piece c) (sym (stmt.rolls-ReturnCall f xs)) ∙ fold-roll-RStmt Piece ArmPiece (piece_at c) (arm_at c) (RStmt-F.ReturnCall f xs)

  piece_return_input : piece c stmt.ReturnInput ≡ piece_at c RStmt-F.ReturnInput
  piece_return_input = ap (piece c) (sym stmt.rolls-ReturnInput) ∙ fold-roll-RStmt Piece ArmPiece (piece_at c) (arm_at c) RStmt-F.ReturnInput

  piece_input : (p : Option RPlace) → piece c (stmt.Input p) ≡ piece_at c (RStmt-F.Input p)
  piece_input p = ap (piece c) (sym (stmt.rolls-Input p)) ∙ fold-roll-RStmt Piece ArmPiece (piece_at c) (arm_at c) (RStmt-F.Input p)

  piece_print : (ps : List PrintPiece) (xs : List RExpr) → piece c (stmt.Print ps xs) ≡ piece_at c (RStmt-F.Print ps xs)
  piece_print ps xs = ap (piece c) (sym (stmt.rolls-Print ps xs)) ∙ fold-roll-RStmt Piece ArmPiece (piece_at c) (arm_at c) (RStmt-F.Print ps xs)

  piece_checkpoint : piece c stmt.Checkpoint ≡ piece_at c RStmt-F.Checkpoint
  piece_checkpoint = ap (piece c) (sym stmt.rolls-Checkpoint) ∙ fold-roll-RStmt Piece ArmPiece (piece_at c) (arm_at c) RStmt-F.Checkpoint

  piece_exclude : (k : ℕ) → piece c (stmt.Exclude k) ≡ piece_at c (RStmt-F.Exclude k)
  piece_exclude k = ap (piece c) (sym (stmt.rolls-Exclude k)) ∙ fold-roll-RStmt Piece ArmPiece (piece_at c) (arm_at c) (RStmt-F.Exclude k)

  piece_return : (x : RExpr) → piece c (stmt.Return x) ≡ piece_at c (RStmt-F.Return x)
  piece_return x = ap (piece c) (sym (stmt.rolls-Return x)) ∙ fold-roll-RStmt Piece ArmPiece (piece_at c) (arm_at c) (RStmt-F.Return x)

-- ---- statements that take a tick at once

-- what a run does that comes to a tick
abbrev pub Ticks : (ℕ → Ways → Then) → Evaluator → ℕ → Run → Type 0
Ticks go e n r = (k : ℕ) × From (λ w. tick (go k w)) e n r

ticks : (e : Evaluator) (go : Ways → Then) (to : ℕ → Ways → Then) (k n : ℕ) (r : Run) → ((w : Ways) → go w ≡ tick (to k w)) → From go e n r → Ticks to e n r
ticks e go to k n r h x = (k, moved e e go (λ w. tick (to k w)) (λ ms. ms) n r refl (λ ms s n. ap (λ (f : Then). f s n) (h (ways_on e ms))) x)

-- a statement that is one node
one_ticks : (e : Evaluator) (s : RStmt) (to : ℕ → Ways → Then) (p : Piece) → piece (calls e) s ≡ p → ((m : ℕ) (w : Ways) → p.does m w ≡ tick (to m w)) → (m n : ℕ) (r : Run) → From ((piece (calls e) s).does m) e n r → Ticks to e n r
one_ticks e s to p is h m n r = ticks e _ to m n r (λ w. ap (λ (q : Piece). q.does m w) is ∙ h m w)

module _ (e : Evaluator) (s : RStmt) where
  abbrev Begins : (ℕ → Ways → Then) → Type 0
  Begins to = (m n : ℕ) (r : Run) → From ((piece (calls e) s).does m) e n r → Ticks to e n r

  pub declare_ticks : (p : RPlace) (x : Option RExpr) → s ≡ stmt.Declare p x → Begins (λ k w. acts (declare p x) w.next)
  declare_ticks p x is = one_ticks e s (λ k w. acts (declare p x) w.next) _ (ap (piece (calls e)) is ∙ piece_declare (calls e) p x) (λ m w. refl)

  pub set_ticks : (p : RPlace) (x : RExpr) → s ≡ stmt.Set p x → Begins (λ k w. acts (set p x) w.next)
  set_ticks p x is = one_ticks e s (λ k w. acts (set p x) w.next) _ (ap (piece (calls e)) is ∙ piece_set (calls e) p x) (λ m w. refl)

  pub put_ticks : (x : RExpr) → s ≡ stmt.Put x → Begins (λ k w. acts (put x) w.next)
  put_ticks x is = one_ticks e s (λ k w. acts (put x) w.next) _ (ap (piece (calls e)) is ∙ piece_put (calls e) x) (λ m w. refl)

  pub print_ticks : (ps : List PrintPiece) (xs : List RExpr) → s ≡ stmt.Print ps xs → Begins (λ k w. acts (write_out ps xs) w.next)
  print_ticks ps xs is = one_ticks e s (λ k w. acts (write_out ps xs) w.next) _ (ap (piece (calls e)) is ∙ piece_print (calls e) ps xs) (λ m w. refl)

  pub input_ticks : (p : Option RPlace) → s ≡ stmt.Input p → Begins (λ k w. acts (input p) w.next)
  input_ticks p is = one_ticks e s (λ k w. acts (input p) w.next) _ (ap (piece (calls e)) is ∙ piece_input (calls e) p) (λ m w. refl)

  pub checkpoint_ticks : s ≡ stmt.Checkpoint → Begins (λ k w. acts (checkpoint k) w.next)
  checkpoint_ticks is = one_ticks e s (λ k w. acts (checkpoint k) w.next) _ (ap (piece (calls e)) is ∙ piece_checkpoint (calls e)) (λ m w. refl)

  pub exclude_ticks : (k : ℕ) → s ≡ stmt.Exclude k → Begins (λ m w. acts (exclude k) w.next)
  exclude_ticks k is = one_ticks e s (λ m w. acts (exclude k) w.next) _ (ap (piece (calls e)) is ∙ piece_exclude (calls e) k) (λ m w. refl)

  pub return_ticks : (x : RExpr) → s ≡ stmt.Return x → Begins (λ k w s n. given (value x s.variables) s (λ a. w.back a s n))
  return_ticks x is = one_ticks e s (λ k w s n. given (value x s.variables) s (λ a. w.back a s n)) _ (ap (piece (calls e)) is ∙ piece_return (calls e) x) (λ m w. refl)

  pub return_input_ticks : s ≡ stmt.ReturnInput → Begins (λ k w s. w.back (take s).0 (take s).1)
  return_input_ticks is = one_ticks e s (λ k w s. w.back (take s).0 (take s).1) _ (ap (piece (calls e)) is ∙ piece_return_input (calls e)) (λ m w. refl)

  pub call_ticks : (p : Option RPlace) (f : ℕ) (xs : List RExpr) → s ≡ stmt.Call p f xs → Begins (λ k w. makes_call (calls e) f xs (stored (store p) w.next))
  call_ticks p f xs is = one_ticks e s (λ k w. makes_call (calls e) f xs (stored (store p) w.next)) _ (ap (piece (calls e)) is ∙ piece_call (calls e) p f xs) (λ m w. refl)

  pub return_call_ticks : (f : ℕ) (xs : List RExpr) → s ≡ stmt.ReturnCall f xs → Begins (λ k w. makes_call (calls e) f xs (handed_on w.back))
  return_call_ticks f xs is = one_ticks e s (λ k w. makes_call (calls e) f xs (handed_on w.back)) _ (ap (piece (calls e)) is ∙ piece_return_call (calls e) f xs) (λ m w. refl)

-- ---- loops

-- a turn of a loop
abbrev pub turning : Calls → Option (Bor RExpr) → Option (Bor RAssign) → RStmt → ℕ → Ways → Then
turning c x u b k w = chooses (test_of x) ((piece c b).does k (loop_ways (update_of u (loop (test_of x) ((piece c b).does k) (update_of u) w)) w)) w.next

turns_are : (e : Evaluator) (x : Option (Bor RExpr)) (u : Option (Bor RAssign)) (b : RStmt) (k : ℕ) (w : Ways) (s : State) (n : ℕ) → loop (test_of x) ((piece (calls e) b).does k) (update_of u) w s n ≡ tick (turning (calls e) x u b k w) s n
turns_are e x None b k w s n = unrolls (test_of x) ((piece (calls e) b).does k) None (piece_steady (calls e) (calls_steady e.progress.functions.now e.progress.allowed) b k) w s n
turns_are e x (Some a) b k w s n = unrolls (test_of x) ((piece (calls e) b).does k) (Some a.now) (piece_steady (calls e) (calls_steady e.progress.functions.now e.progress.allowed) b k) w s n

-- a loop comes to its test
pub loop_ticks : (e : Evaluator) (x : Option (Bor RExpr)) (u : Option (Bor RAssign)) (b : RStmt) (go : Ways → Then) (k n : ℕ) (r : Run) → ((w : Ways) → go w ≡ loop (test_of x) ((piece (calls e) b).does k) (update_of u) w)
    → From go e n r → Ticks (turning (calls e) x u b) e n r
loop_ticks e x u b go k n r h y = (k, moved e e go (λ w. tick (turning (calls e) x u b k w)) (λ ms. ms) n r refl (λ ms s n. ap (λ (f : Then). f s n) (h (ways_on e ms)) ∙ turns_are e x u b k (ways_on e ms) s n) y)

test_lent : (o : Option (Bor RExpr)) (x : Option RExpr) → MatchOption o (x ≡ None) (λ y. x ≡ Some y.now) → test_value x ≡ test_of o
test_lent None x h = ap test_value h
test_lent (Some y) x h = ap test_value h

update_lent : (o : Option (Bor RAssign)) (x : Option RAssign) → MatchOption o (x ≡ None) (λ y. x ≡ Some y.now) → perhaps x ≡ update_of o
update_lent None x h = ap perhaps h
update_lent (Some y) x h = ap perhaps h

-- a loop with a test alone
abbrev plain : Bor RExpr → Bor RStmt → Loop
plain x b = record { test = Some x; update = None; body = b }

module _ (e : Evaluator) (s : RStmt) where
  pub while_ticks : (l : Loop) (x : Bor RExpr) (b : Bor RStmt) (b' : RStmt) → l ≡ plain x b → b.now ≡ b' → s ≡ stmt.While x.now b' → (m n : ℕ) (r : Run) → From ((piece (calls e) s).does m) e n r
      → Ticks (turning (calls e) l.test l.update l.body.now) e n r
  while_ticks l x b b' ls bs is m n r = loop_ticks e l.test l.update l.body.now _ (m + 1) n r (λ w.
      ap (λ (q : Piece). q.does m w) (ap (piece (calls e)) (is ∙ ap (stmt.While x.now) (sym bs)) ∙ piece_while (calls e) x.now b.now)
      ∙ ap (λ (l : Loop). looping (calls e) l (m + 1) w) (sym ls))

  -- a `do` begins with its body
  pub do_begins : (l : Loop) (x : Bor RExpr) (b : Bor RStmt) (b' : RStmt) → l ≡ plain x b → b.now ≡ b' → s ≡ stmt.Do b' x.now → (m n : ℕ) (r : Run) → From ((piece (calls e) s).does m) e n r
      → From (λ w. (piece (calls e) l.body.now).does m (turn_ways (calls e) l m w)) e n r
  do_begins l x b b' ls bs is m n r = moved e e _ (λ w. (piece (calls e) l.body.now).does m (turn_ways (calls e) l m w)) (λ ms. ms) n r refl (λ ms s' n. ap (λ (f : Then). f s' n) (
      ap (λ (q : Piece). q.does m (ways_on e ms)) (ap (piece (calls e)) (is ∙ ap (λ (z : RStmt). stmt.Do z x.now) (sym bs)) ∙ piece_do (calls e) b.now x.now)
      ∙ ap (λ (l : Loop). (piece (calls e) l.body.now).does m (turn_ways (calls e) l m (ways_on e ms))) (sym ls)))

  -- a `for` is its first statement before its loop
  module _ (o : Option (Bor RExpr)) (ou : Option (Bor RAssign)) (b : Bor RStmt) (x : Option RExpr) (u : Option RAssign) (b' : RStmt) (hx : MatchOption o (x ≡ None) (λ y. x ≡ Some y.now)) (hu : MatchOption ou (u ≡ None) (λ y. u ≡ Some y.now)) (bs : b.now ≡ b') where
    pub for_begins : (i : Option RInit) → s ≡ stmt.For i x u b' → (m n : ℕ) (r : Run) → From ((piece (calls e) s).does m) e n r
        → From (λ w. begins i (looping (calls e) (record { test = o; update = ou; body = b }) (m + init_count i + 1 + assign_count u) w)) e n r
    for_begins i is m n r = moved e e _ (λ w. begins i (looping (calls e) (record { test = o; update = ou; body = b }) (m + init_count i + 1 + assign_count u) w)) (λ ms. ms) n r refl (λ ms s' n. ap (λ (f : Then). f s' n) (
        ap (λ (q : Piece). q.does m (ways_on e ms)) (ap (piece (calls e)) (is ∙ ap (stmt.For i x u) (sym bs)) ∙ piece_for (calls e) i x u b.now)
        ∙ ap (λ (v : Value). begins i (loop v ((piece (calls e) b.now).does (m + init_count i + 1 + assign_count u)) (perhaps u) (ways_on e ms))) (test_lent o x hx)
        ∙ ap (λ (f : Then → Then). begins i (loop (test_of o) ((piece (calls e) b.now).does (m + init_count i + 1 + assign_count u)) f (ways_on e ms))) (update_lent ou u hu)))

  -- a block is its statements
  pub block_stands : (ss : List RStmt) (b : Bor (List RStmt)) (e' : Evaluator) → s ≡ stmt.Block ss → b.now ≡ ss → e'.progress ≡ e.progress → todo e' ≡ item.Rest b ∷ todo e
      → (m n : ℕ) (r : Run) → From ((piece (calls e) s).does m) e n r → Stands e' n r
  block_stands ss b e' is bs same t m n r = moved e e' _ (λ w. w.next) (λ ms. m ∷ ms) n r same (λ ms s' n. ap (λ (f : Then). f s' n) (
      ap (λ (q : Piece). q.does m (ways_on e ms)) (ap (piece (calls e)) (is ∙ ap stmt.Block (sym bs)) ∙ piece_block (calls e) b.now)
      ∙ ap (λ (w : Ways). w.next) (sym (added e e' (item.Rest b) same t m ms))))

  pub empty_stands : s ≡ stmt.Empty → (m n : ℕ) (r : Run) → From ((piece (calls e) s).does m) e n r → Stands e n r
  empty_stands is m n r = moved e e _ (λ w. w.next) (λ ms. ms) n r refl (λ ms s' n. ap (λ (q : Piece). q.does m (ways_on e ms) s' n) (ap (piece (calls e)) is ∙ piece_empty (calls e)))

  pub break_is : s ≡ stmt.Break → (m n : ℕ) (r : Run) → From ((piece (calls e) s).does m) e n r → From (λ w. w.out_of_loop) e n r
  break_is is m n r = moved e e _ (λ w. w.out_of_loop) (λ ms. ms) n r refl (λ ms s' n. ap (λ (q : Piece). q.does m (ways_on e ms) s' n) (ap (piece (calls e)) is ∙ piece_break (calls e)))

  pub continue_is : s ≡ stmt.Continue → (m n : ℕ) (r : Run) → From ((piece (calls e) s).does m) e n r → From (λ w. w.again) e n r
  continue_is is m n r = moved e e _ (λ w. w.again) (λ ms. ms) n r refl (λ ms s' n. ap (λ (q : Piece). q.does m (ways_on e ms) s' n) (ap (piece (calls e)) is ∙ piece_continue (calls e)))

  pub if_is : (arms : List RArm) (last : Option RStmt) → s ≡ stmt.If arms last → (b : List RArm) → b ≡ arms → (m n : ℕ) (r : Run) → From ((piece (calls e) s).does m) e n r → From (tests (map (arm_piece (calls e)) b) (last_piece (calls e) last) m) e n r
  if_is arms last is b bs m n r = moved e e _ (tests (map (arm_piece (calls e)) b) (last_piece (calls e) last) m) (λ ms. ms) n r refl (λ ms s' n. ap (λ (f : Then). f s' n) (
      ap (λ (z : RStmt). (piece (calls e) z).does m (ways_on e ms)) is ∙ piece_if (calls e) arms last m (ways_on e ms)
      ∙ ap (λ (z : List RArm). tests (map (arm_piece (calls e)) z) (last_piece (calls e) last) m (ways_on e ms)) (sym bs)))

-- ---- an `if`

module _ (e : Evaluator) (arms : List RArm) (last : Option RStmt) where
  pub arm_ticks : (a : RArm) (more : List RArm) → arms ≡ a ∷ more → (m n : ℕ) (r : Run) → From (tests (map (arm_piece (calls e)) arms) (last_piece (calls e) last) m) e n r
      → Ticks (λ k w. let p = arm_piece (calls e) a in chooses p.test (p.body.does (k + 1) w) (tests (map (arm_piece (calls e)) more) (last_piece (calls e) last) (k + 1 + p.body.size) w)) e n r
  arm_ticks a more is m n r = ticks e _ (λ k w. let p = arm_piece (calls e) a in chooses p.test (p.body.does (k + 1) w) (tests (map (arm_piece (calls e)) more) (last_piece (calls e) last) (k + 1 + p.body.size) w)) m n r (λ w. ap (λ (z : List RArm). tests (map (arm_piece (calls e)) z) (last_piece (calls e) last) m w) is)

  pub last_stands : (x : RStmt) (b : Bor RStmt) (e' : Evaluator) → arms ≡ [] → last ≡ Some x → b.now ≡ x → e'.progress ≡ e.progress → todo e' ≡ item.One b ∷ todo e
      → (m n : ℕ) (r : Run) → From (tests (map (arm_piece (calls e)) arms) (last_piece (calls e) last) m) e n r → Stands e' n r
  last_stands x b e' as' ls bs same t m n r = moved e e' _ (λ w. w.next) (λ ms. m ∷ ms) n r same (λ ms s' n. ap (λ (f : Then). f s' n) (
      ap (λ (z : List RArm). tests (map (arm_piece (calls e)) z) (last_piece (calls e) last) m (ways_on e ms)) as'
      ∙ ap (λ (z : Option RStmt). tests [] (last_piece (calls e) z) m (ways_on e ms)) (ls ∙ ap Some (sym bs))
      ∙ ap (λ (w : Ways). w.next) (sym (added e e' (item.One b) same t m ms))))

-- ---- the parts of loops

module _ (e : Evaluator) (l : Loop) where
  -- a loop without a first statement comes to its test
  pub test_comes : (i : Option RInit) → i ≡ None → (m n : ℕ) (r : Run) → From (λ w. begins i (looping (calls e) l m w)) e n r → Ticks (turning (calls e) l.test l.update l.body.now) e n r
  test_comes i none m n r = loop_ticks e l.test l.update l.body.now _ m n r (λ w. ap (λ (j : Option RInit). begins j (looping (calls e) l m w)) none)

  -- the first statement, before its loop
  pub first_comes : (e' : Evaluator) (i : Option RInit) (a : RInit) (y : Single) → i ≡ Some a → ((m : ℕ) → action y m ≡ begin a) → e'.progress ≡ e.progress → todo e' ≡ item.Turn l ∷ todo e
      → (m n : ℕ) (r : Run) → From (λ w. begins i (looping (calls e) l m w)) e n r → Ticks (λ k w. acts (action y k) w.next) e' n r
  first_comes e' i a y some act same t m n r x = (
    m,
    moved e e' _ (λ w. tick (acts (action y m) w.next)) (λ ms. m ∷ ms) n r same (λ ms s n.
        ap (λ (j : Option RInit). begins j (looping (calls e) l m (ways_on e ms)) s n) some
        ∙ ap (λ (act : Action). single act (looping (calls e) l m (ways_on e ms)) s n) (sym (act m))
        ∙ ap (λ (w : Ways). tick (acts (action y m) w.next) s n) (sym (added e e' (item.Turn l) same t m ms))) x,
  )

  -- the body, before the next turn
  pub body_stands : (e1 e2 : Evaluator) → e1.progress ≡ e.progress → todo e1 ≡ item.Again l ∷ todo e → e2.progress ≡ e1.progress → todo e2 ≡ item.One l.body ∷ todo e1
      → (m n : ℕ) (r : Run) → From (λ w. (piece (calls e) l.body.now).does m (turn_ways (calls e) l m w)) e n r → Stands e2 n r
  body_stands e1 e2 same1 t1 same2 t2 m n r = moved e e2 (λ w. (piece (calls e) l.body.now).does m (turn_ways (calls e) l m w)) (λ w. w.next) (λ ms. m ∷ (m ∷ ms)) n r (same2 ∙ same1) (λ ms s n. ap (λ (f : Then). f s n) (
      ap (λ (w : Ways). (piece (calls e) l.body.now).does m w) (sym (added e e1 (item.Again l) same1 t1 m ms))
      ∙ ap (λ (p : Progress). (piece (calls (record e { progress = p })) l.body.now).does m (ways_on e1 (m ∷ ms))) (sym same1)
      ∙ ap (λ (w : Ways). w.next) (sym (added e1 e2 (item.One l.body) same2 t2 m (m ∷ ms)))))

-- ---- loops that are left

pub left_all : (e e' : Evaluator) → Skipped e e' None → e'.progress ≡ e.progress → (n : ℕ) (r : Run) → From (λ w. w.out_of_loop) e n r → Stands e' n r
left_all e e' k same n r x = moved e e' (λ w. w.out_of_loop) (λ w. w.next) (λ ms. ms) n r same
    (λ ms s n. ap (λ (f : Then). f s n) ((k.1 ms).0 ∙ ap (λ (is : List Item). (ways e'.progress.functions.now e'.progress.allowed is ms).next) (sym k.0))) x

pub left_loop : (e e' : Evaluator) (end : End) (l : Loop) → end ≡ end'.Loop l → Skipped e e' (Some end) → e'.progress ≡ e.progress → (n : ℕ) (r : Run) → From (λ w. w.out_of_loop) e n r → Stands e' n r
left_loop e e' end l is k same n r x = let k = subst (λ (x : End). Skipped e e' (Some x)) is k in moved e e' (λ w. w.out_of_loop) (λ w. w.next) (λ ms. (k ms).1) n r same (λ ms s n. ap (λ (f : Then). f s n) (k ms).2) x

pub again_all : (e e' : Evaluator) (o : Option End) → Skipped e e' o → o ≡ None → e'.progress ≡ e.progress → (n : ℕ) (r : Run) → From (λ w. w.again) e n r → Stands e' n r
again_all e e' None k none same n r x = moved e e' (λ w. w.again) (λ w. w.next) (λ ms. ms) n r same
    (λ ms s n. ap (λ (f : Then). f s n) ((k.1 ms).1 ∙ ap (λ (is : List Item). (ways e'.progress.functions.now e'.progress.allowed is ms).next) (sym k.0))) x
again_all e e' (Some l) k none same n r x = absurd cc

-- the item that ended the turn, or the call, was put back
module _ (e e1 e2 : Evaluator) (end : End) (k : Skipped e e1 (Some end)) (same1 : e1.progress ≡ e.progress) (same2 : e2.progress ≡ e1.progress) (t : todo e2 ≡ end_item end ∷ todo e1) where
  put_back : (go : Ways → Then) → ((ms : List ℕ) → go (ways_on e ms) ≡ (before (calls e1) (end_item end) (k ms).0 (behind (end_item end) e1 (k ms).1)).next) → (n : ℕ) (r : Run) → From go e n r → Stands e2 n r
  put_back go h n r x = moved e e2 go (λ w. w.next) (λ ms. (k ms).0 ∷ (k ms).1) n r (same2 ∙ same1)
      (λ ms s n. ap (λ (f : Then). f s n) (h ms ∙ ap (λ (w : Ways). w.next) (sym (added e1 e2 (end_item end) same2 t (k ms).0 (k ms).1)))) x

pub left_call : (e e1 e2 : Evaluator) (end : End) (f : Frame) → end ≡ end'.Call f → Skipped e e1 (Some end) → e1.progress ≡ e.progress → e2.progress ≡ e1.progress → todo e2 ≡ item.Back f ∷ todo e1 → (n : ℕ) (r : Run) → From (λ w. w.out_of_loop) e n r → Stands e2 n r
left_call e e1 e2 end f is k same1 same2 t =
    let k' = subst (λ (x : End). Skipped e e1 (Some x)) is k in put_back e e1 e2 (end'.Call f) k' same1 same2 t (λ w. w.out_of_loop) (λ ms. (k' ms).2)

pub again_call : (e e1 e2 : Evaluator) (end : End) (f : Frame) → end ≡ end'.Call f → Skipped e e1 (Some end) → e1.progress ≡ e.progress → e2.progress ≡ e1.progress → todo e2 ≡ item.Back f ∷ todo e1 → (n : ℕ) (r : Run) → From (λ w. w.again) e n r → Stands e2 n r
again_call e e1 e2 end f is k same1 same2 t =
    let k' = subst (λ (x : End). Skipped e e1 (Some x)) is k in put_back e e1 e2 (end'.Call f) k' same1 same2 t (λ w. w.again) (λ ms. (k' ms).3)

pub again_loop : (e e1 e2 : Evaluator) (end : End) (l : Loop) → end ≡ end'.Loop l → Skipped e e1 (Some end) → e1.progress ≡ e.progress → e2.progress ≡ e1.progress → todo e2 ≡ item.Again l ∷ todo e1 → (n : ℕ) (r : Run) → From (λ w. w.again) e n r → Stands e2 n r
again_loop e e1 e2 end l is k same1 same2 t =
    let k' = subst (λ (x : End). Skipped e e1 (Some x)) is k in put_back e e1 e2 (end'.Loop l) k' same1 same2 t (λ w. w.again) (λ ms. (k' ms).3)

-- ---- less is left to do

size_do : (b : RStmt) (x : RExpr) → size (stmt.Do b x) ≡ size b + 4
size_do b x = ap size (sym (stmt.rolls-Do b x)) ∙ fold-roll-RStmt ℕ ℕ size_at (λ a. 0) (RStmt-F.Do b x)

size_block : (ss : List RStmt) → size (stmt.Block ss) ≡ total (map size ss) + 2
size_block ss = ap size (sym (stmt.rolls-Block ss)) ∙ fold-roll-RStmt ℕ ℕ size_at (λ a. 0) (RStmt-F.Block ss)

size_if : (arms : List RArm) (last : Option RStmt) → size (stmt.If arms last) ≡ last_weight last + 1
size_if arms None = ap size (sym (stmt.rolls-If arms None)) ∙ fold-roll-RStmt ℕ ℕ size_at (λ a. 0) (RStmt-F.If arms None)
size_if arms (Some x) = ap size (sym (stmt.rolls-If arms (Some x))) ∙ fold-roll-RStmt ℕ ℕ size_at (λ a. 0) (RStmt-F.If arms (Some x))

size_empty : size stmt.Empty ≡ 1
size_empty = ap size (sym stmt.rolls-Empty) ∙ fold-roll-RStmt ℕ ℕ size_at (λ a. 0) RStmt-F.Empty

size_break : size stmt.Break ≡ 1
size_break = ap size (sym stmt.rolls-Break) ∙ fold-roll-RStmt ℕ ℕ size_at (λ a. 0) RStmt-F.Break

size_continue : size stmt.Continue ≡ 1
size_continue = ap size (sym stmt.rolls-Continue) ∙ fold-roll-RStmt ℕ ℕ size_at (λ a. 0) RStmt-F.Continue

pub block_lighter : (s : RStmt) (ss : List RStmt) (b : Bor (List RStmt)) (is js : List Item) → s ≡ stmt.Block ss → b.now ≡ ss → js ≡ item.Rest b ∷ is → weights js < weights is + size s
block_lighter s ss b is js e bs t = omega (arith, ap weights t, ap size e, size_block ss, ap (λ (v : List RStmt). total (map size v)) bs)

pub do_lighter : (s b' : RStmt) (x : Bor RExpr) (b : Bor RStmt) (l : Loop) (is js : List Item) → s ≡ stmt.Do b' x.now → l ≡ plain x b → b.now ≡ b' → weights js ≡ weights is + size l.body.now + 3 → weights js < weights is + size s
do_lighter s b' x b l is js e ls bs h = omega (arith, h, ap size e, size_do b' x.now, ap size bs, ap (λ (l : Loop). size l.body.now) ls)

pub empty_lighter : (s : RStmt) (is : List Item) → s ≡ stmt.Empty → weights is < weights is + size s
empty_lighter s is e = omega (arith, ap size e, size_empty)

pub break_lighter : (s : RStmt) (is js : List Item) → s ≡ stmt.Break → weights js ≤ weights is → weights js < weights is + size s
break_lighter s is js e h = omega (arith, ap size e, size_break)

pub continue_lighter : (s : RStmt) (is js : List Item) → s ≡ stmt.Continue → weights js ≤ weights is → weights js < weights is + size s
continue_lighter s is js e h = omega (arith, ap size e, size_continue)

pub if_lighter : (s : RStmt) (arms : List RArm) (last : Option RStmt) → s ≡ stmt.If arms last → size s ≡ last_weight last + 1
if_lighter s arms last e = ap size e ∙ size_if arms last
