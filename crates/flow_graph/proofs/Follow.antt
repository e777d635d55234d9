-- What happens from a place on in the tree is a run from a node.
use Rattle.std.proofs.Common.{◌≡◌, ℕ, zero, suc, ◌+◌, ◌*◌, ◌<◌, ◌≤◌, List, [], ◌∷◌, ◌++◌, length, Option, Some, Ok, Err, true, false, Bool, cond, Result, refl, sym, ap, ◌∙◌, subst, arith}
use Rattle.std.specs.Prelude.{if◌then◌else◌}
use Rattle.ckpt_base.specs.declared.trap.Trap.{Trap}
use Rattle.ckpt_base.specs.Word.{word_holds}
use Rattle.ckpt_base.specs.Run.{Run}
use Rattle.c_tree.specs.declared.resolved.RExpr.{RExpr}
use Rattle.c_tree.specs.State.{Variables, State, Value, value, values, Action, take, ticked}
use Rattle.c_tree.specs.Meaning as tree
use Rattle.c_tree.specs.Meaning.{Then, Ways, Calls, tick, chooses, turns, loop_ways, makes_call}
use Rattle.access_summary.specs.declared.edge_list.Targets.{Targets}
use Rattle.access_summary.specs.Edges.{Edge, edge, test, loop_targets}
use Rattle.flow_graph.specs.declared.node.NodeWork.{NodeWork}
use Rattle.flow_graph.specs.declared.node.NodeWork.TheVariants as work
use Rattle.flow_graph.specs.Run as r
use Rattle.flow_graph.specs.Run.{Graphs, Frame, Waits, spot, Step, after, run, answers, goes, does, graph_at, edge_in, work_in, does_node, given, made}

-- a list stands from a number on
abbrev pub Stands : {A : Type 0} → (ℕ → Option A) → ℕ → List A → Type 0
Stands get m [] = Unit {0}
Stands get m (x ∷ xs) = (get m ≡ Some x) × Stands get (m + 1) xs

pub stands_parts : {A : Type 0} → (get : ℕ → Option A) (xs ys : List A) (m k : ℕ) → k ≡ m + length xs → Stands get m (xs ++ ys) → Stands get m xs × Stands get k ys
stands_parts get [] ys m k e h = (tt, subst (λ i. Stands get i ys) (omega arith) h)
stands_parts get (x ∷ xs) ys m k e h = let p = stands_parts get xs ys (m + 1) k (omega arith) h.1 in ((h.0, p.0), p.1)

module _ (gs : Graphs) (f : Option ℕ) where
  -- the edges and the works of nodes stand in the graph from a number on
  pub record Has (m : ℕ) (es : List Edge) (ws : List NodeWork) : Type 0 where
    pub edges : Stands (edge_in (graph_at gs f)) m es
    pub works : Stands (work_in (graph_at gs f)) m ws

  pub has_parts : (es es' : List Edge) (ws ws' : List NodeWork) (m k : ℕ) → k ≡ m + length es → length ws ≡ length es → Has m (es ++ es') (ws ++ ws') → Has m es ws × Has k es' ws'
  has_parts es es' ws ws' m k e l h =
      let p = stands_parts (edge_in (graph_at gs f)) es es' m k e h.edges in
      let q = stands_parts (work_in (graph_at gs f)) ws ws' m k (omega arith) h.works in
      (record { edges = p.0; works = q.0 }, record { edges = p.1; works = q.1 })

module _ (gs : Graphs) (frs : List Frame) where
  -- calls are made alike
  abbrev pub CallsFollow : Calls → Type 0
  CallsFollow calls = (h : ℕ) (as' : List ℕ) (n : ℕ) (back : ℕ → Then) (fr : Frame)
      → ((a : ℕ) (s : State) (i b : ℕ) → i ≤ n → 2 * i + length frs < b → back a s i ≡ after (run gs b) (answers (fr ∷ frs) a s i))
      → (s : State) (i b : ℕ) → i ≤ n → 2 * i + length frs + 1 < b
      → calls h as' back s i ≡ after (run gs b) (made gs fr frs h as' s i)

module _ (gs : Graphs) (f : Option ℕ) (frs : List Frame) where
  -- at so many ticks or fewer
  abbrev pub Follows : ℕ → Then → ℕ → Type 0
  Follows n k x = (s : State) (i b : ℕ) → i ≤ n → 2 * i + length frs < b → k s i ≡ run gs b (spot f x frs) s i

  abbrev pub Answers : ℕ → (ℕ → Then) → Type 0
  Answers n back = (a : ℕ) (s : State) (i b : ℕ) → i ≤ n → 2 * i + length frs ≤ b → back a s i ≡ after (run gs b) (answers frs a s i)

  pub record FollowsWays (n : ℕ) (w : Ways) (t : Targets) : Type 0 where
    pub next : Follows n w.next t.next
    pub out_of_loop : Follows n w.out_of_loop t.out_of_loop
    pub again : Follows n w.again t.again
    pub back : Answers n w.back

  -- one node is done
  pub does_one : (m : ℕ) (to : Edge) (w : NodeWork) → edge_in (graph_at gs f) m ≡ Some to → work_in (graph_at gs f) m ≡ Some w → (b : ℕ) (s : State) (i : ℕ)
      → after (run gs b) (does gs (spot f m frs) to w s i) ≡ run gs (suc b) (spot f m frs) s i
  does_one m to w e d b s i = sym (ap (λ (o : Option Edge). after (run gs b) (does_node gs (spot f m frs) o (work_in (graph_at gs f) m) s i)) e
      ∙ ap (λ (o : Option NodeWork). after (run gs b) (does_node gs (spot f m frs) (Some to) o s i)) d)

  -- a tick, and then alike
  pub ticks_alike : (k : State → ℕ → Run) (k' : State → ℕ → Step) (s : State) (i b : ℕ) → 2 * i + length frs < suc b
      → ((t : State) (j : ℕ) → j < i → 2 * j + length frs + 1 < b → k t j ≡ after (run gs b) (k' t j)) → tick k s i ≡ after (run gs b) (r.ticks k' s i)
  ticks_alike k k' s zero b lt h = refl
  ticks_alike k k' s (suc i) b lt h = h (ticked s) i (omega arith) (omega arith)

  pub given_alike : {A : Type 0} → (x : Result A Trap) (s : State) (b : ℕ) (k : A → Run) (k' : A → Step) → ((a : A) → k a ≡ after (run gs b) (k' a)) → tree.given x s k ≡ after (run gs b) (given x s k')
  given_alike (Ok a) s b k k' h = h a
  given_alike (Err t) s b k k' h = refl

  -- a node that takes a tick, does something and goes on
  pub single_follows : (act : Action) (m x : ℕ) (w : NodeWork) (k : Then) (n : ℕ) → edge_in (graph_at gs f) m ≡ Some (edge x) → work_in (graph_at gs f) m ≡ Some w → does gs (spot f m frs) (edge x) w ≡ r.single act (goes f frs (Some x))
      → Follows n k x → Follows n (tree.single act k) m
  single_follows act m x w k n e v d h s i zero le lt = absurd (omega arith)
  single_follows act m x w k n e v d h s i (suc b) le lt =
      ticks_alike _ (λ s n. given (act s) s (λ t. goes f frs (Some x) t n)) s i b lt (λ t j l q. given_alike (act t) t b _ _ (λ u. h u j b (omega arith) (omega arith)))
      ∙ ap (λ (g : State → ℕ → Step). after (run gs b) (g s i)) (sym d) ∙ does_one m (edge x) w e v b s i

  one_of : (c : Bool) (k k' : Run) (b x x' : ℕ) (s : State) (j : ℕ) → k ≡ run gs b (spot f x frs) s j → k' ≡ run gs b (spot f x' frs) s j
      → cond c k k' ≡ after (run gs b) (goes f frs (if c then Some x else Some x') s j)
  one_of true k k' b x x' s j p q = p
  one_of false k k' b x x' s j p q = q

  -- a test
  pub test_follows : (v : Value) (e : RExpr) → ((vs : Variables) → v vs ≡ value e vs) → (m x x' : ℕ) → edge_in (graph_at gs f) m ≡ Some (test x x') → work_in (graph_at gs f) m ≡ Some (work.Test e) → (k k' : Then) (i : ℕ)
      → ((s : State) (j b : ℕ) → j < i → 2 * j + length frs < b → k s j ≡ run gs b (spot f x frs) s j)
      → ((s : State) (j b : ℕ) → j < i → 2 * j + length frs < b → k' s j ≡ run gs b (spot f x' frs) s j)
      → (s : State) (b : ℕ) → 2 * i + length frs < b → tick (chooses v k k') s i ≡ run gs b (spot f m frs) s i
  test_follows v e same m x x' is does' k k' i h h' s zero lt = absurd (omega arith)
  test_follows v e same m x x' is does' k k' i h h' s (suc b) lt =
      ticks_alike (chooses v k k') (λ s n. given (value e s.variables) s (λ a. goes f frs (if word_holds a then Some x else Some x') s n)) s i b lt
      (λ t j l q. ap (λ (c : Result ℕ Trap). tree.given c t (λ a. if word_holds a then k t j else k' t j)) (same t.variables)
      ∙ given_alike (value e t.variables) t b _ _ (λ u. one_of (word_holds u) _ _ b x x' t j (h t j b l (omega arith)) (h' t j b l (omega arith))))
      ∙ does_one m (test x x') (work.Test e) is does' b s i

  -- a loop
  module _ (v : Value) (e : RExpr) (same : (vs : Variables) → v vs ≡ value e vs) (body : Ways → Then) (update : Then → Then) (w : Ways) (t : Targets) (m x y n : ℕ) (is : edge_in (graph_at gs f) m ≡ Some (test x t.next)) (does' : work_in (graph_at gs f) m ≡ Some (work.Test e))
      (hb : (k : ℕ) (u : Ways) → FollowsWays k u (loop_targets y t) → Follows k (body u) x) (hu : (k : ℕ) (g : Then) → Follows k g m → Follows k (update g) y) (hw : FollowsWays n w t) where
    pub turns_follow : (c : ℕ) (s : State) (i b : ℕ) → i ≤ n → i < c → 2 * i + length frs < b → turns c v body update w s i ≡ run gs b (spot f m frs) s i
    turns_follow zero s i b le lt fu = absurd (omega arith)
    turns_follow (suc c) s i b le lt fu =
        test_follows v e same m x t.next is does' (body (loop_ways (update (turns c v body update w)) w)) w.next i
        (λ u j d l q. hb j (loop_ways (update (turns c v body update w)) w) (record {
          next = hu j (turns c v body update w) (λ s' i' b' le' fu'. turns_follow c s' i' b' (omega arith) (omega arith) fu');
          out_of_loop = λ s' i' b' le' fu'. hw.next s' i' b' (omega arith) fu';
          again = hu j (turns c v body update w) (λ s' i' b' le' fu'. turns_follow c s' i' b' (omega arith) (omega arith) fu');
          back = λ z s' i' b' le' fu'. hw.back z s' i' b' (omega arith) fu';
        }) u j d (omega arith) q)
        (λ u j d l q. hw.next u j d (omega arith) q)
        s b fu

  -- a return
  pub return_follows : (e : RExpr) (m : ℕ) (to : Edge) (back : ℕ → Then) (n : ℕ) → edge_in (graph_at gs f) m ≡ Some to → work_in (graph_at gs f) m ≡ Some (work.Return e) → Answers n back
      → Follows n (tick (λ s n. tree.given (value e s.variables) s (λ a. back a s n))) m
  return_follows e m to back n is w h s i zero le lt = absurd (omega arith)
  return_follows e m to back n is w h s i (suc b) le lt =
      ticks_alike (λ s n. tree.given (value e s.variables) s (λ a. back a s n)) (λ s n. given (value e s.variables) s (λ a. answers frs a s n)) s i b lt (λ t j l q. given_alike (value e t.variables) t b _ _ (λ v. h v t j b (omega arith) (omega arith)))
      ∙ does_one m to (work.Return e) is w b s i

  -- a return of an input byte
  pub return_input_follows : (m : ℕ) (to : Edge) (back : ℕ → Then) (n : ℕ) → edge_in (graph_at gs f) m ≡ Some to → work_in (graph_at gs f) m ≡ Some work.ReturnInput → Answers n back
      → Follows n (tick (λ s. back (take s).0 (take s).1)) m
  return_input_follows m to back n is w h s i zero le lt = absurd (omega arith)
  return_input_follows m to back n is w h s i (suc b) le lt =
      ticks_alike (λ s. back (take s).0 (take s).1) (λ s n. answers frs (take s).0 (take s).1 n) s i b lt (λ t j l q. h (take t).0 (take t).1 j b (omega arith) (omega arith))
      ∙ does_one m to work.ReturnInput is w b s i

  -- a call: `back` with the caller's locals is what its frame does with the answer
  pub call_follows : (calls : Calls) → CallsFollow gs frs calls → (waits : Waits) (to : Edge) (w : NodeWork) (h : ℕ) (es : List RExpr) (m : ℕ) (back : List ℕ → ℕ → Then) (n : ℕ)
      → edge_in (graph_at gs f) m ≡ Some to → work_in (graph_at gs f) m ≡ Some w → does gs (spot f m frs) to w ≡ r.calls gs (spot f m frs) waits to.0 h es
      → ((ls : List ℕ) (a : ℕ) (s : State) (i b : ℕ) → i ≤ n → 2 * i + length frs < b → back ls a s i ≡ after (run gs b) (answers (record { waits = waits; locals = ls; function = f; next = to.0 } ∷ frs) a s i))
      → Follows n (tick (makes_call calls h es back)) m
  call_follows calls cf waits to w h es m back n is wk d hb s i zero le lt = absurd (omega arith)
  call_follows calls cf waits to w h es m back n is wk d hb s i (suc b) le lt =
      ticks_alike (makes_call calls h es back) (λ s n. given (values es s.variables) s (λ as'. made gs (record { waits = waits; locals = s.variables.locals; function = f; next = to.0 }) frs h as' s n)) s i b lt
      (λ t j l q. given_alike (values es t.variables) t b _ _
      (λ as'. cf h as' n (back t.variables.locals) (record { waits = waits; locals = t.variables.locals; function = f; next = to.0 }) (hb t.variables.locals) t j b (omega arith) q))
      ∙ ap (λ (g : State → ℕ → Step). after (run gs b) (g s i)) (sym d) ∙ does_one m to w is wk b s i
