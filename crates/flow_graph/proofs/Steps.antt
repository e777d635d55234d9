-- Runs of a graph, without their bound on nodes, and cut in two.
use Rattle.std.proofs.Common.{◌≡◌, ℕ, zero, suc, ◌+◌, ◌*◌, ◌<◌, ◌≤◌, ◌⊎◌, List, [], ◌∷◌, length, Option, Some, None, Result, Ok, Err, Bool, true, false, inl, inr, refl, sym, ap, ◌∙◌, subst, arith}
use Rattle.std.specs.Prelude.{slice_get, if◌then◌else◌, nat_lt}
use Rattle.ckpt_base.specs.declared.trap.Trap.{Trap}
use Rattle.ckpt_base.specs.declared.ending.Ending.TheVariants.{Going}
use Rattle.ckpt_base.specs.Word.{word_holds}
use Rattle.ckpt_base.specs.Run.{Run}
use Rattle.c_tree.specs.declared.resolved.RExpr.{RExpr}
use Rattle.c_tree.specs.State.{State, ticked, Action, value, values, with_locals, declare, set, put, write_out, take, input, checkpoint, exclude}
use Rattle.c_tree.specs.Meaning.{over}
use Rattle.access_summary.specs.Edges.{Edge}
use Rattle.flow_graph.specs.declared.node.NodeWork.{NodeWork}
use Rattle.flow_graph.specs.declared.node.NodeWork.TheVariants as work
use Rattle.flow_graph.specs.Run as r
use Rattle.flow_graph.specs.Run.{Graph, Graphs, Frame, Waits, Store, Return, Spot, spot, Step, Over, On, Steps, step, does, does_node, graph_at, edge_in, work_in, after, run, enough_nodes, graph_run, ticks, given, goes, answers, resumes, enters, made, nowhere}
use Rattle.flow_graph.specs.GoesOn.{GoesOn}

-- ---- each step takes a tick or ends a call

abbrev pub Less : ℕ → Step → Type 0
Less m (Over r) = Unit {0}
Less m (On y t k) = 2 * k + length y.frames < m

less_more : (m m' : ℕ) (o : Step) → m ≤ m' → Less m o → Less m' o
less_more m m' (Over r) le h = tt
less_more m m' (On y t k) le h = omega arith

goes_less : (m : ℕ) (f : Option ℕ) (frs : List Frame) (to : Option ℕ) (s : State) (n : ℕ) → 2 * n + length frs < m → Less m (goes f frs to s n)
goes_less m f frs None s n h = tt
goes_less m f frs (Some x) s n h = h

given_less : {A : Type 0} → (m : ℕ) (x : Result A Trap) (s : State) (k : A → Step) → ((v : A) → Less m (k v)) → Less m (given x s k)
given_less m (Ok v) s k h = h v
given_less m (Err t) s k h = tt

ticks_less : (m : ℕ) (k : Steps) (s : State) (n : ℕ) → ((t : State) (j : ℕ) → j < n → Less m (k t j)) → Less m (ticks k s n)
ticks_less m k s zero h = tt
ticks_less m k s (suc n) h = h (ticked s) n (omega arith)

resumes_less : (m : ℕ) (w : Waits) (fr : Frame) (frs : List Frame) (go : ℕ → Steps) (v : ℕ) (s : State) (n : ℕ) → 2 * n + length frs < m → ((t : State) → Less m (go v t n)) → Less m (resumes w fr frs go v s n)
resumes_less m (Store p) fr frs go v s n h g = given_less m _ s _ (λ t. goes_less m fr.function frs fr.next t n h)
resumes_less m Return fr frs go v s n h g = g s

answers_less : (frs : List Frame) (v : ℕ) (s : State) (n : ℕ) → Less (2 * n + length frs) (answers frs v s n)
answers_less [] v s n = tt
answers_less (fr ∷ frs) v s n = resumes_less _ fr.waits fr frs (answers frs) v (with_locals fr.locals s) n (omega arith) (λ t. less_more _ _ _ (omega arith) (answers_less frs v t n))

cond_less : (m : ℕ) (c : Bool) (o o' : Step) → Less m o → Less m o' → Less m (if c then o else o')
cond_less m true o o' h h' = h
cond_less m false o o' h h' = h'

enters_less : (m : ℕ) (g : Option Graph) (f : ℕ) (frs : List Frame) (vs : List ℕ) (s : State) (n : ℕ) → 2 * n + length frs < m → Less m (enters g f frs vs s n)
enters_less m None f frs vs s n h = tt
enters_less m (Some g) f frs vs s n h = h

module _ (gs : Graphs) (x : Spot) where
  single_less : (act : Action) (to : Option ℕ) (s : State) (n : ℕ) → Less (2 * n + length x.frames) (r.single act (goes x.function x.frames to) s n)
  single_less act to s n = ticks_less _ _ s n (λ t j lt. given_less _ (act t) t _ (λ u. goes_less _ x.function x.frames to u j (omega arith)))

  calls_less : (w : Waits) (to : Option ℕ) (f : ℕ) (es : List RExpr) (s : State) (n : ℕ) → Less (2 * n + length x.frames) (r.calls gs x w to f es s n)
  calls_less w to f es s n = ticks_less (2 * n + length x.frames) (λ t j. given (values es t.variables) t (λ vs. made gs (record { waits = w; locals = t.variables.locals; function = x.function; next = to }) x.frames f vs t j)) s n (λ t j lt. given_less (2 * n + length x.frames) (values es t.variables) t _ (λ vs. cond_less (2 * n + length x.frames) (nat_lt (length x.frames) 1000) _ (nowhere t j) (enters_less (2 * n + length x.frames) (slice_get gs.functions f) f (record { waits = w; locals = t.variables.locals; function = x.function; next = to } ∷ x.frames) vs t j (omega arith)) tt))

  does_less : (to : Edge) (w : NodeWork) (s : State) (n : ℕ) → Less (2 * n + length x.frames) (does gs x to w s n)
  does_less to (work.Declare p e) s n = single_less (declare p e) to.0 s n
  does_less to (work.Set p e) s n = single_less (set p e) to.0 s n
  does_less to (work.Put e) s n = single_less (put e) to.0 s n
  does_less to (work.Print ps es) s n = single_less (write_out ps es) to.0 s n
  does_less to work.ReturnInput s n = ticks_less (2 * n + length x.frames) (λ t j. answers x.frames (take t).0 (take t).1 j) s n (λ t j lt. less_more (2 * j + length x.frames) (2 * n + length x.frames) _ (omega arith) (answers_less x.frames (take t).0 (take t).1 j))
  does_less to (work.Input p) s n = single_less (input p) to.0 s n
  does_less to work.Checkpoint s n = single_less (checkpoint x.node) to.0 s n
  does_less to (work.Exclude k) s n = single_less (exclude k) to.0 s n
  does_less to (work.Call p f es) s n = calls_less _ to.0 f es s n
  does_less to (work.Return e) s n = ticks_less (2 * n + length x.frames) (λ t j. given (value e t.variables) t (λ v. answers x.frames v t j)) s n (λ t j lt. given_less (2 * n + length x.frames) (value e t.variables) t _ (λ v. less_more (2 * j + length x.frames) (2 * n + length x.frames) _ (omega arith) (answers_less x.frames v t j)))
  does_less to (work.ReturnCall f es) s n = calls_less _ to.0 f es s n
  does_less to (work.Test e) s n = ticks_less (2 * n + length x.frames) (λ t j. given (value e t.variables) t (λ v. goes x.function x.frames (if word_holds v then to.0 else to.1) t j)) s n (λ t j lt. given_less (2 * n + length x.frames) (value e t.variables) t _ (λ v. goes_less (2 * n + length x.frames) x.function x.frames (if word_holds v then to.0 else to.1) t j (omega arith)))
  does_less to work.End s n = answers_less x.frames _ s n

  node_less : (o : Option Edge) (w : Option NodeWork) (s : State) (n : ℕ) → Less (2 * n + length x.frames) (does_node gs x o w s n)
  node_less None w s n = tt
  node_less (Some to) None s n = tt
  node_less (Some to) (Some w) s n = does_less to w s n

pub step_less : (gs : Graphs) (x : Spot) (s : State) (n : ℕ) → Less (2 * n + length x.frames) (step gs x s n)
step_less gs x s n = node_less gs x (edge_in (graph_at gs x.function) x.node) (work_in (graph_at gs x.function) x.node) s n

-- ---- fuel enough is fuel enough

module _ (gs : Graphs) where
  after_same : (m b c : ℕ) (o : Step) → Less m o → ((x : Spot) (s : State) (n : ℕ) → 2 * n + length x.frames < m → run gs b x s n ≡ run gs c x s n) → after (run gs b) o ≡ after (run gs c) o
  after_same m b c (Over q) l h = refl
  after_same m b c (On y t k) l h = h y t k l

  pub enough : (b c : ℕ) (x : Spot) (s : State) (n : ℕ) → 2 * n + length x.frames < b → 2 * n + length x.frames < c → run gs b x s n ≡ run gs c x s n
  enough zero c x s n h h' = absurd (omega arith)
  enough (suc b) zero x s n h h' = absurd (omega arith)
  enough (suc b) (suc c) x s n h h' = after_same (2 * n + length x.frames) b c (step gs x s n) (step_less gs x s n) (λ y t k l. enough b c y t k (omega arith) (omega arith))

  after_full : (m b : ℕ) (o : Step) → Less m o → m ≤ b → after (run gs b) o ≡ after (graph_run gs) o
  after_full m b (Over q) l h = refl
  after_full m b (On y t k) l h = enough b (enough_nodes y k) y t k (omega arith) (omega arith)

  -- the run, step by step, with no fuel
  pub one_step : (x : Spot) (s : State) (n : ℕ) → graph_run gs x s n ≡ after (graph_run gs) (step gs x s n)
  one_step x s n =
      enough (enough_nodes x n) (suc (2 * n + length x.frames)) x s n (omega arith) (omega arith) ∙ after_full (2 * n + length x.frames) (2 * n + length x.frames) (step gs x s n) (step_less gs x s n) (omega arith)

-- ---- a run in two parts

module _ (d : ℕ) where
  -- without ticks of its own
  abbrev pub Same : Step → Step → Type 0
  Same (Over q) o = (o ≡ Over q) × (q.ending ≡ Going → ⊥)
  Same (On y t k) o = o ≡ On y t (k + d)

  goes_same : (f : Option ℕ) (frs : List Frame) (to : Option ℕ) (s : State) (n : ℕ) → Same (goes f frs to s n) (goes f frs to s (n + d))
  goes_same f frs None s n = (refl, λ e. absurd cc)
  goes_same f frs (Some x) s n = refl

  given_same : {A : Type 0} → (x : Result A Trap) (s : State) (k k' : A → Step) → ((v : A) → Same (k v) (k' v)) → Same (given x s k) (given x s k')
  given_same (Ok v) s k k' h = h v
  given_same (Err t) s k k' h = (refl, λ e. absurd cc)

  resumes_same : (w : Waits) (fr : Frame) (frs : List Frame) (go : ℕ → Steps) (v : ℕ) (s : State) (n : ℕ) → ((t : State) → Same (go v t n) (go v t (n + d))) → Same (resumes w fr frs go v s n) (resumes w fr frs go v s (n + d))
  resumes_same (Store p) fr frs go v s n g = given_same _ s _ _ (λ t. goes_same fr.function frs fr.next t n)
  resumes_same Return fr frs go v s n g = g s

  answers_same : (frs : List Frame) (v : ℕ) (s : State) (n : ℕ) → Same (answers frs v s n) (answers frs v s (n + d))
  answers_same [] v s n = (refl, λ e. absurd cc)
  answers_same (fr ∷ frs) v s n = resumes_same fr.waits fr frs (answers frs) v (with_locals fr.locals s) n (λ t. answers_same frs v t n)

  cond_same : (c : Bool) (o o' u u' : Step) → Same o u → Same o' u' → Same (if c then o else o') (if c then u else u')
  cond_same true o o' u u' h h' = h
  cond_same false o o' u u' h h' = h'

  enters_same : (g : Option Graph) (f : ℕ) (frs : List Frame) (vs : List ℕ) (s : State) (n : ℕ) → Same (enters g f frs vs s n) (enters g f frs vs s (n + d))
  enters_same None f frs vs s n = (refl, λ e. absurd cc)
  enters_same (Some g) f frs vs s n = refl

  ticks_at : (k : Steps) (s : State) (n m : ℕ) → m ≡ suc n + d → ((t : State) (j : ℕ) → Same (k t j) (k t (j + d))) → Same (k (ticked s) n) (ticks k s m)
  ticks_at k s n zero e h = absurd (omega arith)
  ticks_at k s n (suc m) e h = subst (λ j. Same (k (ticked s) n) (k (ticked s) j)) (omega arith) (h (ticked s) n)

-- the same step with more ticks is the same, or this one wants a tick
abbrev pub Later : State → ℕ → (ℕ → Step) → Type 0
Later s n f = ((d : ℕ) → Same d (f n) (f (n + d))) ⊎ ((f n ≡ Over (over Going s)) × (n ≡ 0))

ticks_later : (k : Steps) (s : State) (n : ℕ) → ((d : ℕ) (t : State) (j : ℕ) → Same d (k t j) (k t (j + d))) → Later s n (ticks k s)
ticks_later k s zero h = inr (refl, refl)
ticks_later k s (suc n) h = inl (λ d. ticks_at d k s n (suc n + d) refl (h d))

module _ (gs : Graphs) (x : Spot) where
  single_later : (act : Action) (to : Option ℕ) (s : State) (n : ℕ) → Later s n (r.single act (goes x.function x.frames to) s)
  single_later act to s n = ticks_later _ s n (λ d t j. given_same d (act t) t _ _ (λ u. goes_same d x.function x.frames to u j))

  calls_later : (w : Waits) (to : Option ℕ) (f : ℕ) (es : List RExpr) (s : State) (n : ℕ) → Later s n (r.calls gs x w to f es s)
  calls_later w to f es s n = ticks_later _ s n (λ d t j. given_same d (values es t.variables) t _ _ (λ vs. cond_same d (nat_lt (length x.frames) 1000) _ (nowhere t j) _ (nowhere t j)
      (enters_same d (slice_get gs.functions f) f (record { waits = w; locals = t.variables.locals; function = x.function; next = to } ∷ x.frames) vs t j) (refl, λ e. absurd cc)))

  does_later : (to : Edge) (w : NodeWork) (s : State) (n : ℕ) → Later s n (does gs x to w s)
  does_later to (work.Declare p e) s n = single_later (declare p e) to.0 s n
  does_later to (work.Set p e) s n = single_later (set p e) to.0 s n
  does_later to (work.Put e) s n = single_later (put e) to.0 s n
  does_later to (work.Print ps es) s n = single_later (write_out ps es) to.0 s n
  does_later to work.ReturnInput s n = ticks_later (λ t j. answers x.frames (take t).0 (take t).1 j) s n (λ d t j. answers_same d x.frames (take t).0 (take t).1 j)
  does_later to (work.Input p) s n = single_later (input p) to.0 s n
  does_later to work.Checkpoint s n = single_later (checkpoint x.node) to.0 s n
  does_later to (work.Exclude k) s n = single_later (exclude k) to.0 s n
  does_later to (work.Call p f es) s n = calls_later _ to.0 f es s n
  does_later to (work.Return e) s n = ticks_later (λ t j. given (value e t.variables) t (λ v. answers x.frames v t j)) s n (λ d t j. given_same d (value e t.variables) t _ _ (λ v. answers_same d x.frames v t j))
  does_later to (work.ReturnCall f es) s n = calls_later _ to.0 f es s n
  does_later to (work.Test e) s n = ticks_later (λ t j. given (value e t.variables) t (λ v. goes x.function x.frames (if word_holds v then to.0 else to.1) t j)) s n (λ d t j. given_same d (value e t.variables) t (λ v. goes x.function x.frames (if word_holds v then to.0 else to.1) t j) (λ v. goes x.function x.frames (if word_holds v then to.0 else to.1) t (j + d)) (λ v. goes_same d x.function x.frames (if word_holds v then to.0 else to.1) t j))
  does_later to work.End s n = inl (λ d. answers_same d x.frames _ s n)

  pub node_later : (o : Option Edge) (w : Option NodeWork) (s : State) (n : ℕ) → Later s n (does_node gs x o w s)
  node_later None w s n = inl (λ d. (refl, λ e. absurd cc))
  node_later (Some to) None s n = inl (λ d. (refl, λ e. absurd cc))
  node_later (Some to) (Some w) s n = does_later to w s n

-- ---- a run in two parts, and what its steps keep

abbrev pub OfStep : (Spot → State → Type 0) → Step → Type 0
OfStep P (Over q) = Unit {0}
OfStep P (On y t k) = P y t

module _ (gs : Graphs) (P : Spot → State → Type 0) (keeps : (x : Spot) (s : State) (n : ℕ) → P x s → OfStep P (step gs x s n)) where
  -- where a run stands that its ticks ended
  pub record Stands (x : Spot) (s : State) (n : ℕ) : Type 0 where
    pub at : Spot
    pub state : State
    pub kept : P at state
    pub going : graph_run gs x s n ≡ over Going state
    pub goes_on : (d : ℕ) → graph_run gs x s (n + d) ≡ graph_run gs at state d

  abbrev pub Cut : Spot → State → ℕ → Type 0
  Cut x s n = (((d : ℕ) → graph_run gs x s (n + d) ≡ graph_run gs x s n) × ((graph_run gs x s n).ending ≡ Going → ⊥)) ⊎ Stands x s n

  cut_on : (x y : Spot) (s t : State) (n k : ℕ) → graph_run gs x s n ≡ graph_run gs y t k → ((d : ℕ) → graph_run gs x s (n + d) ≡ graph_run gs y t (k + d)) → Cut y t k → Cut x s n
  cut_on x y s t n k e h (inl g) = inl (λ d. h d ∙ g.0 d ∙ sym e, λ q. g.1 (ap (λ (u : Run). u.ending) (sym e) ∙ q))
  cut_on x y s t n k e h (inr g) = inr (record { at = g.at; state = g.state; kept = g.kept; going = e ∙ g.going; goes_on = λ d. h d ∙ g.goes_on d })

  abbrev Below : ℕ → Type 0
  Below b = (y : Spot) (t : State) (k : ℕ) → 2 * k + length y.frames < b → P y t → Cut y t k

  cut_at : (b : ℕ) (x : Spot) (s : State) (n : ℕ) (o : Step) → step gs x s n ≡ o → Less b o → OfStep P o → ((d : ℕ) → Same d o (step gs x s (n + d))) → Below b → Cut x s n
  cut_at b x s n (Over q) e l i h g = inl (
    λ d. one_step gs x s (n + d) ∙ ap (after (graph_run gs)) ((h d).0 ∙ sym e) ∙ sym (one_step gs x s n),
    λ r. (h 0).1 (ap (λ (u : Run). u.ending) (sym (one_step gs x s n ∙ ap (after (graph_run gs)) e)) ∙ r),
  )
  cut_at b x s n (On y t k) e l i h g = cut_on x y s t n k (one_step gs x s n ∙ ap (after (graph_run gs)) e) (λ d. one_step gs x s (n + d) ∙ ap (after (graph_run gs)) (h d)) (g y t k l i)

  cut_from : (b : ℕ) (x : Spot) (s : State) (n : ℕ) → P x s → 2 * n + length x.frames ≤ b → Later s n (step gs x s) → Below b → Cut x s n
  cut_from b x s n i le (inl h) g = cut_at b x s n (step gs x s n) refl (less_more _ _ _ le (step_less gs x s n)) (keeps x s n i) h g
  cut_from b x s n i le (inr h) g = inr (record {
    at = x;
    state = s;
    kept = i;
    going = one_step gs x s n ∙ ap (after (graph_run gs)) h.0;
    goes_on = λ d. ap (graph_run gs x s) (omega (arith, h.1));
  })

  cut_below : (b : ℕ) → Below b
  cut_below zero x s n lt i = absurd (omega arith)
  cut_below (suc b) x s n lt i = cut_from b x s n i (omega arith) (node_later gs x (edge_in (graph_at gs x.function) x.node) (work_in (graph_at gs x.function) x.node) s n) (cut_below b)

  -- a run is over for good, or it goes on from where it stands
  pub cut : (x : Spot) (s : State) (n : ℕ) → P x s → Cut x s n
  cut x s n i = cut_below (suc (2 * n + length x.frames)) x s n (omega arith) i

-- a run goes on from where it stands
pub goes_on : (gs : Graphs) (x : Spot) (s : State) (n : ℕ) → GoesOn gs x s n
goes_on gs x s n = without (cut gs (λ x s. Unit {0}) (λ x s n u. any (step gs x s n)) x s n tt)
  where
    any : (o : Step) → OfStep (λ x s. Unit {0}) o
    any (Over q) = tt
    any (On y t k) = tt

    without : Cut gs (λ x s. Unit {0}) (λ x s n u. any (step gs x s n)) x s n → GoesOn gs x s n
    without (inl h) = inl h
    without (inr h) = inr (record { at = h.at; state = h.state; going = h.going; goes_on = h.goes_on })
