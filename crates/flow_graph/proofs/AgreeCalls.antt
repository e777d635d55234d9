-- What the nodes of active calls read counts, and pointers that go into calls keep to what they may hold.
use Rattle.std.proofs.Common.{◌≡◌, ℕ, zero, suc, ◌+◌, ◌-◌, ◌<◌, ◌⊎◌, Bool, true, false, List, [], ◌∷◌, ◌++◌, map, take, length, get_or, Option, Some, None, Result, Ok, Err, inl, inr, refl, sym, ap, ◌∙◌, subst, arith}
use Rattle.std.specs.Prelude.{slice_get, replicate}
use Rattle.std.specs.Option.{option_map, option_map_or, option_and_then}
use Rattle.std.proofs.lemmas.Bool.{cases_Bool, and_parts, false≢true, eq-eqb, or_left, or_right}
use Rattle.std.proofs.lemmas.Option.{none-some, same_Some, slice_get-map, slice_get_within, some_pair_parts}
use Rattle.ckpt_base.specs.declared.trap.Trap.{Trap}
use Rattle.c_tree.specs.declared.resolved.RExpr.{RExpr}
use Rattle.c_tree.specs.declared.resolved.RLocal.{RLocal}
use Rattle.c_tree.specs.declared.resolved.RFunction.{RFunction}
use Rattle.c_tree.specs.declared.resolved.Resolved.{Resolved}
use Rattle.c_tree.specs.Layout.{cell_count}
use Rattle.c_tree.specs.Kinds.{World, agree, are_given, kind}
use Rattle.c_tree.specs.Checked.{IsChecked, signature, local_kind, in_main, in_function}
use Rattle.c_tree.specs.State.{State, ◌>>=◌, value, values, entry_locals}
use Rattle.alias_sets.specs.declared.flows.PointerVar.TheVariants as var
use Rattle.alias_sets.specs.declared.flows.Flow.{Flow}
use Rattle.alias_sets.specs.Flows.{source, passed, flows}
use Rattle.path_laws.specs.Graph as effects
use Rattle.path_laws.specs.Graph.{may_write, kills, has_edge, next_of}
use Rattle.path_laws.specs.Edge.{is_at}
use Rattle.access_summary.specs.Edges.{Edge}
use Rattle.access_summary.specs.declared.effects.Effect.{Effect}
use Rattle.access_summary.specs.declared.effects.Effect.TheVariants as effect
use Rattle.access_summary.specs.declared.touch.Access.TheVariants as access'
use Rattle.access_summary.specs.Effects as text
use Rattle.access_summary.specs.Effects.{all_effects, call_effects, expr_effects, pointer_effects}
use Rattle.access_summary.specs.Touch.{Touches}
use Rattle.access_summary.specs.declared.touch.Access.{Access}
use Rattle.access_summary.specs.Summaries.{bodies, ReachesAccess}
use Rattle.flow_graph.specs.declared.node.NodeWork.{NodeWork}
use Rattle.flow_graph.specs.declared.node.NodeWork.TheVariants as work
use Rattle.flow_graph.specs.Works.{works_of_body}
use Rattle.flow_graph.specs.WorkRules.{work_keeps}
use Rattle.flow_graph.specs.NodeEffects.{work_effects, NodeReads, NodeWrites, NodeKills}
use Rattle.flow_graph.specs.EffectCells.{EffectsDo}
use Rattle.flow_graph.specs.MainGraph.{IsMainGraph}
use Rattle.flow_graph.specs.Run.{Graph, Waits, Store, Return, Frame, graph_of_function, graphs_of, graph_at, edge_in, work_in}
use Rattle.flow_graph.specs.Wanted.{IsWanted}
use Rattle.flow_graph.specs.Agreement.{call_of, AreCalls, Place, IsOutside, Counts, AreAlike, IsKept, KeepsLocals, KeepsPointers}
use Rattle.flow_graph.proofs.WorkRuleLaws.{all_at, main_works_keep, function_works_keep}
use Rattle.flow_graph.proofs.AgreeValues.{IsWorldOf, world_of_main, world_of_function, touches_left, touches_right}
use Rattle.flow_graph.proofs.AgreeFlows.{Has, has_left, has_right, IsNodeOf, function_does, agree_some}
use Rattle.flow_graph.proofs.AgreeStores.{zero_kept, same_value, value_kept}

-- ---- nodes of a program's graphs

-- whether a function answers a pointer
abbrev pub gives : Resolved → Option ℕ → Bool
gives p None = false
gives p (Some f) = option_map_or (λ g. g.gives_pointer) (slice_get p.functions f) false

-- what is known of a node's work
pub record IsWorkOf (p : Resolved) (f : Option ℕ) (m : ℕ) (k : NodeWork) : Type 0 where
  pub world : World
  pub is_world : IsWorldOf p f world
  pub keeps : work_keeps world k ≡ true
  pub functions : (g : ℕ) → world.function g ≡ option_map signature (slice_get p.functions g)
  pub gives_pointer : world.gives_pointer ≡ gives p f
  pub node : IsNodeOf p f m k

pub node_of : (p : Resolved) (f : Option ℕ) (m : ℕ) (k : NodeWork) → work_in (graph_at (graphs_of p) f) m ≡ Some k → IsNodeOf p f m k
node_of p None m k e = e
node_of p (Some f) m k e = there (slice_get p.functions f) refl
  where
    there : (o : Option RFunction) → slice_get p.functions f ≡ o → IsNodeOf p (Some f) m k
    there None is = absurd (none-some k (sym (ap (λ (o : Option Graph). work_in o m) (slice_get-map graph_of_function p.functions f ∙ ap (option_map graph_of_function) is)) ∙ e))
    there (Some g) is = (g, is, sym (ap (λ (o : Option Graph). work_in o m) (slice_get-map graph_of_function p.functions f ∙ ap (option_map graph_of_function) is)) ∙ e)

pub work_of : (p : Resolved) → IsChecked p → (f : Option ℕ) (m : ℕ) (k : NodeWork) → IsNodeOf p f m k → IsWorkOf p f m k
work_of p h None m k n = record {
  world = in_main p;
  is_world = world_of_main p;
  keeps = all_at (work_keeps (in_main p)) (works_of_body p.main.body) m k (main_works_keep p h) n;
  functions = λ g. refl;
  gives_pointer = refl;
  node = n;
}
work_of p h (Some f) m k n = record {
  world = in_function p n.0;
  is_world = world_of_function p f n.0 n.1;
  keeps = all_at (work_keeps (in_function p n.0)) (works_of_body (n.0).body) m k (function_works_keep p f n.0 h n.1) n.2;
  functions = λ g. refl;
  gives_pointer = sym (ap (λ (o : Option RFunction). option_map_or (λ g. g.gives_pointer) o false) n.1);
  node = n;
}

-- ---- what calls do

module _ (p : Resolved) where
  call_there : (f : Option ℕ) (k : NodeWork) (h : ℕ) (w : Waits) → call_of k ≡ Some (w, h) → Has (work_effects f k) (effect.Call h)
  call_there f k h w e = found k e
    where
      ends : (es : List RExpr) (j : ℕ) → j ≡ h → Has (call_effects f j es) (effect.Call h)
      ends es j e = has_right (all_effects f es) (effect.Call j ∷ []) (effect.Call h) (0, ap (λ i. Some (effect.Call i)) e)

      no_call : {A : Type 0} → ◌≡◌ {A = Option (Waits × ℕ)} None (Some (w, h)) → A
      no_call e = absurd (none-some (w, h) e)

      found : (k : NodeWork) → call_of k ≡ Some (w, h) → Has (work_effects f k) (effect.Call h)
      found (work.Call None j es) e = ends es j ((some_pair_parts (Store None) w j h e).1)
      found (work.Call (Some pl) j es) e = has_right (pointer_effects f pl) (call_effects f j es ++ text.written f pl) (effect.Call h) (has_left (call_effects f j es) (text.written f pl) (effect.Call h) (ends es j ((some_pair_parts (Store (Some pl)) w j h e).1)))
      found (work.ReturnCall j es) e = ends es j ((some_pair_parts Return w j h e).1)
      found (work.Declare a b) e = no_call e
      found (work.Set a b) e = no_call e
      found (work.Input a) e = no_call e
      found (work.Return a) e = no_call e
      found work.ReturnInput e = no_call e
      found (work.Put a) e = no_call e
      found (work.Print a b) e = no_call e
      found (work.Test a) e = no_call e
      found work.Checkpoint e = no_call e
      found (work.Exclude a) e = no_call e
      found work.End e = no_call e

  called_does : (a : Access) (f : Option ℕ) (k : NodeWork) (h c : ℕ) (w : Waits) → call_of k ≡ Some (w, h) → ReachesAccess p (bodies p) a h c → EffectsDo p a (work_effects f k) c
  called_does a f k h c w e r = let q = call_there f k h w e in inr (h, q.0, q.1, r)

  -- node n of `main` may do so to cell c
  pub record MainDoes (a : Access) (n c : ℕ) : Type 0 where
    pub edge : Edge
    pub work : NodeWork
    pub is_edge : edge_in (graph_at (graphs_of p) None) n ≡ Some edge
    pub is_work : work_in (graph_at (graphs_of p) None) n ≡ Some work
    pub does : EffectsDo p a (work_effects None work) c

  -- what the innermost function may do, the node of `main` at which the first call was made may do
  calls_do : (a : Access) (n h : ℕ) (frs : List Frame) (c : ℕ) → AreCalls p n (Some h) frs → ReachesAccess p (bodies p) a h c → MainDoes a n c
  calls_do a n h [] c calls r = absurd calls
  calls_do a n h (fr ∷ []) c calls r = first fr.function refl
    where
      first : (o : Option ℕ) → fr.function ≡ o → MainDoes a n c
      first None is =
          let call = calls.0 in
          record {
            edge = call.edge;
            work = call.work;
            is_edge = subst (λ o. edge_in (graph_at (graphs_of p) o) n ≡ Some call.edge) is call.is_edge;
            is_work = subst (λ o. work_in (graph_at (graphs_of p) o) n ≡ Some call.work) is call.is_work;
            does = called_does a None call.work h c fr.waits call.calls r;
          }
      first (Some j) is = absurd (subst (λ o. AreCalls p n o []) is calls.1)
  calls_do a n h (fr ∷ (below ∷ frs)) c calls r = later (λ j b q. calls_do a n j (below ∷ frs) c b q) fr.function refl
    where
      later : ((j : ℕ) → AreCalls p n (Some j) (below ∷ frs) → ReachesAccess p (bodies p) a j c → MainDoes a n c) → (o : Option ℕ) → fr.function ≡ o → MainDoes a n c
      later go None is = absurd (subst (λ o. AreCalls p n o (below ∷ frs)) is calls.1)
      later go (Some j) is =
          let k = calls.0.0 in
          let call = calls.0.1 in
          let node = node_of p (Some j) k call.work (subst (λ o. work_in (graph_at (graphs_of p) o) k ≡ Some call.work) is call.is_work) in
          go j (subst (λ o. AreCalls p n o (below ∷ frs)) is calls.1) (function_does a p j k call.work c node (called_does a (Some j) call.work h c fr.waits call.calls r))

  -- so does what a node of the innermost function may do
  pub node_does : (a : Access) (n : ℕ) (f : Option ℕ) (m : ℕ) (frs : List Frame) (to : Edge) (k : NodeWork) (c : ℕ) → AreCalls p n f frs → (frs ≡ [] → n ≡ m) → edge_in (graph_at (graphs_of p) f) m ≡ Some to → work_in (graph_at (graphs_of p) f) m ≡ Some k → EffectsDo p a (work_effects f k) c → MainDoes a n c
  node_does a n None m [] to k c calls out e w d = record {
    edge = to;
    work = k;
    is_edge = subst (λ i. edge_in (graph_at (graphs_of p) None) i ≡ Some to) (sym (out refl)) e;
    is_work = subst (λ i. work_in (graph_at (graphs_of p) None) i ≡ Some k) (sym (out refl)) w;
    does = d;
  }
  node_does a n None m (fr ∷ frs) to k c calls out e w d = absurd calls
  node_does a n (Some f) m frs to k c calls out e w d = calls_do a n f frs c calls (function_does a p f m k c (node_of p (Some f) m k w) d)

pub outside_node : (l : Place) (m : ℕ) (frs : List Frame) → IsOutside l m frs → frs ≡ [] → l.node ≡ m
outside_node l m frs out e = (subst (λ (q : List Frame). IsOutside l m q) e out).0

-- ---- what counts

module _ (p : Resolved) (g : effects.Graph) (mg : IsMainGraph p g) where
  -- what a node of `main` may read is wanted before it
  pub main_reads : (m : ℕ) (to : Edge) (k : NodeWork) (c : ℕ) → edge_in (graph_at (graphs_of p) None) m ≡ Some to → work_in (graph_at (graphs_of p) None) m ≡ Some k → c < cell_count p → NodeReads p None k c → IsWanted g c m
  main_reads m to k c e w lt r =
      let node = mg.nodes m to k e w in
      let within = slice_get_within (works_of_body p.main.body) m k w in
      ([], omega (arith, mg.count, within), (node.reads c lt).1 r)

  is_at_itself : (o : Option ℕ) (m : ℕ) → o ≡ Some m → is_at o m ≡ true
  is_at_itself o m e = ap (λ x. is_at x m) e ∙ eq-eqb m m refl

  pub edge_there : (m m' : ℕ) (to : Edge) → next_of g m ≡ to → (to.0 ≡ Some m') ⊎ (to.1 ≡ Some m') → has_edge g m m' ≡ true
  edge_there m m' to is (inl e) = or_left (is_at (next_of g m).0 m') (is_at (next_of g m).1 m') (is_at_itself (next_of g m).0 m' (ap (λ (x : Edge). x.0) is ∙ e))
  edge_there m m' to is (inr e) = or_right (is_at (next_of g m).0 m') (is_at (next_of g m).1 m') (is_at_itself (next_of g m).1 m' (ap (λ (x : Edge). x.1) is ∙ e))

  -- what is wanted before the next node is wanted before this one, or this one kills it
  pub next_wanted : (m m' : ℕ) (to : Edge) (k : NodeWork) (c : ℕ) → edge_in (graph_at (graphs_of p) None) m ≡ Some to → work_in (graph_at (graphs_of p) None) m ≡ Some k → (to.0 ≡ Some m') ⊎ (to.1 ≡ Some m') → c < cell_count p → IsWanted g c m' → IsWanted g c m ⊎ NodeKills p None k c
  next_wanted m m' to k c e w at lt wanted =
      let node = mg.nodes m to k e w in
      elim (cases_Bool (kills g m c)) [
        | inl y ↦ inr ((node.kills c lt).0 y)
        | inr n ↦ inl (m' ∷ wanted.0, (edge_there m m' to node.next at, wanted.1), (n, wanted.2))
      ]

  -- what the next node may read counts
  pub node_counts : (l : Place) (f : Option ℕ) (m : ℕ) (frs : List Frame) (to : Edge) (k : NodeWork) (c : ℕ) → AreCalls p l.node f frs → IsOutside l m frs → edge_in (graph_at (graphs_of p) f) m ≡ Some to → work_in (graph_at (graphs_of p) f) m ≡ Some k → c < cell_count p → NodeReads p f k c → Counts g l c
  node_counts l f m frs to k c a out e w lt r =
      let d = node_does p access'.Read l.node f m frs to k c a (outside_node l m frs out) e w r in
      inl (main_reads l.node d.edge d.work c d.is_edge d.is_work lt d.does)

  -- what the next node may write, the node of `main` may write, from which the calls come
  pub node_writes : (n : ℕ) (f : Option ℕ) (m : ℕ) (frs : List Frame) (to : Edge) (k : NodeWork) (c : ℕ) → AreCalls p n f frs → (frs ≡ [] → n ≡ m) → edge_in (graph_at (graphs_of p) f) m ≡ Some to → work_in (graph_at (graphs_of p) f) m ≡ Some k → c < cell_count p → NodeWrites p f k c → may_write g n c ≡ true
  node_writes n f m frs to k c a out e w lt r =
      let d = node_does p access'.Write n f m frs to k c a out e w r in
      ((mg.nodes n d.edge d.work d.is_edge d.is_work).writes c lt).1 d.does

-- ---- into a call

-- a word of the locals at entry is an argument's, or 0
entry_word : (P : ℕ → Type 0) (as' : List ℕ) (k i : ℕ) → P 0 → (i < length as' → P (get_or as' i 0)) → P (get_or (as' ++ replicate k 0) i 0)
entry_word P [] zero i z h = z
entry_word P [] (suc k) zero z h = z
entry_word P [] (suc k) (suc i) z h = entry_word P [] k i z (λ lt. absurd (omega arith))
entry_word P (a ∷ as') k zero z h = h (omega arith)
entry_word P (a ∷ as') k (suc i) z h = entry_word P as' k i z (λ lt. h (omega arith))

-- each parameter is a local
parameter_kind : (n : ℕ) (ls : List RLocal) (i : ℕ) (b : Bool) → slice_get (map (λ l. l.is_pointer) (take n ls)) i ≡ Some b → local_kind ls i ≡ Some b
parameter_kind zero ls i b e = absurd (none-some b e)
parameter_kind (suc n) [] i b e = absurd (none-some b e)
parameter_kind (suc n) (l ∷ ls) zero b e = e
parameter_kind (suc n) (l ∷ ls) (suc i) b e = parameter_kind n ls i b e

module _ (p : Resolved) (h : IsChecked p) (f : Option ℕ) (w : World) (world : IsWorldOf p f w) (E : ℕ → Type 0) (s t : State) (alike : AreAlike p E s t) (keep : KeepsPointers p E f s) where
  abbrev Reads : List Effect → Type 0
  Reads es = (c : ℕ) → c < cell_count p → Touches p access'.Read es c → E c

  -- the kinds of all arguments are known
  abbrev pub HaveKinds : List RExpr → Type 0
  HaveKinds [] = Unit {0}
  HaveKinds (e ∷ es) = ((b : Bool) × (kind w e ≡ Some b)) × HaveKinds es

  pub given_kinds : (ps : List Bool) (es : List RExpr) → are_given w ps es ≡ true → HaveKinds es
  given_kinds [] [] g = tt
  given_kinds [] (e ∷ es) g = absurd (false≢true g)
  given_kinds (b ∷ ps) [] g = tt
  given_kinds (b ∷ ps) (e ∷ es) g =
      let q = and_parts (agree (Some b) (kind w e)) (are_given w ps es) g in
      let a = agree_some (Some b) (kind w e) q.0 in
      ((a.0, a.2), given_kinds ps es q.1)

  pub same_values : (es : List RExpr) → HaveKinds es → Reads (all_effects f es) → values es s.variables ≡ values es t.variables
  same_values [] k r = refl
  same_values (e ∷ es) k r =
      let one = same_value p h f w world E s t alike keep e k.0.0 k.0.1 (λ c lt x. r c lt (touches_left p access'.Read (expr_effects f e) (all_effects f es) c x)) in
      let more = same_values es k.1 (λ c lt x. r c lt (touches_right p access'.Read (expr_effects f e) (all_effects f es) c x)) in
      (λ i. one i >>= (λ a. more i >>= (λ as'. Ok (a ∷ as'))))

  -- the values of arguments, one by one
  pub record Split (e : RExpr) (es : List RExpr) (as' : List ℕ) : Type 0 where
    pub head : ℕ
    pub tail : List ℕ
    pub is : as' ≡ head ∷ tail
    pub first : value e s.variables ≡ Ok head
    pub rest : values es s.variables ≡ Ok tail

  same_list : (x y : List ℕ) → ◌≡◌ {A = Result (List ℕ) Trap} (Ok x) (Ok y) → x ≡ y
  same_list x y e = cc

  split : (e : RExpr) (es : List RExpr) (as' : List ℕ) → values (e ∷ es) s.variables ≡ Ok as' → Split e es as'
  split e es as' is = by (value e s.variables) (values es s.variables) refl refl is
    where
      by : (r : Result ℕ Trap) (rs : Result (List ℕ) Trap) → value e s.variables ≡ r → values es s.variables ≡ rs → (r >>= (λ a. rs >>= (λ as'. Ok (a ∷ as')))) ≡ Ok as' → Split e es as'
      by (Err x) rs i j k = absurd cc
      by (Ok a) (Err x) i j k = absurd cc
      by (Ok a) (Ok bs) i j k = record { head = a; tail = bs; is = sym (same_list (a ∷ bs) as' k); first = i; rest = j }

  -- the arguments from the j-th on go into pointers that may hold them
  module _ (g : ℕ) where
    args_kept : (ps : List Bool) (es : List RExpr) (as' : List ℕ) (j i : ℕ) → are_given w ps es ≡ true → values es s.variables ≡ Ok as' → Reads (all_effects f es) → ((x : Flow) → Has (passed f g j es) x → Has (flows p) x) → i < length as' → ((b : Bool) → slice_get ps i ≡ Some b → b ≡ true) → IsKept p (var.Local g (j + i)) (get_or as' i 0)
    args_kept [] [] as' j i gv vs r fl lt k = absurd (let e = ap (λ (l : List ℕ). length l) (same_list [] as' vs) in omega arith)
    args_kept [] (e ∷ es) as' j i gv vs r fl lt k = absurd (false≢true gv)
    args_kept (b ∷ ps) [] as' j i gv vs r fl lt k = absurd (false≢true gv)
    args_kept (b ∷ ps) (e ∷ es) as' j zero gv vs r fl lt k =
        let q = and_parts (agree (Some b) (kind w e)) (are_given w ps es) gv in
        let a = agree_some (Some b) (kind w e) q.0 in
        let z = split e es as' vs in
        let tr = k b refl in
        let kept = value_kept p h f w world E s t alike keep e b (a.2 ∙ sym a.1) tr (λ c lt x. r c lt (touches_left p access'.Read (expr_effects f e) (all_effects f es) c x)) z.head z.first (var.Local g j) (fl (record { into = var.Local g j; from = source f e }) (0, refl)) in
        subst (λ (l : List ℕ). IsKept p (var.Local g (j + 0)) (get_or l 0 0)) (sym z.is) (subst (λ i. IsKept p (var.Local g i) z.head) (omega arith) kept)
    args_kept (b ∷ ps) (e ∷ es) as' j (suc i) gv vs r fl lt k =
        let q = and_parts (agree (Some b) (kind w e)) (are_given w ps es) gv in
        let z = split e es as' vs in
        let l = ap (λ (l : List ℕ). length l) z.is in
        let more = args_kept ps es z.tail (j + 1) i q.1 z.rest (λ c lt x. r c lt (touches_right p access'.Read (expr_effects f e) (all_effects f es) c x)) (λ x y. let m = y in fl x (suc m.0, m.1)) (omega arith) k in
        subst (λ (l : List ℕ). IsKept p (var.Local g (j + suc i)) (get_or l (suc i) 0)) (sym z.is) (subst (λ n. IsKept p (var.Local g n) (get_or z.tail i 0)) (omega arith) more)

    parameters_many : (ps : List Bool) (es : List RExpr) (as' : List ℕ) → are_given w ps es ≡ true → values es s.variables ≡ Ok as' → length as' ≡ length ps
    parameters_many [] [] as' gv vs = sym (ap (λ (l : List ℕ). length l) (same_list [] as' vs))
    parameters_many [] (e ∷ es) as' gv vs = absurd (false≢true gv)
    parameters_many (b ∷ ps) [] as' gv vs = absurd (false≢true gv)
    parameters_many (b ∷ ps) (e ∷ es) as' gv vs =
        let q = and_parts (agree (Some b) (kind w e)) (are_given w ps es) gv in
        let z = split e es as' vs in
        let l = ap (λ (l : List ℕ). length l) z.is in
        let m = parameters_many ps es z.tail q.1 z.rest in
        omega arith

    -- the pointers among the locals at entry keep to what they may hold
    pub entry_kept : (fn : RFunction) (n : ℕ) (es : List RExpr) (as' : List ℕ) → slice_get p.functions g ≡ Some fn → are_given w (signature fn).parameters es ≡ true → values es s.variables ≡ Ok as' → Reads (all_effects f es) → ((x : Flow) → Has (passed f g 0 es) x → Has (flows p) x) → KeepsLocals p (Some g) (entry_locals n as')
    entry_kept fn n es as' is gv vs r fl i m =
        entry_word (IsKept p (var.Local g i)) as' (n - length as') i (zero_kept p (var.Local g i))
        (λ lt. subst (λ j. IsKept p (var.Local g j) (get_or as' i 0)) (omega arith) (args_kept (signature fn).parameters es as' 0 i gv vs r fl lt
        (λ b e. same_Some b true (sym (parameter_kind fn.parameters fn.locals i b e) ∙ (sym (ap (λ (o : Option RFunction). option_and_then (λ x. local_kind x.locals i) o) is) ∙ m)))))
