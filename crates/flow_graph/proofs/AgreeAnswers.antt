-- States agree again when a call begins and when it ends.
use Rattle.std.proofs.Common.{◌≡◌, ℕ, ◌<◌, Bool, true, false, List, [], ◌∷◌, length, Option, Some, None, inl, inr, ⊎_elim, refl, sym, ap, ◌∙◌, subst}
use Rattle.std.specs.Prelude.{slice_get, nat_lt, if◌then◌else◌}
use Rattle.std.specs.Option.{option_map}
use Rattle.std.specs.List.{Contains}
use Rattle.std.proofs.lemmas.Option.{none-some, same_Some, some_pair_parts}
use Rattle.ckpt_base.specs.declared.trap.Trap.TheVariants.{TooManyCalls}
use Rattle.ckpt_base.specs.Trap.{trap_number}
use Rattle.ckpt_base.specs.declared.ending.Ending.TheVariants.{Ended, Trapped}
use Rattle.ckpt_base.specs.Word.{signed}
use Rattle.c_tree.specs.declared.resolved.RExpr.{RExpr}
use Rattle.c_tree.specs.declared.resolved.RPlace.{RPlace}
use Rattle.c_tree.specs.declared.resolved.RFunction.{RFunction}
use Rattle.c_tree.specs.declared.resolved.Resolved.{Resolved}
use Rattle.c_tree.specs.Layout.{cell_count}
use Rattle.c_tree.specs.Kinds.{Signature, are_given, call_kind}
use Rattle.c_tree.specs.Checked.{IsChecked, signature}
use Rattle.c_tree.specs.State.{State, store, with_locals, entry_locals}
use Rattle.path_laws.specs.Graph as effects
use Rattle.flow_graph.specs.declared.node.NodeWork.{NodeWork}
use Rattle.flow_graph.specs.declared.node.NodeWork.TheVariants as work
use Rattle.flow_graph.specs.MainGraph.{IsMainGraph}
use Rattle.flow_graph.specs.Run.{Graph, Waits, Store, Return, Frame, Spot, spot, graphs_of, graph_at, edge_in, work_in, given, goes, resumes, answers, enters, made, nowhere}
use Rattle.flow_graph.specs.Agreement.{call_of, IsCallOf, IsCallOver, AreCalls, Place, IsOutside, moved, Counts, AreAlike, KeepsLocals, KeepsFrames, KeepsPointers, StepsAgree}
use Rattle.flow_graph.proofs.AgreeText.{nothing_more}
use Rattle.flow_graph.proofs.AgreeFlows.{call_given}
use Rattle.flow_graph.proofs.AgreeStores.{With, nothing_there, alike_less, keeps_less, Did, Never, did_store, did_then, locals_alike, locals_keep, KilledBy}
use Rattle.flow_graph.proofs.AgreeCalls.{IsWorkOf, node_of, work_of, next_wanted}
use Rattle.flow_graph.proofs.AgreeGoing.{ends_alike, IsUnder, goes_agree, given_agree, IsAnswer, call_gives, stored_answer, handed_answer}

-- ---- what waits is a call's

module _ (j : ℕ) where
  no_call : {A : Type 0} (w : Waits) → ◌≡◌ {A = Option (Waits × ℕ)} None (Some (w, j)) → A
  no_call w e = absurd (none-some (w, j) e)

  return_stores : {A : Type 0} (o : Option RPlace) → Return ≡ Store o → A
  return_stores o e = absurd cc

  stores_return : {A : Type 0} (o : Option RPlace) → Store o ≡ Return → A
  stores_return o e = absurd cc

  same_place : (o o' : Option RPlace) → Store o ≡ Store o' → o ≡ o'
  same_place o o' e = cc

  -- an answer that is stored is that of a call node
  pub store_call : (o : Option RPlace) (k : NodeWork) → call_of k ≡ Some (Store o, j) → (es : List RExpr) × (k ≡ work.Call o j es)
  store_call o (work.Call o' i es) e = let q = some_pair_parts (Store o') (Store o) i j e in (es, (λ n. work.Call (same_place o' o q.0 n) (q.1 n) es))
  store_call o (work.ReturnCall i es) e = return_stores o (some_pair_parts Return (Store o) i j e).0
  store_call o (work.Declare a b) e = no_call (Store o) e
  store_call o (work.Set a b) e = no_call (Store o) e
  store_call o (work.Input a) e = no_call (Store o) e
  store_call o (work.Return a) e = no_call (Store o) e
  store_call o work.ReturnInput e = no_call (Store o) e
  store_call o (work.Put a) e = no_call (Store o) e
  store_call o (work.Print a b) e = no_call (Store o) e
  store_call o (work.Test a) e = no_call (Store o) e
  store_call o work.Checkpoint e = no_call (Store o) e
  store_call o (work.Exclude a) e = no_call (Store o) e
  store_call o work.End e = no_call (Store o) e

  -- and one that is handed on that of a return
  pub return_call : (k : NodeWork) → call_of k ≡ Some (Return, j) → (es : List RExpr) × (k ≡ work.ReturnCall j es)
  return_call (work.ReturnCall i es) e = let q = some_pair_parts Return Return i j e in (es, (λ n. work.ReturnCall (q.1 n) es))
  return_call (work.Call o i es) e = stores_return o (some_pair_parts (Store o) Return i j e).0
  return_call (work.Declare a b) e = no_call Return e
  return_call (work.Set a b) e = no_call Return e
  return_call (work.Input a) e = no_call Return e
  return_call (work.Return a) e = no_call Return e
  return_call work.ReturnInput e = no_call Return e
  return_call (work.Put a) e = no_call Return e
  return_call (work.Print a b) e = no_call Return e
  return_call (work.Test a) e = no_call Return e
  return_call work.Checkpoint e = no_call Return e
  return_call (work.Exclude a) e = no_call Return e
  return_call work.End e = no_call Return e

-- the node at which a call that waits was made
pub record CallAt (p : Resolved) (n j : ℕ) (fr : Frame) (frs : List Frame) : Type 0 where
  pub node : ℕ
  pub call : IsCallOf p j fr node
  pub first : frs ≡ [] → node ≡ n

pub call_at : (p : Resolved) (n j : ℕ) (fr : Frame) (frs : List Frame) → IsCallOver p n j fr frs → CallAt p n j fr frs
call_at p n j fr [] c = record { node = n; call = c; first = λ e. refl }
call_at p n j fr (below ∷ frs) c = record { node = c.0; call = c.1; first = λ e. absurd cc }

-- with no call below it, the function is `main`
pub main_below : (p : Resolved) (n : ℕ) (f : Option ℕ) (frs : List Frame) → AreCalls p n f frs → frs ≡ [] → f ≡ None
main_below p n None frs c e = refl
main_below p n (Some f) [] c e = absurd c
main_below p n (Some f) (fr ∷ frs) c e = absurd cc

module _ (p : Resolved) (h : IsChecked p) (g : effects.Graph) (mg : IsMainGraph p g) (l : Place) (f0 : Option ℕ) (m0 : ℕ) (b0 : Frame) (from0 : List Frame) (s : State) where
  abbrev x : Spot
  x = spot f0 m0 (b0 ∷ from0)

  abbrev E : ℕ → Type 0
  E = Counts g l

  under : (to : List Frame) → IsUnder (b0 ∷ from0) to
  under [] = tt
  under (fr ∷ to) = tt

  -- back in a call, or in `main`, with its locals
  abbrev back : (f : Option ℕ) (ls : List ℕ) (s1 t1 : State) → Did p E None Never s s1 t1 → KeepsLocals p f ls → Did p E f Never s (with_locals ls s1) (with_locals ls t1)
  back f ls s1 t1 d k = record {
    more = d.more;
    events = d.events;
    alike = locals_alike p (With E d.more) None s1 t1 d.alike d.keeps ls;
    keeps = locals_keep p (With E d.more) None s1 t1 d.alike d.keeps f ls k;
    killed = λ c z. absurd z;
  }

  abbrev outside_locals : (f : Option ℕ) (s1 t1 : State) → Did p E f Never s s1 t1 → Did p E None Never s s1 t1
  outside_locals f s1 t1 d = record { more = d.more; events = d.events; alike = d.alike; keeps = record { cells = d.keeps.cells; locals = tt }; killed = λ c z. absurd z }

  -- an answer is stored where a call waits for it
  stores_agree : (o : Option RPlace) (j : ℕ) (es : List RExpr) (fr : Frame) (frs : List Frame) (a : ℕ) (s1 t1 : State) (d : Did p E None Never s s1 t1) (i : ℕ) (at : CallAt p l.node j fr frs) → at.call.work ≡ work.Call o j es → AreCalls p l.node fr.function frs → KeepsLocals p fr.function fr.locals → KeepsFrames p frs → IsAnswer p (Some j) a
      → StepsAgree p g l x s (given (store o a (with_locals fr.locals s1)) (with_locals fr.locals s1) (λ t. goes fr.function frs fr.next t i)) (given (store o a (with_locals fr.locals t1)) (with_locals fr.locals t1) (λ t. goes fr.function frs fr.next t i))
  stores_agree o j es fr frs a s1 t1 d i at is calls locals frames ans =
      let f = fr.function in
      let s2 = with_locals fr.locals s1 in
      let t2 = with_locals fr.locals t1 in
      let d2 = back f fr.locals s1 t1 d locals in
      let in_work = subst (λ (k : NodeWork). work_in (graph_at (graphs_of p) f) at.node ≡ Some k) is at.call.is_work in
      let w = work_of p h f at.node (work.Call o j es) (node_of p f at.node (work.Call o j es) in_work) in
      let K = KilledBy p f o in
      let stored = did_store p h f w.world w.is_world (With E d.more) s2 t2 d2.alike d2.keeps o a (call_kind w.world j es) w.keeps
      (λ e v q. stored_answer p h f at.node o j es a w ans (call_kind w.world j es) e v q (call_gives p h f at.node (work.Call o j es) w j es e)) in
      let did = did_then p E f K s s2 t2 d2 (store o a s2) (store o a t2) stored in
      given_agree p h g mg l f0 m0 (b0 ∷ from0) s (With E d.more) f K s2 t2 d2.alike (store o a s2) (store o a t2) did (λ t. goes f frs fr.next t i) (λ t. goes f frs fr.next t i)
      (λ u v du. goes_agree p h g mg l f0 m0 (b0 ∷ from0) s f frs fr.next K u v du i (under frs) calls frames
      (λ n e nil c lt wanted.
      let main = main_below p l.node f frs calls nil in
      let same = at.first nil in
      let edge = subst (λ (q : ℕ). edge_in (graph_at (graphs_of p) None) q ≡ Some at.call.edge) same (subst (λ (q : Option ℕ). edge_in (graph_at (graphs_of p) q) at.node ≡ Some at.call.edge) main at.call.is_edge) in
      let node = subst (λ (q : ℕ). work_in (graph_at (graphs_of p) None) q ≡ Some (work.Call o j es)) same (subst (λ (q : Option ℕ). work_in (graph_at (graphs_of p) q) at.node ≡ Some (work.Call o j es)) main in_work) in
      ⊎_elim (λ y. inl y) (λ y. inr (subst (λ (q : Option ℕ). KilledBy p q o c) (sym main) y)) (next_wanted p g mg l.node n at.call.edge (work.Call o j es) c edge node (inl (sym at.call.next ∙ e)) lt wanted)))

  -- the innermost call takes an answer
  abbrev Later : List Frame → ℕ → ℕ → Type 0
  Later frs a i = (f : Option ℕ) (s1 t1 : State) → Did p E None Never s s1 t1 → AreCalls p l.node f frs → KeepsFrames p frs → IsAnswer p f a → StepsAgree p g l x s (answers frs a s1 i) (answers frs a t1 i)

  takes_agree : (ws : Waits) (j : ℕ) (fr : Frame) (frs : List Frame) (a : ℕ) (s1 t1 : State) (d : Did p E None Never s s1 t1) (i : ℕ) (at : CallAt p l.node j fr frs) → fr.waits ≡ ws → AreCalls p l.node fr.function frs → KeepsLocals p fr.function fr.locals → KeepsFrames p frs → IsAnswer p (Some j) a
      → Later frs a i → StepsAgree p g l x s (resumes ws fr frs (answers frs) a (with_locals fr.locals s1) i) (resumes ws fr frs (answers frs) a (with_locals fr.locals t1) i)
  takes_agree (Store o) j fr frs a s1 t1 d i at is calls locals frames ans later =
      let q = store_call j o at.call.work (at.call.calls ∙ ap (λ (w : Waits). Some (w, j)) is) in
      stores_agree o j q.0 fr frs a s1 t1 d i at q.1 calls locals frames ans
  takes_agree Return j fr frs a s1 t1 d i at is calls locals frames ans later =
      let q = return_call j at.call.work (at.call.calls ∙ ap (λ (w : Waits). Some (w, j)) is) in
      let f = fr.function in
      let in_work = subst (λ (k : NodeWork). work_in (graph_at (graphs_of p) f) at.node ≡ Some k) q.1 at.call.is_work in
      let w = work_of p h f at.node (work.ReturnCall j q.0) (node_of p f at.node (work.ReturnCall j q.0) in_work) in
      later f (with_locals fr.locals s1) (with_locals fr.locals t1) (outside_locals f (with_locals fr.locals s1) (with_locals fr.locals t1) (back f fr.locals s1 t1 d locals)) calls frames (handed_answer p h f at.node j q.0 a w ans)

  -- a call ends with its answer
  pub answers_agree : (frs : List Frame) (a i : ℕ) (f : Option ℕ) (s1 t1 : State) → Did p E None Never s s1 t1 → AreCalls p l.node f frs → KeepsFrames p frs → IsAnswer p f a → StepsAgree p g l x s (answers frs a s1 i) (answers frs a t1 i)
  answers_agree [] a i f s1 t1 d calls frames ans = ends_alike p (With E d.more) s1 t1 (Ended (signed a)) d.alike
  answers_agree (fr ∷ frs) a i None s1 t1 d calls frames ans = absurd calls
  answers_agree (fr ∷ frs) a i (Some j) s1 t1 d calls frames ans =
      takes_agree fr.waits j fr frs a s1 t1 d i (call_at p l.node j fr frs calls.0) refl calls.1 frames.0 frames.1 ans (λ f s2 t2 d2 c k n. answers_agree frs a i f s2 t2 d2 c k n)

-- ---- a call begins

module _ (p : Resolved) (h : IsChecked p) (f : Option ℕ) (m : ℕ) (k : NodeWork) (w : IsWorkOf p f m k) where
  pub record IsCalled (j : ℕ) (es : List RExpr) : Type 0 where
    pub function : RFunction
    pub is : slice_get p.functions j ≡ Some function
    pub given : are_given w.world (signature function).parameters es ≡ true

  -- the function of a call that keeps the rules is there, and takes its arguments
  pub called_there : (j : ℕ) (es : List RExpr) (b : Bool) → call_kind w.world j es ≡ Some b → IsCalled j es
  called_there j es b e = let q = call_given p f w.world w.is_world (w.world.function j) es b e in by (slice_get p.functions j) refl q.0 (sym (w.functions j) ∙ q.1) q.2
    where
      by : (o : Option RFunction) → slice_get p.functions j ≡ o → (sg : Signature) → option_map signature (slice_get p.functions j) ≡ Some sg → are_given w.world sg.parameters es ≡ true → IsCalled j es
      by None is sg e' gv = absurd (none-some sg (sym (ap (option_map signature) is) ∙ e'))
      by (Some fn) is sg e' gv = record { function = fn; is = is; given = subst (λ (z : Signature). are_given w.world z.parameters es ≡ true) (sym (same_Some (signature fn) sg (sym (ap (option_map signature) is) ∙ e'))) gv }

module _ (p : Resolved) (g : effects.Graph) (l : Place) (m : ℕ) (fr : Frame) (frs : List Frame) (s : State) where
  abbrev x' : Spot
  x' = spot fr.function m frs

  -- the first call is made at the place's node
  over_there : (j : ℕ) (frs' : List Frame) → IsOutside l m frs' → IsCallOf p j fr m → IsCallOver p l.node j fr frs'
  over_there j [] out c = subst (λ n. IsCallOf p j fr n) (sym out.0) c
  over_there j (below ∷ frs') out c = (m, c)

  same_counts : (frs' : List Frame) (n c : ℕ) → IsOutside l m frs' → Counts g (moved l n frs' (fr ∷ frs') []) c → Counts g l c
  same_counts [] n c out (inl y) = inl y
  same_counts [] n c out (inr y) = nothing_there c y
  same_counts (below ∷ frs') n c out (inl y) = inl y
  same_counts (below ∷ frs') n c out (inr y) = inr (subst (λ (z : List ℕ). Contains z c) (nothing_more None l.written) y)

  same_node : (frs' : List Frame) (n : ℕ) → (moved l n frs' (fr ∷ frs') []).node ≡ l.node
  same_node [] n = refl
  same_node (below ∷ frs') n = refl

  enters_agree : (o : Option Graph) (j : ℕ) (as' : List ℕ) (s1 t1 : State) (i : ℕ) → AreAlike p (Counts g l) s1 t1 → KeepsPointers p (Counts g l) fr.function s1 → s1.events ≡ s.events → IsCallOf p j fr m → IsOutside l m frs → AreCalls p l.node fr.function frs → KeepsLocals p fr.function fr.locals → KeepsFrames p frs → ((n : ℕ) → KeepsLocals p (Some j) (entry_locals n as'))
      → StepsAgree p g l x' s (enters o j (fr ∷ frs) as' s1 i) (enters o j (fr ∷ frs) as' t1 i)
  enters_agree None j as' s1 t1 i alike keep ev call out calls locals frames entry = ends_alike p (Counts g l) s1 t1 (Trapped (trap_number TooManyCalls)) alike
  enters_agree (Some gr) j as' s1 t1 i alike keep ev call out calls locals frames entry =
      let l' = moved l gr.entry frs (fr ∷ frs) [] in
      let ls = entry_locals gr.locals as' in
      let s2 = with_locals ls s1 in
      let t2 = with_locals ls t1 in
      let less : (c : ℕ) → c < cell_count p → Counts g l' c → Counts g l c = λ c lt y. same_counts frs gr.entry c out y in
      let alike2 = locals_alike p (Counts g l) fr.function s1 t1 alike keep ls in
      let keep2 = locals_keep p (Counts g l) fr.function s1 t1 alike keep (Some j) ls (entry gr.locals) in
      record {
        spot = refl;
        ticks = refl;
        more = [];
        events = ev ∙ sym (nothing_more None s.events);
        agree = record {
          calls = subst (λ (n : ℕ). AreCalls p n (Some j) (fr ∷ frs)) (sym (same_node frs gr.entry)) (over_there j frs out call, calls);
          outside = tt;
          alike = alike_less p (Counts g l) (Counts g l') (Some j) less s2 t2 alike2;
          pointers = keeps_less p (Counts g l) (Counts g l') (Some j) less s2 t2 alike2 keep2;
          frames = (locals, frames);
        };
        counts = λ c lt y. inl (same_counts frs gr.entry c out y);
      }

  pub made_agree : (j : ℕ) (as' : List ℕ) (s1 t1 : State) (i : ℕ) → AreAlike p (Counts g l) s1 t1 → KeepsPointers p (Counts g l) fr.function s1 → s1.events ≡ s.events → IsCallOf p j fr m → IsOutside l m frs → AreCalls p l.node fr.function frs → KeepsLocals p fr.function fr.locals → KeepsFrames p frs → ((n : ℕ) → KeepsLocals p (Some j) (entry_locals n as'))
      → StepsAgree p g l x' s (made (graphs_of p) fr frs j as' s1 i) (made (graphs_of p) fr frs j as' t1 i)
  made_agree j as' s1 t1 i alike keep ev call out calls locals frames entry = by (nat_lt (length frs) 1000)
    where
      by : (b : Bool) → StepsAgree p g l x' s (if b then enters (slice_get (graphs_of p).functions j) j (fr ∷ frs) as' s1 i else nowhere s1 i) (if b then enters (slice_get (graphs_of p).functions j) j (fr ∷ frs) as' t1 i else nowhere t1 i)
      by true = enters_agree (slice_get (graphs_of p).functions j) j as' s1 t1 i alike keep ev call out calls locals frames entry
      by false = ends_alike p (Counts g l) s1 t1 (Trapped (trap_number TooManyCalls)) alike
