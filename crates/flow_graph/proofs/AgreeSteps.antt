-- One step from two states that agree.
use Rattle.std.proofs.Common.{◌≡◌, ℕ, negsuc, zero, suc, ◌<◌, ◌⊎◌, Bool, true, false, List, [], ◌∷◌, ◌++◌, map, length, Option, Some, None, Result, Ok, Err, inl, inr, ⊎_elim, refl, sym, ap, ◌∙◌, subst}
use Rattle.std.specs.Prelude.{nat_eq, count_by, if◌then◌else◌}
use Rattle.std.specs.List.{list_all}
use Rattle.std.proofs.lemmas.Bool.{false≢true, and_parts}
use Rattle.std.proofs.lemmas.Option.{none-some, same_Some}
use Rattle.ckpt_base.specs.declared.trap.Trap.{Trap}
use Rattle.ckpt_base.specs.declared.ending.Ending.TheVariants.{Ended, Going, Trapped}
use Rattle.ckpt_base.specs.declared.trap.Trap.TheVariants.{TooManyCalls}
use Rattle.ckpt_base.specs.Trap.{trap_number}
use Rattle.ckpt_base.specs.Word.{signed, word_of, word_holds, word_low_byte}
use Rattle.ckpt_base.specs.Event.{Byte, Took, Excluded, Checkpoint}
use Rattle.c_tree.specs.declared.tree.PrintPiece.{PrintPiece}
use Rattle.c_tree.specs.declared.resolved.RExpr.{RExpr}
use Rattle.c_tree.specs.declared.resolved.RPlace.{RPlace}
use Rattle.c_tree.specs.declared.resolved.Resolved.{Resolved}
use Rattle.c_tree.specs.Layout.{cell_count}
use Rattle.c_tree.specs.Kinds.{World, is_number, is_hole, kind, call_kind}
use Rattle.c_tree.specs.Checked.{IsChecked, signature}
use Rattle.c_tree.specs.State.{State, Action, ◌>>=◌, value, values, declare, set as assign, store, put, printed, write_out, take_from, take, input, exclude, checkpoint, ticked, with_event}
use Rattle.alias_sets.specs.declared.flows.PointerVar.{PointerVar}
use Rattle.alias_sets.specs.declared.flows.PointerVar.TheVariants as var
use Rattle.alias_sets.specs.declared.flows.Source.{Source}
use Rattle.alias_sets.specs.declared.flows.Source.TheVariants as source'
use Rattle.alias_sets.specs.declared.flows.Flow.{Flow}
use Rattle.alias_sets.specs.Flows as text
use Rattle.alias_sets.specs.Flows.{source, variable, passed, perhaps_variable, flows}
use Rattle.path_laws.specs.Graph as effects
use Rattle.access_summary.specs.Edges.{Edge}
use Rattle.access_summary.specs.declared.effects.Effect.TheVariants as effect
use Rattle.access_summary.specs.declared.touch.Access.TheVariants as access'
use Rattle.access_summary.specs.Effects as reads
use Rattle.access_summary.specs.Effects.{all_effects, call_effects, pointer_effects}
use Rattle.access_summary.specs.Touch.{Touches}
use Rattle.flow_graph.specs.declared.node.NodeWork.{NodeWork}
use Rattle.flow_graph.specs.declared.node.NodeWork.TheVariants as work
use Rattle.flow_graph.specs.NodeEffects.{work_effects, work_place}
use Rattle.flow_graph.specs.MainGraph.{IsMainGraph}
use Rattle.flow_graph.specs.Run as r
use Rattle.flow_graph.specs.Run.{Graphs, Waits, Store, Return, Frame, Spot, spot, Step, Over, On, Steps, graphs_of, graph_at, edge_in, work_in, given, goes, ticks, answers, does, does_node, step, made}
use Rattle.flow_graph.specs.Wanted.{IsWanted}
use Rattle.flow_graph.specs.Agreement.{call_of, AreCalls, Place, IsOutside, wrote, Counts, AreAlike, KeepsFrames, KeepsPointers, AgreeAt, StepsAgree}
use Rattle.flow_graph.proofs.AgreeText.{work_flows}
use Rattle.flow_graph.proofs.AgreeValues.{touches_left, touches_right}
use Rattle.flow_graph.proofs.AgreeFlows.{Has, has_left, node_flows, agree_some, answers_there}
use Rattle.flow_graph.proofs.AgreeStores.{With, nothing_there, Did, DidAlike, Never, KilledBy, did_nothing, did_events, did_store, did_set, did_declare, did_then, on_value, same_value, value_kept, zero_kept, ticked_alike, ticked_keeps}
use Rattle.flow_graph.proofs.AgreeCalls.{gives, IsWorkOf, node_of, work_of, next_wanted, node_counts, HaveKinds, given_kinds, same_values, entry_kept}
use Rattle.flow_graph.proofs.AgreeGoing.{ends_alike, IsUnder, WantedOrKilled, goes_agree, given_agree, had_agree, IsAnswer}
use Rattle.flow_graph.proofs.AgreeAnswers.{main_below, answers_agree, called_there, made_agree}

same_under : (frs : List Frame) → IsUnder frs frs
same_under [] = tt
same_under (fr ∷ frs) = tt

pub goes_has : (s : Source) (o : Option PointerVar) (v : PointerVar) → o ≡ Some v → Has (text.goes s o) (record { into = v; from = s })
goes_has s o v e = subst (λ o. Has (text.goes s o) (record { into = v; from = s })) (sym e) (0, refl)

bytes_write : (bs : List ℕ) → wrote (map Byte bs) ≡ []
bytes_write [] = refl
bytes_write (b ∷ bs) = bytes_write bs

-- what was done since a tick was done since before it
rebased : (p : Resolved) (E : ℕ → Type 0) (f : Option ℕ) (K : ℕ → Type 0) (s u v : State) → Did p E f K (ticked s) u v → Did p E f K s u v
rebased p E f K s u v d = record { more = d.more; events = d.events; alike = d.alike; keeps = d.keeps; killed = d.killed }

rebased_alike : (p : Resolved) (E : ℕ → Type 0) (f : Option ℕ) (K : ℕ → Type 0) (s : State) (r r' : Result State Trap) → DidAlike p E f K (ticked s) r r' → DidAlike p E f K s r r'
rebased_alike p E f K s (Ok u) (Ok v) d = rebased p E f K s u v d
rebased_alike p E f K s (Err a) (Err b) d = d
rebased_alike p E f K s (Ok u) (Err b) d = d
rebased_alike p E f K s (Err a) (Ok v) d = d

-- ---- input

module _ (p : Resolved) (E : ℕ → Type 0) (f : Option ℕ) (s t : State) (alike : AreAlike p E s t) (keep : KeepsPointers p E f s) where
  abbrev pub taken : List ℕ → State → State
  taken bs u = with_event Took (record u { input = bs })

  -- a byte is taken
  pub did_take : (bs : List ℕ) → Did p E f Never s (taken bs s) (taken bs t)
  did_take bs = record {
    more = Took ∷ [];
    events = refl;
    alike = record { rest = ap (taken bs) alike.rest; objects = alike.objects; size = alike.size; same_size = alike.same_size; words = λ c e. alike.words c (still c e) };
    keeps = record { cells = λ c e m. keep.cells c (still c e) m; locals = keep.locals };
    killed = λ c z. absurd z;
  }
    where
      still : (c : ℕ) → With E (Took ∷ []) c → E c
      still c (inl e) = e
      still c (inr y) = nothing_there c y

  same_input : s.input ≡ t.input
  same_input = sym (ap (λ (u : State). u.input) alike.rest)

  -- what is done with what was taken
  pub taken_alike : (P : ℕ × State → ℕ × State → Type 0) → P (word_of (negsuc 0), s) (word_of (negsuc 0), t) → ((b : ℕ) (bs : List ℕ) → P (b, taken bs s) (b, taken bs t)) → P (take s) (take t)
  taken_alike P none some = subst (λ (i : List ℕ). P (take s) (take_from i t)) same_input (by s.input)
    where
      by : (i : List ℕ) → P (take_from i s) (take_from i t)
      by [] = none
      by (b ∷ bs) = some b bs

-- ---- nodes

module _ (p : Resolved) (h : IsChecked p) (g : effects.Graph) (mg : IsMainGraph p g) (l : Place) (f : Option ℕ) (m : ℕ) (frs : List Frame) (s t : State) (at : AgreeAt p g l (spot f m frs) s t) where
  abbrev x : Spot
  x = spot f m frs

  abbrev E : ℕ → Type 0
  E = Counts g l

  abbrev s1 : State
  s1 = ticked s

  abbrev t1 : State
  t1 = ticked t

  alike1 : AreAlike p E s1 t1
  alike1 = ticked_alike p E f s t at.alike at.pointers

  keep1 : KeepsPointers p E f s1
  keep1 = ticked_keeps p E f s t at.alike at.pointers

  -- nothing was done but the tick
  still : (K : ℕ → Type 0) → ((c : ℕ) → K c → ⊥) → Did p E f K s s1 t1
  still K never = rebased p E f K s s1 t1 (did_nothing p E f s1 t1 alike1 keep1 K never)

  in_main : (u v : State) → Did p E f Never s u v → Did p E None Never s u v
  in_main u v d = record { more = d.more; events = d.events; alike = d.alike; keeps = record { cells = d.keeps.cells; locals = tt }; killed = λ c z. absurd z }

  -- a node that takes a tick
  ticks_agree : (go go' : Steps) (n : ℕ) → ((j : ℕ) → StepsAgree p g l x s (go s1 j) (go' t1 j)) → StepsAgree p g l x s (ticks go s n) (ticks go' t n)
  ticks_agree go go' zero k = ends_alike p E s t Going at.alike
  ticks_agree go go' (suc j) k = k j

  -- a call ends with an answer
  ends_call : (frs' : List Frame) → frs' ≡ frs → (a j : ℕ) (u v : State) → Did p E f Never s u v → IsAnswer p f a → StepsAgree p g l x s (answers frs' a u j) (answers frs' a v j)
  ends_call [] e a j u v d ans = ends_alike p (With E d.more) u v (Ended (signed a)) d.alike
  ends_call (fr ∷ rest) e a j u v d ans =
      subst (λ (q : List Frame). StepsAgree p g l (spot f m q) s (answers (fr ∷ rest) a u j) (answers (fr ∷ rest) a v j)) e
      (answers_agree p h g mg l f m fr rest s (fr ∷ rest) a j f u v (in_main u v d) (subst (λ (q : List Frame). AreCalls p l.node f q) (sym e) at.calls) (subst (KeepsFrames p) (sym e) at.frames) ans)

  module _ (to : Edge) (k : NodeWork) (is_edge : edge_in (graph_at (graphs_of p) f) m ≡ Some to) (is_work : work_in (graph_at (graphs_of p) f) m ≡ Some k) where
    abbrev K : ℕ → Type 0
    K = KilledBy p f (work_place k)

    the_work : IsWorkOf p f m k
    the_work = work_of p h f m k (node_of p f m k is_work)

    -- what the node reads counts
    counted : (c : ℕ) → c < cell_count p → Touches p access'.Read (work_effects f k) c → E c
    counted c lt y = node_counts p g mg l f m frs to k c at.calls at.outside is_edge is_work lt (inl y)

    next_here : (n : ℕ) → (to.0 ≡ Some n) ⊎ (to.1 ≡ Some n) → frs ≡ [] → WantedOrKilled p h g mg l K n
    next_here n e nil c lt wanted =
        let main = main_below p l.node f frs at.calls nil in
        let same : l.node ≡ m = (subst (λ (q : List Frame). IsOutside l m q) nil at.outside).0 in
        let edge = subst (λ (q : Option ℕ). edge_in (graph_at (graphs_of p) q) m ≡ Some to) main is_edge in
        let node = subst (λ (q : Option ℕ). work_in (graph_at (graphs_of p) q) m ≡ Some k) main is_work in
        ⊎_elim (λ y. inl (subst (λ q. IsWanted g c q) (sym same) y)) (λ y. inr (subst (λ (q : Option ℕ). KilledBy p q (work_place k) c) (sym main) y)) (next_wanted p g mg m n to k c edge node e lt wanted)

    -- a node that does one thing and goes on
    single_agree : (act : Action) (n : ℕ) → DidAlike p E f K s1 (act s1) (act t1) → StepsAgree p g l x s (r.single act (goes f frs to.0) s n) (r.single act (goes f frs to.0) t n)
    single_agree act n d = ticks_agree (λ s n. given (act s) s (λ t. goes f frs to.0 t n)) (λ s n. given (act s) s (λ t. goes f frs to.0 t n)) n
        (λ j. given_agree p h g mg l f m frs s E f K s1 t1 alike1 (act s1) (act t1) (rebased_alike p E f K s (act s1) (act t1) d) (λ u. goes f frs to.0 u j) (λ u. goes f frs to.0 u j)
        (λ u v du. goes_agree p h g mg l f m frs s f frs to.0 K u v du j (same_under frs) at.calls at.frames (λ n e nil. next_here n (inl e) nil)))

    abbrev frame : Waits → List ℕ → Frame
    frame ws ls = record { waits = ws; locals = ls; function = f; next = to.0 }

    -- a call
    calls_agree : (ws : Waits) (j : ℕ) (es : List RExpr) (b : Bool) (n : ℕ) → call_of k ≡ Some (ws, j) → call_kind the_work.world j es ≡ Some b → ((c : ℕ) → Touches p access'.Read (all_effects f es) c → Touches p access'.Read (work_effects f k) c) → ((y : Flow) → Has (passed f j 0 es) y → Has (work_flows f k) y)
        → StepsAgree p g l x s (r.calls (graphs_of p) x ws to.0 j es s n) (r.calls (graphs_of p) x ws to.0 j es t n)
    calls_agree ws j es b n call kinds reads flowing =
        let w = the_work in
        let there = called_there p h f m k the_work j es b kinds in
        let free : (c : ℕ) → c < cell_count p → Touches p access'.Read (all_effects f es) c → E c = λ c lt y. counted c lt (reads c y) in
        ticks_agree (λ s n. given (values es s.variables) s (λ as'. made (graphs_of p) (frame ws s.variables.locals) frs j as' s n)) (λ s n. given (values es s.variables) s (λ as'. made (graphs_of p) (frame ws s.variables.locals) frs j as' s n)) n
        (λ i. had_agree p h g mg l f m frs s E s1 t1 alike1 (values es s1.variables) (values es t1.variables) (same_values p h f w.world w.is_world E s1 t1 alike1 keep1 es (given_kinds p h f w.world w.is_world E s1 t1 alike1 keep1 (signature there.function).parameters es there.given) free)
        (λ as'. made (graphs_of p) (frame ws s1.variables.locals) frs j as' s1 i) (λ as'. made (graphs_of p) (frame ws t1.variables.locals) frs j as' t1 i)
        (λ as' is. subst (λ (ls : List ℕ). StepsAgree p g l x s (made (graphs_of p) (frame ws s1.variables.locals) frs j as' s1 i) (made (graphs_of p) (frame ws ls) frs j as' t1 i)) (sym (ap (λ (u : State). u.variables.locals) alike1.rest))
        (made_agree p g l m (frame ws s1.variables.locals) frs s j as' s1 t1 i alike1 keep1 refl (record { edge = to; work = k; is_edge = is_edge; is_work = is_work; calls = call; next = refl }) at.outside at.calls keep1.locals at.frames
        (λ q. entry_kept p h f w.world w.is_world E s1 t1 alike1 keep1 j there.function q es as' there.is there.given is free (λ y z. node_flows p f m k y w.node (flowing y z))))))

  -- ---- each kind of node

  abbrev Edges : Edge → Type 0
  Edges to = edge_in (graph_at (graphs_of p) f) m ≡ Some to

  abbrev Works : NodeWork → Type 0
  Works k = work_in (graph_at (graphs_of p) f) m ≡ Some k

  -- the node's flow into a variable
  set_flow : (to : Edge) (pl : RPlace) (e : RExpr) (k : NodeWork) (ie : Edges to) (iw : Works k) → ((y : Flow) → Has (text.assigned f pl e) y → Has (work_flows f k) y) → (v : PointerVar) → variable f pl ≡ Some v → Has (flows p) (record { into = v; from = source f e })
  set_flow to pl e k ie iw has v y = node_flows p f m k (record { into = v; from = source f e }) (the_work to k ie iw).node (has (record { into = v; from = source f e }) (goes_has (source f e) (variable f pl) v y))

  declare_agrees : (to : Edge) (pl : RPlace) (o : Option RExpr) (n : ℕ) → Edges to → Works (work.Declare pl o) → StepsAgree p g l x s (does (graphs_of p) x to (work.Declare pl o) s n) (does (graphs_of p) x to (work.Declare pl o) t n)
  declare_agrees to pl None n ie iw =
      let k = work.Declare pl None in
      let w = the_work to k ie iw in
      single_agree to k ie iw (declare pl None) n (did_declare p h f w.world w.is_world E s1 t1 alike1 keep1 pl None w.keeps (counted to k ie iw) (λ e v i y. absurd (none-some e i)))
  declare_agrees to pl (Some e) n ie iw =
      let k = work.Declare pl (Some e) in
      let w = the_work to k ie iw in
      single_agree to k ie iw (declare pl (Some e)) n (did_declare p h f w.world w.is_world E s1 t1 alike1 keep1 pl (Some e) w.keeps (counted to k ie iw)
      (λ e' v i y. subst (λ (z : RExpr). Has (flows p) (record { into = v; from = source f z })) (same_Some e e' i) (set_flow to pl e k ie iw (λ z q. q) v y)))

  set_agrees : (to : Edge) (pl : RPlace) (e : RExpr) (n : ℕ) → Edges to → Works (work.Set pl e) → StepsAgree p g l x s (does (graphs_of p) x to (work.Set pl e) s n) (does (graphs_of p) x to (work.Set pl e) t n)
  set_agrees to pl e n ie iw =
      let k = work.Set pl e in
      let w = the_work to k ie iw in
      single_agree to k ie iw (assign pl e) n (did_set p h f w.world w.is_world E s1 t1 alike1 keep1 pl e w.keeps (counted to k ie iw) (set_flow to pl e k ie iw (λ z q. q)))

  input_agrees : (to : Edge) (o : Option RPlace) (n : ℕ) → Edges to → Works (work.Input o) → StepsAgree p g l x s (does (graphs_of p) x to (work.Input o) s n) (does (graphs_of p) x to (work.Input o) t n)
  input_agrees to o n ie iw =
      let k = work.Input o in
      let w = the_work to k ie iw in
      single_agree to k ie iw (input o) n (taken_alike p E f s1 t1 alike1 keep1 (λ a b. DidAlike p E f (KilledBy p f o) s1 (store o a.0 a.1) (store o b.0 b.1))
      (did_store p h f w.world w.is_world E s1 t1 alike1 keep1 o (word_of (negsuc 0)) (Some false) w.keeps (λ e v y. absurd (false≢true (same_Some false true e))))
      (λ b bs. let d = did_take p E f s1 t1 alike1 keep1 bs in
      did_then p E f (KilledBy p f o) s1 (with_event Took (record s1 { input = bs })) (with_event Took (record t1 { input = bs })) d (store o b (with_event Took (record s1 { input = bs }))) (store o b (with_event Took (record t1 { input = bs })))
      (did_store p h f w.world w.is_world (With E d.more) (with_event Took (record s1 { input = bs })) (with_event Took (record t1 { input = bs })) d.alike d.keeps o b (Some false) w.keeps (λ e v y. absurd (false≢true (same_Some false true e))))))

  put_agrees : (to : Edge) (e : RExpr) (n : ℕ) → Edges to → Works (work.Put e) → StepsAgree p g l x s (does (graphs_of p) x to (work.Put e) s n) (does (graphs_of p) x to (work.Put e) t n)
  put_agrees to e n ie iw =
      let k = work.Put e in
      let w = the_work to k ie iw in
      let q = agree_some (Some false) (kind w.world e) w.keeps in
      single_agree to k ie iw (put e) n (on_value p h f w.world w.is_world E s1 t1 alike1 keep1 (KilledBy p f None) (λ a. Ok (with_event (Byte (word_low_byte a)) s1)) (λ a. Ok (with_event (Byte (word_low_byte a)) t1)) (value e s1.variables) (value e t1.variables)
      (same_value p h f w.world w.is_world E s1 t1 alike1 keep1 e q.0 q.2 (counted to k ie iw))
      (λ a is. did_events p E f s1 t1 alike1 keep1 (Byte (word_low_byte a) ∷ []) refl (KilledBy p f None) (λ c z. none-some z.0 z.1)))

  numbers_kinds : (w : World) (es : List RExpr) → list_all (is_number w) es ≡ true → (wf : _) → HaveKinds p h f w wf E s1 t1 alike1 keep1 es
  numbers_kinds w [] a wf = tt
  numbers_kinds w (e ∷ es) a wf =
      let q = and_parts (is_number w e) (list_all (is_number w) es) a in
      let z = agree_some (Some false) (kind w e) q.0 in
      ((z.0, z.2), numbers_kinds w es q.1 wf)

  print_agrees : (to : Edge) (ps : List PrintPiece) (es : List RExpr) (n : ℕ) → Edges to → Works (work.Print ps es) → StepsAgree p g l x s (does (graphs_of p) x to (work.Print ps es) s n) (does (graphs_of p) x to (work.Print ps es) t n)
  print_agrees to ps es n ie iw =
      let k = work.Print ps es in
      let w = the_work to k ie iw in
      let q = and_parts (nat_eq (length es) (count_by is_hole ps)) (list_all (is_number w.world) es) w.keeps in
      single_agree to k ie iw (write_out ps es) n (subst (λ (z : Result (List ℕ) Trap). DidAlike p E f (KilledBy p f None) s1 (values es s1.variables >>= (λ as'. Ok (record s1 { events = s1.events ++ map Byte (printed ps as') }))) (z >>= (λ as'. Ok (record t1 { events = t1.events ++ map Byte (printed ps as') }))))
      (same_values p h f w.world w.is_world E s1 t1 alike1 keep1 es (numbers_kinds w.world es q.1 w.is_world) (counted to k ie iw))
      (by (values es s1.variables)))
    where
      by : (r : Result (List ℕ) Trap) → DidAlike p E f (KilledBy p f None) s1 (r >>= (λ as'. Ok (record s1 { events = s1.events ++ map Byte (printed ps as') }))) (r >>= (λ as'. Ok (record t1 { events = t1.events ++ map Byte (printed ps as') })))
      by (Ok as') = did_events p E f s1 t1 alike1 keep1 (map Byte (printed ps as')) (bytes_write (printed ps as')) (KilledBy p f None) (λ c z. none-some z.0 z.1)
      by (Err e) = refl

  test_agrees : (to : Edge) (e : RExpr) (n : ℕ) → Edges to → Works (work.Test e) → StepsAgree p g l x s (does (graphs_of p) x to (work.Test e) s n) (does (graphs_of p) x to (work.Test e) t n)
  test_agrees to e n ie iw =
      let k = work.Test e in
      let w = the_work to k ie iw in
      let q = agree_some (Some false) (kind w.world e) w.keeps in
      ticks_agree (λ s n. given (value e s.variables) s (λ a. goes f frs (if word_holds a then to.0 else to.1) s n)) (λ s n. given (value e s.variables) s (λ a. goes f frs (if word_holds a then to.0 else to.1) s n)) n
      (λ j. had_agree p h g mg l f m frs s E s1 t1 alike1 (value e s1.variables) (value e t1.variables) (same_value p h f w.world w.is_world E s1 t1 alike1 keep1 e q.0 q.2 (counted to k ie iw))
      (λ a. goes f frs (if word_holds a then to.0 else to.1) s1 j) (λ a. goes f frs (if word_holds a then to.0 else to.1) t1 j)
      (λ a is. way j (word_holds a)))
    where
      way : (j : ℕ) (b : Bool) → StepsAgree p g l x s (goes f frs (if b then to.0 else to.1) s1 j) (goes f frs (if b then to.0 else to.1) t1 j)
      way j true = goes_agree p h g mg l f m frs s f frs to.0 (KilledBy p f None) s1 t1 (still (KilledBy p f None) (λ c z. none-some z.0 z.1)) j (same_under frs) at.calls at.frames (λ n e' nil. next_here to (work.Test e) ie iw n (inl e') nil)
      way j false = goes_agree p h g mg l f m frs s f frs to.1 (KilledBy p f None) s1 t1 (still (KilledBy p f None) (λ c z. none-some z.0 z.1)) j (same_under frs) at.calls at.frames (λ n e' nil. next_here to (work.Test e) ie iw n (inr e') nil)

  checkpoint_agrees : (to : Edge) (n : ℕ) → Edges to → Works work.Checkpoint → StepsAgree p g l x s (does (graphs_of p) x to work.Checkpoint s n) (does (graphs_of p) x to work.Checkpoint t n)
  checkpoint_agrees to n ie iw = single_agree to work.Checkpoint ie iw (checkpoint m) n
      (subst (λ (q : ℕ). Did p E f (KilledBy p f None) s1 (with_event (Checkpoint m s1.ticks) s1) (with_event (Checkpoint m q) t1)) (sym (ap (λ (u : State). u.ticks) alike1.rest))
      (did_events p E f s1 t1 alike1 keep1 (Checkpoint m s1.ticks ∷ []) refl (KilledBy p f None) (λ c z. none-some z.0 z.1)))

  exclude_agrees : (to : Edge) (i n : ℕ) → Edges to → Works (work.Exclude i) → StepsAgree p g l x s (does (graphs_of p) x to (work.Exclude i) s n) (does (graphs_of p) x to (work.Exclude i) t n)
  exclude_agrees to i n ie iw = single_agree to (work.Exclude i) ie iw (exclude i) n (did_events p E f s1 t1 alike1 keep1 (Excluded i ∷ []) refl (KilledBy p f None) (λ c z. none-some z.0 z.1))

  call_agrees : (to : Edge) (o : Option RPlace) (j : ℕ) (es : List RExpr) (n : ℕ) → Edges to → Works (work.Call o j es) → StepsAgree p g l x s (does (graphs_of p) x to (work.Call o j es) s n) (does (graphs_of p) x to (work.Call o j es) t n)
  call_agrees to o j es n ie iw =
      let k = work.Call o j es in
      let w = the_work to k ie iw in
      let q = answers_there p f w.world w.is_world o (call_kind w.world j es) w.keeps in
      calls_agree to k ie iw (Store o) j es q.0 n refl q.1 (args o) (λ y. has_left (passed f j 0 es) (text.goes (source'.Variable (var.Answer j)) (perhaps_variable f o)) y)
    where
      args : (o : Option RPlace) (c : ℕ) → Touches p access'.Read (all_effects f es) c → Touches p access'.Read (work_effects f (work.Call o j es)) c
      args None c y = touches_left p access'.Read (all_effects f es) (effect.Call j ∷ []) c y
      args (Some pl) c y = touches_right p access'.Read (pointer_effects f pl) (call_effects f j es ++ reads.written f pl) c (touches_left p access'.Read (call_effects f j es) (reads.written f pl) c (touches_left p access'.Read (all_effects f es) (effect.Call j ∷ []) c y))

  return_call_agrees : (to : Edge) (j : ℕ) (es : List RExpr) (n : ℕ) → Edges to → Works (work.ReturnCall j es) → StepsAgree p g l x s (does (graphs_of p) x to (work.ReturnCall j es) s n) (does (graphs_of p) x to (work.ReturnCall j es) t n)
  return_call_agrees to j es n ie iw =
      let k = work.ReturnCall j es in
      let w = the_work to k ie iw in
      let q = agree_some (Some w.world.gives_pointer) (call_kind w.world j es) w.keeps in
      calls_agree to k ie iw Return j es q.0 n refl q.2 (λ c y. touches_left p access'.Read (all_effects f es) (effect.Call j ∷ []) c y) (λ y. has_left (passed f j 0 es) (text.goes (source'.Variable (var.Answer j)) (text.answer_of f)) y)

  -- a returned value is an answer
  returned : (to : Edge) (e : RExpr) (ie : Edges to) (iw : Works (work.Return e)) (a : ℕ) → value e s1.variables ≡ Ok a → IsAnswer p f a
  returned to e ie iw a is = by f refl
    where
      by : (f' : Option ℕ) → f' ≡ f → IsAnswer p f' a
      by None same = tt
      by (Some i) same = λ gv.
          let k = work.Return e in
          let w = the_work to k ie iw in
          let q = agree_some (Some w.world.gives_pointer) (kind w.world e) w.keeps in
          let yes : q.0 ≡ true = sym (same_Some w.world.gives_pointer q.0 q.1) ∙ w.gives_pointer ∙ ap (gives p) (sym same) ∙ gv in
          value_kept p h f w.world w.is_world E s1 t1 alike1 keep1 e q.0 q.2 yes (counted to k ie iw) a is (var.Answer i)
          (node_flows p f m k (record { into = var.Answer i; from = source f e }) w.node (goes_has (source f e) (text.answer_of f) (var.Answer i) (ap text.answer_of (sym same))))

  return_agrees : (to : Edge) (e : RExpr) (n : ℕ) → Edges to → Works (work.Return e) → StepsAgree p g l x s (does (graphs_of p) x to (work.Return e) s n) (does (graphs_of p) x to (work.Return e) t n)
  return_agrees to e n ie iw =
      let k = work.Return e in
      let w = the_work to k ie iw in
      let q = agree_some (Some w.world.gives_pointer) (kind w.world e) w.keeps in
      ticks_agree (λ s n. given (value e s.variables) s (λ a. answers frs a s n)) (λ s n. given (value e s.variables) s (λ a. answers frs a s n)) n
      (λ j. had_agree p h g mg l f m frs s E s1 t1 alike1 (value e s1.variables) (value e t1.variables) (same_value p h f w.world w.is_world E s1 t1 alike1 keep1 e q.0 q.2 (counted to k ie iw))
      (λ a. answers frs a s1 j) (λ a. answers frs a t1 j) (λ a is. ends_call frs refl a j s1 t1 (still Never (λ c z. z)) (returned to e ie iw a is)))

  -- a number answers no pointer
  number_answer : (to : Edge) (ie : Edges to) (iw : Works work.ReturnInput) (a : ℕ) → IsAnswer p f a
  number_answer to ie iw a = by f refl
    where
      by : (f' : Option ℕ) → f' ≡ f → IsAnswer p f' a
      by None same = tt
      by (Some i) same = λ gv.
          let w = the_work to work.ReturnInput ie iw in
          let q = agree_some (Some w.world.gives_pointer) (Some false) w.keeps in
          absurd (false≢true (same_Some false q.0 q.2 ∙ sym (same_Some w.world.gives_pointer q.0 q.1) ∙ w.gives_pointer ∙ ap (gives p) (sym same) ∙ gv))

  return_input_agrees : (to : Edge) (n : ℕ) → Edges to → Works work.ReturnInput → StepsAgree p g l x s (does (graphs_of p) x to work.ReturnInput s n) (does (graphs_of p) x to work.ReturnInput t n)
  return_input_agrees to n ie iw = ticks_agree (λ s n. answers frs (take s).0 (take s).1 n) (λ s n. answers frs (take s).0 (take s).1 n) n
      (λ j. taken_alike p E f s1 t1 alike1 keep1 (λ a b. StepsAgree p g l x s (answers frs a.0 a.1 j) (answers frs b.0 b.1 j))
      (ends_call frs refl (word_of (negsuc 0)) j s1 t1 (still Never (λ c z. z)) (number_answer to ie iw (word_of (negsuc 0))))
      (λ b bs. ends_call frs refl b j (with_event Took (record s1 { input = bs })) (with_event Took (record t1 { input = bs }))
      (rebased p E f Never s (with_event Took (record s1 { input = bs })) (with_event Took (record t1 { input = bs })) (did_take p E f s1 t1 alike1 keep1 bs)) (number_answer to ie iw b)))

  end_agrees : (n : ℕ) → StepsAgree p g l x s (answers frs 0 s n) (answers frs 0 t n)
  end_agrees n = ends_call frs refl 0 n s t (did_nothing p E f s t at.alike at.pointers Never (λ c z. z)) (by f)
    where
      by : (f' : Option ℕ) → IsAnswer p f' 0
      by None = tt
      by (Some i) = λ gv. zero_kept p (var.Answer i)

  does_agree : (to : Edge) (k : NodeWork) (n : ℕ) → Edges to → Works k → StepsAgree p g l x s (does (graphs_of p) x to k s n) (does (graphs_of p) x to k t n)
  does_agree to (work.Declare pl o) n ie iw = declare_agrees to pl o n ie iw
  does_agree to (work.Set pl e) n ie iw = set_agrees to pl e n ie iw
  does_agree to (work.Call o j es) n ie iw = call_agrees to o j es n ie iw
  does_agree to (work.Input o) n ie iw = input_agrees to o n ie iw
  does_agree to (work.Return e) n ie iw = return_agrees to e n ie iw
  does_agree to (work.ReturnCall j es) n ie iw = return_call_agrees to j es n ie iw
  does_agree to work.ReturnInput n ie iw = return_input_agrees to n ie iw
  does_agree to (work.Put e) n ie iw = put_agrees to e n ie iw
  does_agree to (work.Print ps es) n ie iw = print_agrees to ps es n ie iw
  does_agree to (work.Test e) n ie iw = test_agrees to e n ie iw
  does_agree to work.Checkpoint n ie iw = checkpoint_agrees to n ie iw
  does_agree to (work.Exclude i) n ie iw = exclude_agrees to i n ie iw
  does_agree to work.End n ie iw = end_agrees n

  -- one step
  pub step_agrees : (n : ℕ) → StepsAgree p g l x s (step (graphs_of p) x s n) (step (graphs_of p) x t n)
  step_agrees n = by (edge_in (graph_at (graphs_of p) f) m) (work_in (graph_at (graphs_of p) f) m) refl refl
    where
      nowhere_agrees : StepsAgree p g l x s (r.nowhere s n) (r.nowhere t n)
      nowhere_agrees = ends_alike p E s t (Trapped (trap_number TooManyCalls)) at.alike

      by : (o : Option Edge) (k : Option NodeWork) → edge_in (graph_at (graphs_of p) f) m ≡ o → work_in (graph_at (graphs_of p) f) m ≡ k → StepsAgree p g l x s (does_node (graphs_of p) x o k s n) (does_node (graphs_of p) x o k t n)
      by None k ie iw = nowhere_agrees
      by (Some to) None ie iw = nowhere_agrees
      by (Some to) (Some k) ie iw = does_agree to k n ie iw
