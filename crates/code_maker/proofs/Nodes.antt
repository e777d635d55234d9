-- The code of each node does what the node does.
use Rattle.std.proofs.Common.{◌≡◌, ℕ, zero, suc, ◌+◌, ◌-◌, ◌*◌, ◌<◌, List, [], ◌∷◌, ◌++◌, length, take, replicate, Option, Some, None, Ok, Bool, true, false, cond, pos, refl, sym, ap, ◌∙◌, subst, arith, length-append, append_assoc, take_all, inl}
use Rattle.std.proofs.lemmas.List.{drop_all, length-reverse, reverse-reverse}
use Rattle.std.specs.Prelude.{slice_get, reverse, if◌then◌else◌, nat_lt}
use Rattle.ckpt_base.specs.declared.trap.Trap.TheVariants.{TooManyCalls}
use Rattle.ckpt_base.specs.Word.{word_holds}
use Rattle.c_tree.specs.declared.resolved.RExpr.{RExpr}
use Rattle.c_tree.specs.declared.resolved.RPlace.{RPlace}
use Rattle.c_tree.specs.declared.resolved.RPlace.TheVariants as place
use Rattle.c_tree.specs.State.{State, Action, ticked, with_locals, entry_locals, value, values, declare, set, store, put, write_out, input, exclude, checkpoint, take_from}
use Rattle.c_tree.specs.State as tree
use Rattle.c_tree.specs.Kinds.{World as Rules, Signature, call_kind, answer_of, are_given}
use Rattle.access_summary.specs.Edges.{Edge}
use Rattle.flow_graph.specs.declared.node.NodeWork.{NodeWork}
use Rattle.flow_graph.specs.declared.node.NodeWork.TheVariants as work
use Rattle.flow_graph.specs.WorkRules.{work_keeps}
use Rattle.flow_graph.specs.Run.{Graph, Graphs, Frame, Waits, Store, Return, Spot, spot, graph_at, edge_in, work_in, Step, Over, On, ticks, given, goes, single, enters, made, nowhere, calls, does, does_node, step, after, run}
use Rattle.flow_graph.specs.Run as graph
use Rattle.flow_graph.proofs.Steps.{Less, step_less}
use Rattle.machine_code.specs.declared.instr.Instr.{Instr}
use Rattle.machine_code.specs.declared.instr.Instr.TheVariants as instr
use Rattle.machine_code.specs.declared.event.Caller.{Caller}
use Rattle.machine_code.specs.CodeView.{CodeView, Function}
use Rattle.machine_code.specs.State.{State as Machine}
use Rattle.machine_code.specs.Row.{Done, row, ran, trapped, called, entered}
use Rattle.machine_code.specs.Run.{World, unprotected, row_at, fed, Reaches}
use Rattle.machine_code.proofs.RunLaws.{reaches_fed}
use Rattle.code_maker.specs.ExprCode.{expr_block, values_block}
use Rattle.code_maker.specs.NodeCode.{set_block, given_block, keep_answer, print_code, go_on, start_of, segment, start_in}
use Rattle.code_maker.proofs.Has.{HasAt, has_front, has_back}
use Rattle.code_maker.proofs.Stand.{machine, stand, gives_answer, reaches_self, reaches_done, reaches_ran, reaches_test}
use Rattle.code_maker.proofs.Acts.{HasKind, agree_kind, agree_some, given_kinds, given_count, IsKept, answers_kept, answers_some, Acts, acts_then, acts_at, acts_on, keep_acts, value_runs, assign_acts, declare_acts}
use Rattle.code_maker.proofs.Prints.{values_run, values_count, print_acts}
use Rattle.code_maker.proofs.Segments.{IsNode, Leads, segment_stands, go_on_leads, entry_leads}
use Rattle.code_maker.proofs.Ties.{IsNext, AreNext, lows, IsPlaced, IsStored, TakesAnswer, caller, AreCallers, callers_count, IsTied, tied, Ends, Does, ends_on, does_on, fails_end, acts_does, tick_does, value_does, values_does, leads_on, goes_does, answers_does}

-- a call that has a kind is one of a function, with an argument for each parameter
pub call_parts : (w : Rules) (o : Option Signature) (es : List RExpr) (x : Bool) → answer_of w o es ≡ Some x → (s : Signature) × (o ≡ Some s) × (are_given w s.parameters es ≡ true)
call_parts w None es x h = absurd (cc)
call_parts w (Some s) es x h = (s, refl, by_test (are_given w s.parameters es) h)
  where
    by_test : (b : Bool) → (if b then Some s.gives_pointer else None) ≡ Some x → b ≡ true
    by_test true h = refl
    by_test false h = absurd (cc)

-- ---- input

take_same : (bs : List ℕ) (t : State) → ((take_from bs t).1.ticks ≡ t.ticks) × ((take_from bs t).1.variables.objects ≡ t.variables.objects)
take_same [] t = (refl, refl)
take_same (b ∷ bs) t = (refl, refl)

fed_stands : (low : List ℕ) (ks : List Caller) (t : State) (q : ℕ) (bs : List ℕ) → fed (stand low ks t q []) bs ≡ stand low ks (take_from bs t).1 (q + 1) ((take_from bs t).0 ∷ [])
fed_stands low ks t q [] = refl
fed_stands low ks t q (b ∷ bs) = refl

module _ (c : CodeView) (low : List ℕ) (ks : List Caller) where
  take_reaches : (t : State) (q : ℕ) → slice_get c.instrs q ≡ Some instr.In → Reaches c (stand low ks t q []) (stand low ks (tree.take t).1 (q + 1) ((tree.take t).0 ∷ []))
  take_reaches t q at = subst (Reaches c (stand low ks t q [])) (fed_stands low ks t q t.input) (reaches_fed c (stand low ks t q []) (stand low ks t q []) at (reaches_self c (stand low ks t q [])))

  -- storing an answer in a variable never traps
  kept_acts : (w : World) (s t : State) (q a : ℕ) (d : Option RPlace) → IsKept d → t.ticks ≡ s.ticks → t.variables.objects ≡ s.variables.objects → Acts c low ks w t q (store d a t) → Acts c low ks w s q (store d a t)
  kept_acts w s t q a None k e o h = record { comes = h.comes; ticks = h.ticks ∙ e; objects = h.objects ∙ o }
  kept_acts w s t q a (Some (place.Cell d)) k e o h = record { comes = h.comes; ticks = h.ticks ∙ e; objects = h.objects ∙ o }
  kept_acts w s t q a (Some (place.Local i)) k e o h = record { comes = h.comes; ticks = h.ticks ∙ e; objects = h.objects ∙ o }
  kept_acts w s t q a (Some (place.At e')) k e o h = absurd k

  input_acts : (s : State) (q : ℕ) (d : Option RPlace) → IsKept d → HasAt c.instrs q (instr.In ∷ keep_answer d) → Acts c low ks (stand low ks s q []) s (q + length (instr.In ∷ keep_answer d)) (input d s)
  input_acts s q d k has =
      let t = (tree.take s).1 in
      let a = (tree.take s).0 in
      let same = take_same s.input s in
      let stores = keep_acts c low ks t (q + 1) a d k has.1 in
      acts_on c low ks (stand low ks s q []) (stand low ks t (q + 1) (a ∷ [])) s _ (store d a t) (take_reaches s q has.0)
      (kept_acts (stand low ks t (q + 1) (a ∷ [])) s t _ a d k same.0 same.1 (acts_at c low ks _ t (q + 1 + length (keep_answer d)) _ (store d a t) (omega arith) stores))

-- ---- the entry of a call

module _ (c : CodeView) (gs : Graphs) (signatures : ℕ → Option Signature) where
  -- a function that can be called: where its code stands, and how many parameters and locals it has
  pub record IsCallable (h : ℕ) (s : Signature) : Type 0 where
    pub graph : Graph
    pub start : ℕ
    pub rules : Rules
    pub placed : IsPlaced c gs signatures (Some h) graph start rules
    pub function : slice_get c.functions h ≡ Some (start, length s.parameters, graph.locals)

  entered_is : (low : List ℕ) (ks : List Caller) (t : State) (q p k ls : ℕ) (as' : List ℕ) → length as' ≡ k
      → entered (machine low ks t q (reverse as')) (p, k, ls) ≡ machine (low ++ t.variables.locals) (record { place = q + 1; below = 0; locals_below = length low } ∷ ks) (with_locals (entry_locals ls as') t) p []
  entered_is low ks t q p k ls as' e =
      let long : length (reverse as') ≡ k = length-reverse as' ∙ e in
      let all = low ++ t.variables.locals in
      let js = record { place = q + 1; below = 0; locals_below = length low } ∷ ks in
      let mk : List ℕ → ℕ → List ℕ → Machine = λ ops b as2. record { place = p; operands = ops; below = b; locals = all ++ as2; locals_below = length all; callers = js; ticks = t.ticks } in
      let taken : reverse (take k (reverse as')) ≡ as' = ap reverse (take_all k (reverse as') (omega (arith, long))) ∙ reverse-reverse as' in
      let rest : List ℕ = replicate (ls - k) 0 in
      ap (λ ops. mk ops (length (reverse as') - k) (reverse (take k (reverse as')) ++ rest)) (drop_all k (reverse as') (omega (arith, long)))
      ∙ ap (λ b. mk [] b (reverse (take k (reverse as')) ++ rest)) (omega (arith, long))
      ∙ ap (λ as2. mk [] 0 (as2 ++ rest)) taken
      ∙ ap (λ n. mk [] 0 (as' ++ replicate (ls - n) 0)) (sym e)

  enter_does : (h : ℕ) (sig : Signature) (callee : IsCallable h sig) (fr : Frame) (frs : List Frame) (ks : List Caller) (t : State) (q n : ℕ) (as' : List ℕ) → fr.locals ≡ t.variables.locals → AreCallers c gs signatures frs ks → t.variables.objects ≡ c.objects
      → TakesAnswer c gs signatures fr.waits fr (q + 1)
      → Does c gs signatures (stand (lows frs ++ t.variables.locals) (caller c gs signatures (q + 1) frs ∷ ks) (with_locals (entry_locals callee.graph.locals as') t) callee.start []) (t.ticks + n) (enters (slice_get gs.functions h) h (fr ∷ frs) as' t n)
  enter_does h sig callee fr frs ks t q n as' locals callers objects takes =
      let u = with_locals (entry_locals callee.graph.locals as') t in
      let js = caller c gs signatures (q + 1) frs ∷ ks in
      let goal : Does c gs signatures (stand (lows (fr ∷ frs)) js u callee.start []) (t.ticks + n) (On (spot (Some h) callee.graph.entry (fr ∷ frs)) u n) = record {
        callers = js;
        tie = record { graph = callee.graph; start = callee.start; rules = callee.rules; placed = callee.placed; there = callee.placed.entry; callers = (q + 1, ks, refl, takes, callers); objects = objects };
        comes = leads_on c gs signatures (lows (fr ∷ frs)) js u callee.start (start_in callee.graph callee.start callee.graph.entry) [] (entry_leads c.instrs callee.graph callee.start callee.placed.code callee.placed.first);
        left = refl;
      } in
      let goal' = subst (λ ls. Does c gs signatures (stand (lows frs ++ ls) js u callee.start []) (t.ticks + n) (On (spot (Some h) callee.graph.entry (fr ∷ frs)) u n)) locals goal in
      subst (λ o. Does c gs signatures (stand (lows frs ++ t.variables.locals) js u callee.start []) (t.ticks + n) (enters o h (fr ∷ frs) as' t n)) (sym callee.placed.graph) goal'

  -- a call is made, or there are too many
  made_or_not : (s : Machine) (m : List ℕ) (fn : Function) (b : Bool) → Done
  made_or_not s m fn b = cond b (ran (entered s fn) m) (trapped s m TooManyCalls)

  called_row : (s : Machine) (m : List ℕ) (h k : ℕ) (fn : Function) → slice_get c.functions h ≡ Some fn → length s.callers ≡ k → row c unprotected s m (instr.Call h) ≡ made_or_not s m fn (nat_lt k 1000)
  unfolding made_or_not
  called_row s m h k fn is count = ap (called s m) is ∙ ap (λ j. cond (nat_lt j 1000) (ran (entered s fn) m) (trapped s m TooManyCalls)) count

  module _ (h : ℕ) (sig : Signature) (callee : IsCallable h sig) (fr : Frame) (frs : List Frame) (ks : List Caller) (t : State) (q n : ℕ) (as' : List ℕ) (locals : fr.locals ≡ t.variables.locals) (callers : AreCallers c gs signatures frs ks)
      (objects : t.variables.objects ≡ c.objects) (takes : TakesAnswer c gs signatures fr.waits fr (q + 1)) (at : slice_get c.instrs q ≡ Some (instr.Call h)) (count : length as' ≡ length sig.parameters) where
    calls_by_test : (b : Bool) → row c unprotected (machine (lows frs) ks t q (reverse as')) t.variables.cells (instr.Call h) ≡ made_or_not (machine (lows frs) ks t q (reverse as')) t.variables.cells (callee.start, length sig.parameters, callee.graph.locals) b
        → Does c gs signatures (stand (lows frs) ks t q (reverse as')) (t.ticks + n) (if b then enters (slice_get gs.functions h) h (fr ∷ frs) as' t n else nowhere t n)
    unfolding made_or_not
    calls_by_test true is =
        let u = with_locals (entry_locals callee.graph.locals as') t in
        let r = is ∙ ap (λ m. ran m t.variables.cells) (entered_is (lows frs) ks t q callee.start (length sig.parameters) callee.graph.locals as' count) in
        does_on c gs signatures _ _ (t.ticks + n) (enters (slice_get gs.functions h) h (fr ∷ frs) as' t n)
        (reaches_ran c (stand (lows frs) ks t q (reverse as')) (instr.Call h) (machine (lows frs ++ t.variables.locals) (caller c gs signatures (q + 1) frs ∷ ks) u callee.start []) t.variables.cells at r)
        (enter_does h sig callee fr frs ks t q n as' locals callers objects takes)
    calls_by_test false is = fails_end c gs signatures (lows frs) ks t (stand (lows frs) ks t q (reverse as')) (t.ticks + n) TooManyCalls (omega arith) (record {
      place = q;
      operands = reverse as';
      comes = reaches_self c (stand (lows frs) ks t q (reverse as'));
      event = ap (λ o. (row_at c unprotected (machine (lows frs) ks t q (reverse as')) t.variables.cells o).event) at ∙ ap (λ (d : Done). d.event) is;
    })

    pub call_does : Does c gs signatures (stand (lows frs) ks t q (reverse as')) (t.ticks + n) (made gs fr frs h as' t n)
    call_does = calls_by_test (nat_lt (length frs) 1000)
        (called_row (machine (lows frs) ks t q (reverse as')) t.variables.cells h (length frs) (callee.start, length sig.parameters, callee.graph.locals) callee.function (callers_count c gs signatures frs ks callers))

-- ---- nodes

module _ (c : CodeView) (gs : Graphs) (signatures : ℕ → Option Signature) (callable : (h : ℕ) (s : Signature) → signatures h ≡ Some s → IsCallable c gs signatures h s)
    (f : Option ℕ) (g : Graph) (q : ℕ) (w : Rules) (placed : IsPlaced c gs signatures f g q w) (frs : List Frame) (ks : List Caller) (callers : AreCallers c gs signatures frs ks) (n : ℕ) (to : Edge) where
  -- the code that stands at the start of the node
  stands : (v : NodeWork) → IsNode g n to v → HasAt c.instrs (start_in g q n) (segment (start_in g q) n to v (start_in g q n))
  stands v is = segment_stands c.instrs g q placed.code n to v is

  pub leads_to : (v : NodeWork) (is : IsNode g n to v) (block : List Instr) → segment (start_in g q) n to v (start_in g q n) ≡ instr.Tick ∷ (block ++ go_on (start_in g q) n to.0) → (next : IsNext g to.0)
      → Leads c.instrs (start_in g q n + 1 + length block) (start_in g q next.0)
  leads_to v is block seg next =
      let p = start_in g q n in
      let has = subst (HasAt c.instrs p) seg (stands v is) in
      let back = has_back c.instrs (p + 1) block (go_on (start_in g q) n to.0) has.1 in
      let long : length (segment (start_in g q) n to v p) ≡ suc (length (block ++ go_on (start_in g q) n to.0)) = ap length seg in
      let len = length-append block (go_on (start_in g q) n to.0) in
      let ends : p + 1 + length block + length (go_on (start_in g q) n to.0) ≡ p + length (segment (start_in g q) n to v p) = omega (arith, long, len) in
      go_on_leads c.instrs g q placed.code n to v next.0 (p + 1 + length block) is next.2 (subst (λ o. HasAt c.instrs (p + 1 + length block) (go_on (start_in g q) n o)) next.1 back)
      (subst (λ o. p + 1 + length block + length (go_on (start_in g q) n o) ≡ p + length (segment (start_in g q) n to v p)) next.1 ends)

  -- a tick, an action, and on
  plain_does : (v : NodeWork) (is : IsNode g n to v) (block : List Instr) (act : Action) → segment (start_in g q) n to v (start_in g q n) ≡ instr.Tick ∷ (block ++ go_on (start_in g q) n to.0) → IsNext g to.0
      → ((t : State) → t.variables.objects ≡ c.objects → HasAt c.instrs (start_in g q n + 1) block → Acts c (lows frs) ks (stand (lows frs) ks t (start_in g q n + 1) []) t (start_in g q n + 1 + length block) (act t))
      → (s : State) (k : ℕ) → s.variables.objects ≡ c.objects → Does c gs signatures (stand (lows frs) ks s (start_in g q n) []) (s.ticks + k) (single act (goes f frs to.0) s k)
  plain_does v is block act seg next acts s k objects =
      let p = start_in g q n in
      let has = subst (HasAt c.instrs p) seg (stands v is) in
      let z = p + 1 + length block in
      tick_does c gs signatures (lows frs) ks s p k (λ t j. given (act t) t (λ u. goes f frs to.0 u j)) has.0
      (λ j. acts_does c gs signatures (lows frs) ks (stand (lows frs) ks (ticked s) (p + 1) []) (ticked s) z (s.ticks + 1 + j) (act (ticked s)) (λ u. goes f frs to.0 u j) (omega arith) (acts (ticked s) objects (has_front c.instrs (p + 1) block _ has.1))
      (λ u e same objs. goes_does c gs signatures f g q w frs ks u z next.0 j (s.ticks + 1 + j) to.0 placed next.2 callers (objs ∙ objects) next.1 (leads_to v is block seg next) (omega (arith, same))))

  -- one of two ways on
  ways_do : (t : State) (j b y z : ℕ) (h : Bool) (holding : IsNext g to.0) (failing : IsNext g to.1) → t.variables.objects ≡ c.objects → t.ticks + j ≡ b → Leads c.instrs y (start_in g q holding.0) → Leads c.instrs z (start_in g q failing.0)
      → Does c gs signatures (stand (lows frs) ks t (cond h y z) []) b (goes f frs (if h then to.0 else to.1) t j)
  ways_do t j b y z true holding failing objects left leads leads' = goes_does c gs signatures f g q w frs ks t y holding.0 j b to.0 placed holding.2 callers objects holding.1 leads left
  ways_do t j b y z false holding failing objects left leads leads' = goes_does c gs signatures f g q w frs ks t z failing.0 j b to.1 placed failing.2 callers objects failing.1 leads' left

  -- behind the jump of a test stands what leads to the node where it holds
  test_leads : (e : RExpr) → IsNode g n to (work.Test e) → (holding : IsNext g to.0) → Leads c.instrs (start_in g q n + 1 + length (expr_block e (start_in g q n + 1)) + 1) (start_in g q holding.0)
  test_leads e is holding =
      let p = start_in g q n in
      let x = expr_block e (p + 1) in
      let jump : List Instr = instr.JumpZ (start_of (start_in g q) to.1) ∷ [] in
      let seg = ap (λ l. instr.Tick ∷ l) (sym (append_assoc x jump (go_on (start_in g q) n to.0))) in
      let len = length-append x jump in
      let behind : p + 1 + length (x ++ jump) ≡ p + 1 + length x + 1 = omega (arith, len) in
      subst (λ a. Leads c.instrs a (start_in g q holding.0)) behind (leads_to (work.Test e) is (x ++ jump) seg holding)

  -- one of two ways on, by a value
  test_does : (e : RExpr) (is : IsNode g n to (work.Test e)) → IsNext g to.0 → IsNext g to.1 → HasKind w e → (s : State) (k : ℕ) → s.variables.objects ≡ c.objects
      → Does c gs signatures (stand (lows frs) ks s (start_in g q n) []) (s.ticks + k) (does gs (spot f n frs) to (work.Test e) s k)
  test_does e is holding failing kinds s k objects =
      let p = start_in g q n in
      let has = stands (work.Test e) is in
      let x = expr_block e (p + 1) in
      let z = start_of (start_in g q) to.1 in
      let q1 = p + 1 + length x in
      tick_does c gs signatures (lows frs) ks s p k (λ t j. given (value e t.variables) t (λ a. goes f frs (if word_holds a then to.0 else to.1) t j)) has.0
      (λ j. value_does c gs signatures (lows frs) ks (stand (lows frs) ks (ticked s) (p + 1) []) (ticked s) q1 (s.ticks + 1 + j) (value e s.variables) (λ a. goes f frs (if word_holds a then to.0 else to.1) (ticked s) j) (omega arith)
      (value_runs c w placed.addresses (lows frs) ks (ticked s) objects e kinds (p + 1) [] (has_front c.instrs (p + 1) x _ has.1))
      (λ a. does_on c gs signatures _ _ (s.ticks + 1 + j) (goes f frs (if word_holds a then to.0 else to.1) (ticked s) j) (reaches_test c (lows frs) ks (ticked s) q1 z a [] (has_back c.instrs (p + 1) x _ has.1).0)
      (ways_do (ticked s) j (s.ticks + 1 + j) (q1 + 1) z (word_holds a) holding failing objects refl (test_leads e is holding) (inl (ap (start_of (start_in g q)) failing.1)))))

  return_does : (e : RExpr) → IsNode g n to (work.Return e) → HasKind w e → (s : State) (k : ℕ) → s.variables.objects ≡ c.objects → Does c gs signatures (stand (lows frs) ks s (start_in g q n) []) (s.ticks + k) (does gs (spot f n frs) to (work.Return e) s k)
  return_does e is kinds s k objects =
      let p = start_in g q n in
      let has = stands (work.Return e) is in
      let x = expr_block e (p + 1) in
      let q1 = p + 1 + length x in
      tick_does c gs signatures (lows frs) ks s p k (λ t j. given (value e t.variables) t (λ a. graph.answers frs a t j)) has.0
      (λ j. value_does c gs signatures (lows frs) ks (stand (lows frs) ks (ticked s) (p + 1) []) (ticked s) q1 (s.ticks + 1 + j) (value e s.variables) (λ a. graph.answers frs a (ticked s) j) (omega arith)
      (value_runs c w placed.addresses (lows frs) ks (ticked s) objects e kinds (p + 1) [] (has_front c.instrs (p + 1) x _ has.1))
      (λ a. answers_does c gs signatures frs ks (ticked s) q1 a j callers objects (has_back c.instrs (p + 1) x _ has.1).0))

  return_input_does : IsNode g n to work.ReturnInput → (s : State) (k : ℕ) → s.variables.objects ≡ c.objects → Does c gs signatures (stand (lows frs) ks s (start_in g q n) []) (s.ticks + k) (does gs (spot f n frs) to work.ReturnInput s k)
  return_input_does is s k objects =
      let p = start_in g q n in
      let has = stands work.ReturnInput is in
      let same = take_same s.input (ticked s) in
      let t = (tree.take (ticked s)).1 in
      let a = (tree.take (ticked s)).0 in
      tick_does c gs signatures (lows frs) ks s p k (λ t j. graph.answers frs (tree.take t).0 (tree.take t).1 j) has.0
      (λ j. does_on c gs signatures _ (stand (lows frs) ks t (p + 1 + 1) (a ∷ [])) (s.ticks + 1 + j) (graph.answers frs a t j) (take_reaches c (lows frs) ks (ticked s) (p + 1) has.1.0)
      (subst (λ b. Does c gs signatures (stand (lows frs) ks t (p + 1 + 1) (a ∷ [])) (b + j) (graph.answers frs a t j)) same.0 (answers_does c gs signatures frs ks t (p + 1 + 1) a j callers (same.1 ∙ objects) has.1.1.0)))

  end_does : IsNode g n to work.End → (s : State) (k : ℕ) → s.variables.objects ≡ c.objects → Does c gs signatures (stand (lows frs) ks s (start_in g q n) []) (s.ticks + k) (does gs (spot f n frs) to work.End s k)
  end_does is s k objects =
      let p = start_in g q n in
      let has = stands work.End is in
      does_on c gs signatures _ (stand (lows frs) ks s (p + 1) (0 ∷ [])) (s.ticks + k) (graph.answers frs 0 s k) (gives_answer c (lows frs) ks s p [] 0 (instr.Num (pos 0)) (Ok 0) has.0 refl) (answers_does c gs signatures frs ks s (p + 1) 0 k callers objects has.1.0)

  -- a tick, the arguments, and the call
  calls_does : (h : ℕ) (es : List RExpr) (wt : Waits) (x : Bool) (rest : List Instr) → call_kind w h es ≡ Some x → HasAt c.instrs (start_in g q n) (instr.Tick ∷ (values_block es (start_in g q n + 1) ++ (instr.Call h ∷ rest)))
      → ((ls : List ℕ) (z : ℕ) → z ≡ start_in g q n + 1 + length (values_block es (start_in g q n + 1)) + 1 → TakesAnswer c gs signatures wt (record { waits = wt; locals = ls; function = f; next = to.0 }) z)
      → (s : State) (k : ℕ) → s.variables.objects ≡ c.objects → Does c gs signatures (stand (lows frs) ks s (start_in g q n) []) (s.ticks + k) (calls gs (spot f n frs) wt to.0 h es s k)
  calls_does h es wt x rest kinds has takes s k objects =
      let p = start_in g q n in
      let parts = call_parts w (w.function h) es x kinds in
      let sig = parts.0 in
      let callee = callable h sig (sym (placed.functions h) ∙ parts.1) in
      let b = values_block es (p + 1) in
      let q1 = p + 1 + length b in
      let fr : State → Frame = λ t. record { waits = wt; locals = t.variables.locals; function = f; next = to.0 } in
      tick_does c gs signatures (lows frs) ks s p k (λ t j. given (values es t.variables) t (λ as'. made gs (fr t) frs h as' t j)) has.0
      (λ j. values_does c gs signatures (lows frs) ks (stand (lows frs) ks (ticked s) (p + 1) []) (ticked s) q1 (s.ticks + 1 + j) (values es s.variables) (λ as'. made gs (fr s) frs h as' (ticked s) j) (omega arith)
      (values_run c w placed.addresses (lows frs) ks (ticked s) objects es (given_kinds w sig.parameters es parts.2) (p + 1) [] (has_front c.instrs (p + 1) b _ has.1))
      (λ as' is. call_does c gs signatures h sig callee (fr s) frs ks (ticked s) q1 j as' refl callers objects (takes s.variables.locals (q1 + 1) refl) (has_back c.instrs (p + 1) b _ has.1).0
      (values_count es s.variables as' is ∙ sym (given_count w sig.parameters es parts.2))))

  -- what is done with the answer of a call that is stored
  stored_answer : (d : Option RPlace) (h : ℕ) (es : List RExpr) → IsNode g n to (work.Call d h es) → IsNext g to.0 → IsKept d → (z : ℕ) → z ≡ start_in g q n + 1 + length (values_block es (start_in g q n + 1)) + 1 → IsStored c gs signatures d f to.0 z
  stored_answer d h es is next kept z e =
      let p = start_in g q n in
      let b = values_block es (p + 1) in
      let has = stands (work.Call d h es) is in
      let back = has_back c.instrs (p + 1) b _ has.1 in
      let more = instr.Call h ∷ keep_answer d in
      let seg = ap (λ l. instr.Tick ∷ l) (sym (append_assoc b more (go_on (start_in g q) n to.0))) in
      let len = length-append b more in
      let behind : p + 1 + length (b ++ more) ≡ z + length (keep_answer d) = omega (arith, len) in
      record {
        graph = g;
        start = q;
        rules = w;
        placed = placed;
        node = next.0;
        next_is = next.1;
        there = next.2;
        kept = kept;
        keeps = subst (λ a. HasAt c.instrs a (keep_answer d)) (sym e) (has_front c.instrs (p + 1 + length b + 1) (keep_answer d) _ back.1);
        leads = subst (λ a. Leads c.instrs a (start_in g q next.0)) behind (leads_to (work.Call d h es) is (b ++ more) seg next);
      }

  put_acts : (e : RExpr) → HasKind w e → (t : State) → t.variables.objects ≡ c.objects → (z : ℕ) → HasAt c.instrs z (expr_block e z ++ instr.OutC ∷ []) → Acts c (lows frs) ks (stand (lows frs) ks t z []) t (z + length (expr_block e z ++ instr.OutC ∷ [])) (put e t)
  put_acts e kinds t objects z has =
      let x = expr_block e z in
      let len = length-append x (instr.OutC ∷ []) in
      let z1 = z + length x in
      acts_at c (lows frs) ks (stand (lows frs) ks t z []) t (z1 + 1) _ (put e t) (omega (arith, len))
      (acts_then c (lows frs) ks (stand (lows frs) ks t z []) t z1 (z1 + 1) [] (value e t.variables) _ (value_runs c w placed.addresses (lows frs) ks t objects e kinds z [] (has_front c.instrs z x _ has))
      (λ a. record { comes = reaches_done c (stand (lows frs) ks t z1 (a ∷ [])) instr.OutC _ (has_back c.instrs z x _ has).0 refl; ticks = refl; objects = refl }))

  node_does : (v : NodeWork) → IsNode g n to v → AreNext g v to → work_keeps w v ≡ true → (s : State) (k : ℕ) → s.variables.objects ≡ c.objects → Does c gs signatures (stand (lows frs) ks s (start_in g q n) []) (s.ticks + k) (does gs (spot f n frs) to v s k)
  node_does (work.Declare d e) is next keeps = plain_does (work.Declare d e) is (set_block d (given_block e) (start_in g q n + 1)) (declare d e) refl next (λ t objs has. declare_acts c w placed.addresses (lows frs) ks t objs d e keeps (start_in g q n + 1) has)
  node_does (work.Set d e) is next keeps = plain_does (work.Set d e) is (set_block d (expr_block e) (start_in g q n + 1)) (set d e) refl next (λ t objs has. assign_acts c w placed.addresses (lows frs) ks t objs d e keeps (start_in g q n + 1) has)
  node_does (work.Call d h es) is next keeps =
      let k = answers_some w d (call_kind w h es) keeps in
      calls_does h es (Store d) k.0 _ k.1 (stands (work.Call d h es) is) (λ ls z e. stored_answer d h es is next (answers_kept w d (call_kind w h es) keeps) z e)
  node_does (work.Input d) is next keeps = plain_does (work.Input d) is (instr.In ∷ keep_answer d) (input d) refl next (λ t objs has. input_acts c (lows frs) ks t (start_in g q n + 1) d (answers_kept w d (Some false) keeps) has)
  node_does (work.Return e) is next keeps = return_does e is (agree_kind w (Some w.gives_pointer) e keeps)
  node_does (work.ReturnCall h es) is next keeps =
      let has = stands (work.ReturnCall h es) is in
      let k = (agree_some (Some w.gives_pointer) (call_kind w h es) keeps).1 in
      let p = start_in g q n in
      let ret = (has_back c.instrs (p + 1) (values_block es (p + 1)) (instr.Call h ∷ instr.Ret ∷ []) has.1).1.0 in
      calls_does h es Return k.0 (instr.Ret ∷ []) k.1 has (λ ls z e. subst (λ a. slice_get c.instrs a ≡ Some instr.Ret) (sym e) ret)
  node_does work.ReturnInput is next keeps = return_input_does is
  node_does (work.Put e) is next keeps =
      let p = start_in g q n in
      plain_does (work.Put e) is (expr_block e (p + 1) ++ instr.OutC ∷ []) (put e) (ap (λ l. instr.Tick ∷ l) (sym (append_assoc (expr_block e (p + 1)) (instr.OutC ∷ []) (go_on (start_in g q) n to.0)))) next
      (λ t objs has. put_acts e (agree_kind w (Some false) e keeps) t objs (p + 1) has)
  node_does (work.Print ps es) is next keeps =
      let p = start_in g q n in
      let x = values_block es (p + 1) in
      plain_does (work.Print ps es) is (x ++ print_code (length es) ps) (write_out ps es) (ap (λ l. instr.Tick ∷ l) (sym (append_assoc x (print_code (length es) ps) (go_on (start_in g q) n to.0)))) next
      (λ t objs has. print_acts c w placed.addresses (lows frs) ks t objs ps es keeps (p + 1) has)
  node_does (work.Test e) is next keeps = test_does e is next.0 next.1 (agree_kind w (Some false) e keeps)
  node_does work.Checkpoint is next keeps = plain_does work.Checkpoint is (instr.Ckpt n ∷ []) (checkpoint n) refl next
      (λ t objs has. record { comes = reaches_done c (stand (lows frs) ks t (start_in g q n + 1) []) (instr.Ckpt n) _ has.0 refl; ticks = refl; objects = refl })
  node_does (work.Exclude j) is next keeps = plain_does (work.Exclude j) is (instr.Excl j ∷ []) (exclude j) refl next
      (λ t objs has. record { comes = reaches_done c (stand (lows frs) ks t (start_in g q n + 1) []) (instr.Excl j) _ has.0 refl; ticks = refl; objects = refl })
  node_does work.End is next keeps = end_does is

-- ---- steps and runs

module _ (c : CodeView) (gs : Graphs) (signatures : ℕ → Option Signature) (callable : (h : ℕ) (s : Signature) → signatures h ≡ Some s → IsCallable c gs signatures h s) where
  pub step_does : (x : Spot) (s : State) (ks : List Caller) (tie : IsTied c gs signatures x s ks) (n : ℕ) → Does c gs signatures (tied c gs signatures x s ks tie) (s.ticks + n) (step gs x s n)
  step_does x s ks tie n =
      let there = tie.there in
      let w = tied c gs signatures x s ks tie in
      let edge : edge_in (graph_at gs x.function) x.node ≡ Some there.to = ap (λ o. edge_in o x.node) tie.placed.graph ∙ there.node.edge in
      let does_this : work_in (graph_at gs x.function) x.node ≡ Some there.does = ap (λ o. work_in o x.node) tie.placed.graph ∙ there.node.does in
      let d = node_does c gs signatures callable x.function tie.graph tie.start tie.rules tie.placed x.frames ks tie.callers x.node there.to there.does there.node
      (tie.placed.next x.node there.to there.does there.node) (tie.placed.keeps x.node there.does there.node.does) s n tie.objects in
      let d1 = subst (λ o. Does c gs signatures w (s.ticks + n) (does_node gs x (Some there.to) o s n)) (sym does_this) d in
      subst (λ o. Does c gs signatures w (s.ticks + n) (does_node gs x o (work_in (graph_at gs x.function) x.node) s n)) (sym edge) d1

  -- the run from a spot with fuel enough
  abbrev RunEnds : ℕ → ℕ → Type 0
  RunEnds m b = (x : Spot) (s : State) (ks : List Caller) (tie : IsTied c gs signatures x s ks) (n : ℕ) → 2 * n + length x.frames < m → Ends c gs signatures (tied c gs signatures x s ks tie) (s.ticks + n) (run gs b x s n)

  after_ends : (w : World) (bound m b : ℕ) (o : Step) → Does c gs signatures w bound o → Less m o → RunEnds m b → Ends c gs signatures w bound (after (run gs b) o)
  after_ends w bound m b (Over r) d l h = d
  after_ends w bound m b (On y t k) d l h = ends_on c gs signatures w _ bound _ d.comes (subst (λ z. Ends c gs signatures (tied c gs signatures y t d.callers d.tie) z (run gs b y t k)) d.left (h y t d.callers d.tie k l))

  pub run_ends : (b : ℕ) → RunEnds b b
  run_ends zero x s ks tie n h = absurd (omega arith)
  run_ends (suc b) x s ks tie n h =
      after_ends (tied c gs signatures x s ks tie) (s.ticks + n) (2 * n + length x.frames) b (step gs x s n) (step_does x s ks tie n) (step_less gs x s n) (λ y t js t' k lt. run_ends b y t js t' k (omega arith))
