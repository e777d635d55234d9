-- Where the machine stands for a spot of the graphs, and what a step of the graphs asks of it.
use Rattle.std.proofs.Common.{◌≡◌, ℕ, zero, suc, ◌+◌, ◌≤◌, List, [], ◌∷◌, ◌++◌, length, Option, Some, Result, Ok, Err, refl, sym, ap, ◌∙◌, subst, arith, true, append-nil, take_at, inl, inr}
use Rattle.std.specs.Prelude.{slice_get, reverse}
use Rattle.ckpt_base.specs.declared.trap.Trap.{Trap}
use Rattle.ckpt_base.specs.Trap.{trap_number}
use Rattle.ckpt_base.specs.declared.ending.Ending.TheVariants as ending
use Rattle.ckpt_base.specs.Word.{signed}
use Rattle.ckpt_base.specs.Run.{Run}
use Rattle.c_tree.specs.declared.resolved.RPlace.{RPlace}
use Rattle.c_tree.specs.State.{State, ticked, with_locals, store}
use Rattle.c_tree.specs.Meaning.{over}
use Rattle.c_tree.specs.Kinds.{World as Rules, Signature}
use Rattle.access_summary.specs.Edges.{Edge}
use Rattle.flow_graph.specs.declared.node.NodeWork.{NodeWork}
use Rattle.flow_graph.specs.declared.node.NodeWork.TheVariants as work
use Rattle.flow_graph.specs.WorkRules.{work_keeps}
use Rattle.flow_graph.specs.Run.{Graph, Graphs, Frame, Waits, Store, Return, Spot, graph_at, Step, Over, On, Steps, ticks, given, goes, answers, resumes}
use Rattle.machine_code.specs.declared.instr.Instr.TheVariants as instr
use Rattle.machine_code.specs.declared.event.Caller.{Caller}
use Rattle.machine_code.specs.declared.event.Event.{Event}
use Rattle.machine_code.specs.declared.event.Event.TheVariants as event
use Rattle.machine_code.specs.CodeView.{CodeView}
use Rattle.machine_code.specs.Row.{ran, returned}
use Rattle.machine_code.specs.Run.{World, unprotected, row_at, next_row, Reaches, StopsBy, Stops}
use Rattle.machine_code.proofs.RunLaws.{reaches_on}
use Rattle.code_maker.specs.NodeCode.{keep_answer, start_in, graph_block}
use Rattle.code_maker.proofs.Has.{HasAt}
use Rattle.code_maker.proofs.Stand.{machine, stand, Fails, Gives, reaches_self, reaches_done, reaches_ran, reaches_jump}
use Rattle.code_maker.proofs.ExprRuns.{AddressesFit}
use Rattle.code_maker.proofs.Acts.{IsKept, Acts, keep_acts}
use Rattle.code_maker.proofs.Prints.{GivesAll}
use Rattle.code_maker.proofs.Segments.{IsNode, IsThere, Leads}

-- a node that is there
abbrev pub IsNext : Graph → Option ℕ → Type 0
IsNext g to = (m : ℕ) × (to ≡ Some m) × IsThere g m

-- the nodes that a node goes on to are there
abbrev pub AreNext : Graph → NodeWork → Edge → Type 0
AreNext g (work.Test e) to = IsNext g to.0 × IsNext g to.1
AreNext g work.End to = Unit {0}
AreNext g w to = IsNext g to.0

-- the locals of the calls that wait, those of the earliest first
abbrev pub lows : List Frame → List ℕ
lows [] = []
lows (fr ∷ frs) = lows frs ++ fr.locals

module _ (c : CodeView) (gs : Graphs) (signatures : ℕ → Option Signature) where
  -- the code of a function's graph stands at place q, and its works keep these rules
  pub record IsPlaced (f : Option ℕ) (g : Graph) (q : ℕ) (w : Rules) : Type 0 where
    pub graph : graph_at gs f ≡ Some g
    pub code : HasAt c.instrs q (graph_block g q)
    pub keeps : (n : ℕ) (v : NodeWork) → slice_get g.works n ≡ Some v → work_keeps w v ≡ true
    pub next : (n : ℕ) (to : Edge) (v : NodeWork) → IsNode g n to v → AreNext g v to
    pub entry : IsThere g g.entry
    pub first : IsThere g 0
    pub addresses : AddressesFit w
    pub functions : (h : ℕ) → w.function h ≡ signatures h

  -- ---- calls that wait

  -- at place z the answer of a call is stored, and the run goes on to a node of the function
  pub record IsStored (d : Option RPlace) (f next : Option ℕ) (z : ℕ) : Type 0 where
    pub graph : Graph
    pub start : ℕ
    pub rules : Rules
    pub placed : IsPlaced f graph start rules
    pub node : ℕ
    pub next_is : next ≡ Some node
    pub there : IsThere graph node
    pub kept : IsKept d
    pub keeps : HasAt c.instrs z (keep_answer d)
    pub leads : Leads c.instrs (z + length (keep_answer d)) (start_in graph start node)

  -- what is done at place z with the answer of a call is what the frame waits for
  abbrev pub TakesAnswer : Waits → Frame → ℕ → Type 0
  TakesAnswer (Store d) fr z = IsStored d fr.function fr.next z
  TakesAnswer Return fr z = slice_get c.instrs z ≡ Some instr.Ret

  abbrev pub caller : ℕ → List Frame → Caller
  caller z frs = record { place = z; below = 0; locals_below = length (lows frs) }

  -- the callers of the machine are those of the frames
  abbrev pub AreCallers : List Frame → List Caller → Type 0
  AreCallers [] ks = ks ≡ []
  AreCallers (fr ∷ frs) ks = (z : ℕ) × (js : List Caller) × (ks ≡ caller z frs ∷ js) × TakesAnswer fr.waits fr z × AreCallers frs js

  pub callers_count : (frs : List Frame) (ks : List Caller) → AreCallers frs ks → length ks ≡ length frs
  callers_count [] ks h = ap length h
  callers_count (fr ∷ frs) ks h = ap length h.2 ∙ ap suc (callers_count frs h.1 h.4)

  -- ---- spots

  -- the machine can stand for a spot
  pub record IsTied (x : Spot) (t : State) (ks : List Caller) : Type 0 where
    pub graph : Graph
    pub start : ℕ
    pub rules : Rules
    pub placed : IsPlaced x.function graph start rules
    pub there : IsThere graph x.node
    pub callers : AreCallers x.frames ks
    pub objects : t.variables.objects ≡ c.objects

  -- .. and this is where it stands
  abbrev pub tied : (x : Spot) (t : State) (ks : List Caller) → IsTied x t ks → World
  tied x t ks tie = stand (lows x.frames) ks t (start_in tie.graph tie.start x.node) []

  pub record ComesTo (w : World) (b : ℕ) (x : Spot) (t : State) (n : ℕ) : Type 0 where
    pub callers : List Caller
    pub tie : IsTied x t callers
    pub comes : Reaches c w (tied x t callers tie)
    pub left : t.ticks + n ≡ b

  -- with b ticks in all the run of the code stops
  abbrev pub Ends : World → ℕ → Run → Type 0
  Ends w b r = (v : World) × Reaches c w v × Stops c v b r

  -- the code does what a step of the graphs does
  abbrev pub Does : World → ℕ → Step → Type 0
  Does w b (Over r) = Ends w b r
  Does w b (On x t n) = ComesTo w b x t n

  pub ends_on : (w v : World) (b : ℕ) (r : Run) → Reaches c w v → Ends v b r → Ends w b r
  ends_on w v b r h e = (e.0, reaches_on c w v e.0 h e.1, e.2)

  pub does_on : (w v : World) (b : ℕ) (o : Step) → Reaches c w v → Does v b o → Does w b o
  does_on w v b (Over r) h d = ends_on w v b r h d
  does_on w v b (On x t n) h d = record { callers = d.callers; tie = d.tie; comes = reaches_on c w v _ h d.comes; left = d.left }

  -- ---- endings

  ends_by : (low : List ℕ) (ks : List Caller) (t : State) (q : ℕ) (ops : List ℕ) (b : ℕ) (r : Run) (e : Event) → (next_row c unprotected (machine low ks t q ops) t.variables.cells).event ≡ e → StopsBy e (stand low ks t q ops) b r → Ends (stand low ks t q ops) b r
  ends_by low ks t q ops b r e is h = (stand low ks t q ops, reaches_self c (stand low ks t q ops), subst (λ x. StopsBy x (stand low ks t q ops) b r) (sym is) h)

  pub fails_end : (low : List ℕ) (ks : List Caller) (t : State) (w : World) (b : ℕ) (e : Trap) → t.ticks ≤ b → Fails c low ks t w e → Ends w b (over (ending.Trapped (trap_number e)) t)
  fails_end low ks t w b e le f = ends_on w _ b _ f.comes (ends_by low ks t f.place f.operands b _ (event.Trapped (trap_number e)) f.event (le, refl))

  -- what an action does, and on
  pub acts_does : (low : List ℕ) (ks : List Caller) (w : World) (s : State) (q b : ℕ) (r : Result State Trap) (go : State → Step) → s.ticks ≤ b → Acts c low ks w s q r
      → ((t : State) → r ≡ Ok t → t.ticks ≡ s.ticks → t.variables.objects ≡ s.variables.objects → Does (stand low ks t q []) b (go t)) → Does w b (given r s go)
  acts_does low ks w s q b (Ok t) go le a h = does_on w _ b (go t) a.comes (h t refl a.ticks a.objects)
  acts_does low ks w s q b (Err e) go le a h = fails_end low ks s w b e le a

  -- a node's tick
  pub tick_does : (low : List ℕ) (ks : List Caller) (s : State) (q n : ℕ) (go : Steps) → slice_get c.instrs q ≡ Some instr.Tick → ((k : ℕ) → Does (stand low ks (ticked s) (q + 1) []) (s.ticks + 1 + k) (go (ticked s) k)) → Does (stand low ks s q []) (s.ticks + n) (ticks go s n)
  tick_does low ks s q zero go at h = ends_by low ks s q [] (s.ticks + 0) _ event.Ticked (ap (λ o. (row_at c unprotected (machine low ks s q []) s.variables.cells o).event) at) (omega arith, refl)
  tick_does low ks s q (suc n) go at h =
      let one : Reaches c (stand low ks s q []) (stand low ks (ticked s) (q + 1) [])
      = subst (λ es. Reaches c (stand low ks s q []) (stand low ks (record (ticked s) { events = es }) (q + 1) [])) (append-nil s.events) (reaches_done c (stand low ks s q []) instr.Tick _ at refl) in
      let e : s.ticks + 1 + n ≡ s.ticks + suc n = omega arith in
      subst (λ b. Does (stand low ks s q []) b (go (ticked s) n)) e (does_on _ _ (s.ticks + 1 + n) (go (ticked s) n) one (h n))

  -- a value, or the values of several expressions, and on
  pub value_does : (low : List ℕ) (ks : List Caller) (w : World) (s : State) (q b : ℕ) (r : Result ℕ Trap) (go : ℕ → Step) → s.ticks ≤ b → Gives c low ks s w q [] r
      → ((a : ℕ) → Does (stand low ks s q (a ∷ [])) b (go a)) → Does w b (given r s go)
  value_does low ks w s q b (Ok a) go le g h = does_on w _ b (go a) g (h a)
  value_does low ks w s q b (Err e) go le g h = fails_end low ks s w b e le g

  pub values_does : (low : List ℕ) (ks : List Caller) (w : World) (s : State) (q b : ℕ) (r : Result (List ℕ) Trap) (go : List ℕ → Step) → s.ticks ≤ b → GivesAll c low ks s w q [] r
      → ((as' : List ℕ) → r ≡ Ok as' → Does (stand low ks s q (reverse as')) b (go as')) → Does w b (given r s go)
  values_does low ks w s q b (Ok as') go le g h = does_on w _ b (go as') g (h as' refl)
  values_does low ks w s q b (Err e) go le g h = fails_end low ks s w b e le g

  -- ---- on to a node, and back from a call

  pub leads_on : (low : List ℕ) (ks : List Caller) (t : State) (q z : ℕ) (ops : List ℕ) → Leads c.instrs q z → Reaches c (stand low ks t q ops) (stand low ks t z ops)
  leads_on low ks t q z ops (inl e) = subst (λ p. Reaches c (stand low ks t q ops) (stand low ks t p ops)) e (reaches_self c (stand low ks t q ops))
  leads_on low ks t q z ops (inr at) = reaches_jump c low ks t q z ops at

  pub goes_does : (f : Option ℕ) (g : Graph) (q : ℕ) (w : Rules) (frs : List Frame) (ks : List Caller) (t : State) (z m n b : ℕ) (to : Option ℕ) → IsPlaced f g q w → IsThere g m → AreCallers frs ks → t.variables.objects ≡ c.objects
      → to ≡ Some m → Leads c.instrs z (start_in g q m) → t.ticks + n ≡ b → Does (stand (lows frs) ks t z []) b (goes f frs to t n)
  goes_does f g q w frs ks t z m n b to placed there callers objects is leads left =
      subst (λ o. Does (stand (lows frs) ks t z []) b (goes f frs o t n)) (sym is)
      (record {
        callers = ks;
        tie = record { graph = g; start = q; rules = w; placed = placed; there = there; callers = callers; objects = objects };
        comes = leads_on (lows frs) ks t z (start_in g q m) [] leads;
        left = left;
      })

  -- the return of a call
  returned_to : (frs : List Frame) (fr : Frame) (ks js : List Caller) (t : State) (q z a : ℕ) → ks ≡ caller z frs ∷ js → slice_get c.instrs q ≡ Some instr.Ret
      → Reaches c (stand (lows (fr ∷ frs)) ks t q (a ∷ [])) (stand (lows frs) js (with_locals fr.locals t) z (a ∷ []))
  returned_to frs fr ks js t q z a is at =
      let low = lows frs ++ fr.locals in
      let by_callers = ap (λ cs. returned (machine low ks t q (a ∷ [])) t.variables.cells cs) is in
      let kept = take_at low t.variables.locals (length low) refl in
      let same = ap (λ ls. ran (record { place = z; operands = a ∷ []; below = 0; locals = ls; locals_below = length (lows frs); callers = js; ticks = t.ticks }) t.variables.cells) kept in
      reaches_ran c (stand low ks t q (a ∷ [])) instr.Ret (machine (lows frs) js (with_locals fr.locals t) z (a ∷ [])) t.variables.cells at (by_callers ∙ same)

  resumed : (w : Waits) (fr : Frame) (frs : List Frame) (js : List Caller) (t : State) (z a n : ℕ) → TakesAnswer w fr z → AreCallers frs js → t.variables.objects ≡ c.objects
      → ((q : ℕ) (s : State) → s.variables.objects ≡ c.objects → slice_get c.instrs q ≡ Some instr.Ret → Does (stand (lows frs) js s q (a ∷ [])) (s.ticks + n) (answers frs a s n))
      → Does (stand (lows frs) js t z (a ∷ [])) (t.ticks + n) (resumes w fr frs (answers frs) a t n)
  resumed (Store d) fr frs js t z a n takes callers objects ih =
      acts_does (lows frs) js (stand (lows frs) js t z (a ∷ [])) t (z + length (keep_answer d)) (t.ticks + n) (store d a t) _ (omega arith) (keep_acts c (lows frs) js t z a d takes.kept takes.keeps)
      (λ u is same objs. goes_does fr.function takes.graph takes.start takes.rules frs js u (z + length (keep_answer d)) takes.node n (t.ticks + n) fr.next takes.placed takes.there callers (objs ∙ objects) takes.next_is takes.leads (omega arith))
  resumed Return fr frs js t z a n takes callers objects ih = ih z t objects takes

  pub answers_does : (frs : List Frame) (ks : List Caller) (t : State) (q a n : ℕ) → AreCallers frs ks → t.variables.objects ≡ c.objects → slice_get c.instrs q ≡ Some instr.Ret
      → Does (stand (lows frs) ks t q (a ∷ [])) (t.ticks + n) (answers frs a t n)
  answers_does [] ks t q a n callers objects at =
      ends_by [] ks t q (a ∷ []) (t.ticks + n) _ (event.Ended (signed a))
      (ap (λ o. (row_at c unprotected (machine [] ks t q (a ∷ [])) t.variables.cells o).event) at ∙ ap (λ cs. (returned (machine [] ks t q (a ∷ [])) t.variables.cells cs).event) callers)
      (omega arith, refl)
  answers_does (fr ∷ frs) ks t q a n callers objects at =
      does_on _ _ (t.ticks + n) (resumes fr.waits fr frs (answers frs) a (with_locals fr.locals t) n) (returned_to frs fr ks callers.1 t q callers.0 a callers.2 at)
      (resumed fr.waits fr frs callers.1 (with_locals fr.locals t) callers.0 a n callers.3 callers.4 objects (λ p s objs ret. answers_does frs callers.1 s p a n callers.4 objs ret))
