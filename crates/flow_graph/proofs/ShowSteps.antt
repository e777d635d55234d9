-- What one step of a run shows, and where it leads in the walk of `main`.
use Rattle.std.proofs.Common.{◌≡◌, ℕ, zero, suc, ◌<◌, ◌⊎◌, Bool, true, false, List, [], ◌∷◌, ◌++◌, length, Option, Some, None, Result, Ok, Err, inl, inr, refl, sym, ap, ◌∙◌, subst}
use Rattle.std.specs.Prelude.{slice_get, nat_lt, if◌then◌else◌}
use Rattle.std.proofs.lemmas.Bool.{and_parts, false≢true}
use Rattle.std.proofs.lemmas.Option.{none-some}
use Rattle.ckpt_base.specs.declared.trap.Trap.{Trap}
use Rattle.ckpt_base.specs.declared.trap.Trap.TheVariants.{TooManyCalls}
use Rattle.ckpt_base.specs.Trap.{trap_number}
use Rattle.ckpt_base.specs.declared.ending.Ending.{Ending}
use Rattle.ckpt_base.specs.declared.ending.Ending.TheVariants.{Ended, Going, Trapped}
use Rattle.ckpt_base.specs.Word.{signed, word_holds}
use Rattle.ckpt_base.specs.Event.{Event, Took, Excluded, Checkpoint}
use Rattle.c_tree.specs.declared.resolved.RExpr.{RExpr}
use Rattle.c_tree.specs.declared.resolved.RPlace.{RPlace}
use Rattle.c_tree.specs.declared.resolved.RFunction.{RFunction}
use Rattle.c_tree.specs.declared.resolved.Resolved.{Resolved}
use Rattle.c_tree.specs.Layout.{cell_count}
use Rattle.c_tree.specs.Kinds.{is_variable, stores, call_kind}
use Rattle.c_tree.specs.Checked.{IsChecked, in_function}
use Rattle.c_tree.specs.State.{State, Action, value, values, declare, set as assign, store, put, write_out, take_from, take, input, exclude, checkpoint, ticked, with_event, with_locals}
use Rattle.c_tree.specs.Meaning.{over}
use Rattle.path_laws.specs.declared.graph.Mark.{Mark}
use Rattle.path_laws.specs.declared.graph.Mark.TheVariants as mark'
use Rattle.path_laws.specs.Graph as effects
use Rattle.path_laws.specs.Graph.{mark_of, may_write, has_edge}
use Rattle.access_summary.specs.Edges.{Edge}
use Rattle.access_summary.specs.declared.effects.Effect.{Effect}
use Rattle.access_summary.specs.declared.touch.Access.TheVariants as access'
use Rattle.access_summary.specs.Effects as reads
use Rattle.access_summary.specs.Effects.{stored, pointer_effects, expr_effects, call_effects}
use Rattle.access_summary.specs.Touch.{Touches}
use Rattle.flow_graph.specs.declared.node.NodeWork.{NodeWork}
use Rattle.flow_graph.specs.declared.node.NodeWork.TheVariants as work
use Rattle.flow_graph.specs.Works.{works_of_body}
use Rattle.flow_graph.specs.WorkRules.{work_keeps}
use Rattle.flow_graph.specs.NodeEffects.{work_effects}
use Rattle.flow_graph.specs.MainGraph.{mark, main_of, IsMainGraph}
use Rattle.flow_graph.specs.Run as r
use Rattle.flow_graph.specs.Run.{Graph, Waits, Store, Return, Frame, Spot, spot, Step, Over, On, Steps, graphs_of, graph_at, edge_in, work_in, given, goes, ticks, resumes, answers, enters, made, does, does_node, step, nowhere}
use Rattle.flow_graph.specs.Agreement.{AreCalls, Place, Counts, AreAlike, KeepsPointers, AgreeAt}
use Rattle.flow_graph.specs.RunWalks.{MayShow, ShowsAs, Shows}
use Rattle.flow_graph.proofs.WorkRuleLaws.{all_at, function_works_keep}
use Rattle.flow_graph.proofs.Joins.{graph_is_joined}
use Rattle.flow_graph.proofs.AgreeText.{nothing_more}
use Rattle.flow_graph.proofs.AgreeValues.{touches_right}
use Rattle.flow_graph.proofs.AgreeFlows.{IsNodeOf}
use Rattle.flow_graph.proofs.AgreeStores.{ticked_alike, ticked_keeps}
use Rattle.flow_graph.proofs.AgreeCalls.{IsWorkOf, node_of, work_of, outside_node, edge_there, node_counts, node_writes}
use Rattle.flow_graph.proofs.AgreeAnswers.{store_call, CallAt, call_at, main_below}
use Rattle.flow_graph.proofs.ShowStores.{Showed, Stopped, ShowedBy, nothing, showed_then, then_by, put_shows, print_shows, May, variable_shows, set_shows, declare_shows}

-- ---- what a step shows

-- with the place at node k of `main`: outside calls all that the node shows, or nothing yet where a call begins; in a call what the node may show
abbrev pub StepShown : effects.Graph → ℕ → List Frame → List Frame → List Event → Type 0
StepShown g k [] [] es = Shows g k es
StepShown g k [] (fr ∷ to) es = (mark_of g k ≡ mark'.Plain) × MayShow g k es
StepShown g k (below ∷ from) to es = MayShow g k es

-- a step led on to spot y
pub record Went (g : effects.Graph) (k : ℕ) (from : List Frame) (s : State) (y : Spot) (u : State) : Type 0 where
  pub more : List Event
  pub events : u.events ≡ s.events ++ more
  pub shown : StepShown g k from y.frames more
  pub edge : y.frames ≡ [] → has_edge g k y.node ≡ true

abbrev pub StepShows : effects.Graph → ℕ → List Frame → State → Step → Type 0
StepShows g k from s (Over q) = Stopped (λ c. may_write g k c ≡ true) s q
StepShows g k from s (On y u i) = Went g k from s y u

module _ (p : Resolved) (h : IsChecked p) (g : effects.Graph) (mg : IsMainGraph p g) where
  -- the edges of a node of `main`, and its mark
  main_edge : (m n : ℕ) (to : Edge) (k : NodeWork) → edge_in (graph_at (graphs_of p) None) m ≡ Some to → work_in (graph_at (graphs_of p) None) m ≡ Some k → (to.0 ≡ Some n) ⊎ (to.1 ≡ Some n) → has_edge g m n ≡ true
  main_edge m n to k e w at = edge_there p g mg m n to (mg.nodes m to k e w).next at

  -- so of a node of `main` that is reached outside calls
  outer_edge : (n : ℕ) (f : Option ℕ) (m : ℕ) (frs : List Frame) (to : Edge) (k : NodeWork) → AreCalls p n f frs → (frs ≡ [] → n ≡ m) → edge_in (graph_at (graphs_of p) f) m ≡ Some to → work_in (graph_at (graphs_of p) f) m ≡ Some k → (j : ℕ) → (to.0 ≡ Some j) ⊎ (to.1 ≡ Some j) → frs ≡ [] → has_edge g n j ≡ true
  outer_edge n f m frs to k calls out e w j at nil =
      let main = main_below p n f frs calls nil in
      subst (λ i. has_edge g i j ≡ true) (sym (out nil)) (main_edge m j to k (subst (λ (q : Option ℕ). edge_in (graph_at (graphs_of p) q) m ≡ Some to) main e) (subst (λ (q : Option ℕ). work_in (graph_at (graphs_of p) q) m ≡ Some k) main w) at)

  outer_mark : (n : ℕ) (f : Option ℕ) (m : ℕ) (frs : List Frame) (to : Edge) (k : NodeWork) → AreCalls p n f frs → (frs ≡ [] → n ≡ m) → edge_in (graph_at (graphs_of p) f) m ≡ Some to → work_in (graph_at (graphs_of p) f) m ≡ Some k → frs ≡ [] → mark_of g n ≡ mark k
  outer_mark n f m frs to k calls out e w nil =
      let main = main_below p n f frs calls nil in
      subst (λ i. mark_of g i ≡ mark k) (sym (out nil)) ((mg.nodes m to k (subst (λ (q : Option ℕ). edge_in (graph_at (graphs_of p) q) m ≡ Some to) main e) (subst (λ (q : Option ℕ). work_in (graph_at (graphs_of p) q) m ≡ Some k) main w)).marked)

  -- ---- inside calls

  module _ (n : ℕ) (s : State) where
    abbrev P : ℕ → Type 0
    P c = may_write g n c ≡ true

    -- a step of a call
    abbrev InCall : Step → Type 0
    InCall (Over q) = Stopped P s q
    InCall (On y u i) = Showed P s u × (y.frames ≡ [] → has_edge g n y.node ≡ true)

    ended : (e : Ending) (u : State) → Showed P s u → Stopped P s (over e u)
    ended e u d = record { more = d.more; events = d.events; only = d.only }

    goes_in : (f : Option ℕ) (frs : List Frame) (o : Option ℕ) (u : State) (i : ℕ) → Showed P s u → ((j : ℕ) → o ≡ Some j → frs ≡ [] → has_edge g n j ≡ true) → InCall (goes f frs o u i)
    goes_in f frs None u i d edge = ended (Trapped (trap_number TooManyCalls)) u d
    goes_in f frs (Some j) u i d edge = (d, edge j refl)

    -- an answer is stored, and the caller goes on
    stores_in : (o : Option RPlace) (j : ℕ) (es : List RExpr) (fr : Frame) (frs : List Frame) (a : ℕ) (u : State) (i : ℕ) (at : CallAt p n j fr frs) → at.call.work ≡ work.Call o j es → AreCalls p n fr.function frs → Showed P s u
        → InCall (given (store o a u) u (λ t. goes fr.function frs fr.next t i))
    stores_in o j es fr frs a u i at is calls d = then_goes (store o a u) (then_by P s u (store o a u) d (stored_by o is))
      where
        f : Option ℕ
        f = fr.function

        out : frs ≡ [] → n ≡ at.node
        out nil = sym (at.first nil)

        stored_by : (o : Option RPlace) → at.call.work ≡ work.Call o j es → ShowedBy P u (store o a u)
        stored_by None is = nothing P u u refl
        stored_by (Some pl) is =
            let in_work = subst (λ (k : NodeWork). work_in (graph_at (graphs_of p) f) at.node ≡ Some k) is at.call.is_work in
            let w = work_of p h f at.node (work.Call (Some pl) j es) (node_of p f at.node (work.Call (Some pl) j es) in_work) in
            variable_shows p f w.world w.is_world P u pl a (and_parts (is_variable w.world pl) (stores w.world pl (call_kind w.world j es)) w.keeps).0
            (λ c lt t. node_writes p g mg n f at.node frs at.call.edge (work.Call (Some pl) j es) c calls out at.call.is_edge in_work lt
            (inl (touches_right p access'.Write (pointer_effects f pl) (call_effects f j es ++ reads.written f pl) c (touches_right p access'.Write (call_effects f j es) (reads.written f pl) c t))))

        then_goes : (q : Result State Trap) → ShowedBy P s q → InCall (given q u (λ t. goes f frs fr.next t i))
        then_goes (Err t) b = ended (Trapped (trap_number t)) u d
        then_goes (Ok v) b = goes_in f frs fr.next v i b (λ j' e nil. outer_edge n f at.node frs at.call.edge at.call.work calls out at.call.is_edge at.call.is_work j' (inl (sym at.call.next ∙ e)) nil)

    takes_in : (ws : Waits) (j : ℕ) (fr : Frame) (frs : List Frame) (a : ℕ) (u : State) (i : ℕ) (at : CallAt p n j fr frs) → fr.waits ≡ ws → AreCalls p n fr.function frs → Showed P s u → ((t : State) → Showed P s t → InCall (answers frs a t i))
        → InCall (resumes ws fr frs (answers frs) a (with_locals fr.locals u) i)
    takes_in (Store o) j fr frs a u i at is calls d later =
        let q = store_call j o at.call.work (at.call.calls ∙ ap (λ (w : Waits). Some (w, j)) is) in
        stores_in o j q.0 fr frs a (with_locals fr.locals u) i at q.1 calls (showed_then P s u (with_locals fr.locals u) d (nothing P u (with_locals fr.locals u) refl))
    takes_in Return j fr frs a u i at is calls d later = later (with_locals fr.locals u) (showed_then P s u (with_locals fr.locals u) d (nothing P u (with_locals fr.locals u) refl))

    -- a call ends with its answer
    answers_in : (f : Option ℕ) (frs : List Frame) (a : ℕ) (u : State) (i : ℕ) → AreCalls p n f frs → Showed P s u → InCall (answers frs a u i)
    answers_in f [] a u i calls d = ended (Ended (signed a)) u d
    answers_in None (fr ∷ frs) a u i calls d = absurd calls
    answers_in (Some j) (fr ∷ frs) a u i calls d = takes_in fr.waits j fr frs a u i (call_at p n j fr frs calls.0) refl calls.1 d (λ t b. answers_in fr.function frs a t i calls.1 b)

  -- ---- one node

  module _ (l : Place) (f : Option ℕ) (m : ℕ) (frs : List Frame) (s : State) (at : AgreeAt p g l (spot f m frs) s s) where
    abbrev n : ℕ
    n = l.node

    abbrev W : ℕ → Type 0
    W c = may_write g n c ≡ true

    abbrev E : ℕ → Type 0
    E = Counts g l

    abbrev x : Spot
    x = spot f m frs

    abbrev s1 : State
    s1 = ticked s

    abbrev Good : Step → Type 0
    Good o = StepShows g n frs s o

    alike1 : AreAlike p E s1 s1
    alike1 = ticked_alike p E f s s at.alike at.pointers

    keep1 : KeepsPointers p E f s1
    keep1 = ticked_keeps p E f s s at.alike at.pointers

    out : frs ≡ [] → n ≡ m
    out = outside_node l m frs at.outside

    now : Showed W s s
    now = nothing W s s refl

    a_tick : Showed W s s1
    a_tick = nothing W s s1 refl

    stop : (e : Ending) (u : State) → Showed W s u → Good (Over (over e u))
    stop e u d = record { more = d.more; events = d.events; only = d.only }

    -- a node that takes a tick
    ticks_show : (go : Steps) (i : ℕ) → ((j : ℕ) → Good (go s1 j)) → Good (ticks go s i)
    ticks_show go zero k = stop Going s now
    ticks_show go (suc j) k = k j

    -- the end of a call, or of the program
    ends : (frs' : List Frame) → frs' ≡ frs → (a j : ℕ) (u : State) → Showed W s u → Good (answers frs' a u j)
    ends [] e a j u d = stop (Ended (signed a)) u d
    ends (fr ∷ rest) e a j u d = subst (λ (q : List Frame). StepShows g n q s (answers (fr ∷ rest) a u j)) e (inside (answers (fr ∷ rest) a u j) (answers_in n s f (fr ∷ rest) a u j (subst (λ (q : List Frame). AreCalls p n f q) (sym e) at.calls) d))
      where
        inside : (o : Step) → InCall n s o → StepShows g n (fr ∷ rest) s o
        inside (Over q) b = b
        inside (On y v i) b = record { more = (b.0).more; events = (b.0).events; shown = (b.0).only; edge = b.1 }

    module _ (to : Edge) (k : NodeWork) (is_edge : edge_in (graph_at (graphs_of p) f) m ≡ Some to) (is_work : work_in (graph_at (graphs_of p) f) m ≡ Some k) where
      the_work : IsWorkOf p f m k
      the_work = work_of p h f m k (node_of p f m k is_work)

      reads_count : (c : ℕ) → c < cell_count p → Touches p access'.Read (work_effects f k) c → E c
      reads_count c lt y = node_counts p g mg l f m frs to k c at.calls at.outside is_edge is_work lt (inl y)

      may : May p f the_work.world the_work.is_world W s1 (work_effects f k)
      may c lt t = node_writes p g mg n f m frs to k c at.calls out is_edge is_work lt (inl t)

      shown_here : (frs' : List Frame) → (frs' ≡ [] → mark_of g n ≡ mark'.Plain) → (es : List Event) → MayShow g n es → StepShown g n frs' frs' es
      shown_here [] plain es only = subst (λ (q : Mark). ShowsAs g n q es) (sym (plain refl)) only
      shown_here (fr ∷ rest) plain es only = only

      -- a node with no directive goes on
      goes_show : mark k ≡ mark'.Plain → (o : Option ℕ) → ((j : ℕ) → o ≡ Some j → (to.0 ≡ Some j) ⊎ (to.1 ≡ Some j)) → (u : State) (i : ℕ) → Showed W s u → Good (goes f frs o u i)
      goes_show plain None at' u i d = stop (Trapped (trap_number TooManyCalls)) u d
      goes_show plain (Some j) at' u i d = record {
        more = d.more;
        events = d.events;
        shown = shown_here frs (λ nil. outer_mark n f m frs to k at.calls out is_edge is_work nil ∙ plain) d.more d.only;
        edge = outer_edge n f m frs to k at.calls out is_edge is_work j (at' j refl);
      }

      -- it does one thing, and goes on
      single_shows : mark k ≡ mark'.Plain → (act : Action) (i : ℕ) → ShowedBy W s1 (act s1) → Good (r.single act (goes f frs to.0) s i)
      single_shows plain act i d = ticks_show (λ s i. given (act s) s (λ t. goes f frs to.0 t i)) i (λ j. by j (act s1) (then_by W s s1 (act s1) a_tick d))
        where
          by : (j : ℕ) (q : Result State Trap) → ShowedBy W s q → Good (given q s1 (λ t. goes f frs to.0 t j))
          by j (Err t) b = stop (Trapped (trap_number t)) s1 a_tick
          by j (Ok u) b = goes_show plain to.0 (λ i e. inl e) u j b

      -- a call begins
      entered : mark k ≡ mark'.Plain → (frs' : List Frame) → frs' ≡ frs → (o : Option Graph) (j : ℕ) (fr : Frame) (as' : List ℕ) (i : ℕ) → StepShows g n frs' s (enters o j (fr ∷ frs') as' s1 i)
      entered plain frs' e None j fr as' i = record { more = []; events = sym (nothing_more None s.events); only = tt }
      entered plain [] e (Some gr) j fr as' i = record { more = []; events = sym (nothing_more None s.events); shown = (outer_mark n f m frs to k at.calls out is_edge is_work (sym e) ∙ plain, tt); edge = λ nil. absurd cc }
      entered plain (b ∷ rest) e (Some gr) j fr as' i = record { more = []; events = sym (nothing_more None s.events); shown = tt; edge = λ nil. absurd cc }

      made_shows : mark k ≡ mark'.Plain → (fr : Frame) (j : ℕ) (as' : List ℕ) (i : ℕ) → Good (made (graphs_of p) fr frs j as' s1 i)
      made_shows plain fr j as' i = by (nat_lt (length frs) 1000)
        where
          by : (b : Bool) → Good (if b then enters (slice_get (graphs_of p).functions j) j (fr ∷ frs) as' s1 i else nowhere s1 i)
          by true = entered plain frs refl (slice_get (graphs_of p).functions j) j fr as' i
          by false = stop (Trapped (trap_number TooManyCalls)) s1 a_tick

      calls_show : mark k ≡ mark'.Plain → (ws : Waits) (o : Option ℕ) (j : ℕ) (es : List RExpr) (i : ℕ) → Good (r.calls (graphs_of p) x ws o j es s i)
      calls_show plain ws o j es i = ticks_show (λ s i. given (values es s.variables) s (λ as'. made (graphs_of p) (record { waits = ws; locals = s.variables.locals; function = f; next = o }) frs j as' s i)) i (λ q. by q (values es s1.variables))
        where
          by : (q : ℕ) (v : Result (List ℕ) Trap) → Good (given v s1 (λ as'. made (graphs_of p) (record { waits = ws; locals = s1.variables.locals; function = f; next = o }) frs j as' s1 q))
          by q (Err t) = stop (Trapped (trap_number t)) s1 a_tick
          by q (Ok as') = made_shows plain (record { waits = ws; locals = s1.variables.locals; function = f; next = o }) j as' q

      -- a directive stands in `main` alone, and leads on
      in_main : ((g' : RFunction) → work_keeps (in_function p g') k ≡ false) → f ≡ None
      in_main never = by f refl
        where
          by : (f' : Option ℕ) → f' ≡ f → f ≡ None
          by None e = sym e
          by (Some j) e = let q = subst (λ (z : Option ℕ). IsNodeOf p z m k) (sym e) (the_work.node) in
              absurd (false≢true (sym (never q.0) ∙ all_at (work_keeps (in_function p q.0)) (works_of_body (q.0).body) m k (function_works_keep p j q.0 h q.1) q.2))

      outside_calls : (f' : Option ℕ) (frs' : List Frame) → f' ≡ None → AreCalls p n f' frs' → frs' ≡ []
      outside_calls None [] e c = refl
      outside_calls None (fr ∷ rest) e c = absurd c
      outside_calls (Some j) frs' e c = absurd (none-some j (sym e))

      directive_goes : frs ≡ [] → (o : Option ℕ) → (j : ℕ) → o ≡ Some j → to.0 ≡ Some j → (u : State) (i : ℕ) (es : List Event) → u.events ≡ s.events ++ es → Shows g n es → Good (goes f frs o u i)
      directive_goes nil None j e e0 u i es events shown = absurd (none-some j e)
      directive_goes nil (Some j') j e e0 u i es events shown = record {
        more = es;
        events = events;
        shown = subst (λ (q : List Frame). StepShown g n q q es) (sym nil) shown;
        edge = outer_edge n f m frs to k at.calls out is_edge is_work j' (inl (e0 ∙ sym e));
      }

    -- ---- each kind of node

    abbrev Edges : Edge → Type 0
    Edges to = edge_in (graph_at (graphs_of p) f) m ≡ Some to

    abbrev Works : NodeWork → Type 0
    Works k = work_in (graph_at (graphs_of p) f) m ≡ Some k

    -- what a node writes at its place
    place_may : (to : Edge) (pl : RPlace) (es : List Effect) (k : NodeWork) (ie : Edges to) (iw : Works k) → work_effects f k ≡ stored f pl es → May p f (the_work to k ie iw).world (the_work to k ie iw).is_world W s1 (reads.written f pl)
    place_may to pl es k ie iw is c lt t = may to k ie iw c lt (subst (λ (q : List Effect). Touches p access'.Write q c) (sym is) (touches_right p access'.Write (pointer_effects f pl) (es ++ reads.written f pl) c (touches_right p access'.Write es (reads.written f pl) c t)))

    declare_shown : (to : Edge) (pl : RPlace) (o : Option RExpr) (i : ℕ) → Edges to → Works (work.Declare pl o) → Good (does (graphs_of p) x to (work.Declare pl o) s i)
    declare_shown to pl o i ie iw =
        let k = work.Declare pl o in
        let w = the_work to k ie iw in
        single_shows to k ie iw refl (declare pl o) i (declare_shows p h f w.world w.is_world E W s1 alike1 keep1 pl o w.keeps (reads_count to k ie iw) (place_may to pl (reads.test_effects f o) k ie iw refl))

    set_shown : (to : Edge) (pl : RPlace) (e : RExpr) (i : ℕ) → Edges to → Works (work.Set pl e) → Good (does (graphs_of p) x to (work.Set pl e) s i)
    set_shown to pl e i ie iw =
        let k = work.Set pl e in
        let w = the_work to k ie iw in
        single_shows to k ie iw refl (assign pl e) i (set_shows p h f w.world w.is_world E W s1 alike1 keep1 pl e w.keeps (reads_count to k ie iw) (place_may to pl (expr_effects f e) k ie iw refl))

    -- a byte is taken, or none is left
    took : Showed W s1 (take s1).1
    took = by s1.input
      where
        by : (bs : List ℕ) → Showed W s1 (take_from bs s1).1
        by [] = nothing W s1 s1 refl
        by (b ∷ bs) = record { more = Took ∷ []; events = refl; only = tt }

    input_shown : (to : Edge) (o : Option RPlace) (i : ℕ) → Edges to → Works (work.Input o) → Good (does (graphs_of p) x to (work.Input o) s i)
    input_shown to o i ie iw = single_shows to (work.Input o) ie iw refl (input o) i (then_by W s1 (take s1).1 (store o (take s1).0 (take s1).1) took (by o iw))
      where
        by : (o : Option RPlace) → Works (work.Input o) → ShowedBy W (take s1).1 (store o (take s1).0 (take s1).1)
        by None iw = nothing W (take s1).1 (take s1).1 refl
        by (Some pl) iw =
            let k = work.Input (Some pl) in
            let w = the_work to k ie iw in
            variable_shows p f w.world w.is_world W (take s1).1 pl (take s1).0 (and_parts (is_variable w.world pl) (stores w.world pl (Some false)) w.keeps).0 (place_may to pl [] k ie iw refl)

    test_shown : (to : Edge) (e : RExpr) (i : ℕ) → Edges to → Works (work.Test e) → Good (does (graphs_of p) x to (work.Test e) s i)
    test_shown to e i ie iw = ticks_show (λ s i. given (value e s.variables) s (λ a. goes f frs (if word_holds a then to.0 else to.1) s i)) i (λ j. by j (value e s1.variables))
      where
        way : (j : ℕ) (b : Bool) → Good (goes f frs (if b then to.0 else to.1) s1 j)
        way j true = goes_show to (work.Test e) ie iw refl to.0 (λ i e. inl e) s1 j a_tick
        way j false = goes_show to (work.Test e) ie iw refl to.1 (λ i e. inr e) s1 j a_tick

        by : (j : ℕ) (v : Result ℕ Trap) → Good (given v s1 (λ a. goes f frs (if word_holds a then to.0 else to.1) s1 j))
        by j (Err t) = stop (Trapped (trap_number t)) s1 a_tick
        by j (Ok a) = way j (word_holds a)

    return_shown : (to : Edge) (e : RExpr) (i : ℕ) → Good (does (graphs_of p) x to (work.Return e) s i)
    return_shown to e i = ticks_show (λ s i. given (value e s.variables) s (λ a. answers frs a s i)) i (λ j. by j (value e s1.variables))
      where
        by : (j : ℕ) (v : Result ℕ Trap) → Good (given v s1 (λ a. answers frs a s1 j))
        by j (Err t) = stop (Trapped (trap_number t)) s1 a_tick
        by j (Ok a) = ends frs refl a j s1 a_tick

    -- a directive of `main`
    abbrev OneEdge : Edge → Type 0
    OneEdge to = (a : ℕ) × (to ≡ (Some a, None)) × (a < length (main_of p).works)

    in_main_edge : (to : Edge) → f ≡ None → Edges to → edge_in (graph_at (graphs_of p) None) m ≡ Some to
    in_main_edge to main ie = subst (λ (z : Option ℕ). edge_in (graph_at (graphs_of p) z) m ≡ Some to) main ie

    in_main_work : (k : NodeWork) → f ≡ None → Works k → work_in (graph_at (graphs_of p) None) m ≡ Some k
    in_main_work k main iw = subst (λ (z : Option ℕ). work_in (graph_at (graphs_of p) z) m ≡ Some k) main iw

    checkpoint_shown : (to : Edge) (i : ℕ) → Edges to → Works work.Checkpoint → Good (does (graphs_of p) x to work.Checkpoint s i)
    checkpoint_shown to i ie iw =
        let k = work.Checkpoint in
        let main = in_main to k ie iw (λ g'. refl) in
        let nil = outside_calls to k ie iw f frs main at.calls in
        let fits : OneEdge to = (graph_is_joined 0 p.main.body).each m k to (in_main_work k main iw) (in_main_edge to main ie) in
        let e0 = ap (λ (z : Edge). z.0) fits.1 in
        ticks_show (λ s i. given (checkpoint m s) s (λ t. goes f frs to.0 t i)) i
        (λ j. directive_goes to k ie iw nil to.0 fits.0 e0 e0 (with_event (Checkpoint m s1.ticks) s1) j (Checkpoint m s1.ticks ∷ []) refl
        (subst (λ (q : Mark). ShowsAs g n q (Checkpoint m s1.ticks ∷ [])) (sym (outer_mark n f m frs to k at.calls out ie iw nil)) (s1.ticks, ap (λ q. Checkpoint q s1.ticks ∷ []) (sym (out nil)))))

    exclude_shown : (to : Edge) (q : ℕ) (i : ℕ) → Edges to → Works (work.Exclude q) → Good (does (graphs_of p) x to (work.Exclude q) s i)
    exclude_shown to q i ie iw =
        let k = work.Exclude q in
        let main = in_main to k ie iw (λ g'. refl) in
        let nil = outside_calls to k ie iw f frs main at.calls in
        let fits : OneEdge to = (graph_is_joined 0 p.main.body).each m k to (in_main_work k main iw) (in_main_edge to main ie) in
        let e0 = ap (λ (z : Edge). z.0) fits.1 in
        ticks_show (λ s i. given (exclude q s) s (λ t. goes f frs to.0 t i)) i
        (λ j. directive_goes to k ie iw nil to.0 fits.0 e0 e0 (with_event (Excluded q) s1) j (Excluded q ∷ []) refl
        (subst (λ (z : Mark). ShowsAs g n z (Excluded q ∷ [])) (sym (outer_mark n f m frs to k at.calls out ie iw nil)) refl))

    does_show : (to : Edge) (k : NodeWork) (i : ℕ) → Edges to → Works k → Good (does (graphs_of p) x to k s i)
    does_show to (work.Declare pl o) i ie iw = declare_shown to pl o i ie iw
    does_show to (work.Set pl e) i ie iw = set_shown to pl e i ie iw
    does_show to (work.Call o j es) i ie iw = calls_show to (work.Call o j es) ie iw refl (Store o) to.0 j es i
    does_show to (work.Input o) i ie iw = input_shown to o i ie iw
    does_show to (work.Return e) i ie iw = return_shown to e i
    does_show to (work.ReturnCall j es) i ie iw = calls_show to (work.ReturnCall j es) ie iw refl Return to.0 j es i
    does_show to work.ReturnInput i ie iw = ticks_show (λ s i. answers frs (take s).0 (take s).1 i) i (λ j. ends frs refl (take s1).0 j (take s1).1 (showed_then W s s1 (take s1).1 a_tick took))
    does_show to (work.Put e) i ie iw = single_shows to (work.Put e) ie iw refl (put e) i (put_shows W s1 e)
    does_show to (work.Print ps es) i ie iw = single_shows to (work.Print ps es) ie iw refl (write_out ps es) i (print_shows W s1 ps es)
    does_show to (work.Test e) i ie iw = test_shown to e i ie iw
    does_show to work.Checkpoint i ie iw = checkpoint_shown to i ie iw
    does_show to (work.Exclude q) i ie iw = exclude_shown to q i ie iw
    does_show to work.End i ie iw = ends frs refl 0 i s now

    pub step_shows : (i : ℕ) → StepShows g n frs s (step (graphs_of p) x s i)
    step_shows i = by (edge_in (graph_at (graphs_of p) f) m) (work_in (graph_at (graphs_of p) f) m) refl refl
      where
        by : (o : Option Edge) (k : Option NodeWork) → edge_in (graph_at (graphs_of p) f) m ≡ o → work_in (graph_at (graphs_of p) f) m ≡ k → Good (does_node (graphs_of p) x o k s i)
        by None k ie iw = stop (Trapped (trap_number TooManyCalls)) s now
        by (Some to) None ie iw = stop (Trapped (trap_number TooManyCalls)) s now
        by (Some to) (Some k) ie iw = does_show to k i ie iw
