-- Runs of the code from behind a checkpoint, over memories that agree on what is wanted.
use Rattle.std.proofs.Common.{◌≡◌, ℕ, inl, inr, ⊎_elim, List, [], ◌∷◌, ◌++◌, length, drop, Some, None, Bool, true, false, refl, sym, ap, ◌∙◌, subst, arith}
use Rattle.std.specs.Prelude.{slice_index, ◌||◌}
use Rattle.std.proofs.lemmas.Bool.{cases_eq, eqb-true, eq-eqb}
use Rattle.std.proofs.lemmas.List.{append_cancel_left}
use Rattle.ckpt_base.specs.Event.{Event, Checkpoint}
use Rattle.ckpt_base.specs.Run.{Run}
use Rattle.c_tree.specs.declared.resolved.Resolved.{Resolved}
use Rattle.c_tree.specs.Layout.{cell_count}
use Rattle.c_tree.specs.Checked.{IsChecked}
use Rattle.c_tree.specs.State.{State, first_state}
use Rattle.c_tree.specs.Meaning.{over}
use Rattle.path_laws.specs.Edge.{is_at}
use Rattle.path_laws.specs.Graph as effects
use Rattle.path_laws.specs.Graph.{next_of, has_edge}
use Rattle.access_summary.specs.Edges.{Edge}
use Rattle.flow_graph.specs.declared.node.NodeWork.TheVariants as work
use Rattle.flow_graph.specs.MainGraph.{IsMainGraph}
use Rattle.flow_graph.specs.Run.{Graphs, Spot, spot, Step, Over, On, step, after, graph_run, graphs_of, at_entry}
use Rattle.flow_graph.specs.Wanted.{IsWanted}
use Rattle.flow_graph.specs.Agreement.{Place, Counts, AgreeAt, EndAlike, StepsAgree, ComesTo}
use Rattle.flow_graph.proofs.Steps.{one_step}
use Rattle.flow_graph.proofs.AgreeStores.{nothing_there}
use Rattle.flow_graph.proofs.AgreeRuns.{comes_run, step_agrees_at, runs_alike, comes_alike, images_agree}
use Rattle.flow_graph.proofs.AgreeFirst.{first_agrees}
use Rattle.machine_code.specs.CodeView.{CodeView}
use Rattle.machine_code.specs.State.{standing}
use Rattle.machine_code.specs.Valid.{has_checkpoint}
use Rattle.machine_code.specs.Shown.{taken, Shows}
use Rattle.machine_code.specs.Run.{World, world, Reaches, CodeRun}
use Rattle.machine_code.proofs.RunLaws.{one_answer}
use Rattle.code_maker.specs.CheckpointPlaces.{IsCheckpointTo}
use Rattle.code_maker.specs.CodeMeaning.{IsOutside, world_at, IsStart, PassedLast, MeansGraphs}
use Rattle.code_maker.specs.Resumed.{AreResumed, KeepsBehind, AgreeBehind, state_behind}
use Rattle.code_maker.proofs.Segments.{some_is}
use Rattle.code_maker.proofs.ResumedSteps.{AreNested, Moved, step_moved}
use Rattle.code_maker.proofs.ResumedRuns.{last_step, never_stuck, plain_stops, nothing_behind}

module _ (p : Resolved) (checked : IsChecked p) (g : effects.Graph) (is_main : IsMainGraph p g) where
  abbrev gs : Graphs
  gs = graphs_of p

  -- ---- the edge of a checkpoint

  one_edge : (m next : ℕ) → IsCheckpointTo p m next → next_of g m ≡ (Some next, None)
  one_edge m next is = (is_main.nodes m (Some next, None) work.Checkpoint is.edge is.does).next

  edge_to : (m next : ℕ) → IsCheckpointTo p m next → has_edge g m next ≡ true
  edge_to m next is = subst (λ (t : Edge). (is_at t.0 next || is_at t.1 next) ≡ true) (sym (one_edge m next is)) (or_first (is_at (Some next) next) (is_at None next) (eq-eqb next next refl))
    where
      or_first : (a b : Bool) → a ≡ true → (a || b) ≡ true
      or_first true b e = refl
      or_first false b e = absurd (cc)

  edge_is : (m next n : ℕ) → IsCheckpointTo p m next → has_edge g m n ≡ true → n ≡ next
  edge_is m next n is e = by_test (is_at (Some next) n) refl (subst (λ (t : Edge). (is_at t.0 n || is_at t.1 n) ≡ true) (one_edge m next is) e)
    where
      by_test : (b : Bool) → is_at (Some next) n ≡ b → (b || is_at None n) ≡ true → n ≡ next
      by_test true h e = sym (eqb-true next n h)
      by_test false h e = absurd (cc)

  same_next : (m a b : ℕ) → IsCheckpointTo p m a → IsCheckpointTo p m b → a ≡ b
  same_next m a b x y = some_is (ap (λ (t : Edge). t.0) (some_is (sym x.edge ∙ y.edge)))

  -- ---- two states behind a checkpoint

  abbrev behind_place : ℕ → Place
  behind_place next = record { node = next; written = [] }

  resumed_agree : (m next : ℕ) (s t : State) → IsCheckpointTo p m next → AreResumed p g m next s t → AgreeAt p g (behind_place next) (spot None next []) s t
  resumed_agree m next s t is h =
      let own : AgreeAt p g (behind_place next) (spot None next []) s s = record {
        calls = tt;
        outside = (refl, refl);
        alike = record { rest = refl; objects = h.alike.objects; size = h.alike.size; same_size = h.alike.size; words = λ c y. refl };
        pointers = record { cells = λ c y. h.pointers.cells c (wanted c y); locals = h.pointers.locals };
        frames = tt;
      } in
      images_agree p g (behind_place next) m next s t (edge_to m next is) own h.alike
    where
      wanted : (c : ℕ) → Counts g (behind_place next) c → IsWanted g c next
      wanted c (inl w) = w
      wanted c (inr y) = nothing_there c y

  agree_behind : (k next : ℕ) (l : Place) (u v : State) → IsCheckpointTo p k next → AgreeAt p g l (spot None next []) u v → AgreeBehind p g k u.variables.cells v.variables.cells
  agree_behind k next l u v is a = record {
    size = a.alike.size;
    same_size = a.alike.same_size;
    words = λ c kept. ⊎_elim {C = slice_index u.variables.cells c ≡ slice_index v.variables.cells c} (λ e. e)
        (λ ne. absurd (kept (λ m w walk reads. ne (a.alike.words c (inl (subst (IsWanted g c) (edge_is k next m is walk.0 ∙ sym a.outside.0) (w, walk.1, reads)))))))
        (cases_eq (slice_index u.variables.cells c) (slice_index v.variables.cells c));
    pointers = λ other c to wanted pointer. a.pointers.cells c (inl (subst (IsWanted g c) (same_next k other next to is ∙ sym a.outside.0) wanted)) pointer;
  }

  -- ---- runs

  -- the step with which one run is over, right behind a checkpoint and with nothing changed, is the last of the other too
  over_behind : (l : Place) (next : ℕ) (y : Spot) (u v : State) (r o : Run) → y ≡ spot None next [] → AgreeAt p g l y u v → r ≡ over r.ending u → EndAlike r o → Moved gs y v (Over o) → o ≡ over o.ending v
  over_behind l next y u v r o is a same alike (inl d) =
      let ticks : v.ticks ≡ u.ticks = ap (λ (w : State). w.ticks) a.alike.rest in
      let now : r.ticks ≡ u.ticks = ap (λ (q : Run). q.ticks) same in
      absurd (omega (arith, d.ticks, alike.ticks))
  over_behind l next y u v r o is a same alike (inr (inl d)) = absurd (d.1 (ap (λ (z : Spot). z.frames) is))
  over_behind l next y u v r o is a same alike (inr (inr (inl e))) = e
  over_behind l next y u v r o is a same alike (inr (inr (inr d))) = absurd (never_stuck p checked y (subst (λ (z : Spot). AreNested z.function z.frames) (sym is) tt) d)

  -- so is that of the other run
  other_over : (l : Place) (next k : ℕ) (x y : Spot) (t u v : State) (n i j : ℕ) (r : Run) → IsCheckpointTo p k next → y ≡ spot None next [] → AgreeAt p g l y u v → r ≡ over r.ending u → step gs y u i ≡ Over r → ComesTo gs j x t n y v i → (w : Step) → step gs y v i ≡ w
      → StepsAgree p g l y u (Over r) w → AgreeBehind p g k r.memory (graph_run gs x t n).memory
  other_over l next k x y t u v n i j r to is a same ends comes (On z s m) e agree = absurd agree
  other_over l next k x y t u v n i j r to is a same ends comes (Over o) e agree =
      let last : graph_run gs x t n ≡ o = comes_run gs j x t n y v i comes ∙ one_step gs y v i ∙ ap (after (graph_run gs)) e in
      let there = over_behind l next y u v r o is a same agree (subst (Moved gs y v) e (step_moved gs y v i)) in
      let words = agree_behind k next l u v to (subst (λ z. AgreeAt p g l z u v) is a) in
      subst (λ (m : List ℕ). AgreeBehind p g k r.memory m) (sym (ap (λ (q : Run). q.memory) (last ∙ there))) (subst (λ (m : List ℕ). AgreeBehind p g k m v.variables.cells) (sym (ap (λ (q : Run). q.memory) same)) words)

  -- two runs of which one passed a checkpoint last
  runs_behind : (l : Place) (m : ℕ) (s t : State) (n k : ℕ) → s.variables.locals ≡ [] → AgreeAt p g l (spot None m []) s t → PassedLast s k (graph_run gs (spot None m []) s n) → AgreeBehind p g k (graph_run gs (spot None m []) s n).memory (graph_run gs (spot None m []) t n).memory
  runs_behind l m s t n k none a last =
      let x = spot None m [] in
      let r = graph_run gs x s n in
      let e = last_step gs x s n in
      let st = plain_stops p checked m s n none e in
      let here = st.behind k last.more [] (append_cancel_left s.events st.more (last.more ++ Checkpoint k r.ticks ∷ []) (sym st.events ∙ last.events)) in
      let q = comes_alike p checked g is_main e.steps l x s t n e.at e.state e.left a e.comes in
      let agree = subst (λ (o : Step). StepsAgree p g q.place e.at e.state o (step gs e.at q.state e.left)) e.over (step_agrees_at p checked g is_main q.place e.at e.state q.state q.agree e.left) in
      other_over q.place here.2.0 k x e.at t e.state q.state n e.left e.steps r here.2.1 here.2.2 q.agree here.1 e.over q.comes (step gs e.at q.state e.left) refl agree

  -- ---- codes that mean the graphs

  module _ (c : CodeView) (means : MeansGraphs p c) where
    module _ (m q next : ℕ) (s t : State) (is : IsCheckpointTo p m next) (listed : has_checkpoint c m q ≡ true) (h : AreResumed p g m next s t) (n : ℕ) (r o : Run) (one : CodeRun c (world_at q s) n r) (other : CodeRun c (world_at q t) n o) where
      other_outside : IsOutside p t
      other_outside = record { objects = ap (λ (u : State). u.variables.objects) h.alike.rest ∙ h.outside.objects; locals = ap (λ (u : State). u.variables.locals) h.alike.rest ∙ h.outside.locals }

      one_is : graph_run gs (spot None next []) s n ≡ r
      one_is = one_answer c (world_at q s) n (graph_run gs (spot None next []) s n) r (means.from_checkpoint m q next s n h.outside is.does is.edge listed) one

      other_is : graph_run gs (spot None next []) t n ≡ o
      other_is = one_answer c (world_at q t) n (graph_run gs (spot None next []) t n) o (means.from_checkpoint m q next t n other_outside is.does is.edge listed) other

      pub code_runs_alike : EndAlike r o
      code_runs_alike = subst (λ (z : Run). EndAlike r z) other_is (subst (λ (z : Run). EndAlike z (graph_run gs (spot None next []) t n)) one_is
          (runs_alike p checked g is_main (behind_place next) (spot None next []) s t (resumed_agree m next s t is h) n))

      pub code_memories_agree : (k : ℕ) → PassedLast s k r → AgreeBehind p g k r.memory o.memory
      code_memories_agree k last = subst (λ (z : Run). AgreeBehind p g k r.memory z.memory) other_is (subst (λ (z : Run). AgreeBehind p g k z.memory (graph_run gs (spot None next []) t n).memory) one_is
          (runs_behind (behind_place next) next s t n k h.outside.locals (resumed_agree m next s t is h) (subst (PassedLast s k) (sym one_is) last)))

    -- from the start of the program
    pub code_keeps_pointers : (input : List ℕ) (n k : ℕ) (r : Run) → CodeRun c (world_at 0 (first_state p input)) n r → PassedLast (first_state p input) k r → KeepsBehind p g k r.memory
    code_keeps_pointers input n k r run last =
        let s = first_state p input in
        let x = at_entry gs in
        let is = one_answer c (world_at 0 s) n (graph_run gs x s n) r (means.from_entry s n (record { objects = refl; locals = refl })) run in
        subst (λ (z : Run). KeepsBehind p g k z.memory) is (runs_behind _ gs.main.entry s s n k refl (first_agrees p g input checked) (subst (PassedLast s k) (sym is) last)).pointers

-- ---- where a run of a code stands behind a checkpoint

module _ (p : Resolved) (checked : IsChecked p) (c : CodeView) (means : MeansGraphs p c) where
  -- from where a run begins it is the run of the graphs from some node of `main`
  start_run : (q : ℕ) → IsStart p c q → (m : ℕ) × ((s : State) (n : ℕ) → IsOutside p s → CodeRun c (world_at q s) n (graph_run (graphs_of p) (spot None m []) s n))
  start_run q (inl e) = ((graphs_of p).main.entry, λ s n out. subst (λ z. CodeRun c (world_at z s) n (graph_run (graphs_of p) (at_entry (graphs_of p)) s n)) (sym e) (means.from_entry s n out))
  start_run q (inr h) = (h.1, λ s n out. means.from_checkpoint h.0 q h.1 s n out h.2.does h.2.edge h.3)

  pub code_ends_ticks : (q n k : ℕ) (s : State) (r : Run) (a b : List Event) → IsStart p c q → IsOutside p s → CodeRun c (world_at q s) n r → r.events ≡ s.events ++ (a ++ Checkpoint k r.ticks ∷ b) → b ≡ []
  code_ends_ticks q n k s r a b start out run e =
      let h = start_run q start in
      let x = spot None h.0 [] in
      let is = one_answer c (world_at q s) n r (graph_run (graphs_of p) x s n) run (h.1 s n out) in
      nothing_behind p checked h.0 s n k a b out.locals (subst (λ (z : Run). z.events ≡ s.events ++ (a ++ Checkpoint k z.ticks ∷ b)) is e)

  pub code_stands_behind : ((w v : World) → Reaches c w v → Shows w v) → (input : List ℕ) (n k : ℕ) (r : Run) → CodeRun c (world_at 0 (first_state p input)) n r → PassedLast (first_state p input) k r
      → (q : ℕ) × (next : ℕ) × IsCheckpointTo p k next × (has_checkpoint c k q ≡ true) × (length r.memory ≡ cell_count p) × Reaches c (world_at 0 (first_state p input)) (world_at q (state_behind p input r))
  code_stands_behind shows input n k r run last =
      let s = first_state p input in
      let w = world_at 0 s in
      let b = means.behind 0 s n k r (inl refl) (record { objects = refl; locals = refl }) run last in
      let u = b.state in
      let sh = shows w (world_at b.place u) b.comes in
      let events : u.events ≡ r.events = sym (ap (λ (z : Run). z.events) b.same) in
      let memory : u.variables.cells ≡ r.memory = sym (ap (λ (z : Run). z.memory) b.same) in
      let ticks : u.ticks ≡ r.ticks = sym (ap (λ (z : Run). z.ticks) b.same) in
      let left : u.input ≡ drop (taken r.events) input = sh.input ∙ ap (λ es. drop (taken es) input) (sym sh.events ∙ events) in
      let there : ℕ → List ℕ → List ℕ → List Event → World = λ t m i es. world (standing b.place t) m i es in
      let same : world_at b.place u ≡ world_at b.place (state_behind p input r)
      = ap (λ t. there t u.variables.cells u.input u.events) ticks ∙ ap (λ m. there r.ticks m u.input u.events) memory ∙ ap (λ i. there r.ticks r.memory i u.events) left ∙ ap (λ es. there r.ticks r.memory (drop (taken r.events) input) es) events in
      let no_graph : effects.Graph = record { cells = 0; entry = 0; nodes = [] } in
      let size = sym (ap length memory) ∙ sh.size ∙ (first_agrees p no_graph input checked).alike.size in
      (b.place, b.next, b.to, b.listed, size, subst (Reaches c w) same b.comes)
