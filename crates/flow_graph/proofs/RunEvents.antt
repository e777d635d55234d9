-- Runs go along walks, and spare excluded cells.
use Rattle.std.proofs.Common.{◌≡◌, ℕ, zero, suc, ◌<◌, ◌⊎◌, true, List, [], ◌∷◌, ◌++◌, None, inl, inr, refl, sym, ap, ◌∙◌, subst, append_assoc}
use Rattle.std.specs.List.{Contains}
use Rattle.ckpt_base.specs.Event.{Event, Checkpoint}
use Rattle.ckpt_base.specs.Run.{Run}
use Rattle.c_tree.specs.declared.resolved.Resolved.{Resolved}
use Rattle.c_tree.specs.Layout.{cell_count}
use Rattle.c_tree.specs.Checked.{IsChecked}
use Rattle.c_tree.specs.State.{State, first_state}
use Rattle.c_tree.specs.Meaning.{meaning}
use Rattle.path_laws.specs.declared.graph.Mark.{Mark}
use Rattle.path_laws.specs.declared.graph.Mark.TheVariants as mark'
use Rattle.path_laws.specs.Graph as effects
use Rattle.path_laws.specs.Graph.{mark_of, may_write, has_edge, is_checkpoint}
use Rattle.path_laws.specs.Forgettable.{IsForgettable}
use Rattle.flow_graph.specs.MainGraph.{IsMainGraph}
use Rattle.flow_graph.specs.Run.{Graphs, Frame, Spot, spot, Step, Over, On, graphs_of, at_entry, after, run, enough_nodes, step}
use Rattle.flow_graph.specs.Agreement.{AreCalls, Place, outside, wrote, moved, AgreeAt, StepsAgree, ComesTo}
use Rattle.flow_graph.specs.RunWalks.{MayShow, ShowsAs, Shows, GoesAlong, GoesOnWalk}
use Rattle.flow_graph.specs.Spared.{IsSpared}
use Rattle.flow_graph.proofs.Whole.{same_meaning}
use Rattle.flow_graph.proofs.AgreeText.{nothing_more}
use Rattle.flow_graph.proofs.AgreeCalls.{outside_node}
use Rattle.flow_graph.proofs.AgreeAnswers.{main_below}
use Rattle.flow_graph.proofs.AgreeRuns.{step_agrees_at}
use Rattle.flow_graph.proofs.AgreeFirst.{first_agrees}
use Rattle.flow_graph.proofs.AgreeStays.{behind_same, stays}
use Rattle.flow_graph.proofs.WalkEvents.{never_empty, InFirst, InSecond, stands_in, only_both, only_right, checkpoint_here, dead_forgettable, read_only_unwritten}
use Rattle.flow_graph.proofs.ShowSteps.{StepShown, Went, StepShows, step_shows}

module _ (g : effects.Graph) where
  -- what a run has shown at node k so far, where it stands there: nothing, or what a call has
  abbrev IsThere : ℕ → List Frame → List Event → Type 0
  IsThere k [] es = es ≡ []
  IsThere k (fr ∷ frs) es = (mark_of g k ≡ mark'.Plain) × MayShow g k es

  there_may : (k : ℕ) (frs : List Frame) (es : List Event) → IsThere k frs es → MayShow g k es
  there_may k [] es e = subst (MayShow g k) (sym e) tt
  there_may k (fr ∷ frs) es e = e.1

  -- what is shown from here on is shown from the place before the step on
  record Next (k k' : ℕ) (to : List Frame) (before more : List Event) : Type 0 where
    shown : List Event
    there : IsThere k' to shown
    goes : (later : List Event) (w : List ℕ) → GoesAlong g k' w (shown ++ later) → (v : List ℕ) × GoesAlong g k v (before ++ (more ++ later))

  plain_shows : (k : ℕ) (es : List Event) → mark_of g k ≡ mark'.Plain → MayShow g k es → Shows g k es
  plain_shows k es plain only = subst (λ (q : Mark). ShowsAs g k q es) (sym plain) only

  after_step : (l : Place) (m : ℕ) (from to : List Frame) (ws : List ℕ) (before more : List Event) → IsThere l.node from before → StepShown g l.node from to more → (to ≡ [] → has_edge g l.node m ≡ true) → Next l.node (moved l m from to ws).node to before more
  after_step l m [] [] ws before more e shown edge = record {
    shown = [];
    there = refl;
    goes = λ later w go. (m ∷ w, (more, later, ap (λ (q : List Event). q ++ (more ++ later)) e, shown, edge refl, go));
  }
  after_step l m [] (fr ∷ to) ws before more e shown edge = record {
    shown = before ++ more;
    there = (shown.0, only_both (λ c. may_write g l.node c ≡ true) before more (there_may l.node [] before e) shown.1);
    goes = λ later w go. (w, subst (GoesAlong g l.node w) (append_assoc before more later) go);
  }
  after_step l m (b ∷ from) [] ws before more e shown edge = record {
    shown = [];
    there = refl;
    goes = λ later w go. (m ∷ w, (before ++ more, later, sym (append_assoc before more later), plain_shows l.node (before ++ more) e.0 (only_both (λ c. may_write g l.node c ≡ true) before more e.1 shown), edge refl, go));
  }
  after_step l m (b ∷ from) (fr ∷ to) ws before more e shown edge = record {
    shown = before ++ more;
    there = (e.0, only_both (λ c. may_write g l.node c ≡ true) before more e.1 shown);
    goes = λ later w go. (w, subst (GoesAlong g l.node w) (append_assoc before more later) go);
  }

  -- a run from node k on, at which these events were shown before
  record Trail (k : ℕ) (before : List Event) (s : State) (r : Run) : Type 0 where
    more : List Event
    events : r.events ≡ s.events ++ more
    walk : List ℕ
    goes : GoesAlong g k walk (before ++ more)

-- ---- runs

module _ (p : Resolved) (h : IsChecked p) (g : effects.Graph) (mg : IsMainGraph p g) where
  abbrev gs : Graphs
  gs = graphs_of p

  trail : (b : ℕ) (l : Place) (x : Spot) (s : State) → AgreeAt p g l x s s → (n : ℕ) (before : List Event) → IsThere g l.node x.frames before → Trail g l.node before s (run gs b x s n)
  trail zero l x s a n before e = record { more = []; events = sym (nothing_more None s.events); walk = []; goes = subst (MayShow g l.node) (sym (nothing_more None before)) (there_may g l.node x.frames before e) }
  trail (suc b) l x s a n before e = by (λ l' y u c i bs t. trail b l' y u c i bs t) (step gs x s n) (step_shows p h g mg l x.function x.node x.frames s a n) (step_agrees_at p h g mg l x s s a n)
    where
      by : ((l' : Place) (y : Spot) (u : State) → AgreeAt p g l' y u u → (i : ℕ) (bs : List Event) → IsThere g l'.node y.frames bs → Trail g l'.node bs u (run gs b y u i)) → (o : Step) → StepShows g l.node x.frames s o → StepsAgree p g l x s o o → Trail g l.node before s (after (run gs b) o)
      by go (Over r) w z = record { more = w.more; events = w.events; walk = []; goes = only_both (λ c. may_write g l.node c ≡ true) before w.more (there_may g l.node x.frames before e) w.only }
      by go (On y u i) w z =
          let nx = after_step g l y.node x.frames y.frames (wrote z.more) before w.more e w.shown w.edge in
          let r = go (moved l y.node x.frames y.frames (wrote z.more)) y u z.agree i nx.shown nx.there in
          let q = nx.goes r.more r.walk r.goes in
          record { more = w.more ++ r.more; events = r.events ∙ ap (λ es. es ++ r.more) w.events ∙ append_assoc s.events w.more r.more; walk = q.0; goes = q.1 }

  -- each run goes along a walk from the entry
  pub runs_along : (input : List ℕ) (n : ℕ) → GoesOnWalk g (meaning p input n).events
  runs_along input n =
      let x = at_entry gs in
      let s = first_state p input in
      let t = trail (enough_nodes x n) (outside x.node) x s (first_agrees p g input h) n [] refl in
      (t.walk, subst (λ k. GoesAlong g k t.walk (meaning p input n).events) (sym mg.entry) (subst (GoesAlong g x.node t.walk) (sym (ap (λ (r : Run). r.events) (same_meaning p input n) ∙ t.events)) t.goes))

  -- ---- where a checkpoint is passed

  -- steps lead to checkpoint k, at which a was shown, and a run goes on behind it that shows d
  record Passed (x : Spot) (s : State) (n k : ℕ) (a d : List Event) : Type 0 where
    steps : ℕ
    at : State
    left : ℕ
    comes : ComesTo gs steps x s n (spot None k []) at left
    before : at.events ≡ s.events ++ a
    marked : is_checkpoint g k ≡ true
    next : ℕ
    edge : has_edge g k next ≡ true
    place : Place
    state : State
    agree : AgreeAt p g place (spot None next []) state state
    fuel : ℕ
    rest : ℕ
    events : (run gs fuel (spot None next []) state rest).events ≡ state.events ++ d

  -- a spot of `main` outside calls
  outer : (n : ℕ) (x : Spot) → AreCalls p n x.function x.frames → x.frames ≡ [] → x ≡ spot None x.node []
  outer n x calls nil = (λ i. spot (main_below p n x.function x.frames calls nil i) x.node (nil i))

  -- only a node outside calls shows a checkpoint
  shown_outside : (l : Place) (from to : List Frame) (more a zs : List Event) (k t : ℕ) → StepShown g l.node from to more → more ≡ a ++ Checkpoint k t ∷ zs → (from ≡ []) × (to ≡ []) × (is_checkpoint g l.node ≡ true) × (l.node ≡ k) × (a ≡ []) × (zs ≡ [])
  shown_outside l [] [] more a zs k t shown e = let z = checkpoint_here g l.node (mark_of g l.node) refl more a zs k t shown e in (refl, refl, z.0, z.1, z.2, z.3)
  shown_outside l [] (fr ∷ to) more a zs k t shown e = absurd (only_right (λ c. may_write g l.node c ≡ true) a (Checkpoint k t ∷ zs) (subst (MayShow g l.node) e shown.1))
  shown_outside l (b ∷ from) to more a zs k t shown e = absurd (only_right (λ c. may_write g l.node c ≡ true) a (Checkpoint k t ∷ zs) (subst (MayShow g l.node) e shown))

  -- .. so a step that shows it is the one, or it is shown later
  onward : (b : ℕ) (l : Place) (x : Spot) (s : State) → AgreeAt p g l x s s → (n k t : ℕ) (a d : List Event) (l' : Place) (y : Spot) (u : State) (i : ℕ) → step gs x s n ≡ On y u i → (w : Went g l.node x.frames s y u) → AgreeAt p g l' y u u → (shown : List Event) (r : Trail g l'.node shown u (run gs b y u i))
      → ((z : List Event) → (run gs b y u i).events ≡ u.events ++ (z ++ Checkpoint k t ∷ d) → Passed y u i k z d) → (run gs b y u i).events ≡ s.events ++ (a ++ Checkpoint k t ∷ d) → Passed x s n k a d
  onward b l x s ag n k t a d l' y u i st w ag' shown r go is = where_in (stands_in w.more r.more a (Checkpoint k t) d (behind_same s.events (w.more ++ r.more) (a ++ Checkpoint k t ∷ d) (sym (r.events ∙ ap (λ es. es ++ r.more) w.events ∙ append_assoc s.events w.more r.more) ∙ is)))
    where
      here : (zs : List Event) → d ≡ zs ++ r.more → (x.frames ≡ []) × (y.frames ≡ []) × (is_checkpoint g l.node ≡ true) × (l.node ≡ k) × (a ≡ []) × (zs ≡ []) → Passed x s n k a d
      here zs es q =
          let same : x.node ≡ k = sym (outside_node l x.node x.frames ag.outside q.0) ∙ q.3 in
          let y_is = outer l'.node y ag'.calls q.1 in
          record {
            steps = 0;
            at = s;
            left = n;
            comes = (outer l.node x ag.calls q.0 ∙ ap (λ (j : ℕ). spot None j []) same, refl, refl);
            before = sym (ap (λ (c : List Event). s.events ++ c) q.4 ∙ nothing_more None s.events);
            marked = subst (λ j. is_checkpoint g j ≡ true) q.3 q.2;
            next = y.node;
            edge = subst (λ j. has_edge g j y.node ≡ true) q.3 (w.edge q.1);
            place = l';
            state = u;
            agree = subst (λ (v : Spot). AgreeAt p g l' v u u) y_is ag';
            fuel = b;
            rest = i;
            events = ap (λ (v : Spot). (run gs b v u i).events) (sym y_is) ∙ r.events ∙ ap (λ (c : List Event). u.events ++ c) (sym (es ∙ ap (λ (c : List Event). c ++ r.more) q.5));
          }

      where_in : InFirst w.more r.more a (Checkpoint k t) d ⊎ InSecond w.more r.more a (Checkpoint k t) d → Passed x s n k a d
      where_in (inl q) = here q.0 q.2 (shown_outside l x.frames y.frames w.more a q.0 k t w.shown q.1)
      where_in (inr q) =
          let v = go q.0 (r.events ∙ ap (λ (c : List Event). u.events ++ c) q.2) in
          record {
            steps = suc v.steps;
            at = v.at;
            left = v.left;
            comes = (y, u, i, st, v.comes);
            before = v.before ∙ ap (λ (c : List Event). c ++ q.0) w.events ∙ append_assoc s.events w.more q.0 ∙ ap (λ (c : List Event). s.events ++ c) (sym q.1);
            marked = v.marked;
            next = v.next;
            edge = v.edge;
            place = v.place;
            state = v.state;
            agree = v.agree;
            fuel = v.fuel;
            rest = v.rest;
            events = v.events;
          }

  passed : (b : ℕ) (l : Place) (x : Spot) (s : State) → AgreeAt p g l x s s → (n k t : ℕ) (a d : List Event) (before : List Event) → IsThere g l.node x.frames before → (run gs b x s n).events ≡ s.events ++ (a ++ Checkpoint k t ∷ d) → Passed x s n k a d
  passed zero l x s ag n k t a d before e is = never_empty a d (Checkpoint k t) (behind_same s.events [] (a ++ Checkpoint k t ∷ d) (nothing_more None s.events ∙ is))
  passed (suc b) l x s ag n k t a d before e is = by (λ l' y u c i z bs q v. passed b l' y u c i k t z d bs q v) (step gs x s n) refl (step_shows p h g mg l x.function x.node x.frames s ag n) (step_agrees_at p h g mg l x s s ag n) is
    where
      by : ((l' : Place) (y : Spot) (u : State) → AgreeAt p g l' y u u → (i : ℕ) (z : List Event) (bs : List Event) → IsThere g l'.node y.frames bs → (run gs b y u i).events ≡ u.events ++ (z ++ Checkpoint k t ∷ d) → Passed y u i k z d)
          → (o : Step) → step gs x s n ≡ o → StepShows g l.node x.frames s o → StepsAgree p g l x s o o → (after (run gs b) o).events ≡ s.events ++ (a ++ Checkpoint k t ∷ d) → Passed x s n k a d
      by go (Over r) st w z is' = absurd (only_right (λ c. may_write g l.node c ≡ true) a (Checkpoint k t ∷ d) (subst (MayShow g l.node) (behind_same s.events w.more (a ++ Checkpoint k t ∷ d) (sym w.events ∙ is')) w.only))
      by go (On y u i) st w z is' =
          let l' = moved l y.node x.frames y.frames (wrote z.more) in
          let nx = after_step g l y.node x.frames y.frames (wrote z.more) before w.more e w.shown w.edge in
          onward b l x s ag n k t a d l' y u i st w z.agree nx.shown (trail b l' y u z.agree i nx.shown nx.there) (λ q v. go l' y u z.agree i q nx.shown nx.there v) is'

  module _ (input : List ℕ) (n c : ℕ) (lt : c < cell_count p) where
    still_forgettable : (k t m u : ℕ) (a b d : List Event) → (meaning p input n).events ≡ a ++ Checkpoint k t ∷ (b ++ Checkpoint m u ∷ d) → IsForgettable g c k → (Contains (wrote b) c → ⊥) → IsForgettable g c m
    still_forgettable k t m u a b d e f unwritten =
        let x = at_entry gs in
        let s = first_state p input in
        let one = passed (enough_nodes x n) (outside x.node) x s (first_agrees p g input h) n k t a (b ++ Checkpoint m u ∷ d) [] refl (sym (ap (λ (r : Run). r.events) (same_meaning p input n)) ∙ e) in
        let two = passed one.fuel one.place (spot None one.next []) one.state one.agree one.rest m u b d [] refl one.events in
        stays p h g mg one.place k one.next m one.state two.at two.steps one.rest two.left b c lt one.edge one.agree two.comes two.marked two.before unwritten f

    pub runs_spare : IsSpared g (meaning p input n).events c
    runs_spare =
        let w = runs_along input n in
        record {
          stays = still_forgettable;
          dead = λ k m u a b d e none z. dead_forgettable g g.entry w.0 (meaning p input n).events w.1 k m u a b d e none c z;
          read_only = λ k m u a b d e none z. read_only_unwritten g g.entry w.0 (meaning p input n).events w.1 k m u a b d e none c z;
        }
