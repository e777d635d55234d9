-- Where a run stands that passed a checkpoint at its last tick: right behind it, and nothing was shown since.
use Rattle.std.proofs.Common.{◌≡◌, ℕ, zero, suc, ◌+◌, ◌*◌, ◌<◌, ◌≤◌, ◌⊎◌, inl, inr, ⊎_elim, List, [], ◌∷◌, ◌++◌, length, Option, Some, None, true, false, refl, sym, ap, ◌∙◌, subst, arith, append_assoc, append-nil}
use Rattle.std.specs.Prelude.{slice_get}
use Rattle.std.specs.Option.{option_map}
use Rattle.std.proofs.lemmas.Option.{slice_get-map}
use Rattle.std.proofs.lemmas.List.{append_cancel_left}
use Rattle.ckpt_base.specs.Event.{Event, Byte, Wrote, Took, Excluded, Checkpoint}
use Rattle.ckpt_base.specs.Run.{Run}
use Rattle.c_tree.specs.declared.resolved.RFunction.{RFunction}
use Rattle.c_tree.specs.declared.resolved.Resolved.{Resolved}
use Rattle.c_tree.specs.Checked.{IsChecked, in_function}
use Rattle.c_tree.specs.State.{State, ticked}
use Rattle.c_tree.specs.Meaning.{over}
use Rattle.access_summary.specs.Edges.{Edge}
use Rattle.flow_graph.specs.declared.node.NodeWork.TheVariants as work
use Rattle.flow_graph.specs.Works.{works_of_body}
use Rattle.flow_graph.specs.WorkRules.{work_keeps}
use Rattle.flow_graph.specs.Run.{Graph, Graphs, Frame, Spot, spot, Step, Over, On, graph_at, edge_in, work_in, graph_of_function, graphs_of, step, after, run, enough_nodes, graph_run}
use Rattle.flow_graph.specs.Agreement.{ComesTo}
use Rattle.flow_graph.proofs.Joins.{graph_is_joined}
use Rattle.flow_graph.proofs.Steps.{Less, step_less}
use Rattle.flow_graph.proofs.WorkRuleLaws.{all_at, function_works_keep}
use Rattle.code_maker.specs.CheckpointPlaces.{IsCheckpointTo}
use Rattle.code_maker.proofs.Segments.{none_some, some_is}
use Rattle.code_maker.proofs.ResumedSteps.{NoMark, AreNested, main_locals, Adds, Leaves, Passes, IsStuck, Moved, step_moved}

-- ---- events cut at a checkpoint

no_mark_there : (a b : List Event) (k t : ℕ) → NoMark (a ++ Checkpoint k t ∷ b) → ⊥
no_mark_there [] b k t h = h
no_mark_there (Checkpoint m u ∷ a) b k t h = h
no_mark_there (Wrote c ∷ a) b k t h = no_mark_there a b k t h
no_mark_there (Byte c ∷ a) b k t h = no_mark_there a b k t h
no_mark_there (Took ∷ a) b k t h = no_mark_there a b k t h
no_mark_there (Excluded c ∷ a) b k t h = no_mark_there a b k t h

same_head : (x y : Event) (xs ys : List Event) → x ∷ xs ≡ y ∷ ys → x ≡ y
same_head x y xs ys e = cc

same_tail : (x y : Event) (xs ys : List Event) → x ∷ xs ≡ y ∷ ys → xs ≡ ys
same_tail x y xs ys e = cc

both : (x y : Event) (xs ys : List Event) → x ≡ y → xs ≡ ys → x ∷ xs ≡ y ∷ ys
both x y xs ys e f = cc

none_is : (a b : List Event) (m : Event) → [] ≡ a ++ m ∷ b → ⊥
none_is [] b m e = cc
none_is (x ∷ a) b m e = cc

-- the checkpoint is among the first of two lists
record IsAmong (xs ys a b : List Event) (m : Event) : Type 0 where
  rest : List Event
  front : xs ≡ a ++ m ∷ rest
  behind : b ≡ rest ++ ys

among_more : (x z : Event) (xs ys a b : List Event) (m : Event) → x ≡ z → IsAmong xs ys a b m → IsAmong (x ∷ xs) ys (z ∷ a) b m
among_more x z xs ys a b m e h = record { rest = h.rest; front = both x z xs (a ++ m ∷ h.rest) e h.front; behind = h.behind }

-- other events behind tell of no checkpoint
among_first : (xs ys a b : List Event) (k t : ℕ) → NoMark ys → xs ++ ys ≡ a ++ Checkpoint k t ∷ b → IsAmong xs ys a b (Checkpoint k t)
among_first [] ys a b k t h e = absurd (no_mark_there a b k t (subst NoMark e h))
among_first (x ∷ xs) ys [] b k t h e = record { rest = xs; front = ap (λ y. y ∷ xs) (same_head x (Checkpoint k t) (xs ++ ys) b e); behind = sym (same_tail x (Checkpoint k t) (xs ++ ys) b e) }
among_first (x ∷ xs) ys (z ∷ a) b k t h e =
    among_more x z xs ys a b (Checkpoint k t) (same_head x z (xs ++ ys) (a ++ Checkpoint k t ∷ b) e) (among_first xs ys a b k t h (same_tail x z (xs ++ ys) (a ++ Checkpoint k t ∷ b) e))

-- one more event behind is the checkpoint itself, or it is among the first
among_or_last : (xs : List Event) (m : Event) (a b : List Event) (z : Event) → xs ++ m ∷ [] ≡ a ++ z ∷ b → ((m ≡ z) × (b ≡ [])) ⊎ IsAmong xs (m ∷ []) a b z
among_or_last [] m [] b z e = inl (same_head m z [] b e, sym (same_tail m z [] b e))
among_or_last [] m (y ∷ a) b z e = absurd (none_is a b z (same_tail m y [] (a ++ z ∷ b) e))
among_or_last (x ∷ xs) m [] b z e = inr (record { rest = xs; front = ap (λ y. y ∷ xs) (same_head x z (xs ++ m ∷ []) b e); behind = sym (same_tail x z (xs ++ m ∷ []) b e) })
among_or_last (x ∷ xs) m (y ∷ a) b z e =
    ⊎_elim (λ h. inl h) (λ h. inr (among_more x y xs (m ∷ []) a b z (same_head x y (xs ++ m ∷ []) (a ++ z ∷ b) e) h)) (among_or_last xs m a b z (same_tail x y (xs ++ m ∷ []) (a ++ z ∷ b) e))

same_mark : (j k s t : ℕ) → Checkpoint j s ≡ Checkpoint k t → (j ≡ k) × (s ≡ t)
same_mark j k s t e = (cc, cc)

pub no_locals : (ls : List ℕ) → length ls ≡ 0 → ls ≡ []
no_locals [] e = refl
no_locals (l ∷ ls) e = absurd (omega arith)

-- ---- the last step of a run

module _ (gs : Graphs) where
  -- a run comes by steps to one with which it is over
  pub record Last (x : Spot) (s : State) (n : ℕ) (r : Run) : Type 0 where
    pub steps : ℕ
    pub at : Spot
    pub state : State
    pub left : ℕ
    pub comes : ComesTo gs steps x s n at state left
    pub over : step gs at state left ≡ Over r

  last_below : (b : ℕ) (x : Spot) (s : State) (n : ℕ) → 2 * n + length x.frames < b → Last x s n (run gs b x s n)
  last_below zero x s n lt = absurd (omega arith)
  last_below (suc b) x s n lt = by (λ y u i l. last_below b y u i l) (step gs x s n) refl (step_less gs x s n)
    where
      by : ((y : Spot) (u : State) (i : ℕ) → 2 * i + length y.frames < b → Last y u i (run gs b y u i)) → (o : Step) → step gs x s n ≡ o → Less (2 * n + length x.frames) o → Last x s n (run gs (suc b) x s n)
      by go (Over q) e l = subst (Last x s n) (sym (ap (after (run gs b)) e)) (record { steps = 0; at = x; state = s; left = n; comes = (refl, refl, refl); over = e })
      by go (On y u i) e l =
          let h = go y u i (omega arith) in
          subst (Last x s n) (sym (ap (after (run gs b)) e)) (record { steps = suc h.steps; at = h.at; state = h.state; left = h.left; comes = (y, u, i, e, h.comes); over = h.over })

  pub last_step : (x : Spot) (s : State) (n : ℕ) → Last x s n (graph_run gs x s n)
  last_step x s n = last_below (enough_nodes x n) x s n (omega arith)

-- ---- checkpoints stand in `main` alone

module _ (p : Resolved) (checked : IsChecked p) where
  abbrev gs : Graphs
  gs = graphs_of p

  no_checkpoint : (i m : ℕ) → work_in (graph_at gs (Some i)) m ≡ Some work.Checkpoint → ⊥
  no_checkpoint i m e = by_function (slice_get p.functions i) refl (subst (λ (g : Option Graph). work_in g m ≡ Some work.Checkpoint) (slice_get-map graph_of_function p.functions i) e)
    where
      by_function : (o : Option RFunction) → slice_get p.functions i ≡ o → work_in (option_map graph_of_function o) m ≡ Some work.Checkpoint → ⊥
      by_function None is e = none_some e
      by_function (Some f) is e = not_so (all_at (work_keeps (in_function p f)) (works_of_body f.body) m work.Checkpoint (function_works_keep p i f checked is) e)
        where
          not_so : false ≡ true → ⊥
          not_so h = cc

  pub in_main : (m : ℕ) (f : Option ℕ) (frs : List Frame) → AreNested f frs → work_in (graph_at gs f) m ≡ Some work.Checkpoint → (f ≡ None) × (frs ≡ [])
  in_main m None [] nested e = (refl, refl)
  in_main m None (fr ∷ frs) nested e = absurd nested
  in_main m (Some i) frs nested e = absurd (no_checkpoint i m e)

  -- the spot is right behind checkpoint k
  abbrev pub IsRightBehind : ℕ → Spot → Type 0
  IsRightBehind k y = (next : ℕ) × IsCheckpointTo p k next × (y ≡ spot None next [])

  -- node m of `main` is a checkpoint, and goes on
  leads_on : (f : Option ℕ) (m : ℕ) (to : Edge) → f ≡ None → work_in (graph_at gs f) m ≡ Some work.Checkpoint → edge_in (graph_at gs f) m ≡ Some to → (next : ℕ) × IsCheckpointTo p m next × (to.0 ≡ Some next)
  leads_on f m to main d e =
      let does : slice_get gs.main.works m ≡ Some work.Checkpoint = subst (λ f. work_in (graph_at gs f) m ≡ Some work.Checkpoint) main d in
      let edge : slice_get gs.main.edges m ≡ Some to = subst (λ f. edge_in (graph_at gs f) m ≡ Some to) main e in
      let fits = (graph_is_joined 0 p.main.body).each m work.Checkpoint to does edge in
      (fits.0, record { does = does; edge = edge ∙ ap (λ t. Some t) fits.1 }, ap (λ (t : Edge). t.0) fits.1)

  passed : (x : Spot) (s : State) (y : Spot) (u : State) → AreNested x.function x.frames → Passes gs x s y u → IsRightBehind x.node y
  passed x s y u nested h =
      let main = in_main x.node x.function x.frames nested h.does in
      let on = leads_on x.function x.node h.edge main.0 h.does h.edge_is in
      let same : h.next ≡ on.0 = some_is (sym h.leads ∙ on.2) in
      (on.0, on.1, h.spot_is ∙ ap (λ f. spot f h.next x.frames) main.0 ∙ ap (λ frs. spot None h.next frs) main.1 ∙ ap (λ n. spot None n []) same)

  pub never_stuck : (x : Spot) → AreNested x.function x.frames → IsStuck gs x → ⊥
  never_stuck x nested h =
      let main = in_main x.node x.function x.frames nested h.does in
      let on = leads_on x.function x.node h.edge main.0 h.does h.edge_is in
      none_some (sym h.leads ∙ on.2)

  -- ---- what holds along a run from a state; `Behind` holds of the state right behind a checkpoint

  module _ (Behind : ℕ → State → Type 0) where
    pub record Since (first : State) (y : Spot) (u : State) : Type 0 where
      pub nested : AreNested y.function y.frames
      pub locals : length (main_locals y.frames u.variables.locals) ≡ 0
      pub more : List Event
      pub events : u.events ≡ first.events ++ more
      pub earlier : (k t : ℕ) (a b : List Event) → more ≡ a ++ Checkpoint k t ∷ b → t ≤ u.ticks
      pub behind : (k : ℕ) (a b : List Event) → more ≡ a ++ Checkpoint k u.ticks ∷ b → (b ≡ []) × IsRightBehind k y × Behind k u

    since_first : (n : ℕ) (s : State) → s.variables.locals ≡ [] → Since s (spot None n []) s
    since_first n s none = record {
      nested = tt;
      locals = ap length none;
      more = [];
      events = sym (append-nil s.events);
      earlier = λ k t a b e. absurd (none_is a b (Checkpoint k t) e);
      behind = λ k a b e. absurd (none_is a b (Checkpoint k s.ticks) e);
    }

    module _ (first : State) (x : Spot) (s : State) (h : Since first x s) (z : Spot) (v : State) where
      -- after a tick
      since_ticked : Adds x.frames z.frames (ticked s) v → (AreNested x.function x.frames → AreNested z.function z.frames) → Since first z v
      since_ticked d nests = record {
        nested = nests h.nested;
        locals = d.locals ∙ h.locals;
        more = h.more ++ d.more;
        events = d.events ∙ ap (λ es. es ++ d.more) h.events ∙ append_assoc first.events h.more d.more;
        earlier = λ k t a b e. let r = among_first h.more d.more a b k t d.plain e in let le = h.earlier k t a r.rest r.front in omega (arith, d.ticks);
        behind = λ k a b e. let r = among_first h.more d.more a b k v.ticks d.plain e in let le = h.earlier k v.ticks a r.rest r.front in absurd (omega (arith, d.ticks));
      }

      -- after a call that ended
      since_ended : (x.frames ≡ [] → ⊥) → Adds x.frames z.frames s v → (AreNested x.function x.frames → AreNested z.function z.frames) → Since first z v
      since_ended some d nests = record {
        nested = nests h.nested;
        locals = d.locals ∙ h.locals;
        more = h.more ++ d.more;
        events = d.events ∙ ap (λ es. es ++ d.more) h.events ∙ append_assoc first.events h.more d.more;
        earlier = λ k t a b e. let r = among_first h.more d.more a b k t d.plain e in let le = h.earlier k t a r.rest r.front in omega (arith, d.ticks);
        behind = λ k a b e.
            let r = among_first h.more d.more a b k v.ticks d.plain e in
            let q = h.behind k a r.rest (subst (λ t. h.more ≡ a ++ Checkpoint k t ∷ r.rest) d.ticks r.front) in
            absurd (some (ap (λ (y : Spot). y.frames) q.1.2));
      }

      -- after a checkpoint
      since_passed : Behind x.node v → Passes gs x s z v → Since first z v
      since_passed good d =
          let mark = Checkpoint x.node (s.ticks + 1) in
          let right = passed x s z v h.nested d in
          let ticks : v.ticks ≡ s.ticks + 1 = ap (λ (w : State). w.ticks) d.state_is in
          let main = in_main x.node x.function x.frames h.nested d.does in
          let ls : v.variables.locals ≡ s.variables.locals = ap (λ (w : State). w.variables.locals) d.state_is in
          record {
            nested = subst (λ (y : Spot). AreNested y.function y.frames) (sym right.2) tt;
            locals = ap (λ (y : Spot). length (main_locals y.frames v.variables.locals)) right.2 ∙ ap length ls ∙ sym (ap (λ frs. length (main_locals frs s.variables.locals)) main.1) ∙ h.locals;
            more = h.more ++ mark ∷ [];
            events = ap (λ (w : State). w.events) d.state_is ∙ ap (λ es. es ++ mark ∷ []) h.events ∙ append_assoc first.events h.more (mark ∷ []);
            earlier = λ k t a b e. ⊎_elim {C = t ≤ v.ticks}
                (λ y. let m = same_mark x.node k (s.ticks + 1) t y.0 in omega (arith, m.1, ticks))
                (λ y. let le = h.earlier k t a y.rest y.front in omega (arith, ticks))
                (among_or_last h.more mark a b (Checkpoint k t) e);
            behind = λ k a b e. ⊎_elim {C = (b ≡ []) × IsRightBehind k z × Behind k v}
                (λ y. let m = same_mark x.node k (s.ticks + 1) v.ticks y.0 in (y.1, subst (λ j. IsRightBehind j z) m.0 right, subst (λ j. Behind j v) m.0 good))
                (λ y. let le = h.earlier k v.ticks a y.rest y.front in absurd (omega (arith, ticks)))
                (among_or_last h.more mark a b (Checkpoint k v.ticks) e);
          }

      since_moved : (j : ℕ) → (Passes gs x s z v → Behind x.node v) → Moved gs x s (On z v j) → Since first z v
      since_moved j good (inl d) = since_ticked d.0 d.1
      since_moved j good (inr (inl d)) = since_ended d.1 d.0.0 d.0.1
      since_moved j good (inr (inr d)) = since_passed (good d) d

    -- a run is over, from this spot and state on: behind a checkpoint that it passed at its last tick it shows nothing, and leaves the state as it is
    pub record Stops (first : State) (y : Spot) (u : State) (r : Run) : Type 0 where
      pub more : List Event
      pub events : r.events ≡ first.events ++ more
      pub behind : (k : ℕ) (a b : List Event) → more ≡ a ++ Checkpoint k r.ticks ∷ b → (b ≡ []) × (r ≡ over r.ending u) × IsRightBehind k y × Behind k u × (u.variables.locals ≡ [])

    module _ (first : State) (y : Spot) (u : State) (h : Since first y u) (r : Run) where
      stops_ticked : Leaves (ticked u) r → Stops first y u r
      stops_ticked d = record {
        more = h.more ++ d.more;
        events = d.events ∙ ap (λ es. es ++ d.more) h.events ∙ append_assoc first.events h.more d.more;
        behind = λ k a b e. let q = among_first h.more d.more a b k r.ticks d.plain e in let le = h.earlier k r.ticks a q.rest q.front in absurd (omega (arith, d.ticks));
      }

      stops_ended : (y.frames ≡ [] → ⊥) → Leaves u r → Stops first y u r
      stops_ended some d = record {
        more = h.more ++ d.more;
        events = d.events ∙ ap (λ es. es ++ d.more) h.events ∙ append_assoc first.events h.more d.more;
        behind = λ k a b e.
            let q = among_first h.more d.more a b k r.ticks d.plain e in
            let g = h.behind k a q.rest (subst (λ t. h.more ≡ a ++ Checkpoint k t ∷ q.rest) d.ticks q.front) in
            absurd (some (ap (λ (z : Spot). z.frames) g.1.2));
      }

      stops_there : r ≡ over r.ending u → Stops first y u r
      stops_there is = record {
        more = h.more;
        events = ap (λ (z : Run). z.events) is ∙ h.events;
        behind = λ k a b e.
            let g = h.behind k a b (subst (λ t. h.more ≡ a ++ Checkpoint k t ∷ b) (ap (λ (z : Run). z.ticks) is) e) in
            let frames = ap (λ (z : Spot). z.frames) g.1.2 in
            (g.0, is, g.1, g.2, no_locals u.variables.locals (sym (ap (λ frs. length (main_locals frs u.variables.locals)) frames) ∙ h.locals));
      }

      since_over : Moved gs y u (Over r) → Stops first y u r
      since_over (inl d) = stops_ticked d
      since_over (inr (inl d)) = stops_ended d.1 d.0
      since_over (inr (inr (inl e))) = stops_there e
      since_over (inr (inr (inr d))) = absurd (never_stuck y h.nested d)

    -- `Here` holds along the run, and gives what is right behind a checkpoint
    module _ (Here : Spot → State → Type 0) (on : (x : Spot) (s : State) (n : ℕ) (y : Spot) (u : State) (i : ℕ) → Here x s → step gs x s n ≡ On y u i → Here y u)
        (marks : (x : Spot) (s : State) (y : Spot) (u : State) → Here x s → AreNested x.function x.frames → length (main_locals x.frames s.variables.locals) ≡ 0 → Passes gs x s y u → Behind x.node u) where
      since_comes : (first : State) (k : ℕ) (x : Spot) (s : State) (n : ℕ) (y : Spot) (u : State) (i : ℕ) → Here x s → Since first x s → ComesTo gs k x s n y u i → Since first y u
      since_comes first zero x s n y u i here h c = subst (λ z. Since first z u) c.0 (subst (λ v. Since first x v) c.1 h)
      since_comes first (suc k) x s n y u i here h c =
          let moved : Moved gs x s (On c.0 c.1 c.2) = subst (Moved gs x s) c.3 (step_moved gs x s n) in
          since_comes first k c.0 c.1 c.2 y u i (on x s n c.0 c.1 c.2 here c.3) (since_moved first x s h c.0 c.1 c.2 (λ d. marks x s c.0 c.1 here h.nested h.locals d) moved) c.4

      pub stops : (m : ℕ) (s : State) (n : ℕ) → s.variables.locals ≡ [] → Here (spot None m []) s → (l : Last gs (spot None m []) s n (graph_run gs (spot None m []) s n)) → Stops s l.at l.state (graph_run gs (spot None m []) s n)
      stops m s n none here l =
          let x = spot None m [] in
          let since = since_comes s l.steps x s n l.at l.state l.left here (since_first m s none) l.comes in
          since_over s l.at l.state since (graph_run gs x s n) (subst (Moved gs l.at l.state) l.over (step_moved gs l.at l.state l.left))

  -- ---- a run that needs no more than that

  abbrev Nothing : ℕ → State → Type 0
  Nothing k u = Unit {0}

  abbrev pub PlainStops : State → Spot → State → Run → Type 0
  PlainStops = Stops Nothing

  pub plain_stops : (m : ℕ) (s : State) (n : ℕ) → s.variables.locals ≡ [] → (l : Last gs (spot None m []) s n (graph_run gs (spot None m []) s n)) → PlainStops s l.at l.state (graph_run gs (spot None m []) s n)
  plain_stops m s n none l = stops Nothing (λ x s. Unit {0}) (λ x s n y u i h e. tt) (λ x s y u h nested locals d. tt) m s n none tt l

  -- nothing is shown behind a checkpoint at the last tick
  pub nothing_behind : (m : ℕ) (s : State) (n k : ℕ) (a b : List Event) → s.variables.locals ≡ [] → (graph_run gs (spot None m []) s n).events ≡ s.events ++ (a ++ Checkpoint k (graph_run gs (spot None m []) s n).ticks ∷ b) → b ≡ []
  nothing_behind m s n k a b none e =
      let r = graph_run gs (spot None m []) s n in
      let st = plain_stops m s n none (last_step gs (spot None m []) s n) in
      (st.behind k a b (append_cancel_left s.events st.more (a ++ Checkpoint k r.ticks ∷ b) (sym st.events ∙ e))).0
