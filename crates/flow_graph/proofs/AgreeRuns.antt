-- Runs from states that agree.
use Rattle.std.proofs.Common.{◌≡◌, ℕ, zero, suc, ◌+◌, ◌*◌, ◌<◌, List, [], ◌++◌, length, None, inl, inr, ⊎_elim, refl, sym, ap, ◌∙◌, subst, arith, append_assoc}
use Rattle.std.specs.Prelude.{true}
use Rattle.std.specs.List.{Contains}
use Rattle.std.proofs.lemmas.List.Elements.{Contains-append_left, Contains-append_right}
use Rattle.ckpt_base.specs.declared.ending.Ending.TheVariants.{Going}
use Rattle.ckpt_base.specs.Event.{Event}
use Rattle.ckpt_base.specs.Run.{Run}
use Rattle.c_tree.specs.declared.resolved.Resolved.{Resolved}
use Rattle.c_tree.specs.Checked.{IsChecked}
use Rattle.c_tree.specs.State.{State}
use Rattle.c_tree.specs.Meaning.{over}
use Rattle.path_laws.specs.Graph as effects
use Rattle.path_laws.specs.Graph.{has_edge}
use Rattle.flow_graph.specs.MainGraph.{IsMainGraph}
use Rattle.flow_graph.specs.Run.{Graphs, Spot, spot, Step, Over, On, graphs_of, graph_at, edge_in, work_in, after, run, enough_nodes, graph_run, step}
use Rattle.path_laws.specs.Forgettable.{IsForgettable}
use Rattle.flow_graph.specs.Wanted.{IsWanted}
use Rattle.flow_graph.specs.Agreement.{Place, Counts, AgreeAt, EndAlike, StepsAgree, CountedBefore, moved, wrote, ComesTo, ComesAlike, StandsAfter, StandAlike, AlikeAfter}
use Rattle.flow_graph.proofs.Steps.{Less, step_less, one_step, Later, Same, node_later}
use Rattle.flow_graph.proofs.AgreeText.{nothing_more}
use Rattle.flow_graph.proofs.AgreeStores.{nothing_there, wrote_both}
use Rattle.flow_graph.proofs.AgreeGoing.{ends_alike}
use Rattle.flow_graph.proofs.AgreeSteps.{step_agrees}

-- ---- steps and runs

module _ (gs : Graphs) where
  -- a run goes on from where its steps come to
  pub comes_run : (k : ℕ) (x : Spot) (s : State) (n : ℕ) (y : Spot) (u : State) (i : ℕ) → ComesTo gs k x s n y u i → graph_run gs x s n ≡ graph_run gs y u i
  comes_run zero x s n y u i c = (λ w. graph_run gs (c.0 w) (c.1 w) (c.2 w))
  comes_run (suc k) x s n y u i c = one_step gs x s n ∙ ap (after (graph_run gs)) c.3 ∙ comes_run k c.0 c.1 c.2 y u i c.4

  later : (x : Spot) (s : State) (n : ℕ) → Later s n (step gs x s)
  later x s n = node_later gs x (edge_in (graph_at gs x.function) x.node) (work_in (graph_at gs x.function) x.node) s n

  -- with more ticks it comes there too
  pub comes_more : (k : ℕ) (x : Spot) (s : State) (n : ℕ) (y : Spot) (u : State) (i d : ℕ) → ComesTo gs k x s n y u i → ComesTo gs k x s (n + d) y u (i + d)
  comes_more zero x s n y u i d c = (c.0, c.1, ap (λ j. j + d) c.2)
  comes_more (suc k) x s n y u i d c = (c.0, c.1, c.2 + d, more (later x s n), comes_more k c.0 c.1 c.2 y u i d c.4)
    where
      more : Later s n (step gs x s) → step gs x s (n + d) ≡ On c.0 c.1 (c.2 + d)
      more (inl h) = subst (λ (o : Step). Same d o (step gs x s (n + d))) c.3 (h d)
      more (inr h) = on_over c.0 c.1 c.2 (sym c.3 ∙ h.0)
        where
          on_over : {A : Type 0} (z : Spot) (v : State) (j : ℕ) → On z v j ≡ Over (over Going s) → A
          on_over z v j e = absurd cc

  going_over : {A : Type 0} (q : Run) (r : Run) → r ≡ q → (q.ending ≡ Going → ⊥) → r.ending ≡ Going → A
  going_over q r e never is = absurd (never (sym (ap (λ (z : Run). z.ending) e) ∙ is))

  stands_below : (b : ℕ) (x : Spot) (s : State) (n : ℕ) → 2 * n + length x.frames < b → (graph_run gs x s n).ending ≡ Going → StandsAfter gs x s n
  stands_below zero x s n lt is = absurd (omega arith)
  stands_below (suc b) x s n lt is = by (λ y u i l e. stands_below b y u i l e) (step gs x s n) refl (step_less gs x s n) (later x s n)
    where
      by : ((y : Spot) (u : State) (i : ℕ) → 2 * i + length y.frames < b → (graph_run gs y u i).ending ≡ Going → StandsAfter gs y u i) → (o : Step) → step gs x s n ≡ o → Less (2 * n + length x.frames) o → Later s n (step gs x s) → StandsAfter gs x s n
      by go o e l (inr h) = record { steps = 0; at = x; state = s; comes = (refl, refl, h.1); wants = subst (λ (j : ℕ). step gs x s j ≡ Over (over Going s)) h.1 h.0; stands = one_step gs x s n ∙ ap (after (graph_run gs)) h.0 }
      by go (Over q) e l (inl h) = going_over q (graph_run gs x s n) (one_step gs x s n ∙ ap (after (graph_run gs)) e) (subst (λ (o : Step). Same 0 o (step gs x s (n + 0))) e (h 0)).1 is
      by go (On y u i) e l (inl h) =
          let same = one_step gs x s n ∙ ap (after (graph_run gs)) e in
          let r = go y u i (omega arith) (sym (ap (λ (z : Run). z.ending) same) ∙ is) in
          record { steps = suc r.steps; at = r.at; state = r.state; comes = (y, u, i, e, r.comes); wants = r.wants; stands = same ∙ r.stands }

  -- a run that wants a tick comes by steps to where it stands
  pub stands_after : (x : Spot) (s : State) (n : ℕ) → (graph_run gs x s n).ending ≡ Going → StandsAfter gs x s n
  stands_after x s n is = stands_below (suc (2 * n + length x.frames)) x s n (omega arith) is

module _ (p : Resolved) (h : IsChecked p) (g : effects.Graph) (mg : IsMainGraph p g) where
  abbrev gs : Graphs
  gs = graphs_of p

  pub step_agrees_at : (l : Place) (x : Spot) (s t : State) → AgreeAt p g l x s t → (n : ℕ) → StepsAgree p g l x s (step gs x s n) (step gs x t n)
  step_agrees_at l x s t a n = step_agrees p h g mg l x.function x.node x.frames s t a n

  -- ---- events, ending and ticks

  pub runs_end : (b : ℕ) (l : Place) (x : Spot) (s t : State) → AgreeAt p g l x s t → (n : ℕ) → EndAlike (run gs b x s n) (run gs b x t n)
  runs_end zero l x s t a n = ends_alike p (Counts g l) s t Going a.alike
  runs_end (suc b) l x s t a n = by (λ l' y u v c i. runs_end b l' y u v c i) (step gs x s n) (step gs x t n) (step_agrees_at l x s t a n)
    where
      by : ((l : Place) (x : Spot) (s t : State) → AgreeAt p g l x s t → (n : ℕ) → EndAlike (run gs b x s n) (run gs b x t n)) → (o o' : Step) → StepsAgree p g l x s o o' → EndAlike (after (run gs b) o) (after (run gs b) o')
      by go (Over q) (Over r) e = e
      by go (On y u i) (On z v j) e =
          subst (λ (w : Spot). EndAlike (run gs b y u i) (run gs b w v j)) (sym e.spot) (subst (λ (k : ℕ). EndAlike (run gs b y u i) (run gs b y v k)) (sym e.ticks) (go _ y u v e.agree i))
      by go (Over q) (On z v j) e = absurd e
      by go (On y u i) (Over r) e = absurd e

  pub runs_alike : (l : Place) (x : Spot) (s t : State) → AgreeAt p g l x s t → (n : ℕ) → EndAlike (graph_run gs x s n) (graph_run gs x t n)
  runs_alike l x s t a n = runs_end (enough_nodes x n) l x s t a n

  -- ---- where steps come to

  -- what counts after two runs of steps counted before them, or they wrote it
  counts_then : (l l' l'' : Place) (es es' : List Event) → CountedBefore p g l l' es → CountedBefore p g l' l'' es' → CountedBefore p g l l'' (es ++ es')
  counts_then l l' l'' es es' a b c lt y = ⊎_elim (λ z. ⊎_elim (λ v. inl v) (λ v. inr (at_left v)) (a c lt z)) (λ z. inr (subst (λ q. Contains q c) (sym (wrote_both es es')) (Contains-append_right (wrote es) (wrote es') c z))) (b c lt y)
    where
      at_left : Contains (wrote es) c → Contains (wrote (es ++ es')) c
      at_left v = subst (λ q. Contains q c) (sym (wrote_both es es')) (Contains-append_left (wrote es) (wrote es') c v)

  pub comes_alike : (k : ℕ) (l : Place) (x : Spot) (s t : State) (n : ℕ) (y : Spot) (u : State) (i : ℕ) → AgreeAt p g l x s t → ComesTo gs k x s n y u i → ComesAlike p g l k x s t n y u i
  comes_alike zero l x s t n y u i a c = record {
    state = t;
    place = l;
    comes = (c.0, refl, c.2);
    agree = subst (λ (z : Spot). AgreeAt p g l z u t) c.0 (subst (λ (z : State). AgreeAt p g l x z t) c.1 a);
    more = [];
    events = ap (λ (z : State). z.events) (sym c.1) ∙ sym (nothing_more None s.events);
    counts = λ c lt y. inl y;
  }
  comes_alike (suc k) l x s t n y u i a c =
      by (λ l' v b. comes_alike k l' c.0 c.1 v c.2 y u i b c.4) (step gs x t n) refl (subst (λ (o : Step). StepsAgree p g l x s o (step gs x t n)) c.3 (step_agrees_at l x s t a n))
    where
      by : ((l' : Place) (v : State) → AgreeAt p g l' c.0 c.1 v → ComesAlike p g l' k c.0 c.1 v c.2 y u i) → (o : Step) → step gs x t n ≡ o → StepsAgree p g l x s (On c.0 c.1 c.2) o → ComesAlike p g l (suc k) x s t n y u i
      by go (Over r) is e = absurd e
      by go (On z v j) is e =
          let l' = moved l (c.0).node x.frames (c.0).frames (wrote e.more) in
          let q = go l' v e.agree in
          record {
            state = q.state;
            place = q.place;
            comes = (c.0, v, c.2, (is ∙ (λ w. On (e.spot w) v (e.ticks w))), q.comes);
            agree = q.agree;
            more = e.more ++ q.more;
            events = q.events ∙ ap (λ q'. q' ++ q.more) e.events ∙ append_assoc s.events e.more q.more;
            counts = counts_then l l' q.place e.more q.more e.counts q.counts;
          }

  -- where one state wants a tick, so does the other
  wants_alike : (l : Place) (x : Spot) (s t : State) → AgreeAt p g l x s t → step gs x s 0 ≡ Over (over Going s) → step gs x t 0 ≡ Over (over Going t)
  wants_alike l x s t a w = by (later gs x t 0) (subst (λ (o : Step). StepsAgree p g l x s o (step gs x t 0)) w (step_agrees_at l x s t a 0))
    where
      over_too : (o : Step) → Same 0 o (step gs x t (0 + 0)) → StepsAgree p g l x s (Over (over Going s)) o → ⊥
      over_too (Over r) h e = h.1 (sym e.ending)
      over_too (On y u i) h e = e

      by : Later t 0 (step gs x t) → StepsAgree p g l x s (Over (over Going s)) (step gs x t 0) → step gs x t 0 ≡ Over (over Going t)
      by (inr h) e = h.0
      by (inl h) e = absurd (over_too (step gs x t 0) (h 0) e)

  -- two runs that want a tick stand where both agree
  pub stands_alike : (l : Place) (x : Spot) (s t : State) (n : ℕ) → AgreeAt p g l x s t → (graph_run gs x s n).ending ≡ Going → StandAlike p g x s t n
  stands_alike l x s t n a is =
      let st = stands_after gs x s n is in
      let q = comes_alike st.steps l x s t n st.at st.state 0 a st.comes in
      let w = wants_alike q.place st.at st.state q.state q.agree st.wants in
      record {
        one = st;
        other = record { steps = st.steps; at = st.at; state = q.state; comes = q.comes; wants = w; stands = comes_run gs st.steps x t n st.at q.state 0 q.comes ∙ one_step gs st.at q.state 0 ∙ ap (after (graph_run gs)) w };
        same = refl;
        place = q.place;
        agree = q.agree;
      }

-- ---- where an image was taken

-- what is wanted after an edge is not forgettable before it
pub wanted_after : (g : effects.Graph) (m n c : ℕ) → has_edge g m n ≡ true → IsWanted g c n → IsForgettable g c m → ⊥
wanted_after g m n c e w f = f n w.0 (e, w.1) w.2

pub images_agree : (p : Resolved) (g : effects.Graph) (l : Place) (m n : ℕ) (s t : State) → has_edge g m n ≡ true → AgreeAt p g l (spot None n []) s s → AlikeAfter p g m s t → AgreeAt p g l (spot None n []) s t
images_agree p g l m n s t e a i = record {
  calls = a.calls;
  outside = a.outside;
  alike = record {
    rest = i.rest;
    objects = i.objects;
    size = i.size;
    same_size = i.same_size;
    words = λ c y. i.words c (counts c y);
  };
  pointers = a.pointers;
  frames = a.frames;
}
  where
    counts : (c : ℕ) → Counts g l c → IsForgettable g c m → ⊥
    counts c (inl w) = wanted_after g m n c e (subst (λ q. IsWanted g c q) a.outside.0 w)
    counts c (inr y) = nothing_there c (subst (λ (z : List ℕ). Contains z c) a.outside.1 y)
