-- From states that agree, a run goes on to states that agree, and so it does when calls end.
use Rattle.std.proofs.Common.{◌≡◌, ℕ, ◌<◌, ◌⊎◌, Bool, true, false, List, [], ◌∷◌, ◌++◌, Option, Some, None, Result, Ok, Err, inl, inr, ⊎_elim, refl, sym, ap, ◌∙◌, subst}
use Rattle.std.specs.Prelude.{slice_get}
use Rattle.std.specs.Option.{option_map, option_map_or}
use Rattle.std.specs.List.{Contains}
use Rattle.std.proofs.lemmas.Option.{none-some, same_Some}
use Rattle.std.proofs.lemmas.List.Elements.{Contains-append_cases}
use Rattle.ckpt_base.specs.declared.trap.Trap.{Trap}
use Rattle.ckpt_base.specs.Trap.{trap_number}
use Rattle.ckpt_base.specs.declared.ending.Ending.{Ending}
use Rattle.ckpt_base.specs.declared.ending.Ending.TheVariants.{Trapped}
use Rattle.ckpt_base.specs.Event.{Event}
use Rattle.c_tree.specs.declared.resolved.RExpr.{RExpr}
use Rattle.c_tree.specs.declared.resolved.RPlace.{RPlace}
use Rattle.c_tree.specs.declared.resolved.RFunction.{RFunction}
use Rattle.c_tree.specs.declared.resolved.Resolved.{Resolved}
use Rattle.c_tree.specs.Layout.{cell_count}
use Rattle.c_tree.specs.Kinds.{Signature, call_kind}
use Rattle.c_tree.specs.Checked.{IsChecked, signature}
use Rattle.c_tree.specs.State.{State}
use Rattle.c_tree.specs.Meaning.{over}
use Rattle.alias_sets.specs.declared.flows.PointerVar.{PointerVar}
use Rattle.alias_sets.specs.declared.flows.PointerVar.TheVariants as var
use Rattle.alias_sets.specs.declared.flows.Source.TheVariants as source'
use Rattle.alias_sets.specs.Flows as text
use Rattle.alias_sets.specs.Flows.{passed, perhaps_variable, flows}
use Rattle.path_laws.specs.Graph as effects
use Rattle.flow_graph.specs.declared.node.NodeWork.{NodeWork}
use Rattle.flow_graph.specs.declared.node.NodeWork.TheVariants as work
use Rattle.flow_graph.specs.MainGraph.{IsMainGraph}
use Rattle.flow_graph.specs.Run.{Frame, Spot, spot, Step, given, goes}
use Rattle.flow_graph.specs.Wanted.{IsWanted}
use Rattle.flow_graph.specs.Agreement.{AreCalls, Place, wrote, Counts, AreAlike, IsKept, KeepsFrames, EndAlike, GoOnAlike, StepsAgree}
use Rattle.flow_graph.proofs.AgreeFlows.{Has, has_right, node_flows, carried, agree_some, call_given}
use Rattle.flow_graph.proofs.AgreeStores.{With, nothing_there, alike_less, keeps_less, Did, DidAlike}
use Rattle.flow_graph.proofs.AgreeCalls.{gives, IsWorkOf}

-- two states that are alike end alike
pub ends_alike : (p : Resolved) (E : ℕ → Type 0) (s t : State) (e : Ending) → AreAlike p E s t → EndAlike (over e s) (over e t)
ends_alike p E s t e a = record { events = sym (ap (λ (u : State). u.events) a.rest); ending = refl; ticks = sym (ap (λ (u : State). u.ticks) a.rest) }

-- frames that a step may come to from others: a call begins at the step itself
abbrev pub IsUnder : List Frame → List Frame → Type 0
IsUnder from [] = Unit {0}
IsUnder [] (fr ∷ to) = ⊥
IsUnder (below ∷ from) (fr ∷ to) = Unit {0}

module _ (p : Resolved) (h : IsChecked p) (g : effects.Graph) (mg : IsMainGraph p g) where
  -- what is wanted before node n was wanted at the place, or is killed
  abbrev pub WantedOrKilled : Place → (ℕ → Type 0) → ℕ → Type 0
  WantedOrKilled l K n = (c : ℕ) → c < cell_count p → IsWanted g c n → IsWanted g c l.node ⊎ K c

  module _ (l : Place) (f0 : Option ℕ) (m0 : ℕ) (from : List Frame) (s : State) where
    abbrev x : Spot
    x = spot f0 m0 from

    counts_outside : (K : ℕ → Type 0) (es : List Event) (n c : ℕ) → WantedOrKilled l K n → ((c : ℕ) → K c → Contains (wrote es) c) → c < cell_count p → Counts g (record { node = n; written = [] }) c → With (Counts g l) es c
    counts_outside K es n c wk killed lt (inl w) = ⊎_elim (λ y. inl (inl y)) (λ y. inr (killed c y)) (wk c lt w)
    counts_outside K es n c wk killed lt (inr y) = nothing_there c y

    counts_inside : (es : List Event) (c : ℕ) → Counts g (record { node = l.node; written = l.written ++ wrote es }) c → With (Counts g l) es c
    counts_inside es c (inl w) = inl (inl w)
    counts_inside es c (inr y) = ⊎_elim (λ z. inl (inr z)) (λ z. inr z) (Contains-append_cases l.written (wrote es) c y)

    -- after what a node did, the run goes on to a node
    on_agree : (f : Option ℕ) (to : List Frame) (n : ℕ) (K : ℕ → Type 0) (u v : State) (d : Did p (Counts g l) f K s u v) (j : ℕ) → IsUnder from to → AreCalls p l.node f to → KeepsFrames p to → (to ≡ [] → WantedOrKilled l K n)
        → GoOnAlike p g l x (spot f n to) (spot f n to) s u v j j
    on_agree None [] n K u v d j under calls frames wk =
        let l' : Place = record { node = n; written = [] } in
        let less : (c : ℕ) → c < cell_count p → Counts g l' c → With (Counts g l) d.more c = λ c lt y. counts_outside K d.more n c (wk refl) d.killed lt y in
        record {
          spot = refl;
          ticks = refl;
          more = d.more;
          events = d.events;
          agree = record {
            calls = tt;
            outside = (refl, refl);
            alike = alike_less p (With (Counts g l) d.more) (Counts g l') None less u v d.alike;
            pointers = keeps_less p (With (Counts g l) d.more) (Counts g l') None less u v d.alike d.keeps;
            frames = tt;
          };
          counts = less;
        }
    on_agree (Some k) [] n K u v d j under calls frames wk = absurd calls
    on_agree f (fr ∷ to) n K u v d j under calls frames wk = inside from refl under
      where
        less : (c : ℕ) → c < cell_count p → Counts g (record { node = l.node; written = l.written ++ wrote d.more }) c → With (Counts g l) d.more c
        less c lt y = counts_inside d.more c y

        inside : (from' : List Frame) → from' ≡ from → IsUnder from' (fr ∷ to) → GoOnAlike p g l (spot f0 m0 from) (spot f n (fr ∷ to)) (spot f n (fr ∷ to)) s u v j j
        inside [] e un = absurd un
        inside (below ∷ rest) e un =
            subst (λ (q : List Frame). GoOnAlike p g l (spot f0 m0 q) (spot f n (fr ∷ to)) (spot f n (fr ∷ to)) s u v j j) e
            (record {
              spot = refl;
              ticks = refl;
              more = d.more;
              events = d.events;
              agree = record {
                calls = calls;
                outside = tt;
                alike = alike_less p (With (Counts g l) d.more) (Counts g (record { node = l.node; written = l.written ++ wrote d.more })) f less u v d.alike;
                pointers = keeps_less p (With (Counts g l) d.more) (Counts g (record { node = l.node; written = l.written ++ wrote d.more })) f less u v d.alike d.keeps;
                frames = frames;
              };
              counts = less;
            })

    -- after what a node did, the run goes on where the edge leads, if it leads on
    pub goes_agree : (f : Option ℕ) (to : List Frame) (o : Option ℕ) (K : ℕ → Type 0) (u v : State) → Did p (Counts g l) f K s u v → (j : ℕ) → IsUnder from to → AreCalls p l.node f to → KeepsFrames p to → ((n : ℕ) → o ≡ Some n → to ≡ [] → WantedOrKilled l K n)
        → StepsAgree p g l x s (goes f to o u j) (goes f to o v j)
    goes_agree f to None K u v d j under calls frames wk = ends_alike p (With (Counts g l) d.more) u v _ d.alike
    goes_agree f to (Some n) K u v d j under calls frames wk = on_agree f to n K u v d j under calls frames (wk n refl)

    -- it comes to the same trap, or goes on
    pub given_agree : (E : ℕ → Type 0) (f : Option ℕ) (K : ℕ → Type 0) (s1 t1 : State) → AreAlike p E s1 t1 → (r r' : Result State Trap) → DidAlike p (Counts g l) f K s r r' → (k k' : State → Step) → ((u v : State) → Did p (Counts g l) f K s u v → StepsAgree p g l x s (k u) (k' v))
        → StepsAgree p g l x s (given r s1 k) (given r' t1 k')
    given_agree E f K s1 t1 a (Ok u) (Ok v) d k k' h = h u v d
    given_agree E f K s1 t1 a (Err y) (Err z) d k k' h = subst (λ (q : Trap). EndAlike (over (Trapped (trap_number y)) s1) (over (Trapped (trap_number q)) t1)) d (ends_alike p E s1 t1 (Trapped (trap_number y)) a)
    given_agree E f K s1 t1 a (Ok u) (Err z) d k k' h = absurd d
    given_agree E f K s1 t1 a (Err y) (Ok v) d k k' h = absurd d

    -- the same for a value, a list of values, or whatever else both have
    pub had_agree : {A : Type 0} (E : ℕ → Type 0) (s1 t1 : State) → AreAlike p E s1 t1 → (r r' : Result A Trap) → r ≡ r' → (k k' : A → Step) → ((a : A) → r ≡ Ok a → StepsAgree p g l x s (k a) (k' a))
        → StepsAgree p g l x s (given r s1 k) (given r' t1 k')
    had_agree {A} E s1 t1 a r r' e k k' h = subst (λ (q : Result A Trap). StepsAgree p g l x s (given r s1 k) (given q t1 k')) e (own r h)
      where
        own : (r : Result A Trap) → ((a : A) → r ≡ Ok a → StepsAgree p g l x s (k a) (k' a)) → StepsAgree p g l x s (given r s1 k) (given r t1 k')
        own (Ok v) h = h v refl
        own (Err y) h = ends_alike p E s1 t1 (Trapped (trap_number y)) a

-- ---- answers

-- the answer of a function keeps to what its pointers may hold
abbrev pub IsAnswer : Resolved → Option ℕ → ℕ → Type 0
IsAnswer p None a = Unit {0}
IsAnswer p (Some f) a = gives p (Some f) ≡ true → IsKept p (var.Answer f) a

-- a word flows on
pub kept_on : (p : Resolved) (v u : PointerVar) (a : ℕ) → Has (flows p) (record { into = v; from = source'.Variable u }) → IsKept p u a → IsKept p v a
kept_on p v u a fl k o n = carried p v (source'.Variable u) o fl (k o n)

module _ (p : Resolved) (h : IsChecked p) where
  -- a call that answers a pointer is of a function that does
  pub call_gives : (f : Option ℕ) (m : ℕ) (k : NodeWork) (w : IsWorkOf p f m k) (j : ℕ) (es : List RExpr) → call_kind w.world j es ≡ Some true → gives p (Some j) ≡ true
  call_gives f m k w j es e =
      let q = call_given p f w.world w.is_world (w.world.function j) es true e in
      by (slice_get p.functions j) refl q.0 (sym (w.functions j) ∙ q.1) q.3
    where
      by : (o : Option RFunction) → slice_get p.functions j ≡ o → (sg : Signature) → option_map signature (slice_get p.functions j) ≡ Some sg → sg.gives_pointer ≡ true → option_map_or (λ g. g.gives_pointer) (slice_get p.functions j) false ≡ true
      by None is sg e' t = absurd (none-some sg (sym (ap (option_map signature) is) ∙ e'))
      by (Some fn) is sg e' t = ap (λ (o : Option RFunction). option_map_or (λ g. g.gives_pointer) o false) is ∙ ap (λ (z : Signature). z.gives_pointer) (same_Some (signature fn) sg (sym (ap (option_map signature) is) ∙ e')) ∙ t

  answer_flow : (f : Option ℕ) (v : PointerVar) (j : ℕ) (es : List RExpr) (o : Option PointerVar) → o ≡ Some v → Has (text.called f o j es) (record { into = v; from = source'.Variable (var.Answer j) })
  answer_flow f v j es o e = subst (λ o. Has (text.called f o j es) (record { into = v; from = source'.Variable (var.Answer j) })) (sym e) (has_right (passed f j 0 es) (record { into = v; from = source'.Variable (var.Answer j) } ∷ []) (record { into = v; from = source'.Variable (var.Answer j) }) (0, refl))

  -- an answer that is stored
  pub stored_answer : (f : Option ℕ) (m : ℕ) (o : Option RPlace) (j : ℕ) (es : List RExpr) (a : ℕ) → IsWorkOf p f m (work.Call o j es) → IsAnswer p (Some j) a → (k : Option Bool) → k ≡ Some true → (v : PointerVar) → perhaps_variable f o ≡ Some v → (gives p (Some j) ≡ true) → IsKept p v a
  stored_answer f m o j es a w is k e v at gv = kept_on p v (var.Answer j) a (node_flows p f m (work.Call o j es) (record { into = v; from = source'.Variable (var.Answer j) }) w.node (answer_flow f v j es (perhaps_variable f o) at)) (is gv)

  -- an answer that is handed on
  pub handed_answer : (f : Option ℕ) (m j : ℕ) (es : List RExpr) (a : ℕ) → IsWorkOf p f m (work.ReturnCall j es) → IsAnswer p (Some j) a → IsAnswer p f a
  handed_answer None m j es a w is = tt
  handed_answer (Some f) m j es a w is = λ gv.
      let q = agree_some (Some w.world.gives_pointer) (call_kind w.world j es) w.keeps in
      let t = same_Some w.world.gives_pointer q.0 q.1 in
      let gj = call_gives (Some f) m (work.ReturnCall j es) w j es (q.2 ∙ ap (λ b. Some b) (sym t ∙ w.gives_pointer ∙ gv)) in
      kept_on p (var.Answer f) (var.Answer j) a (node_flows p (Some f) m (work.ReturnCall j es) (record { into = var.Answer f; from = source'.Variable (var.Answer j) }) w.node (answer_flow (Some f) (var.Answer f) j es (Some (var.Answer f)) refl)) (is gj)
