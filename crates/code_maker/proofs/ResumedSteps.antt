-- What one node leaves: only a checkpoint tells that one was passed, and none gives `main` another number of locals.
use Rattle.std.proofs.Common.{◌≡◌, ℕ, zero, suc, ◌+◌, ◌⊎◌, inl, inr, List, [], ◌∷◌, ◌++◌, length, map, Option, Some, None, Result, Ok, Err, Bool, true, false, refl, sym, ap, ◌∙◌, subst, append_assoc, append-nil}
use Rattle.std.specs.Prelude.{slice_get, slice_set, if◌then◌else◌, nat_lt}
use Rattle.std.proofs.lemmas.List.{length-set}
use Rattle.ckpt_base.specs.declared.ending.Ending.{Ending}
use Rattle.ckpt_base.specs.declared.trap.Trap.{Trap}
use Rattle.ckpt_base.specs.Event.{Event, Byte, Wrote, Took, Excluded, Checkpoint}
use Rattle.ckpt_base.specs.Pointer.{cell_of}
use Rattle.ckpt_base.specs.Run.{Run}
use Rattle.ckpt_base.specs.Word.{word_holds}
use Rattle.c_tree.specs.declared.tree.PrintPiece.{PrintPiece}
use Rattle.c_tree.specs.declared.resolved.RExpr.{RExpr}
use Rattle.c_tree.specs.declared.resolved.RPlace.{RPlace}
use Rattle.c_tree.specs.State.{State, Action, Target, ToCell, ToLocal, Through, ◌>>=◌, target, value, values, write, set, store, declare, put, printed, write_out, take, take_from, input, exclude, ticked, with_locals, with_event}
use Rattle.c_tree.specs.Meaning.{over}
use Rattle.access_summary.specs.Edges.{Edge}
use Rattle.flow_graph.specs.declared.node.NodeWork.{NodeWork}
use Rattle.flow_graph.specs.declared.node.NodeWork.TheVariants as work
use Rattle.flow_graph.specs.Run.{Graph, Graphs, Frame, Waits, Store, Return, Spot, spot, Step, Over, On, Steps, step, does, does_node, graph_at, edge_in, work_in, ticks, single, given, goes, answers, resumes, enters, made, calls, nowhere}

-- none of the events is that a checkpoint was passed
abbrev pub NoMark : List Event → Type 0
NoMark [] = Unit {0}
NoMark (Checkpoint m t ∷ es) = ⊥
NoMark (e ∷ es) = NoMark es

no_mark_both : (a b : List Event) → NoMark a → NoMark b → NoMark (a ++ b)
no_mark_both [] b h k = k
no_mark_both (Checkpoint m t ∷ a) b h k = absurd h
no_mark_both (Wrote c ∷ a) b h k = no_mark_both a b h k
no_mark_both (Byte c ∷ a) b h k = no_mark_both a b h k
no_mark_both (Took ∷ a) b h k = no_mark_both a b h k
no_mark_both (Excluded c ∷ a) b h k = no_mark_both a b h k

bytes_no_mark : (bs : List ℕ) → NoMark (map Byte bs)
bytes_no_mark [] = tt
bytes_no_mark (b ∷ bs) = bytes_no_mark bs

-- ---- calls that wait

-- `main` is what runs exactly where no call waits, and so it is under each call
abbrev pub AreNested : Option ℕ → List Frame → Type 0
AreNested None [] = Unit {0}
AreNested None (fr ∷ frs) = ⊥
AreNested (Some f) [] = ⊥
AreNested (Some f) (fr ∷ frs) = AreNested fr.function frs

nested_below : (f : Option ℕ) (fr : Frame) (frs : List Frame) → AreNested f (fr ∷ frs) → AreNested fr.function frs
nested_below None fr frs h = absurd h
nested_below (Some f) fr frs h = h

-- the locals of `main`, under the calls that wait
abbrev pub main_locals : List Frame → List ℕ → List ℕ
main_locals [] ls = ls
main_locals (fr ∷ frs) ls = main_locals frs fr.locals

same_locals : (frs : List Frame) (ls ms : List ℕ) → length ms ≡ length ls → length (main_locals frs ms) ≡ length (main_locals frs ls)
same_locals [] ls ms e = e
same_locals (fr ∷ frs) ls ms e = refl

-- ---- states

-- u has the ticks of s, and more events, of which none is that a checkpoint was passed; with the calls that wait now, as many locals of `main`
pub record Adds (from to : List Frame) (s u : State) : Type 0 where
  pub more : List Event
  pub events : u.events ≡ s.events ++ more
  pub plain : NoMark more
  pub ticks : u.ticks ≡ s.ticks
  pub locals : length (main_locals to u.variables.locals) ≡ length (main_locals from s.variables.locals)

adds_none : (from to : List Frame) (s u : State) → u.events ≡ s.events → u.ticks ≡ s.ticks → length (main_locals to u.variables.locals) ≡ length (main_locals from s.variables.locals) → Adds from to s u
adds_none from to s u e t l = record { more = []; events = e ∙ sym (append-nil s.events); plain = tt; ticks = t; locals = l }

adds_then : (a b c : List Frame) (s u v : State) → Adds a b s u → Adds b c u v → Adds a c s v
adds_then a b c s u v x y = record {
  more = x.more ++ y.more;
  events = y.events ∙ ap (λ es. es ++ y.more) x.events ∙ append_assoc s.events x.more y.more;
  plain = no_mark_both x.more y.more x.plain y.plain;
  ticks = y.ticks ∙ x.ticks;
  locals = y.locals ∙ x.locals;
}

-- so does a run that is over
pub record Leaves (s : State) (q : Run) : Type 0 where
  pub more : List Event
  pub events : q.events ≡ s.events ++ more
  pub plain : NoMark more
  pub ticks : q.ticks ≡ s.ticks

leaves_over : (from to : List Frame) (s u : State) (e : Ending) → Adds from to s u → Leaves s (over e u)
leaves_over from to s u e a = record { more = a.more; events = a.events; plain = a.plain; ticks = a.ticks }

-- ---- actions

module _ (frs : List Frame) where
  abbrev Did : State → Result State Trap → Type 0
  Did s (Ok u) = Adds frs frs s u
  Did s (Err t) = Unit {0}

  same_adds : (s : State) → Adds frs frs s s
  same_adds s = adds_none frs frs s s refl refl refl

  bind_did : {A : Type 0} → (s : State) (r : Result A Trap) (f : A → Result State Trap) → ((a : A) → Did s (f a)) → Did s (r >>= f)
  bind_did s (Ok a) f h = h a
  bind_did s (Err t) f h = tt

  did_from : (s u : State) (r : Result State Trap) → Adds frs frs s u → Did u r → Did s r
  did_from s u (Ok v) a d = adds_then frs frs frs s u v a d
  did_from s u (Err t) a d = tt

  write_did : (c : Target) (a : ℕ) (s : State) → Did s (write c a s)
  write_did (ToCell c) a s = record { more = Wrote c ∷ []; events = refl; plain = tt; ticks = refl; locals = refl }
  write_did (ToLocal i) a s = adds_none frs frs s _ refl refl (same_locals frs s.variables.locals (slice_set s.variables.locals i a) (length-set s.variables.locals i a))
  write_did (Through p) a s = bind_did s (cell_of s.variables.objects p) _ (λ c. record { more = Wrote c ∷ []; events = refl; plain = tt; ticks = refl; locals = refl })

  store_did : (o : Option RPlace) (a : ℕ) (s : State) → Did s (store o a s)
  store_did None a s = same_adds s
  store_did (Some p) a s = bind_did s (target p s.variables) _ (λ c. write_did c a s)

  set_did : (p : RPlace) (e : RExpr) (s : State) → Did s (set p e s)
  set_did p e s = bind_did s (target p s.variables) (λ c. value e s.variables >>= (λ a. write c a s)) (λ c. bind_did s (value e s.variables) (λ a. write c a s) (λ a. write_did c a s))

  declare_did : (p : RPlace) (v : Option RExpr) (s : State) → Did s (declare p v s)
  declare_did p None s = store_did (Some p) 0 s
  declare_did p (Some e) s = set_did p e s

  put_did : (e : RExpr) (s : State) → Did s (put e s)
  put_did e s = bind_did s (value e s.variables) _ (λ a. record { more = Byte _ ∷ []; events = refl; plain = tt; ticks = refl; locals = refl })

  write_out_did : (ps : List PrintPiece) (es : List RExpr) (s : State) → Did s (write_out ps es s)
  write_out_did ps es s = bind_did s (values es s.variables) _ (λ vs. record { more = map Byte (printed ps vs); events = refl; plain = bytes_no_mark (printed ps vs); ticks = refl; locals = refl })

  take_adds : (bs : List ℕ) (s : State) → Adds frs frs s (take_from bs s).1
  take_adds [] s = same_adds s
  take_adds (b ∷ bs) s = record { more = Took ∷ []; events = refl; plain = tt; ticks = refl; locals = refl }

  input_did : (p : Option RPlace) (s : State) → Did s (input p s)
  input_did p s = did_from s (take s).1 (input p s) (take_adds s.input s) (store_did p (take s).0 (take s).1)

  exclude_did : (k : ℕ) (s : State) → Did s (exclude k s)
  exclude_did k s = record { more = Excluded k ∷ []; events = refl; plain = tt; ticks = refl; locals = refl }

-- ---- parts of a step

module _ (f0 : Option ℕ) (from : List Frame) (s : State) where
  -- from function f0 and these calls a step is over, or went on to a state with more events
  abbrev pub Went : Step → Type 0
  Went (Over q) = Leaves s q
  Went (On y u k) = Adds from y.frames s u × (AreNested f0 from → AreNested y.function y.frames)

  goes_went : (f : Option ℕ) (frs : List Frame) (to : Option ℕ) (u : State) (n : ℕ) → Adds from frs s u → (AreNested f0 from → AreNested f frs) → Went (goes f frs to u n)
  goes_went f frs None u n a h = leaves_over from frs s u _ a
  goes_went f frs (Some m) u n a h = (a, h)

  given_went : {A : Type 0} → (frs : List Frame) (r : Result A Trap) (u : State) (k : A → Step) → Adds from frs s u → ((a : A) → Went (k a)) → Went (given r u k)
  given_went frs (Ok a) u k b h = h a
  given_went frs (Err t) u k b h = leaves_over from frs s u _ b

  did_went : (frs : List Frame) (r : Result State Trap) (u : State) (k : State → Step) → Adds from frs s u → Did frs u r → ((v : State) → Adds from frs s v → Went (k v)) → Went (given r u k)
  did_went frs (Ok v) u k a d h = h v (adds_then from frs frs s u v a d)
  did_went frs (Err t) u k a d h = leaves_over from frs s u _ a

  resumes_went : (w : Waits) (fr : Frame) (frs : List Frame) (go : ℕ → Steps) (v : ℕ) (u : State) (n : ℕ) → Adds from frs s u → (AreNested f0 from → AreNested fr.function frs) → Went (go v u n) → Went (resumes w fr frs go v u n)
  resumes_went (Store p) fr frs go v u n a h g = did_went frs (store p v u) u (λ t. goes fr.function frs fr.next t n) a (store_did frs p v u) (λ t b. goes_went fr.function frs fr.next t n b h)
  resumes_went Return fr frs go v u n a h g = g

  answers_went : (f : Option ℕ) (frs : List Frame) (v : ℕ) (u : State) (n : ℕ) → Adds from frs s u → (AreNested f0 from → AreNested f frs) → Went (answers frs v u n)
  answers_went f [] v u n a h = leaves_over from [] s u _ a
  answers_went f (fr ∷ frs) v u n a h =
      let t = with_locals fr.locals u in
      let b : Adds from frs s t = adds_then from (fr ∷ frs) frs s u t a (adds_none (fr ∷ frs) frs u t refl refl refl) in
      let below : AreNested f0 from → AreNested fr.function frs = λ z. nested_below f fr frs (h z) in
      resumes_went fr.waits fr frs (answers frs) v t n b below (answers_went fr.function frs v t n b below)

  if_went : (c : Bool) (o o' : Step) → Went o → Went o' → Went (if c then o else o')
  if_went true o o' h h' = h
  if_went false o o' h h' = h'

  enters_went : (g : Option Graph) (f : ℕ) (w : Waits) (to : Option ℕ) (vs : List ℕ) (u : State) (n : ℕ) → Adds from from s u → Went (enters g f (record { waits = w; locals = u.variables.locals; function = f0; next = to } ∷ from) vs u n)
  enters_went None f w to vs u n a = leaves_over from from s u _ a
  enters_went (Some g) f w to vs u n a =
      let fr : Frame = record { waits = w; locals = u.variables.locals; function = f0; next = to } in
      (adds_then from from (fr ∷ from) s u (with_locals _ u) a (adds_none from (fr ∷ from) u (with_locals _ u) refl refl refl), λ h. h)

-- ---- a step

-- node x.node is a checkpoint that was passed
pub record Passes (gs : Graphs) (x : Spot) (s : State) (y : Spot) (u : State) : Type 0 where
  pub does : work_in (graph_at gs x.function) x.node ≡ Some work.Checkpoint
  pub next : ℕ
  pub edge : Edge
  pub edge_is : edge_in (graph_at gs x.function) x.node ≡ Some edge
  pub leads : edge.0 ≡ Some next
  pub spot_is : y ≡ spot x.function next x.frames
  pub state_is : u ≡ with_event (Checkpoint x.node (s.ticks + 1)) (ticked s)

-- a checkpoint that leads nowhere
pub record IsStuck (gs : Graphs) (x : Spot) : Type 0 where
  pub does : work_in (graph_at gs x.function) x.node ≡ Some work.Checkpoint
  pub edge : Edge
  pub edge_is : edge_in (graph_at gs x.function) x.node ≡ Some edge
  pub leads : edge.0 ≡ None

-- a step passed a checkpoint, or is over where it was
abbrev pub Rests : Graphs → Spot → State → Step → Type 0
Rests gs x s (Over q) = (q ≡ over q.ending s) ⊎ IsStuck gs x
Rests gs x s (On y u k) = Passes gs x s y u

-- a step took a tick, or ended a call, or passed a checkpoint, or is over where it was
abbrev pub Moved : Graphs → Spot → State → Step → Type 0
Moved gs x s o = Went x.function x.frames (ticked s) o ⊎ ((Went x.function x.frames s o × (x.frames ≡ [] → ⊥)) ⊎ Rests gs x s o)

none_more : (fr : Frame) (frs : List Frame) → fr ∷ frs ≡ [] → ⊥
none_more fr frs h = cc

module _ (gs : Graphs) (x : Spot) where
  abbrev Goes : State → Step → Type 0
  Goes s o = Went x.function x.frames s o

  ticks_moved : (k : Steps) (s : State) (n : ℕ) → ((j : ℕ) → Goes (ticked s) (k (ticked s) j)) → Moved gs x s (ticks k s n)
  ticks_moved k s zero h = inr (inr (inl refl))
  ticks_moved k s (suc n) h = inl (h n)

  single_moved : (act : Action) (to : Option ℕ) (s : State) (n : ℕ) → ((t : State) → Did x.frames t (act t)) → Moved gs x s (single act (goes x.function x.frames to) s n)
  single_moved act to s n h = ticks_moved (λ t j. given (act t) t (λ u. goes x.function x.frames to u j)) s n
      (λ j. did_went x.function x.frames (ticked s) x.frames (act (ticked s)) (ticked s) (λ u. goes x.function x.frames to u j) (same_adds x.frames (ticked s)) (h (ticked s))
      (λ v a. goes_went x.function x.frames (ticked s) x.function x.frames to v j a (λ z. z)))

  calls_moved : (w : Waits) (to : Option ℕ) (f : ℕ) (es : List RExpr) (s : State) (n : ℕ) → Moved gs x s (calls gs x w to f es s n)
  calls_moved w to f es s n =
      ticks_moved (λ t j. given (values es t.variables) t (λ vs. made gs (record { waits = w; locals = t.variables.locals; function = x.function; next = to }) x.frames f vs t j)) s n
      (λ j. given_went x.function x.frames (ticked s) x.frames (values es (ticked s).variables) (ticked s) (λ vs. made gs (record { waits = w; locals = s.variables.locals; function = x.function; next = to }) x.frames f vs (ticked s) j) (same_adds x.frames (ticked s)) (λ vs.
      if_went x.function x.frames (ticked s) (nat_lt (length x.frames) 1000) (enters (slice_get gs.functions f) f (record { waits = w; locals = s.variables.locals; function = x.function; next = to } ∷ x.frames) vs (ticked s) j) (nowhere (ticked s) j)
      (enters_went x.function x.frames (ticked s) (slice_get gs.functions f) f w to vs (ticked s) j (same_adds x.frames (ticked s)))
      (leaves_over x.frames x.frames (ticked s) (ticked s) _ (same_adds x.frames (ticked s)))))

  answers_moved : (v : ℕ) (s : State) (n : ℕ) → Moved gs x s (answers x.frames v s n)
  answers_moved v s n = by_frames x.frames refl
    where
      by_frames : (frs : List Frame) → x.frames ≡ frs → Moved gs x s (answers frs v s n)
      by_frames [] e = inr (inr (inl refl))
      by_frames (fr ∷ frs) e =
          let a : Adds x.frames (fr ∷ frs) s s = adds_none x.frames (fr ∷ frs) s s refl refl (ap (λ l. length (main_locals l s.variables.locals)) (sym e)) in
          inr (inl (answers_went x.function x.frames s x.function (fr ∷ frs) v s n a (subst (AreNested x.function) e), λ z. none_more fr frs (sym e ∙ z)))

  checkpoint_moved : (to : Edge) → edge_in (graph_at gs x.function) x.node ≡ Some to → work_in (graph_at gs x.function) x.node ≡ Some work.Checkpoint → (s : State) (n : ℕ) → Moved gs x s (does gs x to work.Checkpoint s n)
  checkpoint_moved to is does s zero = inr (inr (inl refl))
  checkpoint_moved to is does s (suc n) = by_edge to.0 refl
    where
      by_edge : (o : Option ℕ) → to.0 ≡ o → Moved gs x s (goes x.function x.frames o (with_event (Checkpoint x.node (ticked s).ticks) (ticked s)) n)
      by_edge None e = inr (inr (inr (record { does = does; edge = to; edge_is = is; leads = e })))
      by_edge (Some m) e = inr (inr (record { does = does; next = m; edge = to; edge_is = is; leads = e; spot_is = refl; state_is = refl }))

  answers_went_on : (v : ℕ) (s u : State) (n : ℕ) → Adds x.frames x.frames s u → Goes s (answers x.frames v u n)
  answers_went_on v s u n a = answers_went x.function x.frames s x.function x.frames v u n a (λ z. z)

  does_moved : (to : Edge) (w : NodeWork) → edge_in (graph_at gs x.function) x.node ≡ Some to → work_in (graph_at gs x.function) x.node ≡ Some w → (s : State) (n : ℕ) → Moved gs x s (does gs x to w s n)
  does_moved to (work.Declare p v) e d s n = single_moved (declare p v) to.0 s n (declare_did x.frames p v)
  does_moved to (work.Set p v) e d s n = single_moved (set p v) to.0 s n (set_did x.frames p v)
  does_moved to (work.Put v) e d s n = single_moved (put v) to.0 s n (put_did x.frames v)
  does_moved to (work.Print ps vs) e d s n = single_moved (write_out ps vs) to.0 s n (write_out_did x.frames ps vs)
  does_moved to (work.Input p) e d s n = single_moved (input p) to.0 s n (input_did x.frames p)
  does_moved to (work.Exclude k) e d s n = single_moved (exclude k) to.0 s n (exclude_did x.frames k)
  does_moved to work.Checkpoint e d s n = checkpoint_moved to e d s n
  does_moved to (work.Call p f vs) e d s n = calls_moved (Store p) to.0 f vs s n
  does_moved to (work.ReturnCall f vs) e d s n = calls_moved Return to.0 f vs s n
  does_moved to work.ReturnInput e d s n = ticks_moved (λ t j. answers x.frames (take t).0 (take t).1 j) s n (λ j. answers_went_on (take (ticked s)).0 (ticked s) (take (ticked s)).1 j (take_adds x.frames s.input (ticked s)))
  does_moved to (work.Return v) e d s n = ticks_moved (λ t j. given (value v t.variables) t (λ a. answers x.frames a t j)) s n
      (λ j. given_went x.function x.frames (ticked s) x.frames (value v (ticked s).variables) (ticked s) (λ a. answers x.frames a (ticked s) j) (same_adds x.frames (ticked s)) (λ a. answers_went_on a (ticked s) (ticked s) j (same_adds x.frames (ticked s))))
  does_moved to (work.Test v) e d s n = ticks_moved (λ t j. given (value v t.variables) t (λ a. goes x.function x.frames (if word_holds a then to.0 else to.1) t j)) s n
      (λ j. given_went x.function x.frames (ticked s) x.frames (value v (ticked s).variables) (ticked s) (λ a. goes x.function x.frames (if word_holds a then to.0 else to.1) (ticked s) j) (same_adds x.frames (ticked s))
      (λ a. goes_went x.function x.frames (ticked s) x.function x.frames (if word_holds a then to.0 else to.1) (ticked s) j (same_adds x.frames (ticked s)) (λ z. z)))
  does_moved to work.End e d s n = answers_moved 0 s n

  node_moved : (o : Option Edge) (w : Option NodeWork) → edge_in (graph_at gs x.function) x.node ≡ o → work_in (graph_at gs x.function) x.node ≡ w → (s : State) (n : ℕ) → Moved gs x s (does_node gs x o w s n)
  node_moved None w e d s n = inr (inr (inl refl))
  node_moved (Some to) None e d s n = inr (inr (inl refl))
  node_moved (Some to) (Some w) e d s n = does_moved to w e d s n

pub step_moved : (gs : Graphs) (x : Spot) (s : State) (n : ℕ) → Moved gs x s (step gs x s n)
step_moved gs x s n = node_moved gs x (edge_in (graph_at gs x.function) x.node) (work_in (graph_at gs x.function) x.node) refl refl s n
