-- Calls that are made, and calls that end.
use Rattle.std.proofs.Common.{◌≡◌, ℕ, suc, ◌-◌, ◌<◌, List, [], ◌∷◌, reverse, length, Option, Some, None, refl, sym, ap, ◌∙◌, arith}
use Rattle.std.specs.Prelude.{slice_get}
use Rattle.std.specs.Borrow.{Bor}
use Rattle.ckpt_base.specs.declared.trap.Trap.TheVariants.{TooManyCalls}
use Rattle.ckpt_base.specs.Trap.{trap_number}
use Rattle.ckpt_base.specs.declared.ending.Ending.{Ending}
use Rattle.ckpt_base.specs.declared.ending.Ending.TheVariants.{Ended, Trapped}
use Rattle.ckpt_base.specs.Word.{signed}
use Rattle.ckpt_base.specs.Event.{Event}
use Rattle.ckpt_base.specs.Run as run
use Rattle.ckpt_base.specs.Run.{Run}
use Rattle.c_tree.specs.declared.resolved.RPlace.{RPlace}
use Rattle.c_tree.specs.declared.resolved.RStmt.{RStmt}
use Rattle.c_tree.specs.declared.resolved.RFunction.{RFunction}
use Rattle.c_tree.specs.State.{State, store, with_locals, entry_locals}
use Rattle.c_tree.specs.Meaning.{Then, Ways, over, acts, piece, body_ways, called, calls_within}
use Rattle.c_meaning.specs.declared.progress.Progress.{Progress}
use Rattle.c_meaning.specs.declared.evaluator.Evaluator.{Evaluator}
use Rattle.c_meaning.specs.declared.work.Waits.{Waits}
use Rattle.c_meaning.specs.declared.work.Waits.TheVariants as waits
use Rattle.c_meaning.specs.declared.work.Frame.{Frame}
use Rattle.c_meaning.specs.declared.work.Item.{Item}
use Rattle.c_meaning.specs.declared.work.Item.TheVariants as item
use Rattle.c_meaning.specs.Working.{todo, calls, before, first, others, ways, ways_on, behind, state, resumed, makes, called_progress, restored, From, Taken, Answered, Stands, IsOver, Ends, IsNoCall}
use Rattle.c_meaning.proofs.Going.{added, removed}

-- ---- the end of a call

-- the end of a call was taken away, and its function came to its own end
pub answered : (e : Evaluator) (i : Item) (f : Frame) (n : ℕ) (r : Run) → i ≡ item.Back f → Taken i e n r → Answered f 0 e n r
answered e i f n r is x = record {
  events = x.events;
  numbers = x.numbers;
  shown = x.shown;
  goes = x.goes ∙ ap (λ (j : Item). (before (calls e) j x.number (behind j e x.numbers)).next (state e.progress x.events) n) is;
}

module _ (e e' : Evaluator) (f : Frame) (a : ℕ) (same : e'.progress ≡ restored f e.progress) (work : e'.work ≡ e.work) where
  -- the function goes on that made the call
  went_on : (go : Ways → Then) → ((w : Ways) (s : State) (n : ℕ) → resumed f.waits w f.locals a s n ≡ go w (with_locals f.locals s) n) → (n : ℕ) (r : Run) → Answered f a e n r → From go e' n r
  went_on go h n r x = record {
    events = x.events;
    numbers = x.numbers;
    shown = ap (λ (p : Progress). p.output) same ∙ x.shown;
    goes = x.goes ∙ h (behind (item.Back f) e x.numbers) (state e.progress x.events) n
        ∙ ap (λ (w : List Item). go (ways e.progress.functions.now f.allowed (reverse w) x.numbers) (with_locals f.locals (state e.progress x.events)) n) (sym work)
        ∙ ap (λ (p : Progress). go (ways p.functions.now p.allowed (todo e') x.numbers) (state p x.events) n) (sym same);
  }

  pub handed : f.waits ≡ waits.Return → (n : ℕ) (r : Run) → Answered f a e n r → From (λ w. w.back a) e' n r
  handed is = went_on (λ w. w.back a) (λ w s n. ap (λ (k : Waits). resumed k w f.locals a s n) is)

  pub given_to : (p : Bor (Option RPlace)) → f.waits ≡ waits.Store p → (n : ℕ) (r : Run) → Answered f a e n r → From (λ w. acts (store p.now a) w.next) e' n r
  given_to p is = went_on (λ w. acts (store p.now a) w.next) (λ w s n. ap (λ (k : Waits). resumed k w f.locals a s n) is)

-- ---- what is left of a call

-- an item that ends no call
pub back_passes : (e e' : Evaluator) (i : Item) (a : ℕ) → e'.progress ≡ e.progress → todo e ≡ i ∷ todo e' → IsNoCall i → (n : ℕ) (r : Run) → From (λ w. w.back a) e n r → From (λ w. w.back a) e' n r
back_passes e e' i a same t p n r x = record {
  events = x.events;
  numbers = others x.numbers;
  shown = ap (λ (p : Progress). p.output) same ∙ x.shown;
  goes = x.goes ∙ ap (λ (w : Ways). w.back a (state e.progress x.events) n) (removed e e' i same t x.numbers)
      ∙ ap (λ (k : ℕ → Then). k a (state e.progress x.events) n) (passes i (first x.numbers) (others x.numbers) p)
      ∙ ap (λ (p : Progress). (ways_on e' (others x.numbers)).back a (state p x.events) n) (sym same);
}
  where
    passes : (i : Item) (m : ℕ) (ms : List ℕ) → IsNoCall i → (before (calls e') i m (behind i e' ms)).back ≡ (ways_on e' ms).back
    passes (item.One s) m ms p = refl
    passes (item.Rest ss) m ms p = refl
    passes (item.Tests arms last) m ms p = refl
    passes (item.Turn l) m ms p = refl
    passes (item.Again l) m ms p = refl
    passes (item.Back f) m ms p = absurd p

-- the end of the call
pub back_comes : (e e' : Evaluator) (i : Item) (f : Frame) (a : ℕ) → e'.progress ≡ e.progress → todo e ≡ i ∷ todo e' → i ≡ item.Back f → (n : ℕ) (r : Run) → From (λ w. w.back a) e n r → Answered f a e' n r
back_comes e e' i f a same t is n r x = record {
  events = x.events;
  numbers = others x.numbers;
  shown = ap (λ (p : Progress). p.output) same ∙ x.shown;
  goes = x.goes ∙ ap (λ (w : Ways). w.back a (state e.progress x.events) n) (removed e e' i same t x.numbers)
      ∙ ap (λ (j : Item). (before (calls e') j (first x.numbers) (behind j e' (others x.numbers))).back a (state e.progress x.events) n) is
      ∙ ap (λ (p : Progress). resumed f.waits (behind (item.Back f) e' (others x.numbers)) f.locals a (state p x.events) n) (sym same);
}

-- the frame of the call was restored
pub call_ended : (e e' : Evaluator) (f : Frame) (k : Waits) (a n : ℕ) (r : Run) → k ≡ f.waits → e'.progress ≡ restored f e.progress → e'.work ≡ e.work → Answered f a e n r → Ends (Some k) a e' n r
call_ended e e' f waits.Return a n r is same work x = handed e e' f a same work (sym is) n r x
call_ended e e' f (waits.Store p) a n r is same work x = given_to e e' f a same work p (sym is) n r x

over_shown : (e : Evaluator) (es : List Event) (r : Run) (ending : Ending) → e.progress.output ≡ run.output es → r ≡ over ending (state e.progress es) → IsOver ending e r
over_shown e es r ending shown g = record {
  same_output = shown ∙ ap (λ (r : Run). run.output r.events) (sym g);
  same_ending = ap (λ (r : Run). r.ending) (sym g);
  same_ticks = ap (λ (r : Run). r.ticks) (sym g);
}

-- no call is left: the program ends
pub none_ended : (e e' : Evaluator) (a : ℕ) → e'.progress ≡ e.progress → todo e ≡ [] → (n : ℕ) (r : Run) → From (λ w. w.back a) e n r → IsOver (Ended (signed a)) e' r
none_ended e e' a same t n r x = over_shown e' x.events r (Ended (signed a)) (ap (λ (p : Progress). p.output) same ∙ x.shown)
    (x.goes ∙ ap (λ (is : List Item). (ways e.progress.functions.now e.progress.allowed is x.numbers).back a (state e.progress x.events) n) t
    ∙ ap (λ (p : Progress). over (Ended (signed a)) (state p x.events)) (sym same))

-- ---- calls that are made

module _ (e : Evaluator) (k : Waits) (f : ℕ) (as' : List ℕ) (n : ℕ) (r : Run) (x : From (makes (calls e) k f as') e n r) where
  -- no call may be made
  pub none_allowed : e.progress.allowed ≡ 0 → IsOver (Trapped (trap_number TooManyCalls)) e r
  none_allowed none = over_shown e x.events r _ x.shown (x.goes ∙ ap (λ (a : ℕ). makes (calls_within e.progress.functions.now a) k f as' (ways_on e x.numbers) (state e.progress x.events) n) none)

  one_allowed : (a : ℕ) → e.progress.allowed ≡ suc a
      → r ≡ called (calls_within e.progress.functions.now a) (slice_get e.progress.functions.now f) as' (resumed k (ways_on e x.numbers) e.progress.memory.locals) (state e.progress x.events) n
  one_allowed a is = x.goes ∙ ap (λ (a : ℕ). makes (calls_within e.progress.functions.now a) k f as' (ways_on e x.numbers) (state e.progress x.events) n) is

  -- there is no such function
  pub none_called : (a : ℕ) → e.progress.allowed ≡ suc a → slice_get e.progress.functions.now f ≡ None → IsOver (Trapped (trap_number TooManyCalls)) e r
  none_called a is none = over_shown e x.events r _ x.shown (one_allowed a is
      ∙ ap (λ (o : Option RFunction). called (calls_within e.progress.functions.now a) o as' (resumed k (ways_on e x.numbers) e.progress.memory.locals) (state e.progress x.events) n) none)

  -- the function's body stands before the end of the call
  module _ (g : RFunction) (ls : List ℕ) (fr : Frame) (e1 e2 : Evaluator) (more : 0 < e.progress.allowed) (is : slice_get e.progress.functions.now f ≡ Some g) (lls : ls ≡ entry_locals (length g.locals) as')
      (ks : fr.waits ≡ k) (callers : fr.locals ≡ e.progress.memory.locals) (before' : fr.allowed ≡ e.progress.allowed) (same1 : e1.progress ≡ called_progress ls e.progress) (work1 : e1.work ≡ e.work) (same2 : e2.progress ≡ e1.progress) (t2 : todo e2 ≡ item.Back fr ∷ todo e1) where
    less : e.progress.allowed ≡ suc (e.progress.allowed - 1)
    less = omega arith

    entered : r ≡ (piece (calls_within e.progress.functions.now (e.progress.allowed - 1)) g.body).does 0 (body_ways (resumed k (ways_on e x.numbers) e.progress.memory.locals)) (with_locals ls (state e.progress x.events)) n
    entered = one_allowed (e.progress.allowed - 1) less
        ∙ ap (λ (o : Option RFunction). called (calls_within e.progress.functions.now (e.progress.allowed - 1)) o as' (resumed k (ways_on e x.numbers) e.progress.memory.locals) (state e.progress x.events) n) is
        ∙ ap (λ (ls : List ℕ). (piece (calls_within e.progress.functions.now (e.progress.allowed - 1)) g.body).does 0 (body_ways (resumed k (ways_on e x.numbers) e.progress.memory.locals)) (with_locals ls (state e.progress x.events)) n) (sym lls)

    resumed_is : resumed k (ways_on e x.numbers) e.progress.memory.locals ≡ resumed fr.waits (ways e1.progress.functions.now fr.allowed (todo e1) x.numbers) fr.locals
    resumed_is = ap (λ (k : Waits). resumed k (ways_on e x.numbers) e.progress.memory.locals) (sym ks)
        ∙ ap (λ (ls : List ℕ). resumed fr.waits (ways_on e x.numbers) ls) (sym callers)
        ∙ ap (λ (a : ℕ). resumed fr.waits (ways e.progress.functions.now a (todo e) x.numbers) fr.locals) (sym before')
        ∙ ap (λ (w : List Item). resumed fr.waits (ways e.progress.functions.now fr.allowed (reverse w) x.numbers) fr.locals) (sym work1)
        ∙ ap (λ (p : Progress). resumed fr.waits (ways p.functions.now fr.allowed (todo e1) x.numbers) fr.locals) (sym same1)

    -- before the end of the call
    behind_is : body_ways (resumed k (ways_on e x.numbers) e.progress.memory.locals) ≡ ways_on e2 (0 ∷ x.numbers)
    behind_is = ap body_ways resumed_is ∙ sym (added e1 e2 (item.Back fr) same2 t2 0 x.numbers)

    pub call_stands : (b : Bor RStmt) (e3 : Evaluator) → b.now ≡ g.body → e3.progress ≡ e2.progress → todo e3 ≡ item.One b ∷ todo e2 → Stands e3 n r
    call_stands b e3 bs same3 t3 = record {
      events = x.events;
      numbers = 0 ∷ (0 ∷ x.numbers);
      shown = ap (λ (p : Progress). p.output) (same3 ∙ same2 ∙ same1) ∙ x.shown;
      goes = entered
          ∙ ap (λ (w : Ways). (piece (calls_within e.progress.functions.now (e.progress.allowed - 1)) g.body).does 0 w (with_locals ls (state e.progress x.events)) n) behind_is
          ∙ ap (λ (s : RStmt). (piece (calls_within e.progress.functions.now (e.progress.allowed - 1)) s).does 0 (ways_on e2 (0 ∷ x.numbers)) (with_locals ls (state e.progress x.events)) n) (sym bs)
          ∙ ap (λ (p : Progress). (piece (calls_within p.functions.now p.allowed) b.now).does 0 (ways_on e2 (0 ∷ x.numbers)) (state p x.events) n) (sym (same2 ∙ same1))
          ∙ ap (λ (w : Ways). w.next (state e2.progress x.events) n) (sym (added e2 e3 (item.One b) same3 t3 0 (0 ∷ x.numbers)))
          ∙ ap (λ (p : Progress). (ways_on e3 (0 ∷ (0 ∷ x.numbers))).next (state p x.events) n) (sym same3);
    }
