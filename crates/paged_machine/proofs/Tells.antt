-- What an event says of its instruction.
use Rattle.std.proofs.Common.{◌≡◌, ℕ, ◌/◌, ◌<◌, List, [], ◌∷◌, length, get_or, Result, Ok, Err, Bool, true, false, cond, not, Option, Some, None, refl, sym, ap, ◌∙◌, subst, ⊎_elim}
use Rattle.std.specs.Prelude.{slice_set, nat_lt}
use Rattle.std.proofs.lemmas.Bool.{cases_lt}
use Rattle.std.proofs.lemmas.List.{get_or_past}
use Rattle.ckpt_base.specs.declared.trap.Trap.{Trap}
use Rattle.ckpt_base.specs.declared.trap.Trap.TheVariants.{TooManyCalls}
use Rattle.ckpt_base.specs.Event as run
use Rattle.dirty_pages.specs.Pages.{PageStates, is_protected}
use Rattle.machine_code.specs.declared.instr.Instr.{Instr}
use Rattle.machine_code.specs.declared.instr.Instr.TheVariants.{Tick, StoreC, Move, Back, Fetch, Put, Div, Rem, Shl, Shr, Call, Ret, In}
use Rattle.machine_code.specs.declared.event.Caller.{Caller}
use Rattle.machine_code.specs.declared.event.Event.{Event}
use Rattle.machine_code.specs.declared.event.Event.TheVariants.{Ran, Ticked, WriteFault, WantsInput}
use Rattle.machine_code.specs.CodeView.{CodeView, Function}
use Rattle.machine_code.specs.State.{State, top, spent}
use Rattle.machine_code.specs.Run.{row_at}
use Rattle.machine_code.specs.Row.{Done, row, answered, stored, fetched, put, called, entered, returned, ran, trapped}

-- only In asks for input, only Tick takes a tick, and only a protected page has a fault
abbrev pub Tells : (ℕ → Bool) → Instr → Event → Type 0
Tells protected i WantsInput = i ≡ In
Tells protected i Ticked = i ≡ Tick
Tells protected i (WriteFault p) = protected p ≡ true
Tells protected i e = Unit {0}

abbrev stored_by : State → List ℕ → ℕ → ℕ → ℕ → Bool → Done
stored_by s m k cell v b = cond b (record { state = s; memory = m; event = WriteFault (cell / 512); shown = [] }) (record { state = spent s k; memory = slice_set m cell v; event = Ran; shown = run.Wrote cell ∷ [] })

module _ (protected : ℕ → Bool) (i : Instr) where
  stored_tells : (s : State) (m : List ℕ) (k cell v : ℕ) → Tells protected i (stored protected s m k cell v).event
  stored_tells s m k cell v = by_test (protected (cell / 512)) refl
    where
      by_test : (b : Bool) → protected (cell / 512) ≡ b → Tells protected i (stored_by s m k cell v b).event
      by_test true e = e
      by_test false e = tt

  put_tells : (s : State) (m : List ℕ) (a : Result ℕ Trap) → Tells protected i (put protected s m a).event
  put_tells s m (Ok cell) = stored_tells s m 2 cell (top s 0)
  put_tells s m (Err t) = tt

  answered_tells : (s : State) (m : List ℕ) (k : ℕ) (a : Result ℕ Trap) → Tells protected i (answered s m k a).event
  answered_tells s m k (Ok v) = tt
  answered_tells s m k (Err t) = tt

  fetched_tells : (s : State) (m : List ℕ) (a : Result ℕ Trap) → Tells protected i (fetched s m a).event
  fetched_tells s m (Ok v) = tt
  fetched_tells s m (Err t) = tt

  called_tells : (s : State) (m : List ℕ) (o : Option Function) → Tells protected i (called s m o).event
  called_tells s m None = tt
  called_tells s m (Some f) = by_test (nat_lt (length s.callers) 1000)
    where
      by_test : (b : Bool) → Tells protected i (cond b (ran (entered s f) m) (trapped s m TooManyCalls)).event
      by_test true = tt
      by_test false = tt

  returned_tells : (s : State) (m : List ℕ) (ks : List Caller) → Tells protected i (returned s m ks).event
  returned_tells s m [] = tt
  returned_tells s m (k ∷ ks) = tt

pub row_tells : (c : CodeView) (protected : ℕ → Bool) (s : State) (m : List ℕ) (i : Instr) → Tells protected i (row c protected s m i).event
row_tells c protected s m In = refl
row_tells c protected s m Tick = refl
row_tells c protected s m (StoreC cell) = stored_tells protected (StoreC cell) s m 1 cell (top s 0)
row_tells c protected s m Put = put_tells protected Put s m _
row_tells c protected s m Move = answered_tells protected Move s m 2 _
row_tells c protected s m Back = answered_tells protected Back s m 2 _
row_tells c protected s m Div = answered_tells protected Div s m 2 _
row_tells c protected s m Rem = answered_tells protected Rem s m 2 _
row_tells c protected s m Shl = answered_tells protected Shl s m 2 _
row_tells c protected s m Shr = answered_tells protected Shr s m 2 _
row_tells c protected s m Fetch = fetched_tells protected Fetch s m _
row_tells c protected s m (Call f) = called_tells protected (Call f) s m _
row_tells c protected s m Ret = returned_tells protected Ret s m s.callers
row_tells c protected s m i = tt

-- a protected page is there
pub is_there : (pages : PageStates) (p : ℕ) → is_protected pages p ≡ true → p < length pages.dirty
is_there pages p e = ⊎_elim (λ lt. lt) (λ ge. let d : not (get_or pages.dirty p true) ≡ not true = ap not (get_or_past pages.dirty p true ge) in absurd (let f : true ≡ false = sym e ∙ d in cc)) (cases_lt p (length pages.dirty))

-- an instruction that took a tick was Tick
pub ticked_at : (c : CodeView) (protected : ℕ → Bool) (s : State) (m : List ℕ) (o : Option Instr) → (row_at c protected s m o).event ≡ Ticked → o ≡ Some Tick
ticked_at c protected s m None e = absurd (let f : Ran ≡ Ticked = e in cc)
ticked_at c protected s m (Some i) e = ap Some (subst (Tells protected i) e (row_tells c protected s m i))

-- Tick takes a tick
pub tick_ticks : (c : CodeView) (protected : ℕ → Bool) (s : State) (m : List ℕ) (o : Option Instr) → o ≡ Some Tick → (row_at c protected s m o).event ≡ Ticked
tick_ticks c protected s m o e = ap (λ o. (row_at c protected s m o).event) e
