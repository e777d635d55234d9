-- What a row shows, and the ticks that it takes.
use Rattle.std.proofs.Common.{◌≡◌, ℕ, ◌+◌, ◌/◌, List, [], ◌∷◌, ◌++◌, length, Result, Ok, Err, Bool, true, false, cond, Option, Some, None, refl, arith}
use Rattle.std.specs.Prelude.{slice_set, nat_lt}
use Rattle.std.proofs.lemmas.List.Elements.{All-nil, All-cons, All-append}
use Rattle.ckpt_base.specs.declared.trap.Trap.{Trap}
use Rattle.ckpt_base.specs.declared.trap.Trap.TheVariants.{TooManyCalls}
use Rattle.ckpt_base.specs.Event as run
use Rattle.machine_code.specs.declared.instr.Instr.{Instr}
use Rattle.machine_code.specs.declared.instr.Instr.TheVariants.{Tick, StoreC, Move, Back, Fetch, Put, Div, Rem, Shl, Shr, Call, Ret, OutC, OutB, OutN, In, Ckpt, Excl}
use Rattle.machine_code.specs.declared.event.Caller.{Caller}
use Rattle.machine_code.specs.declared.event.Event.{Event}
use Rattle.machine_code.specs.declared.event.Event.TheVariants.{Ran, WriteFault}
use Rattle.machine_code.specs.CodeView.{CodeView, Function}
use Rattle.machine_code.specs.State.{State, top, spent}
use Rattle.machine_code.specs.Row.{Done, row, answered, stored, fetched, put, called, entered, returned, ran, trapped}
use Rattle.paged_machine.specs.Stepped.{Still}
use Rattle.paged_machine.specs.RunOn.{AreStores, told_by, ticks_of}

abbrev pub ShownBy : (ℕ → Bool) → ℕ → Event → List run.Event → Type 0
ShownBy protected ticks Ran shown = AreStores protected shown
ShownBy protected ticks e shown = shown ≡ told_by ticks (Some e)

abbrev IsStore : (ℕ → Bool) → run.Event → Type 0
IsStore protected e = (cell : ℕ) × (e ≡ run.Wrote cell) × (protected (cell / 512) ≡ false)

pub no_stores : (protected : ℕ → Bool) → AreStores protected []
no_stores protected = All-nil (IsStore protected)

pub one_store : (protected : ℕ → Bool) (cell : ℕ) → protected (cell / 512) ≡ false → AreStores protected (run.Wrote cell ∷ [])
one_store protected cell e = All-cons (IsStore protected) (run.Wrote cell) [] (cell, refl, e) (no_stores protected)

pub both_stores : (protected : ℕ → Bool) (xs ys : List run.Event) → AreStores protected xs → AreStores protected ys → AreStores protected (xs ++ ys)
both_stores protected xs ys a b = All-append (IsStore protected) xs ys a b

pub record Shows (protected : ℕ → Bool) (s : State) (m : List ℕ) (d : Done) : Type 0 where
  pub ticks : d.state.ticks ≡ s.ticks + ticks_of d.event
  pub shown : ShownBy protected d.state.ticks d.event d.shown
  pub still : Still d.event s m d.state d.memory

plain : (n : ℕ) → n ≡ n + 0
plain n = omega arith

ran_shows : (protected : ℕ → Bool) (s t : State) (m : List ℕ) → t.ticks ≡ s.ticks → Shows protected s m (ran t m)
ran_shows protected s t m e = record { ticks = omega (arith, e); shown = no_stores protected; still = tt }

trap_shows : (protected : ℕ → Bool) (s : State) (m : List ℕ) (t : Trap) → Shows protected s m (trapped s m t)
trap_shows protected s m t = record { ticks = plain s.ticks; shown = refl; still = (refl, refl) }

abbrev stored_by : State → List ℕ → ℕ → ℕ → ℕ → Bool → Done
stored_by s m k cell v b = cond b (record { state = s; memory = m; event = WriteFault (cell / 512); shown = [] }) (record { state = spent s k; memory = slice_set m cell v; event = Ran; shown = run.Wrote cell ∷ [] })

stored_shows : (protected : ℕ → Bool) (s : State) (m : List ℕ) (k cell v : ℕ) → Shows protected s m (stored protected s m k cell v)
stored_shows protected s m k cell v = by_test (protected (cell / 512)) refl
  where
    by_test : (b : Bool) → protected (cell / 512) ≡ b → Shows protected s m (stored_by s m k cell v b)
    by_test true e = record { ticks = plain s.ticks; shown = refl; still = (refl, refl) }
    by_test false e = record { ticks = plain s.ticks; shown = one_store protected cell e; still = tt }

put_shows : (protected : ℕ → Bool) (s : State) (m : List ℕ) (a : Result ℕ Trap) → Shows protected s m (put protected s m a)
put_shows protected s m (Ok cell) = stored_shows protected s m 2 cell (top s 0)
put_shows protected s m (Err t) = trap_shows protected s m t

answered_shows : (protected : ℕ → Bool) (s : State) (m : List ℕ) (k : ℕ) (a : Result ℕ Trap) → Shows protected s m (answered s m k a)
answered_shows protected s m k (Ok v) = ran_shows protected s _ m refl
answered_shows protected s m k (Err t) = trap_shows protected s m t

fetched_shows : (protected : ℕ → Bool) (s : State) (m : List ℕ) (a : Result ℕ Trap) → Shows protected s m (fetched s m a)
fetched_shows protected s m (Ok v) = ran_shows protected s _ m refl
fetched_shows protected s m (Err t) = trap_shows protected s m t

called_shows : (protected : ℕ → Bool) (s : State) (m : List ℕ) (o : Option Function) → Shows protected s m (called s m o)
called_shows protected s m None = trap_shows protected s m TooManyCalls
called_shows protected s m (Some f) = by_test (nat_lt (length s.callers) 1000)
  where
    by_test : (b : Bool) → Shows protected s m (cond b (ran (entered s f) m) (trapped s m TooManyCalls))
    by_test true = ran_shows protected s _ m refl
    by_test false = trap_shows protected s m TooManyCalls

returned_shows : (protected : ℕ → Bool) (s : State) (m : List ℕ) (ks : List Caller) → Shows protected s m (returned s m ks)
returned_shows protected s m [] = record { ticks = plain s.ticks; shown = refl; still = (refl, refl) }
returned_shows protected s m (k ∷ ks) = ran_shows protected s _ m refl

pub row_shows : (c : CodeView) (protected : ℕ → Bool) (s : State) (m : List ℕ) (i : Instr) → Shows protected s m (row c protected s m i)
row_shows c protected s m Tick = record { ticks = refl; shown = refl; still = tt }
row_shows c protected s m In = record { ticks = plain s.ticks; shown = refl; still = (refl, refl) }
row_shows c protected s m OutC = record { ticks = plain s.ticks; shown = refl; still = tt }
row_shows c protected s m (OutB b) = record { ticks = plain s.ticks; shown = refl; still = tt }
row_shows c protected s m (OutN d) = record { ticks = plain s.ticks; shown = refl; still = tt }
row_shows c protected s m (Ckpt n) = record { ticks = plain s.ticks; shown = refl; still = tt }
row_shows c protected s m (Excl k) = record { ticks = plain s.ticks; shown = refl; still = tt }
row_shows c protected s m (StoreC cell) = stored_shows protected s m 1 cell (top s 0)
row_shows c protected s m Put = put_shows protected s m _
row_shows c protected s m Move = answered_shows protected s m 2 _
row_shows c protected s m Back = answered_shows protected s m 2 _
row_shows c protected s m Div = answered_shows protected s m 2 _
row_shows c protected s m Rem = answered_shows protected s m 2 _
row_shows c protected s m Shl = answered_shows protected s m 2 _
row_shows c protected s m Shr = answered_shows protected s m 2 _
row_shows c protected s m Fetch = fetched_shows protected s m _
row_shows c protected s m (Call f) = called_shows protected s m _
row_shows c protected s m Ret = returned_shows protected s m s.callers
row_shows c protected s m i = ran_shows protected s _ m refl
