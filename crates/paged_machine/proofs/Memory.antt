-- What a row does to memory.
use Rattle.std.proofs.Common.{◌≡◌, ℕ, ◌/◌, List, [], ◌∷◌, length, Result, Ok, Err, Bool, true, false, cond, Option, Some, None, refl, sym, ap, ◌∙◌}
use Rattle.std.specs.Prelude.{slice_set, slice_index, nat_lt}
use Rattle.std.proofs.lemmas.List.{get_or-set_other, length-set}
use Rattle.ckpt_base.specs.declared.trap.Trap.{Trap}
use Rattle.ckpt_base.specs.declared.trap.Trap.TheVariants.{TooManyCalls}
use Rattle.ckpt_base.specs.Event as run
use Rattle.machine_code.specs.declared.instr.Instr.{Instr}
use Rattle.machine_code.specs.declared.instr.Instr.TheVariants.{StoreC, Move, Back, Fetch, Put, Div, Rem, Shl, Shr, Call, Ret}
use Rattle.machine_code.specs.declared.event.Caller.{Caller}
use Rattle.machine_code.specs.declared.event.Event.TheVariants.{Ran, WriteFault}
use Rattle.machine_code.specs.CodeView.{CodeView, Function}
use Rattle.machine_code.specs.State.{State, top, spent}
use Rattle.machine_code.specs.Row.{Done, row, answered, stored, fetched, put, called, entered, returned, ran, trapped}

-- the memory is as long as it was, and its protected pages are as they were
pub record Spares (protected : ℕ → Bool) (m n : List ℕ) : Type 0 where
  pub size : length n ≡ length m
  pub spared : (cell : ℕ) → protected (cell / 512) ≡ true → slice_index n cell ≡ slice_index m cell

all_spared : (protected : ℕ → Bool) (m : List ℕ) → Spares protected m m
all_spared protected m = record { size = refl; spared = λ cell p. refl }

abbrev stored_by : State → List ℕ → ℕ → ℕ → ℕ → Bool → Done
stored_by s m k cell v b = cond b (record { state = s; memory = m; event = WriteFault (cell / 512); shown = [] }) (record { state = spent s k; memory = slice_set m cell v; event = Ran; shown = run.Wrote cell ∷ [] })

stored_spares : (protected : ℕ → Bool) (s : State) (m : List ℕ) (k cell v : ℕ) → Spares protected m (stored protected s m k cell v).memory
stored_spares protected s m k cell v = by_test (protected (cell / 512)) refl
  where
    by_test : (b : Bool) → protected (cell / 512) ≡ b → Spares protected m (stored_by s m k cell v b).memory
    by_test true e = all_spared protected m
    by_test false e = record {
      size = length-set m cell v;
      spared = λ other p. get_or-set_other m cell other v 0 (λ same. let both : true ≡ false = sym p ∙ ap (λ c. protected (c / 512)) same ∙ e in cc);
    }

put_spares : (protected : ℕ → Bool) (s : State) (m : List ℕ) (a : Result ℕ Trap) → Spares protected m (put protected s m a).memory
put_spares protected s m (Ok cell) = stored_spares protected s m 2 cell (top s 0)
put_spares protected s m (Err t) = all_spared protected m

answered_spares : (protected : ℕ → Bool) (s : State) (m : List ℕ) (k : ℕ) (a : Result ℕ Trap) → Spares protected m (answered s m k a).memory
answered_spares protected s m k (Ok v) = all_spared protected m
answered_spares protected s m k (Err t) = all_spared protected m

fetched_spares : (protected : ℕ → Bool) (s : State) (m : List ℕ) (a : Result ℕ Trap) → Spares protected m (fetched s m a).memory
fetched_spares protected s m (Ok v) = all_spared protected m
fetched_spares protected s m (Err t) = all_spared protected m

called_spares : (protected : ℕ → Bool) (s : State) (m : List ℕ) (o : Option Function) → Spares protected m (called s m o).memory
called_spares protected s m None = all_spared protected m
called_spares protected s m (Some f) = by_test (nat_lt (length s.callers) 1000)
  where
    by_test : (b : Bool) → Spares protected m (cond b (ran (entered s f) m) (trapped s m TooManyCalls)).memory
    by_test true = all_spared protected m
    by_test false = all_spared protected m

returned_spares : (protected : ℕ → Bool) (s : State) (m : List ℕ) (ks : List Caller) → Spares protected m (returned s m ks).memory
returned_spares protected s m [] = all_spared protected m
returned_spares protected s m (k ∷ ks) = all_spared protected m

pub row_spares : (c : CodeView) (protected : ℕ → Bool) (s : State) (m : List ℕ) (i : Instr) → Spares protected m (row c protected s m i).memory
row_spares c protected s m (StoreC cell) = stored_spares protected s m 1 cell (top s 0)
row_spares c protected s m Put = put_spares protected s m _
row_spares c protected s m Move = answered_spares protected s m 2 _
row_spares c protected s m Back = answered_spares protected s m 2 _
row_spares c protected s m Div = answered_spares protected s m 2 _
row_spares c protected s m Rem = answered_spares protected s m 2 _
row_spares c protected s m Shl = answered_spares protected s m 2 _
row_spares c protected s m Shr = answered_spares protected s m 2 _
row_spares c protected s m Fetch = fetched_spares protected s m _
row_spares c protected s m (Call f) = called_spares protected s m _
row_spares c protected s m Ret = returned_spares protected s m s.callers
row_spares c protected s m i = all_spared protected m
