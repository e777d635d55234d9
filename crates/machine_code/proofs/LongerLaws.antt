-- Cells behind those that a code names change nothing.
use Rattle.std.specs.Prelude.{◌≡◌, ℕ, zero, suc, ◌+◌, ◌-◌, ◌/◌, ◌^◌, ◌≤◌, ◌<◌, ◌==◌, nat_lt, length, List, [], ◌∷◌, ◌++◌, Bool, true, false, cond, Option, Some, None, Result, Ok, Err, slice_get, slice_index, slice_set, refl}
use Rattle.std.specs.List.{All}
use Rattle.std.proofs.Common.{sym, ap, ◌∙◌, subst, arith}
use Rattle.std.proofs.lemmas.Bool.Decides.{nat_tests}
use Rattle.std.proofs.lemmas.List.{get_or_append_left, set-append_left}
use Rattle.std.proofs.lemmas.List.Elements.{All-head, All-tail}
use Rattle.ckpt_base.specs.declared.trap.Trap.{Trap}
use Rattle.ckpt_base.specs.declared.trap.Trap.TheVariants.{TooManyCalls, NullPointer, OutsideObject}
use Rattle.ckpt_base.specs.Pointer.{Object, first_cell, object_length, place_of, object_of, cell_in, cell_of}
use Rattle.machine_code.specs.declared.instr.Instr.{Instr}
use Rattle.machine_code.specs.declared.instr.Instr.TheVariants.{LoadC, StoreC, Move, Back, Fetch, Put, Div, Rem, Shl, Shr, Call, Ret, In}
use Rattle.machine_code.specs.declared.event.Caller.{Caller}
use Rattle.machine_code.specs.CodeView.{CodeView, Function}
use Rattle.machine_code.specs.State.{State, top, given}
use Rattle.machine_code.specs.Memory.{FitsMemory, CellWithin}
use Rattle.machine_code.specs.Row.{Done, row, stored, put, ran, trapped, answered, fetched, called, entered, returned}
use Rattle.machine_code.specs.Run.{World, unprotected, fed, after_row, after_instr, after_one, after, row_at}
use Rattle.machine_code.specs.Shown.{longer}
use Rattle.machine_code.proofs.PassLaws.{one_shows}

all_at : {X : Type 0} (P : X → Type 0) (xs : List X) (i : ℕ) (x : X) → All P xs → slice_get xs i ≡ Some x → P x
all_at P [] i x all e = absurd (let z : None ≡ Some x = e in cc)
all_at P (y ∷ ys) zero x all e = let same : y ≡ x = cc in subst P same (All-head P y ys all)
all_at P (y ∷ ys) (suc i) x all e = all_at P ys i x (All-tail P y ys all) e

-- ---- a pointer names a cell that is there

abbrev IsIn : ℕ → Result ℕ Trap → Type 0
IsIn n (Ok cell) = cell < n
IsIn n (Err t) = Unit {0}

module _ (n : ℕ) (objects : List Object) (all : All (λ o. first_cell o + object_length o ≤ n) objects) (p : ℕ) where
  by_object : (o : Option Object) → ((x : Object) → o ≡ Some x → first_cell x + object_length x ≤ n) → IsIn n (cell_in o p)
  by_object None h = tt
  by_object (Some x) h = by_test (nat_lt (place_of p) (object_length x)) refl
    where
      by_test : (b : Bool) → nat_lt (place_of p) (object_length x) ≡ b → IsIn n (cond b (Ok (first_cell x + place_of p)) (Err OutsideObject))
      by_test true e = let fits = h x refl in grind (arith, nat_tests, e, fits)
      by_test false e = tt

  object_fits : (x : Object) → object_of objects p ≡ Some x → first_cell x + object_length x ≤ n
  object_fits x e = by_zero (p / 2 ^ 32 == 0) e
    where
      by_zero : (b : Bool) → cond b None (slice_get objects (p / 2 ^ 32 - 1)) ≡ Some x → first_cell x + object_length x ≤ n
      by_zero true e = absurd (let z : None ≡ Some x = e in cc)
      by_zero false e = all_at (λ o. first_cell o + object_length o ≤ n) objects (p / 2 ^ 32 - 1) x all e

  cell_there : IsIn n (cell_of objects p)
  cell_there = by_null (p == 0)
    where
      by_null : (b : Bool) → IsIn n (cond b (Err NullPointer) (cell_in (object_of objects p) p))
      by_null true = tt
      by_null false = by_object (object_of objects p) object_fits

-- ---- rows

-- the same with more cells behind the memory
abbrev longer_done : List ℕ → Done → Done
longer_done x d = record d { memory = d.memory ++ x }

module _ (c : CodeView) (s : State) (m x : List ℕ) where
  answered_longer : (k : ℕ) (a : Result ℕ Trap) → answered s (m ++ x) k a ≡ longer_done x (answered s m k a)
  answered_longer k (Ok v) = refl
  answered_longer k (Err t) = refl

  fetched_longer : (a : Result ℕ Trap) → IsIn (length m) a → fetched s (m ++ x) a ≡ longer_done x (fetched s m a)
  fetched_longer (Ok cell) lt = ap (λ w. ran (given s 1 w) (m ++ x)) (get_or_append_left m x 0 cell lt)
  fetched_longer (Err t) lt = refl

  stored_longer : (k cell v : ℕ) → cell < length m → stored unprotected s (m ++ x) k cell v ≡ longer_done x (stored unprotected s m k cell v)
  stored_longer k cell v lt = ap (λ l. record (stored unprotected s m k cell v) { memory = l }) (set-append_left m x cell v lt)

  put_longer : (a : Result ℕ Trap) → IsIn (length m) a → put unprotected s (m ++ x) a ≡ longer_done x (put unprotected s m a)
  put_longer (Ok cell) lt = stored_longer 2 cell (top s 0) lt
  put_longer (Err t) lt = refl

  called_longer : (o : Option Function) → called s (m ++ x) o ≡ longer_done x (called s m o)
  called_longer None = refl
  called_longer (Some f) = by_test (nat_lt (length s.callers) 1000)
    where
      by_test : (b : Bool) → cond b (ran (entered s f) (m ++ x)) (trapped s (m ++ x) TooManyCalls) ≡ longer_done x (cond b (ran (entered s f) m) (trapped s m TooManyCalls))
      by_test true = refl
      by_test false = refl

  returned_longer : (ks : List Caller) → returned s (m ++ x) ks ≡ longer_done x (returned s m ks)
  returned_longer [] = refl
  returned_longer (k ∷ ks) = refl

  module _ (objects : All (λ o. first_cell o + object_length o ≤ length m) c.objects) where
    row_longer : (i : Instr) → CellWithin (length m) i → row c unprotected s (m ++ x) i ≡ longer_done x (row c unprotected s m i)
    row_longer (LoadC cell) lt = ap (λ w. ran (given s 0 w) (m ++ x)) (get_or_append_left m x 0 cell lt)
    row_longer (StoreC cell) lt = stored_longer 1 cell (top s 0) lt
    row_longer Fetch lt = fetched_longer (cell_of c.objects (top s 0)) (cell_there (length m) c.objects objects (top s 0))
    row_longer Put lt = put_longer (cell_of c.objects (top s 1)) (cell_there (length m) c.objects objects (top s 1))
    row_longer Move lt = answered_longer 2 _
    row_longer Back lt = answered_longer 2 _
    row_longer Div lt = answered_longer 2 _
    row_longer Rem lt = answered_longer 2 _
    row_longer Shl lt = answered_longer 2 _
    row_longer Shr lt = answered_longer 2 _
    row_longer (Call f) lt = called_longer (slice_get c.functions f)
    row_longer Ret lt = returned_longer s.callers
    row_longer i lt = refl

fed_longer : (x : List ℕ) (w : World) (bs : List ℕ) → fed (longer x w) bs ≡ longer x (fed w bs)
fed_longer x w [] = refl
fed_longer x w (b ∷ bs) = refl

instr_longer : (c : CodeView) (w : World) (x : List ℕ) (o : Option Instr) → slice_get c.instrs w.state.place ≡ o → FitsMemory c (length w.memory) → after_instr c (longer x w) o ≡ longer x (after_instr c w o)
instr_longer c w x None e fits = refl
instr_longer c w x (Some In) e fits = fed_longer x w w.input
instr_longer c w x (Some i) e fits = ap (after_row (longer x w)) (row_longer c w.state w.memory x fits.objects i (all_at (CellWithin (length w.memory)) c.instrs w.state.place i fits.cells e))

one_longer : (c : CodeView) (w : World) (x : List ℕ) → FitsMemory c (length w.memory) → after_one c (longer x w) ≡ longer x (after_one c w)
one_longer c w x fits = instr_longer c w x (slice_get c.instrs w.state.place) refl fits

pub after_longer : (c : CodeView) (w : World) (x : List ℕ) (k : ℕ) → FitsMemory c (length w.memory) → after c k (longer x w) ≡ longer x (after c k w)
after_longer c w x zero fits = refl
after_longer c w x (suc k) fits =
    ap (after c k) (one_longer c w x fits) ∙ after_longer c (after_one c w) x k (subst (FitsMemory c) (sym (one_shows c w).size) fits)
