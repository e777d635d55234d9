-- What each instruction does.
use Rattle.std.specs.Prelude.{ℕ, ◌+◌, ◌-◌, ◌/◌, List, [], ◌∷◌, ◌++◌, Bool, cond, not, nat_lt, map, length, drop, take, reverse, replicate, slice_index, slice_get, slice_set, Option, Some, None, Result, Ok, Err, neg_ℤ}
use Rattle.std.specs.Fmt.{signed_decimal}
use Rattle.ckpt_base.specs.declared.trap.Trap.{Trap}
use Rattle.ckpt_base.specs.declared.trap.Trap.TheVariants.{TooManyCalls}
use Rattle.ckpt_base.specs.Trap.{trap_number}
use Rattle.ckpt_base.specs.Word.{signed, word_of, word_sum, word_difference, word_product, word_negation, word_quotient, word_remainder, word_left_shift, word_right_shift, word_and, word_or, word_xor, word_inverse, word_less, word_at_most, word_equal, word_holds, truth_word, word_low_byte}
use Rattle.ckpt_base.specs.Event as run
use Rattle.machine_code.specs.declared.instr.Instr.{Instr}
use Rattle.machine_code.specs.declared.instr.Instr.TheVariants.{Tick, Num, Addr, LoadC, StoreC, LoadL, StoreL, Move, Back, Fetch, Put, Add, Sub, Mul, Div, Rem, Shl, Shr, And, Or, Xor, Neg, Not, Inv, Test, Eq, Ne, Lt, Le, Gt, Ge, Jump, JumpZ, Call, Ret, Drop, OutC, OutB, OutN, In, Ckpt, Excl}
use Rattle.machine_code.specs.declared.event.Caller.{Caller}
use Rattle.machine_code.specs.declared.event.Event.{Event}
use Rattle.machine_code.specs.declared.event.Event.TheVariants.{Ran, Ticked, WriteFault, Out, OutNumber, WantsInput, Checkpoint, Exclude, Ended, Trapped}
use Rattle.machine_code.specs.CodeView.{CodeView, Function, start, parameters, locals}
use Rattle.machine_code.specs.State.{State, top, given, spent}
use Rattle.ckpt_base.specs.Pointer.{pointer_word, moved, cell_of}

-- what an instruction leaves: where the machine stands, the memory, what the machine answers, and what of the run it shows
pub record Done : Type 0 where
  pub state : State
  pub memory : List ℕ
  pub event : Event
  pub shown : List run.Event

-- it ran, and shows nothing
abbrev pub ran : State → List ℕ → Done
ran s m = record { state = s; memory = m; event = Ran; shown = [] }

-- it traps, and nothing has changed
abbrev pub trapped : State → List ℕ → Trap → Done
trapped s m t = record { state = s; memory = m; event = Trapped (trap_number t); shown = [] }

-- it puts a word in the place of the n topmost operands, or traps
abbrev pub answered : State → List ℕ → ℕ → Result ℕ Trap → Done
answered s m n (Ok v) = ran (given s n v) m
answered s m n (Err t) = trapped s m t

-- it writes a cell and spends n operands; where the cell's page is protected there is a fault, and nothing has changed
abbrev pub stored : (ℕ → Bool) → State → List ℕ → ℕ → ℕ → ℕ → Done
stored protected s m n cell v =
    cond (protected (cell / 512))
    (record { state = s; memory = m; event = WriteFault (cell / 512); shown = [] })
    (record { state = spent s n; memory = slice_set m cell v; event = Ran; shown = run.Wrote cell ∷ [] })

abbrev pub fetched : State → List ℕ → Result ℕ Trap → Done
fetched s m (Ok cell) = ran (given s 1 (slice_index m cell)) m
fetched s m (Err t) = trapped s m t

abbrev pub put : (ℕ → Bool) → State → List ℕ → Result ℕ Trap → Done
put protected s m (Ok cell) = stored protected s m 2 cell (top s 0)
put protected s m (Err t) = trapped s m t

-- a call of f: the arguments become its first locals, the others are 0, and the caller waits behind the call
abbrev pub entered : State → Function → State
entered s f =
    record s {
      place = start f;
      operands = drop (parameters f) s.operands;
      below = length s.operands - parameters f;
      locals = s.locals ++ (reverse (take (parameters f) s.operands) ++ replicate (locals f - parameters f) 0);
      locals_below = length s.locals;
      callers = record { place = s.place + 1; below = s.below; locals_below = s.locals_below } ∷ s.callers;
    }

-- no call is made where 1,000 are active
abbrev pub called : State → List ℕ → Option Function → Done
called s m None = trapped s m TooManyCalls
called s m (Some f) = cond (nat_lt (length s.callers) 1000) (ran (entered s f) m) (trapped s m TooManyCalls)

-- the current call ends with the topmost operand, which stands in the place of its other operands; `main` ends the run
abbrev pub returned : State → List ℕ → List Caller → Done
returned s m [] = record { state = s; memory = m; event = Ended (signed (top s 0)); shown = [] }
returned s m (k ∷ ks) =
    ran (record s {
      place = k.place;
      operands = top s 0 ∷ drop (length s.operands - s.below) s.operands;
      below = k.below;
      locals = take s.locals_below s.locals;
      locals_below = k.locals_below;
      callers = ks;
    }) m

-- it spends n operands and answers an event
abbrev pub told : State → List ℕ → ℕ → Event → List run.Event → Done
told s m n e shown = record { state = spent s n; memory = m; event = e; shown = shown }

-- the row of an instruction, over a memory of which these pages are protected
abbrev pub row : CodeView → (ℕ → Bool) → State → List ℕ → Instr → Done
row c protected s m Tick = record { state = record s { place = s.place + 1; ticks = s.ticks + 1 }; memory = m; event = Ticked; shown = [] }
row c protected s m (Num n) = ran (given s 0 (word_of n)) m
row c protected s m (Addr o) = ran (given s 0 (pointer_word o 0)) m
row c protected s m (LoadC cell) = ran (given s 0 (slice_index m cell)) m
row c protected s m (StoreC cell) = stored protected s m 1 cell (top s 0)
row c protected s m (LoadL i) = ran (given s 0 (slice_index s.locals (s.locals_below + i))) m
row c protected s m (StoreL i) = ran (record (spent s 1) { locals = slice_set s.locals (s.locals_below + i) (top s 0) }) m
row c protected s m Move = answered s m 2 (moved c.objects (top s 1) (signed (top s 0)))
row c protected s m Back = answered s m 2 (moved c.objects (top s 1) (neg_ℤ (signed (top s 0))))
row c protected s m Fetch = fetched s m (cell_of c.objects (top s 0))
row c protected s m Put = put protected s m (cell_of c.objects (top s 1))
row c protected s m Add = ran (given s 2 (word_sum (top s 1) (top s 0))) m
row c protected s m Sub = ran (given s 2 (word_difference (top s 1) (top s 0))) m
row c protected s m Mul = ran (given s 2 (word_product (top s 1) (top s 0))) m
row c protected s m Div = answered s m 2 (word_quotient (top s 1) (top s 0))
row c protected s m Rem = answered s m 2 (word_remainder (top s 1) (top s 0))
row c protected s m Shl = answered s m 2 (word_left_shift (top s 1) (top s 0))
row c protected s m Shr = answered s m 2 (word_right_shift (top s 1) (top s 0))
row c protected s m And = ran (given s 2 (word_and (top s 1) (top s 0))) m
row c protected s m Or = ran (given s 2 (word_or (top s 1) (top s 0))) m
row c protected s m Xor = ran (given s 2 (word_xor (top s 1) (top s 0))) m
row c protected s m Neg = ran (given s 1 (word_negation (top s 0))) m
row c protected s m Not = ran (given s 1 (truth_word (not (word_holds (top s 0))))) m
row c protected s m Inv = ran (given s 1 (word_inverse (top s 0))) m
row c protected s m Test = ran (given s 1 (truth_word (word_holds (top s 0)))) m
row c protected s m Eq = ran (given s 2 (truth_word (word_equal (top s 1) (top s 0)))) m
row c protected s m Ne = ran (given s 2 (truth_word (not (word_equal (top s 1) (top s 0))))) m
row c protected s m Lt = ran (given s 2 (truth_word (word_less (top s 1) (top s 0)))) m
row c protected s m Le = ran (given s 2 (truth_word (word_at_most (top s 1) (top s 0)))) m
row c protected s m Gt = ran (given s 2 (truth_word (word_less (top s 0) (top s 1)))) m
row c protected s m Ge = ran (given s 2 (truth_word (word_at_most (top s 0) (top s 1)))) m
row c protected s m (Jump t) = ran (record s { place = t }) m
row c protected s m (JumpZ t) = ran (record (spent s 1) { place = cond (word_holds (top s 0)) (s.place + 1) t }) m
row c protected s m (Call f) = called s m (slice_get c.functions f)
row c protected s m Ret = returned s m s.callers
row c protected s m Drop = ran (spent s 1) m
row c protected s m OutC = told s m 1 (Out (word_low_byte (top s 0))) (run.Byte (word_low_byte (top s 0)) ∷ [])
row c protected s m (OutB b) = told s m 0 (Out b) (run.Byte b ∷ [])
row c protected s m (OutN d) = told s m 0 (OutNumber (signed (top s d))) (map run.Byte (signed_decimal (signed (top s d))))
row c protected s m In = record { state = s; memory = m; event = WantsInput; shown = [] }
row c protected s m (Ckpt n) = told s m 0 (Checkpoint n) (run.Checkpoint n s.ticks ∷ [])
row c protected s m (Excl k) = told s m 0 (Exclude k) (run.Excluded k ∷ [])
