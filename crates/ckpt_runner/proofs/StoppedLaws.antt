-- A life whose run is over, and what an instruction asks of it.
use Rattle.std.proofs.Common.{◌≡◌, refl, sym, ◌∙◌, ap, subst, ℕ, suc, ℤ, pos, negsuc, FitsSigned, w64, to_z, of_z, if◌then◌else◌, ◌^◌, ◌-◌, ◌≤◌, Bool, true, false, cond, List, [], ◌∷◌, length, append-nil, Option, Some, None, Result, Ok, Err, arith}
use Rattle.std.specs.Prelude.{slice_get, nat_lt}
use Rattle.std.proofs.lemmas.Bool.Decides.{nat_tests}
use Rattle.std.proofs.lemmas.Int.{to_z-of_z}
use Rattle.ckpt_base.specs.Word.{signed}
use Rattle.ckpt_base.specs.declared.trap.Trap.{Trap}
use Rattle.ckpt_base.specs.declared.trap.Trap.TheVariants.{TooManyCalls}
use Rattle.ckpt_base.specs.declared.ending.Ending.TheVariants as ending
use Rattle.ckpt_base.specs.Event as run
use Rattle.dirty_pages.specs.Pages.{PageStates}
use Rattle.machine_code.specs.declared.event.Caller.{Caller}
use Rattle.machine_code.specs.declared.event.Event.{Event}
use Rattle.machine_code.specs.declared.event.Event.TheVariants.{Ran, Ticked, WriteFault, Out, OutNumber, WantsInput, Checkpoint, Exclude, Ended, Trapped}
use Rattle.machine_code.specs.declared.instr.Instr.{Instr}
use Rattle.machine_code.specs.declared.instr.Instr.TheVariants.{Tick, Move, Back, Fetch, Put, Div, Rem, Shl, Shr, Call, Ret, OutN, Ckpt, Excl}
use Rattle.machine_code.specs.CodeView.{CodeView, Function}
use Rattle.machine_code.specs.State.{State, top}
use Rattle.machine_code.specs.Row.{row, answered, fetched, put, called, entered, returned, ran, trapped}
use Rattle.machine_code.specs.Run.{unprotected, row_at, next_row, Reaches}
use Rattle.machine_code.proofs.PassLaws.{reaches_shows}
use Rattle.paged_machine.specs.RunOn.{Answers, live_behind}
use Rattle.paged_machine.proofs.StopLaws.{ends, traps, goes}
use Rattle.compiled_program.specs.CanRun.{CanRun}
use Rattle.run_images.specs.Compiled.{CompiledView}
use Rattle.run_images.specs.Origin.{Origin, origin_world, ticks_ahead}
use Rattle.ckpt_runner.specs.LifeView.{LifeView}
use Rattle.ckpt_runner.specs.Lives.{world_now, Lives, StopsAt}
use Rattle.ckpt_runner.specs.Serving.{is_served}

-- ---- what an instruction answers does not depend on the memory

module _ (s : State) (m n : List ℕ) where
  put_alike : (a : Result ℕ Trap) → (put unprotected s m a).event ≡ (put unprotected s n a).event
  put_alike (Ok cell) = refl
  put_alike (Err t) = refl

  answered_alike : (k : ℕ) (a : Result ℕ Trap) → (answered s m k a).event ≡ (answered s n k a).event
  answered_alike k (Ok v) = refl
  answered_alike k (Err t) = refl

  fetched_alike : (a : Result ℕ Trap) → (fetched s m a).event ≡ (fetched s n a).event
  fetched_alike (Ok v) = refl
  fetched_alike (Err t) = refl

  called_alike : (o : Option Function) → (called s m o).event ≡ (called s n o).event
  called_alike None = refl
  called_alike (Some f) = by_test (nat_lt (length s.callers) 1000)
    where
      by_test : (b : Bool) → (cond b (ran (entered s f) m) (trapped s m TooManyCalls)).event ≡ (cond b (ran (entered s f) n) (trapped s n TooManyCalls)).event
      by_test true = refl
      by_test false = refl

  returned_alike : (ks : List Caller) → (returned s m ks).event ≡ (returned s n ks).event
  returned_alike [] = refl
  returned_alike (k ∷ ks) = refl

row_alike : (c : CodeView) (s : State) (m n : List ℕ) (i : Instr) → (row c unprotected s m i).event ≡ (row c unprotected s n i).event
row_alike c s m n Put = put_alike s m n _
row_alike c s m n Move = answered_alike s m n 2 _
row_alike c s m n Back = answered_alike s m n 2 _
row_alike c s m n Div = answered_alike s m n 2 _
row_alike c s m n Rem = answered_alike s m n 2 _
row_alike c s m n Shl = answered_alike s m n 2 _
row_alike c s m n Shr = answered_alike s m n 2 _
row_alike c s m n Fetch = fetched_alike s m n _
row_alike c s m n (Call f) = called_alike s m n _
row_alike c s m n Ret = returned_alike s m n s.callers
row_alike c s m n i = refl

next_alike : (c : CodeView) (s : State) (m n : List ℕ) (o : Option Instr) → (row_at c unprotected s m o).event ≡ (row_at c unprotected s n o).event
next_alike c s m n None = refl
next_alike c s m n (Some i) = row_alike c s m n i

-- ---- where a run is over

here : (o : Origin) (es : List run.Event) (life : LifeView) → Lives o es life → Reaches o.code (origin_world o []) (world_now o life es)
here o es life lives = subst (λ (l : List run.Event). Reaches o.code (origin_world o []) (world_now o life l)) (append-nil es) (lives.reaches [])

ticks_later : (o : Origin) (es : List run.Event) (life : LifeView) → Lives o es life → o.state.ticks ≤ life.machine.state.ticks
ticks_later o es life lives = (reaches_shows o.code (origin_world o []) (world_now o life es) (here o es life lives)).ticks

pub going_stops : (o : Origin) (es : List run.Event) (until : ℕ) (life : LifeView) → life.machine.state.ticks ≡ until → slice_get life.compiled.code.instrs life.machine.state.place ≡ Some Tick → Lives o es life → StopsAt o es until ending.Going life
going_stops o es until life at tick lives =
    let later = ticks_later o es life lives in
    goes o.code (origin_world o []) (world_now o life es) (ticks_ahead o until) (here o es life lives) (omega (arith, at, later))
    (subst (λ (c : CodeView). slice_get c.instrs life.machine.state.place ≡ Some Tick) lives.code tick)

-- the answer over the program's cells
answer_here : (o : Origin) (es : List run.Event) (life : LifeView) (e : Event) → (next_row life.compiled.code unprotected life.machine.state life.frames).event ≡ e → Lives o es life
    → (next_row o.code unprotected life.machine.state (world_now o life es).memory).event ≡ e
answer_here o es life e is lives =
    next_alike o.code life.machine.state (world_now o life es).memory life.frames (slice_get o.code.instrs life.machine.state.place)
    ∙ subst (λ (c : CodeView). (next_row c unprotected life.machine.state life.frames).event ≡ e) lives.code is

pub ended_stops : (o : Origin) (es : List run.Event) (until : ℕ) (life : LifeView) (x : ℤ) → life.machine.state.ticks ≤ until → Answers life.compiled.code life.pages life.machine.state life.frames (Some (Ended x)) → Lives o es life → StopsAt o es until (ending.Ended x) life
ended_stops o es until life x within is lives =
    let later = ticks_later o es life lives in
    ends o.code life.pages (origin_world o []) (world_now o life es) (ticks_ahead o until) x (here o es life lives) (omega (arith, within, later)) (answer_here o es life (Ended x) is lives)

pub trapped_stops : (o : Origin) (es : List run.Event) (until : ℕ) (life : LifeView) (t : ℕ) → life.machine.state.ticks ≤ until → Answers life.compiled.code life.pages life.machine.state life.frames (Some (Trapped t)) → Lives o es life → StopsAt o es until (ending.Trapped t) life
trapped_stops o es until life t within is lives =
    let later = ticks_later o es life lives in
    traps o.code life.pages (origin_world o []) (world_now o life es) (ticks_ahead o until) t (here o es life lives) (omega (arith, within, later)) (answer_here o es life (Trapped t) is lives)

-- ---- what an instruction asks for

-- only CKPT passes a checkpoint, and only EXCL executes a directive; a number is what a word stands for
abbrev AsksAs : Instr → Event → Type 0
AsksAs i (Checkpoint n) = i ≡ Ckpt n
AsksAs i (Exclude k) = i ≡ Excl k
AsksAs i (OutNumber v) = (word : ℕ) × (v ≡ signed word)
AsksAs i (Ended v) = (word : ℕ) × (v ≡ signed word)
AsksAs i e = Unit {0}

module _ (i : Instr) (s : State) (m : List ℕ) where
  put_asks : (a : Result ℕ Trap) → AsksAs i (put unprotected s m a).event
  put_asks (Ok cell) = tt
  put_asks (Err t) = tt

  answered_asks : (k : ℕ) (a : Result ℕ Trap) → AsksAs i (answered s m k a).event
  answered_asks k (Ok v) = tt
  answered_asks k (Err t) = tt

  fetched_asks : (a : Result ℕ Trap) → AsksAs i (fetched s m a).event
  fetched_asks (Ok v) = tt
  fetched_asks (Err t) = tt

  called_asks : (o : Option Function) → AsksAs i (called s m o).event
  called_asks None = tt
  called_asks (Some f) = by_test (nat_lt (length s.callers) 1000)
    where
      by_test : (b : Bool) → AsksAs i (cond b (ran (entered s f) m) (trapped s m TooManyCalls)).event
      by_test true = tt
      by_test false = tt

  returned_asks : (ks : List Caller) → AsksAs i (returned s m ks).event
  returned_asks [] = (top s 0, refl)
  returned_asks (k ∷ ks) = tt

row_asks : (c : CodeView) (s : State) (m : List ℕ) (i : Instr) → AsksAs i (row c unprotected s m i).event
row_asks c s m (Ckpt n) = refl
row_asks c s m (Excl k) = refl
row_asks c s m (OutN d) = (top s d, refl)
row_asks c s m Put = put_asks Put s m _
row_asks c s m Move = answered_asks Move s m 2 _
row_asks c s m Back = answered_asks Back s m 2 _
row_asks c s m Div = answered_asks Div s m 2 _
row_asks c s m Rem = answered_asks Rem s m 2 _
row_asks c s m Shl = answered_asks Shl s m 2 _
row_asks c s m Shr = answered_asks Shr s m 2 _
row_asks c s m Fetch = fetched_asks Fetch s m _
row_asks c s m (Call f) = called_asks (Call f) s m _
row_asks c s m Ret = returned_asks Ret s m s.callers
row_asks c s m i = tt

checkpoint_at : (c : CodeView) (s : State) (m : List ℕ) (n : ℕ) (o : Option Instr) → (row_at c unprotected s m o).event ≡ Checkpoint n → o ≡ Some (Ckpt n)
checkpoint_at c s m n None e = absurd (let z : Ran ≡ Checkpoint n = e in cc)
checkpoint_at c s m n (Some i) e = ap Some (subst (AsksAs i) e (row_asks c s m i))

directive_at : (c : CodeView) (s : State) (m : List ℕ) (k : ℕ) (o : Option Instr) → (row_at c unprotected s m o).event ≡ Exclude k → o ≡ Some (Excl k)
directive_at c s m k None e = absurd (let z : Ran ≡ Exclude k = e in cc)
directive_at c s m k (Some i) e = ap Some (subst (AsksAs i) e (row_asks c s m i))

-- a record can name the checkpoint that was passed
pub node_named : (c : CompiledView) (pages : PageStates) (s : State) (m : List ℕ) (n : ℕ) → CanRun c → Answers c.code pages s m (Some (Checkpoint n)) → n ≤ 2047
node_named c pages s m n runs b = runs.nodes b.before.place n (checkpoint_at c.code b.before b.memory n (slice_get c.code.instrs b.before.place) b.event)

-- the directive is one of the program's
pub directive_there : (c : CompiledView) (pages : PageStates) (s : State) (m : List ℕ) (k : ℕ) → CanRun c → Answers c.code pages s m (Some (Exclude k)) → k ≤ c.directives
directive_there c pages s m k runs b = (runs.directives b.before.place k (directive_at c.code b.before b.memory k (slice_get c.code.instrs b.before.place) b.event)).1

-- ---- numbers

signed_fits : (word : ℕ) → FitsSigned w64 (signed word)
signed_fits word = by_test (nat_lt word (2 ^ 63)) refl
  where
    by_test : (b : Bool) → nat_lt word (2 ^ 63) ≡ b → FitsSigned w64 (if b then pos word else negsuc (2 ^ 64 - suc word))
    by_test true e = record { sfits = grind (arith, nat_tests, e) }
    by_test false e = record { sfits = grind (arith, nat_tests, e) }

signed_back : (v : ℤ) (word : ℕ) → v ≡ signed word → to_z w64 (of_z w64 v) ≡ v
signed_back v word is = subst (λ (z : ℤ). to_z w64 (of_z w64 z) ≡ z) (sym is) (to_z-of_z w64 (signed word) (signed_fits word))

number_by : (c : CodeView) (s : State) (m : List ℕ) (v : ℤ) (o : Option Instr) → (row_at c unprotected s m o).event ≡ OutNumber v → (word : ℕ) × (v ≡ signed word)
number_by c s m v None e = absurd (let z : Ran ≡ OutNumber v = e in cc)
number_by c s m v (Some i) e = subst (AsksAs i) e (row_asks c s m i)

value_by : (c : CodeView) (s : State) (m : List ℕ) (v : ℤ) (o : Option Instr) → (row_at c unprotected s m o).event ≡ Ended v → (word : ℕ) × (v ≡ signed word)
value_by c s m v None e = absurd (let z : Ran ≡ Ended v = e in cc)
value_by c s m v (Some i) e = subst (AsksAs i) e (row_asks c s m i)

-- a number that is put out, and the value of a program, are read back as they are
pub number_back : (c : CodeView) (pages : PageStates) (s : State) (m : List ℕ) (v : ℤ) → Answers c pages s m (Some (OutNumber v)) → to_z w64 (of_z w64 v) ≡ v
number_back c pages s m v b = let is = number_by c b.before b.memory v (slice_get c.instrs b.before.place) b.event in signed_back v is.0 is.1

pub value_back : (c : CodeView) (pages : PageStates) (s : State) (m : List ℕ) (v : ℤ) → Answers c pages s m (Some (Ended v)) → to_z w64 (of_z w64 v) ≡ v
value_back c pages s m v a = let is = value_by c s m v (slice_get c.instrs s.place) a in signed_back v is.0 is.1

-- ---- a turn that goes on

-- a run stops before its end and before no fault at what it asks for
pub asks_life : (c : CodeView) (pages : PageStates) (s : State) (m : List ℕ) (e : Event) → Answers c pages s m (Some e) → ((p : ℕ) → e ≡ WriteFault p → ⊥) → ((x : ℤ) → e ≡ Ended x → ⊥) → ((t : ℕ) → e ≡ Trapped t → ⊥) → is_served e ≡ true
asks_life c pages s m Ran a fault end trap = absurd a
asks_life c pages s m Ticked a fault end trap = absurd a
asks_life c pages s m (WriteFault p) a fault end trap = absurd (fault p refl)
asks_life c pages s m (Ended x) a fault end trap = absurd (end x refl)
asks_life c pages s m (Trapped t) a fault end trap = absurd (trap t refl)
asks_life c pages s m WantsInput a fault end trap = refl
asks_life c pages s m (Out b) a fault end trap = refl
asks_life c pages s m (OutNumber v) a fault end trap = refl
asks_life c pages s m (Checkpoint n) a fault end trap = refl
asks_life c pages s m (Exclude k) a fault end trap = refl

pub served_live : (e : Event) → is_served e ≡ true → live_behind (Some e) ≡ true
served_live WantsInput h = refl
served_live (Out b) h = refl
served_live (OutNumber v) h = refl
served_live (Checkpoint n) h = refl
served_live (Exclude k) h = refl
served_live Ran h = refl
served_live Ticked h = refl
served_live (WriteFault p) h = refl
served_live (Ended x) h = absurd (let z : false ≡ true = h in cc)
served_live (Trapped t) h = absurd (let z : false ≡ true = h in cc)
