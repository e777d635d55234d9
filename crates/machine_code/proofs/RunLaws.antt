-- Laws of runs.
use Rattle.std.specs.Prelude.{◌≡◌, ℕ, ℤ, zero, suc, ◌+◌, ◌-◌, ◌≤◌, ◌/◌, nat_lt, length, List, [], ◌∷◌, ◌++◌, Bool, true, false, cond, Option, Some, None, Result, Ok, Err, slice_get, slice_set, ◌⊎◌, refl}
use Rattle.std.proofs.lemmas.Bool.{cases_lt}
use Rattle.std.proofs.Common.{sym, ap, ◌∙◌, subst, inl, inr, ⊎_elim, append-nil, arith}
use Rattle.ckpt_base.specs.declared.trap.Trap.{Trap}
use Rattle.ckpt_base.specs.declared.trap.Trap.TheVariants.{TooManyCalls}
use Rattle.ckpt_base.specs.Trap.{trap_number}
use Rattle.ckpt_base.specs.Run.{Run}
use Rattle.ckpt_base.specs.Event as run
use Rattle.machine_code.specs.declared.instr.Instr.{Instr}
use Rattle.machine_code.specs.declared.instr.Instr.TheVariants.{Tick, StoreC, Move, Back, Fetch, Put, Div, Rem, Shl, Shr, Call, Ret, OutC, OutB, OutN, In, Ckpt, Excl}
use Rattle.machine_code.specs.declared.event.Event.{Event}
use Rattle.machine_code.specs.declared.event.Event.TheVariants.{Ran, Ticked, WriteFault, WantsInput, Ended, Trapped}
use Rattle.machine_code.specs.declared.event.Caller.{Caller}
use Rattle.machine_code.specs.CodeView.{CodeView, Function}
use Rattle.machine_code.specs.State.{State, top, given, spent}
use Rattle.ckpt_base.specs.Pointer.{cell_of}
use Rattle.machine_code.specs.Row.{Done, row, stored, put, ran, trapped, answered, fetched, called, entered, returned, told}
use Rattle.machine_code.specs.Still.{IsStill, IsFault, IsPlainOrFault}
use Rattle.machine_code.specs.Run.{World, unprotected, fed, after_row, after_instr, after_one, after, Reaches, row_at, next_row, StopsBy, Stops, CodeRun}

abbrev stored_by : State → List ℕ → ℕ → ℕ → ℕ → Bool → Done
stored_by s m k cell v b = cond b (record { state = s; memory = m; event = WriteFault (cell / 512); shown = [] }) (record { state = spent s k; memory = slice_set m cell v; event = Ran; shown = run.Wrote cell ∷ [] })

-- a row is the row over no protected page, or it is a fault
abbrev PlainOrFault : (ℕ → Bool) → State → List ℕ → Done → Done → Type 0
PlainOrFault protected s m d plain = (d ≡ plain) ⊎ IsFault protected s m d plain

stored_plain : (protected : ℕ → Bool) (s : State) (m : List ℕ) (k cell v : ℕ) → PlainOrFault protected s m (stored protected s m k cell v) (stored unprotected s m k cell v)
stored_plain protected s m k cell v = by_test (protected (cell / 512)) refl
  where
    by_test : (b : Bool) → protected (cell / 512) ≡ b → PlainOrFault protected s m (stored_by s m k cell v b) (stored_by s m k cell v false)
    by_test true e = inr (record { cell = cell; closed = e; event = refl; still = record { state = refl; memory = refl; shown = refl }; shown = refl })
    by_test false e = inl refl

put_plain : (protected : ℕ → Bool) (s : State) (m : List ℕ) (a : Result ℕ Trap) → PlainOrFault protected s m (put protected s m a) (put unprotected s m a)
put_plain protected s m (Ok cell) = stored_plain protected s m 2 cell (top s 0)
put_plain protected s m (Err t) = inl refl

pub row_plain : (c : CodeView) (protected : ℕ → Bool) (s : State) (m : List ℕ) (i : Instr) → IsPlainOrFault c protected s m i
row_plain c protected s m (StoreC cell) = stored_plain protected s m 1 cell (top s 0)
row_plain c protected s m Put = put_plain protected s m (cell_of c.objects (top s 1))
row_plain c protected s m i = inl refl

-- ---- runs

after_more : (c : CodeView) (k : ℕ) (w : World) → after c (suc k) w ≡ after_one c (after c k w)
after_more c zero w = refl
after_more c (suc k) w = after_more c k (after_one c w)

pub after_both : (c : CodeView) (j k : ℕ) (w : World) → after c k (after c j w) ≡ after c (j + k) w
after_both c zero k w = let e : k ≡ 0 + k = omega arith in ap (λ n. after c n w) e
after_both c (suc j) k w = let e : suc (j + k) ≡ suc j + k = omega arith in after_both c j k (after_one c w) ∙ ap (λ n. after c n w) e

pub reaches_on : (c : CodeView) (w v u : World) → Reaches c w v → Reaches c v u → Reaches c w u
reaches_on c w v u r q = record { by = (r.by.0 + q.by.0, sym (after_both c r.by.0 q.by.0 w) ∙ ap (after c q.by.0) r.by.1 ∙ q.by.1) }

reaches_one : (c : CodeView) (w v : World) → Reaches c w v → Reaches c w (after_one c v)
reaches_one c w v r = record { by = (suc r.by.0, after_more c r.by.0 w ∙ ap (after_one c) r.by.1) }

-- a run goes on with the input value that the machine asks for
pub reaches_fed : (c : CodeView) (w v : World) → slice_get c.instrs v.state.place ≡ Some In → Reaches c w v → Reaches c w (fed v v.input)
reaches_fed c w v at r = subst (Reaches c w) (ap (after_instr c v) at) (reaches_one c w v r)

-- a world after a row that left everything
pub still_world : (v : World) (d : Done) → IsStill d v.state v.memory → after_row v d ≡ v
still_world v d h =
    let mk : State → List ℕ → List run.Event → World = λ s m es. record { state = s; memory = m; input = v.input; events = es } in
    ap (λ s. mk s d.memory (v.events ++ d.shown)) h.state
    ∙ ap (λ m. mk v.state m (v.events ++ d.shown)) h.memory
    ∙ ap (λ es. mk v.state v.memory es) (ap (λ es. v.events ++ es) h.shown ∙ append-nil v.events)

in_or : (c : CodeView) (v : World) (i : Instr) → (i ≡ In) ⊎ (after_instr c v (Some i) ≡ after_row v (row c unprotected v.state v.memory i))
in_or c v In = inl refl
in_or c v i = inr refl

-- a run that comes to a world comes to what the next row leaves, whatever pages are protected
pub reaches_row : (c : CodeView) (protected : ℕ → Bool) (w v : World) (i : Instr) → slice_get c.instrs v.state.place ≡ Some i → Reaches c w v → Reaches c w (after_row v (row c protected v.state v.memory i))
reaches_row c protected w v i at r =
    ⊎_elim
    (λ plain. ⊎_elim
    (λ e. subst (Reaches c w) (sym (ap (λ j. after_row v (row c protected v.state v.memory j)) e ∙ still_world v (row c protected v.state v.memory In) (record { state = refl; memory = refl; shown = refl }))) r)
    (λ e. subst (Reaches c w) (ap (after_instr c v) at ∙ e ∙ sym (ap (after_row v) plain)) (reaches_one c w v r))
    (in_or c v i))
    (λ fault. subst (Reaches c w) (sym (still_world v (row c protected v.state v.memory i) fault.still)) r)
    (row_plain c protected v.state v.memory i)

-- ---- a run gives one answer

-- no row takes a tick back; one that ends the run or traps leaves everything, and one that takes a tick adds one
pub record Goes (s : State) (m : List ℕ) (d : Done) : Type 0 where
  pub rises : s.ticks ≤ d.state.ticks
  pub ended : (x : ℤ) → d.event ≡ Ended x → IsStill d s m
  pub trapped : (t : ℕ) → d.event ≡ Trapped t → IsStill d s m
  pub ticked : d.event ≡ Ticked → d.state.ticks ≡ s.ticks + 1

-- an event that is neither of these
abbrev IsOther : Event → Type 0
IsOther e = ((x : ℤ) → e ≡ Ended x → ⊥) × ((t : ℕ) → e ≡ Trapped t → ⊥) × (e ≡ Ticked → ⊥)

other_goes : (s : State) (m n : List ℕ) (t : State) (e : Event) (shown : List run.Event) → t.ticks ≡ s.ticks → IsOther e → Goes s m (record { state = t; memory = n; event = e; shown = shown })
other_goes s m n t e shown same o = record {
  rises = omega (arith, same);
  ended = λ x h. absurd (o.0 x h);
  trapped = λ k h. absurd (o.1 k h);
  ticked = λ h. absurd (o.2 h);
}

is_ran : IsOther Ran
is_ran = (λ x h. cc, λ t h. cc, λ h. cc)

still_goes : (s : State) (m : List ℕ) (e : Event) → (e ≡ Ticked → ⊥) → Goes s m (record { state = s; memory = m; event = e; shown = [] })
still_goes s m e o = record {
  rises = omega arith;
  ended = λ x h. record { state = refl; memory = refl; shown = refl };
  trapped = λ t h. record { state = refl; memory = refl; shown = refl };
  ticked = λ h. absurd (o h);
}

ran_goes : (s : State) (m n : List ℕ) (t : State) → t.ticks ≡ s.ticks → Goes s m (ran t n)
ran_goes s m n t same = other_goes s m n t Ran [] same is_ran

trapped_goes : (s : State) (m : List ℕ) (t : Trap) → Goes s m (trapped s m t)
trapped_goes s m t = still_goes s m (Trapped (trap_number t)) (λ h. cc)

answered_goes : (s : State) (m : List ℕ) (k : ℕ) (a : Result ℕ Trap) → Goes s m (answered s m k a)
answered_goes s m k (Ok v) = ran_goes s m m (given s k v) refl
answered_goes s m k (Err t) = trapped_goes s m t

fetched_goes : (s : State) (m : List ℕ) (a : Result ℕ Trap) → Goes s m (fetched s m a)
fetched_goes s m (Ok v) = ran_goes s m m _ refl
fetched_goes s m (Err t) = trapped_goes s m t

stored_goes : (s : State) (m : List ℕ) (k cell v : ℕ) → Goes s m (stored unprotected s m k cell v)
stored_goes s m k cell v = other_goes s m (slice_set m cell v) (spent s k) Ran (run.Wrote cell ∷ []) refl is_ran

put_goes : (s : State) (m : List ℕ) (a : Result ℕ Trap) → Goes s m (put unprotected s m a)
put_goes s m (Ok cell) = stored_goes s m 2 cell (top s 0)
put_goes s m (Err t) = trapped_goes s m t

called_goes : (s : State) (m : List ℕ) (o : Option Function) → Goes s m (called s m o)
called_goes s m None = trapped_goes s m TooManyCalls
called_goes s m (Some f) = by_test (nat_lt (length s.callers) 1000)
  where
    by_test : (b : Bool) → Goes s m (cond b (ran (entered s f) m) (trapped s m TooManyCalls))
    by_test true = ran_goes s m m (entered s f) refl
    by_test false = trapped_goes s m TooManyCalls

returned_goes : (s : State) (m : List ℕ) (ks : List Caller) → Goes s m (returned s m ks)
returned_goes s m [] = still_goes s m _ (λ h. cc)
returned_goes s m (k ∷ ks) = ran_goes s m m _ refl

told_goes : (s : State) (m : List ℕ) (k : ℕ) (e : Event) (shown : List run.Event) → IsOther e → Goes s m (told s m k e shown)
told_goes s m k e shown o = other_goes s m m (spent s k) e shown refl o

row_goes : (c : CodeView) (s : State) (m : List ℕ) (i : Instr) → Goes s m (row c unprotected s m i)
row_goes c s m Tick = record { rises = omega arith; ended = λ x h. absurd (cc); trapped = λ t h. absurd (cc); ticked = λ h. refl }
row_goes c s m In = still_goes s m _ (λ h. cc)
row_goes c s m (StoreC cell) = stored_goes s m 1 cell (top s 0)
row_goes c s m Put = put_goes s m _
row_goes c s m Move = answered_goes s m 2 _
row_goes c s m Back = answered_goes s m 2 _
row_goes c s m Div = answered_goes s m 2 _
row_goes c s m Rem = answered_goes s m 2 _
row_goes c s m Shl = answered_goes s m 2 _
row_goes c s m Shr = answered_goes s m 2 _
row_goes c s m Fetch = fetched_goes s m _
row_goes c s m (Call f) = called_goes s m _
row_goes c s m Ret = returned_goes s m s.callers
row_goes c s m OutC = told_goes s m 1 _ _ (λ x h. cc, λ t h. cc, λ h. cc)
row_goes c s m (OutB b) = told_goes s m 0 _ _ (λ x h. cc, λ t h. cc, λ h. cc)
row_goes c s m (OutN d) = told_goes s m 0 _ _ (λ x h. cc, λ t h. cc, λ h. cc)
row_goes c s m (Ckpt n) = told_goes s m 0 _ _ (λ x h. cc, λ t h. cc, λ h. cc)
row_goes c s m (Excl k) = told_goes s m 0 _ _ (λ x h. cc, λ t h. cc, λ h. cc)
row_goes c s m i = ran_goes s m m _ refl

pub next_goes : (c : CodeView) (s : State) (m : List ℕ) (o : Option Instr) → Goes s m (row_at c unprotected s m o)
next_goes c s m None = ran_goes s m m s refl
next_goes c s m (Some i) = row_goes c s m i

-- the world after one instruction is that of its row, unless the row asked for input
pub after_by : (c : CodeView) (w : World) (o : Option Instr) → (after_instr c w o ≡ after_row w (row_at c unprotected w.state w.memory o)) ⊎ (o ≡ Some In)
after_by c w None = inl refl
after_by c w (Some In) = inr refl
after_by c w (Some i) = inl refl

pub fed_ticks : (w : World) (bs : List ℕ) → (fed w bs).state.ticks ≡ w.state.ticks
fed_ticks w [] = refl
fed_ticks w (b ∷ bs) = refl

pub ticks_rise : (c : CodeView) (w : World) → w.state.ticks ≤ (after_one c w).state.ticks
ticks_rise c w =
    let o = slice_get c.instrs w.state.place in
    ⊎_elim
    (λ e. omega (arith, ap (λ (v : World). v.state.ticks) e, (next_goes c w.state w.memory o).rises))
    (λ e. omega (arith, ap (λ p. (after_instr c w p).state.ticks) e, fed_ticks w w.input))
    (after_by c w o)

pub ticks_later : (c : CodeView) (k : ℕ) (w : World) → w.state.ticks ≤ (after c k w).state.ticks
ticks_later c zero w = omega arith
ticks_later c (suc k) w = let h = ticks_rise c w in let r = ticks_later c k (after_one c w) in omega arith

-- a world whose next row leaves everything stays
pub stays_there : (c : CodeView) (v : World) → IsStill (next_row c unprotected v.state v.memory) v.state v.memory → ((next_row c unprotected v.state v.memory).event ≡ WantsInput → ⊥) → (k : ℕ) → after c k v ≡ v
stays_there c v still not zero = refl
stays_there c v still not (suc k) =
    let o = slice_get c.instrs v.state.place in
    let one : after_one c v ≡ v = ⊎_elim (λ e. e ∙ still_world v (row_at c unprotected v.state v.memory o) still) (λ e. absurd (not (ap (λ p. (row_at c unprotected v.state v.memory p).event) e))) (after_by c v o) in
    ap (after c k) one ∙ stays_there c v still not k

stops_within : (u : World) (bound : ℕ) (q : Run) (e : Event) → StopsBy e u bound q → u.state.ticks ≤ bound
stops_within u bound q (Ended x) h = h.0
stops_within u bound q (Trapped t) h = h.0
stops_within u bound q Ticked h = omega (arith, h.0)
stops_within u bound q e h = absurd h

-- where the next row leaves everything, each later stop is the one by it
same_stop : (c : CodeView) (v : World) (bound : ℕ) (q : Run) (k : ℕ) (e : Event) → (next_row c unprotected v.state v.memory).event ≡ e → (e ≡ WantsInput → ⊥) → IsStill (next_row c unprotected v.state v.memory) v.state v.memory → Stops c (after c k v) bound q → StopsBy e v bound q
same_stop c v bound q k e is not still later =
    subst (λ d. StopsBy d v bound q) is (subst (λ w. Stops c w bound q) (stays_there c v still (λ h. not (sym is ∙ h)) k) later)

-- a tick that is taken is one more
pub tick_more : (c : CodeView) (v : World) → (next_row c unprotected v.state v.memory).event ≡ Ticked → (after_one c v).state.ticks ≡ v.state.ticks + 1
tick_more c v is =
    let o = slice_get c.instrs v.state.place in
    ⊎_elim
    (λ e. ap (λ (w : World). w.state.ticks) e ∙ (next_goes c v.state v.memory o).ticked is)
    (λ e. let wants : WantsInput ≡ Ticked = sym (ap (λ p. (row_at c unprotected v.state v.memory p).event) e) ∙ is in absurd (cc))
    (after_by c v o)

-- after a stop the run gives no other answer
stop_is_last : (c : CodeView) (v : World) (bound : ℕ) (r q : Run) (k : ℕ) (e : Event) → (next_row c unprotected v.state v.memory).event ≡ e → StopsBy e v bound r → Stops c (after c k v) bound q → q ≡ r
stop_is_last c v bound r q k (Ended x) is stops later =
    (same_stop c v bound q k (Ended x) is (λ h. cc) ((next_goes c v.state v.memory (slice_get c.instrs v.state.place)).ended x is) later).1 ∙ sym stops.1
stop_is_last c v bound r q k (Trapped t) is stops later =
    (same_stop c v bound q k (Trapped t) is (λ h. cc) ((next_goes c v.state v.memory (slice_get c.instrs v.state.place)).trapped t is) later).1 ∙ sym stops.1
stop_is_last c v bound r q zero Ticked is stops later =
    let again : StopsBy Ticked v bound q = subst (λ d. StopsBy d v bound q) is later in
    again.1 ∙ sym stops.1
stop_is_last c v bound r q (suc k) Ticked is stops later =
    let u = after c k (after_one c v) in
    absurd (omega (arith, tick_more c v is, ticks_later c k (after_one c v), stops.0, stops_within u bound q _ later))
stop_is_last c v bound r q k e is stops later = absurd stops

-- of two stops of one run the later gives the answer of the earlier
in_order : (c : CodeView) (w v u : World) (bound j k : ℕ) (r q : Run) → after c j w ≡ v → after c k w ≡ u → j ≤ k → Stops c v bound r → Stops c u bound q → q ≡ r
in_order c w v u bound j k r q at_v at_u le sr sq =
    let e : j + (k - j) ≡ k = omega arith in
    let there : after c (k - j) v ≡ u = ap (after c (k - j)) (sym at_v) ∙ after_both c j (k - j) w ∙ ap (λ n. after c n w) e ∙ at_u in
    stop_is_last c v bound r q (k - j) _ refl sr (subst (λ x. Stops c x bound q) (sym there) sq)

pub one_answer : (c : CodeView) (w : World) (n : ℕ) (r q : Run) → CodeRun c w n r → CodeRun c w n q → r ≡ q
one_answer c w n r q a b =
    let j = a.1.by.0 in
    let k = b.1.by.0 in
    ⊎_elim
    (λ lt. in_order c w b.0 a.0 (w.state.ticks + n) k j q r b.1.by.1 a.1.by.1 (omega arith) b.2 a.2)
    (λ le. sym (in_order c w a.0 b.0 (w.state.ticks + n) j k r q a.1.by.1 b.1.by.1 le a.2 b.2))
    (cases_lt k j)
