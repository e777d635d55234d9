-- What runs show, and which worlds they pass.
use Rattle.std.specs.Prelude.{◌≡◌, ◌≢◌, ℕ, ℤ, zero, suc, ◌+◌, ◌-◌, ◌≤◌, ◌<◌, ◌/◌, nat_lt, length, List, [], ◌∷◌, ◌++◌, map, drop, Bool, true, false, cond, Option, Some, None, Result, Ok, Err, slice_get, slice_index, slice_set, ◌⊎◌, refl}
use Rattle.std.specs.List.{Contains}
use Rattle.std.proofs.lemmas.Bool.{cases_lt}
use Rattle.std.proofs.lemmas.List.{drop-drop}
use Rattle.std.proofs.lemmas.List.Elements.{Contains-append_left, Contains-append_right}
use Rattle.std.proofs.Common.{sym, ap, ◌∙◌, subst, inl, inr, ⊎_elim, append-nil, append_assoc, arith, rules}
use Rattle.ckpt_base.specs.declared.trap.Trap.{Trap}
use Rattle.ckpt_base.specs.declared.trap.Trap.TheVariants.{TooManyCalls}
use Rattle.ckpt_base.specs.Word.{signed}
use Rattle.std.specs.Fmt.{signed_decimal}
use Rattle.ckpt_base.specs.Run.{Run}
use Rattle.ckpt_base.specs.Event as run
use Rattle.machine_code.specs.declared.instr.Instr.{Instr}
use Rattle.machine_code.specs.declared.instr.Instr.TheVariants.{Tick, StoreC, Move, Back, Fetch, Put, Div, Rem, Shl, Shr, Call, Ret, OutC, OutB, OutN, In, Ckpt, Excl}
use Rattle.machine_code.specs.declared.event.Event.{Event}
use Rattle.machine_code.specs.declared.event.Event.TheVariants.{Ran, Ticked, WriteFault, Out, OutNumber, WantsInput, Checkpoint, Exclude, Ended, Trapped}
use Rattle.machine_code.specs.declared.event.Caller.{Caller}
use Rattle.machine_code.specs.CodeView.{CodeView, Function}
use Rattle.machine_code.specs.State.{State, top}
use Rattle.machine_code.specs.Row.{Done, row, stored, put, ran, trapped, answered, fetched, called, entered, returned, told}
use Rattle.machine_code.specs.Run.{World, unprotected, fed, after_row, after_instr, after_one, after, Reaches, row_at, next_row, StopsBy, Stops, CodeRun}
use Rattle.machine_code.specs.Shown.{wrote, taken, MarksWithin, Shows}
use Rattle.machine_code.proofs.RunLaws.{after_both, after_by, next_goes, stays_there, tick_more, ticks_later, fed_ticks, ticks_rise}

-- ---- a run to a bound passes each world that it reaches within the bound

-- the stop is at u, and the world is that or later
later_is : (c : CodeView) (u : World) (bound : ℕ) (r : Run) (k : ℕ) (e : Event) → (next_row c unprotected u.state u.memory).event ≡ e → StopsBy e u bound r → (after c k u).state.ticks ≤ bound → after c k u ≡ u
later_is c u bound r k (Ended x) is stops le = stays_there c u ((next_goes c u.state u.memory (slice_get c.instrs u.state.place)).ended x is) (λ h. let z : Ended x ≡ WantsInput = sym is ∙ h in absurd (cc)) k
later_is c u bound r k (Trapped t) is stops le = stays_there c u ((next_goes c u.state u.memory (slice_get c.instrs u.state.place)).trapped t is) (λ h. let z : Trapped t ≡ WantsInput = sym is ∙ h in absurd (cc)) k
later_is c u bound r zero Ticked is stops le = refl
later_is c u bound r (suc k) Ticked is stops le = absurd (omega (arith, tick_more c u is, ticks_later c k (after_one c u), stops.0, le))
later_is c u bound r k Ran is stops le = absurd stops
later_is c u bound r k (WriteFault p) is stops le = absurd stops
later_is c u bound r k (Out b) is stops le = absurd stops
later_is c u bound r k (OutNumber b) is stops le = absurd stops
later_is c u bound r k WantsInput is stops le = absurd stops
later_is c u bound r k (Checkpoint n) is stops le = absurd stops
later_is c u bound r k (Exclude n) is stops le = absurd stops

passes_at : (c : CodeView) (w v u : World) (n : ℕ) (r : Run) (j k : ℕ) → after c j w ≡ v → after c k w ≡ u → Stops c u (w.state.ticks + n) r → v.state.ticks ≤ w.state.ticks + n → CodeRun c v ((w.state.ticks + n) - v.state.ticks) r
passes_at c w v u n r j k at_v at_u stops le = ⊎_elim (λ lt. after_stop (omega (arith, lt))) (λ ge. before_stop ge) (cases_lt k j)
  where
    bound_is : w.state.ticks + n ≡ v.state.ticks + ((w.state.ticks + n) - v.state.ticks)
    bound_is = omega (arith, le)

    before_stop : j ≤ k → CodeRun c v ((w.state.ticks + n) - v.state.ticks) r
    before_stop ge =
        let e : j + (k - j) ≡ k = omega (arith, ge) in
        let there : after c (k - j) v ≡ u = ap (after c (k - j)) (sym at_v) ∙ after_both c j (k - j) w ∙ ap (λ i. after c i w) e ∙ at_u in
        (u, record { by = (k - j, there) }, subst (λ b. Stops c u b r) bound_is stops)

    after_stop : k ≤ j → CodeRun c v ((w.state.ticks + n) - v.state.ticks) r
    after_stop lt =
        let e : k + (j - k) ≡ j = omega (arith, lt) in
        let there : after c (j - k) u ≡ v = ap (after c (j - k)) (sym at_u) ∙ after_both c k (j - k) w ∙ ap (λ i. after c i w) e ∙ at_v in
        let same : after c (j - k) u ≡ u = later_is c u (w.state.ticks + n) r (j - k) (next_row c unprotected u.state u.memory).event refl stops (subst (λ (x : World). x.state.ticks ≤ w.state.ticks + n) (sym there) le) in
        (v, record { by = (0, refl) }, subst (λ b. Stops c v b r) bound_is (subst (λ x. Stops c x (w.state.ticks + n) r) (sym same ∙ there) stops))

pub passes : (c : CodeView) (w v : World) (n : ℕ) (r : Run) → CodeRun c w n r → Reaches c w v → v.state.ticks ≤ w.state.ticks + n → CodeRun c v ((w.state.ticks + n) - v.state.ticks) r
passes c w v n r h reached le = passes_at c w v h.0 n r reached.by.0 h.1.by.0 reached.by.1 h.1.by.1 h.2 le

-- ---- what a run shows

-- what a row leaves of the memory, by what it shows
record Leaves (now : ℕ) (m : List ℕ) (d : Done) : Type 0 where
  size : length d.memory ≡ length m
  words : (cell : ℕ) → (Contains (wrote d.shown) cell → ⊥) → slice_index d.memory cell ≡ slice_index m cell
  none : taken d.shown ≡ 0
  marks : MarksWithin now now d.shown

leaves_all : (now : ℕ) (s : State) (m : List ℕ) (e : Event) (shown : List run.Event) → taken shown ≡ 0 → MarksWithin now now shown → Leaves now m (record { state = s; memory = m; event = e; shown = shown })
leaves_all now s m e shown none marks = record { size = refl; words = λ cell not. refl; none = none; marks = marks }

ran_leaves : (s : State) (m : List ℕ) → Leaves s.ticks m (ran s m)
ran_leaves s m = leaves_all s.ticks s m Ran [] refl tt

answered_leaves : (s : State) (m : List ℕ) (k : ℕ) (a : Result ℕ Trap) → Leaves s.ticks m (answered s m k a)
answered_leaves s m k (Ok v) = leaves_all s.ticks _ m _ [] refl tt
answered_leaves s m k (Err t) = leaves_all s.ticks _ m _ [] refl tt

fetched_leaves : (s : State) (m : List ℕ) (a : Result ℕ Trap) → Leaves s.ticks m (fetched s m a)
fetched_leaves s m (Ok v) = leaves_all s.ticks _ m _ [] refl tt
fetched_leaves s m (Err t) = leaves_all s.ticks _ m _ [] refl tt

pub set_size : (m : List ℕ) (cell v : ℕ) → length (slice_set m cell v) ≡ length m
set_size m cell v = search rules

set_other : (m : List ℕ) (cell v other : ℕ) → other ≢ cell → slice_index (slice_set m cell v) other ≡ slice_index m other
set_other [] cell v other not = refl
set_other (x ∷ m) zero v zero not = absurd (not refl)
set_other (x ∷ m) zero v (suc other) not = refl
set_other (x ∷ m) (suc cell) v zero not = refl
set_other (x ∷ m) (suc cell) v (suc other) not = set_other m cell v other (λ e. not (ap (λ n. suc n) e))

stored_leaves : (s : State) (m : List ℕ) (k cell v : ℕ) → Leaves s.ticks m (stored unprotected s m k cell v)
stored_leaves s m k cell v = record { size = set_size m cell v; words = λ other not. set_other m cell v other (λ e. not (0, omega arith, sym e)); none = refl; marks = tt }

put_leaves : (s : State) (m : List ℕ) (a : Result ℕ Trap) → Leaves s.ticks m (put unprotected s m a)
put_leaves s m (Ok cell) = stored_leaves s m 2 cell (top s 0)
put_leaves s m (Err t) = leaves_all s.ticks _ m _ [] refl tt

called_leaves : (s : State) (m : List ℕ) (o : Option Function) → Leaves s.ticks m (called s m o)
called_leaves s m None = leaves_all s.ticks _ m _ [] refl tt
called_leaves s m (Some f) = by_test (nat_lt (length s.callers) 1000)
  where
    by_test : (b : Bool) → Leaves s.ticks m (cond b (ran (entered s f) m) (trapped s m TooManyCalls))
    by_test true = leaves_all s.ticks _ m _ [] refl tt
    by_test false = leaves_all s.ticks _ m _ [] refl tt

returned_leaves : (s : State) (m : List ℕ) (ks : List Caller) → Leaves s.ticks m (returned s m ks)
returned_leaves s m [] = leaves_all s.ticks _ m _ [] refl tt
returned_leaves s m (k ∷ ks) = leaves_all s.ticks _ m _ [] refl tt

bytes_take : (bs : List ℕ) → taken (map run.Byte bs) ≡ 0
bytes_take [] = refl
bytes_take (b ∷ bs) = bytes_take bs

bytes_mark : (now : ℕ) (bs : List ℕ) → MarksWithin now now (map run.Byte bs)
bytes_mark now [] = tt
bytes_mark now (b ∷ bs) = bytes_mark now bs

row_leaves : (c : CodeView) (s : State) (m : List ℕ) (i : Instr) → Leaves s.ticks m (row c unprotected s m i)
row_leaves c s m (StoreC cell) = stored_leaves s m 1 cell (top s 0)
row_leaves c s m Put = put_leaves s m _
row_leaves c s m Move = answered_leaves s m 2 _
row_leaves c s m Back = answered_leaves s m 2 _
row_leaves c s m Div = answered_leaves s m 2 _
row_leaves c s m Rem = answered_leaves s m 2 _
row_leaves c s m Shl = answered_leaves s m 2 _
row_leaves c s m Shr = answered_leaves s m 2 _
row_leaves c s m Fetch = fetched_leaves s m _
row_leaves c s m (Call f) = called_leaves s m _
row_leaves c s m Ret = returned_leaves s m s.callers
row_leaves c s m (OutN d) = leaves_all s.ticks _ m _ _ (bytes_take (signed_decimal (signed (top s d)))) (bytes_mark s.ticks (signed_decimal (signed (top s d))))
row_leaves c s m (Ckpt n) = leaves_all s.ticks _ m _ _ refl (omega arith, omega arith, tt)
row_leaves c s m i = leaves_all s.ticks _ m _ _ refl tt

next_leaves : (c : CodeView) (s : State) (m : List ℕ) (o : Option Instr) → Leaves s.ticks m (row_at c unprotected s m o)
next_leaves c s m None = ran_leaves s m
next_leaves c s m (Some i) = row_leaves c s m i

marks_wider : (a b c d : ℕ) (es : List run.Event) → c ≤ a → b ≤ d → MarksWithin a b es → MarksWithin c d es
marks_wider a b c d [] l r h = tt
marks_wider a b c d (run.Checkpoint m t ∷ es) l r h = (omega (arith, l, h.0), omega (arith, r, h.1), marks_wider a b c d es l r h.2)
marks_wider a b c d (run.Wrote e ∷ es) l r h = marks_wider a b c d es l r h
marks_wider a b c d (run.Byte e ∷ es) l r h = marks_wider a b c d es l r h
marks_wider a b c d (run.Took ∷ es) l r h = marks_wider a b c d es l r h
marks_wider a b c d (run.Excluded e ∷ es) l r h = marks_wider a b c d es l r h

marks_both : (a b : ℕ) (xs ys : List run.Event) → MarksWithin a b xs → MarksWithin a b ys → MarksWithin a b (xs ++ ys)
marks_both a b [] ys h k = k
marks_both a b (run.Checkpoint m t ∷ xs) ys h k = (h.0, h.1, marks_both a b xs ys h.2 k)
marks_both a b (run.Wrote e ∷ xs) ys h k = marks_both a b xs ys h k
marks_both a b (run.Byte e ∷ xs) ys h k = marks_both a b xs ys h k
marks_both a b (run.Took ∷ xs) ys h k = marks_both a b xs ys h k
marks_both a b (run.Excluded e ∷ xs) ys h k = marks_both a b xs ys h k

pub one_shows : (c : CodeView) (w : World) → Shows w (after_one c w)
one_shows c w =
    let o = slice_get c.instrs w.state.place in
    let d = row_at c unprotected w.state w.memory o in
    let l = next_leaves c w.state w.memory o in
    ⊎_elim
    (λ e. subst (Shows w) (sym e) (record { more = d.shown; events = refl; size = l.size; words = l.words; input = ap (λ n. drop n w.input) (sym l.none); ticks = (next_goes c w.state w.memory o).rises; marks = marks_wider w.state.ticks w.state.ticks w.state.ticks d.state.ticks d.shown (omega arith) (next_goes c w.state w.memory o).rises l.marks }))
    (λ e. subst (λ p. Shows w (after_instr c w p)) (sym e) (fed_shows w.input refl))
    (after_by c w o)
  where
    fed_shows : (bs : List ℕ) → w.input ≡ bs → Shows w (fed w bs)
    fed_shows [] is = record { more = []; events = sym (append-nil w.events); size = refl; words = λ cell not. refl; input = refl; ticks = omega arith; marks = tt }
    fed_shows (b ∷ bs) is = record { more = run.Took ∷ []; events = refl; size = refl; words = λ cell not. refl; input = sym (ap (drop 1) is); ticks = omega arith; marks = tt }

wrote_both : (xs ys : List run.Event) → wrote (xs ++ ys) ≡ wrote xs ++ wrote ys
wrote_both [] ys = refl
wrote_both (run.Wrote c ∷ xs) ys = ap (λ (l : List ℕ). c ∷ l) (wrote_both xs ys)
wrote_both (run.Byte b ∷ xs) ys = wrote_both xs ys
wrote_both (run.Took ∷ xs) ys = wrote_both xs ys
wrote_both (run.Excluded k ∷ xs) ys = wrote_both xs ys
wrote_both (run.Checkpoint m t ∷ xs) ys = wrote_both xs ys

taken_both : (xs ys : List run.Event) → taken (xs ++ ys) ≡ taken xs + taken ys
taken_both [] ys = omega arith
taken_both (run.Wrote c ∷ xs) ys = taken_both xs ys
taken_both (run.Byte b ∷ xs) ys = taken_both xs ys
taken_both (run.Took ∷ xs) ys = omega (arith, taken_both xs ys)
taken_both (run.Excluded k ∷ xs) ys = taken_both xs ys
taken_both (run.Checkpoint m t ∷ xs) ys = taken_both xs ys

shows_then : (w v u : World) → Shows w v → Shows v u → Shows w u
shows_then w v u a b = record {
  more = a.more ++ b.more;
  events = b.events ∙ ap (λ es. es ++ b.more) a.events ∙ append_assoc w.events a.more b.more;
  size = b.size ∙ a.size;
  words = λ cell not. b.words cell (λ x. not (subst (λ l. Contains l cell) (sym (wrote_both a.more b.more)) (Contains-append_right (wrote a.more) (wrote b.more) cell x)))
      ∙ a.words cell (λ x. not (subst (λ l. Contains l cell) (sym (wrote_both a.more b.more)) (Contains-append_left (wrote a.more) (wrote b.more) cell x)));
  input = b.input ∙ ap (drop (taken b.more)) a.input ∙ drop-drop (taken b.more) (taken a.more) w.input ∙ ap (λ n. drop n w.input) (sym (taken_both a.more b.more));
  ticks = omega (arith, a.ticks, b.ticks);
  marks = marks_both w.state.ticks u.state.ticks a.more b.more
      (marks_wider w.state.ticks v.state.ticks w.state.ticks u.state.ticks a.more (omega arith) b.ticks a.marks)
      (marks_wider v.state.ticks u.state.ticks w.state.ticks u.state.ticks b.more a.ticks (omega arith) b.marks);
}

after_shows : (c : CodeView) (k : ℕ) (w : World) → Shows w (after c k w)
after_shows c zero w = record { more = []; events = sym (append-nil w.events); size = refl; words = λ cell not. refl; input = refl; ticks = omega arith; marks = tt }
after_shows c (suc k) w = shows_then w (after_one c w) (after c k (after_one c w)) (one_shows c w) (after_shows c k (after_one c w))

pub reaches_shows : (c : CodeView) (w v : World) → Reaches c w v → Shows w v
reaches_shows c w v h = subst (Shows w) h.by.1 (after_shows c h.by.0 w)
