-- What the run of a program may show: its own checkpoints, its own directives, and no more input than there is.
use Rattle.std.proofs.Common.{◌≡◌, refl, sym, ◌∙◌, ap, subst, ⊎_elim, ℕ, zero, suc, ◌+◌, ◌≤◌, Bool, true, false, cond, nat_lt, List, [], ◌∷◌, ◌++◌, length, map, Option, Some, None, Result, Ok, Err, arith}
use Rattle.std.specs.Prelude.{slice_get}
use Rattle.std.specs.Fmt.{signed_decimal}
use Rattle.ckpt_base.specs.declared.trap.Trap.{Trap}
use Rattle.ckpt_base.specs.declared.trap.Trap.TheVariants.{TooManyCalls}
use Rattle.ckpt_base.specs.Event as run
use Rattle.ckpt_base.specs.Word.{signed}
use Rattle.machine_code.specs.declared.instr.Instr.{Instr}
use Rattle.machine_code.specs.declared.instr.Instr.TheVariants.{StoreC, Move, Back, Fetch, Put, Div, Rem, Shl, Shr, Call, Ret, OutC, OutB, OutN, Ckpt, Excl}
use Rattle.machine_code.specs.declared.event.Caller.{Caller}
use Rattle.machine_code.specs.CodeView.{CodeView, Function}
use Rattle.machine_code.specs.State.{State, top}
use Rattle.machine_code.specs.Row.{row, put, ran, trapped, answered, fetched, called, entered, returned}
use Rattle.machine_code.specs.Run.{World, unprotected, fed, after_instr, after_one, after, Reaches, row_at}
use Rattle.machine_code.specs.Shown.{taken}
use Rattle.machine_code.proofs.RunLaws.{after_by}

-- which nodes are checkpoints, and how many directives there are
pub record Marked : Type 1 where
  pub node : ℕ → Type 0
  pub directives : ℕ

-- the event is one of the program's
abbrev pub IsOwn : Marked → run.Event → Type 0
IsOwn p (run.Wrote c) = Unit {0}
IsOwn p (run.Byte b) = Unit {0}
IsOwn p run.Took = Unit {0}
IsOwn p (run.Excluded k) = k ≤ p.directives
IsOwn p (run.Checkpoint m t) = p.node m

abbrev pub AreOwn : Marked → List run.Event → Type 0
AreOwn p [] = Unit {0}
AreOwn p (e ∷ es) = IsOwn p e × AreOwn p es

pub own_both : (p : Marked) (xs ys : List run.Event) → AreOwn p xs → AreOwn p ys → AreOwn p (xs ++ ys)
own_both p [] ys h k = k
own_both p (x ∷ xs) ys h k = (h.0, own_both p xs ys h.1 k)

pub own_front : (p : Marked) (xs ys : List run.Event) → AreOwn p (xs ++ ys) → AreOwn p xs
own_front p [] ys h = tt
own_front p (x ∷ xs) ys h = (h.0, own_front p xs ys h.1)

pub own_at : (p : Marked) (xs : List run.Event) (e : run.Event) (ys : List run.Event) → AreOwn p (xs ++ e ∷ ys) → IsOwn p e
own_at p [] e ys h = h.0
own_at p (x ∷ xs) e ys h = own_at p xs e ys h.1

pub taken_both : (xs ys : List run.Event) → taken (xs ++ ys) ≡ taken xs + taken ys
taken_both [] ys = omega arith
taken_both (run.Wrote c ∷ xs) ys = taken_both xs ys
taken_both (run.Byte b ∷ xs) ys = taken_both xs ys
taken_both (run.Took ∷ xs) ys = let e = taken_both xs ys in omega (arith, e)
taken_both (run.Excluded k ∷ xs) ys = taken_both xs ys
taken_both (run.Checkpoint m t ∷ xs) ys = taken_both xs ys

-- the checkpoints and the directives among the instructions are the program's
pub record HasOwn (p : Marked) (c : CodeView) : Type 0 where
  pub nodes : (q m : ℕ) → slice_get c.instrs q ≡ Some (Ckpt m) → p.node m
  pub directives : (q k : ℕ) → slice_get c.instrs q ≡ Some (Excl k) → k ≤ p.directives

-- events that are the program's, and take no input
abbrev AreQuiet : Marked → List run.Event → Type 0
AreQuiet p es = AreOwn p es × (taken es ≡ 0)

module _ (p : Marked) where
  answered_quiet : (s : State) (m : List ℕ) (k : ℕ) (a : Result ℕ Trap) → AreQuiet p (answered s m k a).shown
  answered_quiet s m k (Ok v) = (tt, refl)
  answered_quiet s m k (Err t) = (tt, refl)

  fetched_quiet : (s : State) (m : List ℕ) (a : Result ℕ Trap) → AreQuiet p (fetched s m a).shown
  fetched_quiet s m (Ok v) = (tt, refl)
  fetched_quiet s m (Err t) = (tt, refl)

  put_quiet : (s : State) (m : List ℕ) (a : Result ℕ Trap) → AreQuiet p (put unprotected s m a).shown
  put_quiet s m (Ok cell) = ((tt, tt), refl)
  put_quiet s m (Err t) = (tt, refl)

  called_quiet : (s : State) (m : List ℕ) (o : Option Function) → AreQuiet p (called s m o).shown
  called_quiet s m None = (tt, refl)
  called_quiet s m (Some f) = by_test (nat_lt (length s.callers) 1000)
    where
      by_test : (b : Bool) → AreQuiet p (cond b (ran (entered s f) m) (trapped s m TooManyCalls)).shown
      by_test true = (tt, refl)
      by_test false = (tt, refl)

  returned_quiet : (s : State) (m : List ℕ) (ks : List Caller) → AreQuiet p (returned s m ks).shown
  returned_quiet s m [] = (tt, refl)
  returned_quiet s m (k ∷ ks) = (tt, refl)

  bytes_quiet : (bs : List ℕ) → AreQuiet p (map run.Byte bs)
  bytes_quiet [] = (tt, refl)
  bytes_quiet (b ∷ bs) = let h = bytes_quiet bs in ((tt, h.0), h.1)

  module _ (c : CodeView) (has : HasOwn p c) where
    row_quiet : (s : State) (m : List ℕ) (i : Instr) (q : ℕ) → slice_get c.instrs q ≡ Some i → AreQuiet p (row c unprotected s m i).shown
    row_quiet s m (StoreC cell) q at = ((tt, tt), refl)
    row_quiet s m Put q at = put_quiet s m _
    row_quiet s m Move q at = answered_quiet s m 2 _
    row_quiet s m Back q at = answered_quiet s m 2 _
    row_quiet s m Div q at = answered_quiet s m 2 _
    row_quiet s m Rem q at = answered_quiet s m 2 _
    row_quiet s m Shl q at = answered_quiet s m 2 _
    row_quiet s m Shr q at = answered_quiet s m 2 _
    row_quiet s m Fetch q at = fetched_quiet s m _
    row_quiet s m (Call f) q at = called_quiet s m _
    row_quiet s m Ret q at = returned_quiet s m s.callers
    row_quiet s m OutC q at = ((tt, tt), refl)
    row_quiet s m (OutB b) q at = ((tt, tt), refl)
    row_quiet s m (OutN d) q at = bytes_quiet (signed_decimal (signed (top s d)))
    row_quiet s m (Ckpt n) q at = ((has.nodes q n at, tt), refl)
    row_quiet s m (Excl k) q at = ((has.directives q k at, tt), refl)
    row_quiet s m i q at = (tt, refl)

    next_quiet : (s : State) (m : List ℕ) (o : Option Instr) (q : ℕ) → slice_get c.instrs q ≡ o → AreQuiet p (row_at c unprotected s m o).shown
    next_quiet s m None q at = (tt, refl)
    next_quiet s m (Some i) q at = row_quiet s m i q at

    -- what a run has shown so far is the program's, and what it has taken and what is left are the input
    record KeepsOwn (n : ℕ) (w : World) : Type 0 where
      own : AreOwn p w.events
      input : taken w.events + length w.input ≡ n

    keeps_fed : (n : ℕ) (w : World) (bs : List ℕ) → w.input ≡ bs → KeepsOwn n w → KeepsOwn n (fed w bs)
    keeps_fed n w [] is k = record { own = k.own; input = k.input }
    keeps_fed n w (b ∷ bs) is k =
        let left : length w.input ≡ length (b ∷ bs) = ap length is in
        let all = k.input in
        let more = taken_both w.events (run.Took ∷ []) in
        record { own = own_both p w.events (run.Took ∷ []) k.own (tt, tt); input = omega (arith, left, all, more) }

    keeps_one : (n : ℕ) (w : World) → KeepsOwn n w → KeepsOwn n (after_one c w)
    keeps_one n w k =
        let o = slice_get c.instrs w.state.place in
        let d = row_at c unprotected w.state w.memory o in
        let quiet = next_quiet w.state w.memory o w.state.place refl in
        let all = k.input in
        let more = taken_both w.events d.shown in
        let none = quiet.1 in
        ⊎_elim
        (λ e. subst (KeepsOwn n) (sym e) (record { own = own_both p w.events d.shown k.own quiet.0; input = omega (arith, all, more, none) }))
        (λ e. subst (λ i. KeepsOwn n (after_instr c w i)) (sym e) (keeps_fed n w w.input refl k))
        (after_by c w o)

    keeps_after : (n i : ℕ) (w : World) → KeepsOwn n w → KeepsOwn n (after c i w)
    keeps_after n zero w k = k
    keeps_after n (suc i) w k = keeps_after n i (after_one c w) (keeps_one n w k)

    -- from a world that has shown nothing yet
    pub own_run : (w v : World) → w.events ≡ [] → Reaches c w v → AreOwn p v.events × (taken v.events ≤ length w.input)
    own_run w v none reaches =
        let k = subst (KeepsOwn (length w.input)) reaches.by.1 (keeps_after (length w.input) reaches.by.0 w (record {
          own = subst (AreOwn p) (sym none) tt;
          input = ap (λ es. taken es + length w.input) none ∙ omega arith;
        })) in
        let all = k.input in
        (k.own, omega (arith, all))
