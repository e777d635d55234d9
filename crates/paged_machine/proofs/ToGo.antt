-- How much is left of a run of instructions to a bound.
use Rattle.std.proofs.Common.{◌≡◌, ℕ, ◌+◌, ◌-◌, ◌*◌, ◌<◌, ◌≤◌, Bool, Option, Some, None, refl, sym, ap, ◌∙◌, ⊎_elim, ◌⊎◌, arith, false, List, []}
use Rattle.std.specs.Prelude.{slice_get, IfSome}
use Rattle.machine_code.specs.declared.instr.Instr.{Instr}
use Rattle.machine_code.specs.declared.instr.Instr.TheVariants.{Tick, In}
use Rattle.machine_code.specs.declared.event.Event.{Event}
use Rattle.machine_code.specs.declared.event.Event.TheVariants.{Ran, Ticked, WriteFault, Out, OutNumber, WantsInput, Checkpoint, Exclude, Ended, Trapped}
use Rattle.machine_code.specs.CodeView.{CodeView}
use Rattle.machine_code.specs.State.{State}
use Rattle.machine_code.specs.Run.{next_row}
use Rattle.paged_machine.specs.Rank.{rank, rank_limit, Falls, Nearer}
use Rattle.paged_machine.specs.Rest.{left_by, left, rest, Shrinks}
use Rattle.paged_machine.specs.RunOn.{ticks_of, done_by, done_of}
use Rattle.paged_machine.specs.MachineView.{MachineView}
use Rattle.paged_machine.specs.Stepped.{Stepped, Still}
use Rattle.dirty_pages.specs.Pages.{PageStates, is_protected}
use Rattle.paged_machine.proofs.Tells.{ticked_at, tick_ticks}

-- what is left of a run whose last instruction answered this; None where it stopped before a tick
abbrev pub to_go : CodeView → ℕ → State → Option Event → ℕ
to_go c until s (Some Ran) = rest c until s
to_go c until s (Some Ticked) = rest c until s
to_go c until s last = 0

pub all_to_go : (c : CodeView) (until : ℕ) (s : State) (last : Option Event) → ((last ≡ Some Ran) ⊎ (last ≡ Some Ticked)) → to_go c until s last ≡ rest c until s
all_to_go c until s last on = ⊎_elim (λ e. ap (to_go c until s) e) (λ e. ap (to_go c until s) e) on

left_most : (r : ℕ) (o : Option Instr) → left_by r o ≤ 1 + r
left_most r None = omega arith
left_most r (Some Tick) = omega arith
left_most r (Some i) = omega arith

left_above : (r : ℕ) (o : Option Instr) → (o ≡ Some Tick → ⊥) → left_by r o ≡ 1 + r
left_above r None other = refl
left_above r (Some Tick) other = absurd (other refl)
left_above r (Some i) other = refl

left_at_tick : (r : ℕ) (o : Option Instr) → o ≡ Some Tick → left_by r o ≡ 0
left_at_tick r o e = ap (left_by r) e

a_tick_less : (a k l r : ℕ) → l < k → 1 + a * k + l < 1 + (a + 1) * k + r
a_tick_less a k l r lt = grind arith

module _ (c : CodeView) (until : ℕ) (protected : ℕ → Bool) (s : State) (m : List ℕ) (t : State) where
  -- an instruction that took no tick comes nearer to one
  nearer : (slice_get c.instrs s.place ≡ Some Tick → ⊥) → t.ticks ≡ s.ticks → Nearer c s t → rest c until t < rest c until s
  nearer other same near =
      let above : left c s ≡ 1 + rank c s = left_above (rank c s) (slice_get c.instrs s.place) other in
      let product : (until - t.ticks) * (rank_limit c + 2) ≡ (until - s.ticks) * (rank_limit c + 2) = ap (λ n. (until - n) * (rank_limit c + 2)) same in
      ⊎_elim
      (λ e. let none : left c t ≡ 0 = left_at_tick (rank c t) (slice_get c.instrs t.place) e in omega (arith, none, above, product))
      (λ lt. let most : left c t ≤ 1 + rank c t = left_most (rank c t) (slice_get c.instrs t.place) in omega (arith, most, above, lt, product))
      near

  -- an instruction that answered something else than a tick was none
  no_tick : (e : Event) → e ≡ (next_row c protected s m).event → (e ≡ Ticked → ⊥) → slice_get c.instrs s.place ≡ Some Tick → ⊥
  no_tick e is other at = other (is ∙ tick_ticks c protected s m _ at)

  -- a tick leaves less
  ticks_less : slice_get c.instrs s.place ≡ Some Tick → s.ticks < until → t.ticks ≡ s.ticks + 1 → rank c t ≤ rank_limit c → rest c until t < rest c until s
  ticks_less at lt ticks most =
      let same : until - s.ticks ≡ (until - t.ticks) + 1 = omega (arith, ticks, lt) in
      let product : (until - s.ticks) * (rank_limit c + 2) ≡ ((until - t.ticks) + 1) * (rank_limit c + 2) = ap (λ n. n * (rank_limit c + 2)) same in
      let l : left c t ≤ 1 + rank c t = left_most (rank c t) (slice_get c.instrs t.place) in
      let less = a_tick_less (until - t.ticks) (rank_limit c + 2) (left c t) (left c s) (omega (arith, l, most)) in
      omega (arith, less, product)

  -- what each answer of an instruction leaves of the run
  abbrev pub Leaves : Event → Type 0
  Leaves (WriteFault p) = t ≡ s
  Leaves WantsInput = t ≡ s
  Leaves (Ended v) = t ≡ s
  Leaves (Trapped k) = t ≡ s
  Leaves e = rest c until t < rest c until s

  pub leaves : (n : List ℕ) (e : Event) → e ≡ (next_row c protected s m).event → (slice_get c.instrs s.place ≡ Some Tick → s.ticks < until) → Falls c s e t → Still e s m t n → t.ticks ≡ s.ticks + ticks_of e → rank c t ≤ rank_limit c → Leaves e
  leaves n Ran is below fall still ticks most = nearer (no_tick Ran is (λ f. let g : Ran ≡ Ticked = f in cc)) (omega (arith, ticks)) fall
  leaves n Ticked is below fall still ticks most = let at = ticked_at c protected s m _ (sym is) in ticks_less at (below at) ticks most
  leaves n (WriteFault p) is below fall still ticks most = fall
  leaves n (Out b) is below fall still ticks most = nearer (no_tick (Out b) is (λ f. let g : Out b ≡ Ticked = f in cc)) (omega (arith, ticks)) fall
  leaves n (OutNumber v) is below fall still ticks most = nearer (no_tick (OutNumber v) is (λ f. let g : OutNumber v ≡ Ticked = f in cc)) (omega (arith, ticks)) fall
  leaves n WantsInput is below fall still ticks most = fall
  leaves n (Checkpoint k) is below fall still ticks most = nearer (no_tick (Checkpoint k) is (λ f. let g : Checkpoint k ≡ Ticked = f in cc)) (omega (arith, ticks)) fall
  leaves n (Exclude k) is below fall still ticks most = nearer (no_tick (Exclude k) is (λ f. let g : Exclude k ≡ Ticked = f in cc)) (omega (arith, ticks)) fall
  leaves n (Ended v) is below fall still ticks most = still.0
  leaves n (Trapped k) is below fall still ticks most = still.0

  as_much : t ≡ s → rest c until t + 0 ≤ rest c until s
  as_much e = let q : rest c until t ≡ rest c until s = ap (rest c until) e in omega (arith, q)

  -- each instruction that is done leaves less
  pub pays : (e : Event) → Leaves e → rest c until t + done_by e ≤ rest c until s
  pays Ran h = omega (arith, h)
  pays Ticked h = omega (arith, h)
  pays (WriteFault p) h = as_much h
  pays (Out b) h = omega (arith, h)
  pays (OutNumber v) h = omega (arith, h)
  pays WantsInput h = as_much h
  pays (Checkpoint k) h = omega (arith, h)
  pays (Exclude k) h = omega (arith, h)
  pays (Ended v) h = as_much h
  pays (Trapped k) h = as_much h

  pub less_to_go : (e : Event) → Leaves e → to_go c until t (Some e) < rest c until s
  less_to_go Ran h = h
  less_to_go Ticked h = h
  less_to_go (WriteFault p) h = omega arith
  less_to_go (Out b) h = omega arith
  less_to_go (OutNumber v) h = omega arith
  less_to_go WantsInput h = omega arith
  less_to_go (Checkpoint k) h = omega arith
  less_to_go (Exclude k) h = omega arith
  less_to_go (Ended v) h = omega arith
  less_to_go (Trapped k) h = omega arith

-- a run that paid for what it did leaves less of the run behind each answer that its caller need not have done again
pub shrinks : (c : CodeView) (until count : ℕ) (s t : State) (answer : Option Event) → rest c until t + count ≤ rest c until s → done_of answer ≤ count → Shrinks c until s answer t
shrinks c until count s t None paid done = omega (arith, paid)
shrinks c until count s t (Some Ran) paid done = omega (arith, paid)
shrinks c until count s t (Some Ticked) paid done = omega (arith, paid)
shrinks c until count s t (Some (WriteFault p)) paid done = omega (arith, paid)
shrinks c until count s t (Some (Out b)) paid done = omega (arith, paid, done)
shrinks c until count s t (Some (OutNumber v)) paid done = omega (arith, paid, done)
shrinks c until count s t (Some WantsInput) paid done = omega (arith, paid)
shrinks c until count s t (Some (Checkpoint k)) paid done = omega (arith, paid, done)
shrinks c until count s t (Some (Exclude k)) paid done = omega (arith, paid, done)
shrinks c until count s t (Some (Ended v)) paid done = tt
shrinks c until count s t (Some (Trapped k)) paid done = tt

-- an input that is given takes no tick
pub given_shrinks : (c : CodeView) (until : ℕ) (s t : State) → slice_get c.instrs s.place ≡ Some In → t.ticks ≡ s.ticks → Nearer c s t → rest c until t < rest c until s
given_shrinks c until s t at same near = nearer c until (λ p. false) s [] t (λ e. let f : Some In ≡ Some Tick = sym at ∙ e in cc) same near

-- after each turn less of the run is left
pub less_after : (c : CodeView) (until : ℕ) (pages : PageStates) (v w : MachineView) (m n : List ℕ) (last : Option Event) → IfSome last (λ e. Stepped c pages v m e w n) → IfSome last (λ e. slice_get c.instrs v.state.place ≡ Some Tick → v.state.ticks < until) → to_go c until w.state last < rest c until v.state
less_after c until pages v w m n None did below = omega arith
less_after c until pages v w m n (Some e) did below =
    less_to_go c until (is_protected pages) v.state m w.state e (leaves c until (is_protected pages) v.state m w.state n e did.event below did.falls did.still did.ticked did.limited)
