-- Where runs stop, and what they do first.
use Rattle.std.proofs.Common.{◌≡◌, ℕ, ℤ, zero, suc, ◌+◌, ◌<◌, ◌≤◌, ◌/◌, List, [], ◌∷◌, ◌++◌, map, true, false, Option, Some, None, refl, sym, ap, ◌∙◌, subst, ⊎_elim, arith}
use Rattle.std.specs.Prelude.{slice_get}
use Rattle.std.specs.Fmt.{signed_decimal}
use Rattle.ckpt_base.specs.declared.ending.Ending.TheVariants as ending
use Rattle.ckpt_base.specs.Run.{Run}
use Rattle.ckpt_base.specs.Event as run
use Rattle.dirty_pages.specs.Pages.{PageStates, is_protected}
use Rattle.machine_code.specs.declared.instr.Instr.{Instr}
use Rattle.machine_code.specs.declared.instr.Instr.TheVariants.{Tick, In}
use Rattle.machine_code.specs.declared.event.Event.{Event}
use Rattle.machine_code.specs.declared.event.Event.TheVariants.{Ran, Ticked, WriteFault, Out, OutNumber, WantsInput, Checkpoint, Exclude, Ended, Trapped}
use Rattle.machine_code.specs.CodeView.{CodeView}
use Rattle.machine_code.specs.State.{State}
use Rattle.machine_code.specs.Row.{row}
use Rattle.machine_code.specs.Run.{World, world, unprotected, row_at, next_row, after_row, after_one, after, Reaches, StopsBy, CodeRun, run_at}
use Rattle.machine_code.proofs.PassLaws.{reaches_shows}
use Rattle.machine_code.proofs.RunLaws.{after_by}
use Rattle.paged_machine.specs.RunOn.{Answers, GoesOn, told_by, done_of}
use Rattle.paged_machine.proofs.Shows.{ShownBy, row_shows}

-- ---- where runs stop

stops : (c : CodeView) (w v : World) (n : ℕ) (e : Event) (r : Run) → Reaches c w v → (next_row c unprotected v.state v.memory).event ≡ e → StopsBy e v (w.state.ticks + n) r → CodeRun c w n r
stops c w v n e r reached is by = (v, reached, subst (λ x. StopsBy x v (w.state.ticks + n) r) (sym is) by)

pub ends : (c : CodeView) (pages : PageStates) (w v : World) (n : ℕ) (x : ℤ) → Reaches c w v → v.state.ticks ≤ w.state.ticks + n → Answers c pages v.state v.memory (Some (Ended x)) → CodeRun c w n (run_at v (ending.Ended x))
ends c pages w v n x reached le is = stops c w v n (Ended x) (run_at v (ending.Ended x)) reached is (le, refl)

pub traps : (c : CodeView) (pages : PageStates) (w v : World) (n t : ℕ) → Reaches c w v → v.state.ticks ≤ w.state.ticks + n → Answers c pages v.state v.memory (Some (Trapped t)) → CodeRun c w n (run_at v (ending.Trapped t))
traps c pages w v n t reached le is = stops c w v n (Trapped t) (run_at v (ending.Trapped t)) reached is (le, refl)

pub goes : (c : CodeView) (w v : World) (n : ℕ) → Reaches c w v → v.state.ticks ≡ w.state.ticks + n → slice_get c.instrs v.state.place ≡ Some Tick → CodeRun c w n (run_at v ending.Going)
goes c w v n reached e at = stops c w v n Ticked (run_at v ending.Going) reached (ap (λ o. (row_at c unprotected v.state v.memory o).event) at) (e, refl)

-- ---- the first store

-- the next instruction is a store into a cell
module _ (c : CodeView) (s : State) (m : List ℕ) (cell : ℕ) (store : (next_row c unprotected s m).shown ≡ run.Wrote cell ∷ []) where
  not_at : (i : Instr) → slice_get c.instrs s.place ≡ Some i → (row c unprotected s m i).shown ≡ [] → ⊥
  not_at i at none = let z : run.Wrote cell ∷ [] ≡ [] = sym store ∙ ap (λ o. (row_at c unprotected s m o).shown) at ∙ none in absurd (cc)

  next_shows : (e : Event) → (next_row c unprotected s m).event ≡ e → ShownBy unprotected (next_row c unprotected s m).state.ticks e (next_row c unprotected s m).shown
  next_shows e is = subst (λ x. ShownBy unprotected (next_row c unprotected s m).state.ticks x (next_row c unprotected s m).shown) is (by_instr (slice_get c.instrs s.place) refl)
    where
      by_instr : (o : Option Instr) → slice_get c.instrs s.place ≡ o → ShownBy unprotected (row_at c unprotected s m o).state.ticks (row_at c unprotected s m o).event (row_at c unprotected s m o).shown
      by_instr None at = let z : run.Wrote cell ∷ [] ≡ [] = sym store ∙ ap (λ o. (row_at c unprotected s m o).shown) at in absurd (cc)
      by_instr (Some i) at = (row_shows c unprotected s m i).shown

  -- it ends no run and traps in none
  not_over : (e : Event) → (next_row c unprotected s m).event ≡ e → told_by (next_row c unprotected s m).state.ticks (Some e) ≡ [] → (ShownBy unprotected (next_row c unprotected s m).state.ticks e (next_row c unprotected s m).shown → (next_row c unprotected s m).shown ≡ told_by (next_row c unprotected s m).state.ticks (Some e)) → ⊥
  not_over e is none open_up = let z : run.Wrote cell ∷ [] ≡ [] = sym store ∙ open_up (next_shows e is) ∙ none in absurd (cc)

  stands_before : (pages : PageStates) → is_protected pages (cell / 512) ≡ false → (answer : Option Event) → Answers c pages s m answer → (answer ≡ None → slice_get c.instrs s.place ≡ Some Tick) → done_of answer ≤ 0 → ⊥
  stands_before pages on None is none few = not_at Tick (none refl) refl
  stands_before pages on (Some Ran) is none few = is
  stands_before pages on (Some Ticked) is none few = is
  stands_before pages on (Some WantsInput) is none few = not_at In is refl
  stands_before pages on (Some (WriteFault p)) is none few =
      let same : is.cell ≡ cell = let z : run.Wrote is.cell ∷ [] ≡ run.Wrote cell ∷ [] = sym is.shown ∙ store in cc in
      let here : cell / 512 ≡ p = ap (λ x. x / 512) (sym same) ∙ is.page in
      let z : true ≡ false = sym is.closed ∙ ap (is_protected pages) (sym here) ∙ on in absurd (cc)
  stands_before pages on (Some (Ended v)) is none few = not_over (Ended v) is refl (λ h. h)
  stands_before pages on (Some (Trapped k)) is none few = not_over (Trapped k) is refl (λ h. h)
  stands_before pages on (Some (Out b)) is none few = omega (arith, few)
  stands_before pages on (Some (OutNumber v)) is none few = omega (arith, few)
  stands_before pages on (Some (Checkpoint k)) is none few = omega (arith, few)
  stands_before pages on (Some (Exclude k)) is none few = omega (arith, few)

  -- the world after it
  one_after : after_one c (world s m [] []) ≡ after_row (world s m [] []) (next_row c unprotected s m)
  one_after = ⊎_elim (λ e. e) (λ e. absurd (not_at In e refl)) (after_by c (world s m [] []) (slice_get c.instrs s.place))

-- a run that did nothing stands where it stood
none_done : (c : CodeView) (pages : PageStates) (s t : State) (m n : List ℕ) (answer : Option Event) (g : GoesOn c (is_protected pages) s m answer t n) → g.count ≡ 0 → (s ≡ t) × (m ≡ n)
none_done c pages s t m n answer g e =
    let same : world s m [] [] ≡ world t n [] ([] ++ (g.stores ++ told_by t.ticks answer)) = ap (λ k. after c k (world s m [] [])) (sym e) ∙ g.comes [] [] in
    (ap (λ (w : World). w.state) same, ap (λ (w : World). w.memory) same)

pub is_done : (c : CodeView) (pages : PageStates) (s t : State) (m n : List ℕ) (answer : Option Event) (cell : ℕ) → (next_row c unprotected s m).shown ≡ run.Wrote cell ∷ [] → is_protected pages (cell / 512) ≡ false
    → (g : GoesOn c (is_protected pages) s m answer t n) → Answers c pages t n answer → (answer ≡ None → slice_get c.instrs t.place ≡ Some Tick) → 0 < g.count
is_done c pages s t m n answer cell store on g is none = by_count g.count refl
  where
    by_count : (k : ℕ) → g.count ≡ k → 0 < g.count
    by_count zero e =
        let same = none_done c pages s t m n answer g e in
        absurd (stands_before c s m cell store pages on answer
        (subst (λ (x : State). Answers c pages x m answer) (sym same.0) (subst (λ y. Answers c pages t y answer) (sym same.1) is))
        (λ q. ap (λ (x : State). slice_get c.instrs x.place) same.0 ∙ none q)
        (subst (λ k. done_of answer ≤ k) e g.done))
    by_count (suc k) e = omega (arith, e)

-- no answer shows a store
no_store_told : (cell ticks : ℕ) (answer : Option Event) (more : List run.Event) → told_by ticks answer ≡ run.Wrote cell ∷ more → ⊥
no_store_told cell ticks None more e = cc
no_store_told cell ticks (Some (Out b)) more e = cc
no_store_told cell ticks (Some (OutNumber v)) more e = no_store_in (signed_decimal v) e
  where
    no_store_in : (bs : List ℕ) → map run.Byte bs ≡ run.Wrote cell ∷ more → ⊥
    no_store_in [] q = cc
    no_store_in (b ∷ bs) q = cc
no_store_told cell ticks (Some (Checkpoint n)) more e = cc
no_store_told cell ticks (Some (Exclude k)) more e = cc
no_store_told cell ticks (Some Ran) more e = cc
no_store_told cell ticks (Some Ticked) more e = cc
no_store_told cell ticks (Some (WriteFault p)) more e = cc
no_store_told cell ticks (Some WantsInput) more e = cc
no_store_told cell ticks (Some (Ended v)) more e = cc
no_store_told cell ticks (Some (Trapped k)) more e = cc

pub comes_first : (c : CodeView) (pages : PageStates) (s t : State) (m n : List ℕ) (answer : Option Event) (cell : ℕ) → (next_row c unprotected s m).shown ≡ run.Wrote cell ∷ []
    → (g : GoesOn c (is_protected pages) s m answer t n) → 0 < g.count → (more : List run.Event) × (g.stores ≡ run.Wrote cell ∷ more)
comes_first c pages s t m n answer cell store g some = by_count g.count refl
  where
    by_stores : (told more xs : List run.Event) → ((ys : List run.Event) → told ≡ run.Wrote cell ∷ ys → ⊥) → xs ++ told ≡ run.Wrote cell ∷ more → (ys : List run.Event) × (xs ≡ run.Wrote cell ∷ ys)
    by_stores told more [] not e = absurd (not more e)
    by_stores told more (x ∷ xs) not e = (xs, let same : x ≡ run.Wrote cell = cc in ap (λ y. y ∷ xs) same)

    by_count : (k : ℕ) → g.count ≡ k → (more : List run.Event) × (g.stores ≡ run.Wrote cell ∷ more)
    by_count zero e = absurd (omega (arith, e, some))
    by_count (suc k) e =
        let w = world s m [] [] in
        let one = one_after c s m cell store in
        let shows = reaches_shows c (after_one c w) (after c k (after_one c w)) (record { by = (k, refl) }) in
        let there : after c k (after_one c w) ≡ world t n [] (g.stores ++ told_by t.ticks answer) = ap (λ j. after c j w) (sym e) ∙ g.comes [] [] in
        let first : (after_one c w).events ≡ run.Wrote cell ∷ [] = ap (λ (x : World). x.events) one ∙ store in
        let all : g.stores ++ told_by t.ticks answer ≡ run.Wrote cell ∷ shows.more = sym (ap (λ (x : World). x.events) there) ∙ shows.events ∙ ap (λ x. x ++ shows.more) first in
        by_stores (told_by t.ticks answer) shows.more g.stores (λ ys q. no_store_told cell t.ticks answer ys q) all
