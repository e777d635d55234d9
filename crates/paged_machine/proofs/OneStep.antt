-- What one step leaves, as its caller sees it.
use Rattle.std.proofs.Common.{◌≡◌, ℕ, ◌/◌, List, [], ◌++◌, Option, Some, None, Bool, true, false, sym, ap, ◌∙◌, subst, ◌⊎◌, inl, ⊎_elim, refl}
use Rattle.std.specs.Prelude.{slice_get}
use Rattle.ckpt_base.specs.Event as run
use Rattle.machine_code.specs.declared.instr.Instr.{Instr}
use Rattle.machine_code.specs.declared.event.Event.{Event}
use Rattle.machine_code.specs.declared.event.Event.TheVariants.{Ran, Ticked, WriteFault, Out, OutNumber, WantsInput, Checkpoint, Exclude, Ended, Trapped}
use Rattle.machine_code.specs.CodeView.{CodeView}
use Rattle.machine_code.specs.State.{State}
use Rattle.machine_code.specs.Row.{Done, row}
use Rattle.machine_code.specs.Still.{IsFault}
use Rattle.machine_code.specs.Run.{World, world, unprotected, row_at, next_row, after_row, after_instr, after, Reaches}
use Rattle.machine_code.proofs.RunLaws.{reaches_row, row_plain, after_by, still_world}
use Rattle.paged_machine.specs.RunOn.{done_by}
use Rattle.paged_machine.specs.Stepped.{Still}
use Rattle.paged_machine.proofs.Shows.{ShownBy, row_shows}
use Rattle.paged_machine.proofs.Tells.{Tells, row_tells}

-- the row of the instruction at the place is the next row
pub is_next_row : (c : CodeView) (protected : ℕ → Bool) (s : State) (m : List ℕ) (i : Instr) → slice_get c.instrs s.place ≡ Some i → row c protected s m i ≡ next_row c protected s m
is_next_row c protected s m i at = ap (row_at c protected s m) (sym at)

-- a run that came to a world goes on with the next row
pub reaches_next : (c : CodeView) (protected : ℕ → Bool) (s : State) (m : List ℕ) (i : Instr) (t : State) (n : List ℕ) → slice_get c.instrs s.place ≡ Some i → t ≡ (next_row c protected s m).state → n ≡ (next_row c protected s m).memory → (w : World) (input : List ℕ) (events : List run.Event) → Reaches c w (world s m input events) → Reaches c w (world t n input (events ++ (next_row c protected s m).shown))
reaches_next c protected s m i t n at es em w input events r =
    let d = next_row c protected s m in
    let there : Reaches c w (world (row c protected s m i).state (row c protected s m i).memory input (events ++ (row c protected s m i).shown)) = reaches_row c protected w (world s m input events) i at r in
    let next : Reaches c w (world d.state d.memory input (events ++ d.shown)) = subst (λ (d : Done). Reaches c w (world d.state d.memory input (events ++ d.shown))) (is_next_row c protected s m i at) there in
    subst (λ x. Reaches c w (world x n input (events ++ d.shown))) (sym es) (subst (λ y. Reaches c w (world d.state y input (events ++ d.shown))) (sym em) next)

-- so many instructions lead from one standing to another and show this
abbrev pub Leads : CodeView → ℕ → State → List ℕ → State → List ℕ → List run.Event → Type 0
Leads c k s m t n shown = (input : List ℕ) (events : List run.Event) → after c k (world s m input events) ≡ world t n input (events ++ shown)

-- ---- a row leads on, over a plain memory

module _ (c : CodeView) (protected : ℕ → Bool) (s : State) (m : List ℕ) (i : Instr) (at : slice_get c.instrs s.place ≡ Some i) where
  -- one that answers neither a fault nor a wanted input is done
  done_leads : (e : Event) → (row c protected s m i).event ≡ e → (e ≡ WantsInput → ⊥) → ((p : ℕ) → e ≡ WriteFault p → ⊥) → Leads c 1 s m (row c protected s m i).state (row c protected s m i).memory (row c protected s m i).shown
  done_leads e is asks faults = λ input events.
      let w = world s m input events in
      ⊎_elim
      (λ plain. ⊎_elim
      (λ q. ap (after_instr c w) at ∙ q ∙ ap (after_row w) (sym plain))
      (λ q. absurd (asks (sym is ∙ ap (λ o. (row_at c protected s m o).event) q)))
      (after_by c w (Some i)))
      (λ f. absurd (faults (f.cell / 512) (sym is ∙ f.event)))
      (row_plain c protected s m i)

  still_leads : (row c protected s m i).state ≡ s → (row c protected s m i).memory ≡ m → (row c protected s m i).shown ≡ [] → Leads c 0 s m (row c protected s m i).state (row c protected s m i).memory (row c protected s m i).shown
  still_leads state memory shown = λ input events. sym (still_world (world s m input events) (row c protected s m i) (record { state = state; memory = memory; shown = shown }))

  leads_by : (e : Event) → (row c protected s m i).event ≡ e → Still e s m (row c protected s m i).state (row c protected s m i).memory → ShownBy protected (row c protected s m i).state.ticks e (row c protected s m i).shown → Leads c (done_by e) s m (row c protected s m i).state (row c protected s m i).memory (row c protected s m i).shown
  leads_by Ran is still shown = done_leads Ran is (λ h. cc) (λ p h. cc)
  leads_by Ticked is still shown = done_leads Ticked is (λ h. cc) (λ p h. cc)
  leads_by (WriteFault p) is still shown = still_leads still.0 still.1 shown
  leads_by (Out b) is still shown = done_leads (Out b) is (λ h. cc) (λ p h. cc)
  leads_by (OutNumber v) is still shown = done_leads (OutNumber v) is (λ h. cc) (λ p h. cc)
  leads_by WantsInput is still shown = still_leads still.0 still.1 shown
  leads_by (Checkpoint k) is still shown = done_leads (Checkpoint k) is (λ h. cc) (λ p h. cc)
  leads_by (Exclude k) is still shown = done_leads (Exclude k) is (λ h. cc) (λ p h. cc)
  leads_by (Ended v) is still shown = still_leads still.0 still.1 shown
  leads_by (Trapped k) is still shown = still_leads still.0 still.1 shown

  pub row_leads : Leads c (done_by (row c protected s m i).event) s m (row c protected s m i).state (row c protected s m i).memory (row c protected s m i).shown
  row_leads = let shows = row_shows c protected s m i in leads_by (row c protected s m i).event refl shows.still shows.shown

-- ---- a row over protected pages and over none

-- the next row over protected pages is that over none, or it is a fault
pub next_plain : (c : CodeView) (protected : ℕ → Bool) (s : State) (m : List ℕ) (o : Option Instr) → (row_at c protected s m o ≡ row_at c unprotected s m o) ⊎ IsFault protected s m (row_at c protected s m o) (row_at c unprotected s m o)
next_plain c protected s m None = inl refl
next_plain c protected s m (Some i) = row_plain c protected s m i

-- over none there is no fault
pub no_fault : (c : CodeView) (s : State) (m : List ℕ) (o : Option Instr) (p : ℕ) → (row_at c unprotected s m o).event ≡ WriteFault p → ⊥
no_fault c s m None p e = let f : Ran ≡ WriteFault p = e in absurd (cc)
no_fault c s m (Some i) p e = let on : false ≡ true = subst (Tells unprotected i) e (row_tells c unprotected s m i) in absurd (cc)
