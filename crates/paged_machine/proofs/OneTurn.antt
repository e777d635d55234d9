-- What one instruction did, from its row.
use Rattle.std.proofs.Common.{◌≡◌, ℕ, List, length, ◌+◌, ◌<◌, true, Option, Some, None, sym, ap, ◌∙◌, subst}
use Rattle.std.specs.Prelude.{slice_index, slice_get, IfSome}
use Rattle.dirty_pages.specs.Pages.{PageStates, is_protected}
use Rattle.machine_code.specs.declared.instr.Instr.{Instr}
use Rattle.machine_code.specs.declared.instr.Instr.TheVariants.{In}
use Rattle.machine_code.specs.declared.event.Event.{Event}
use Rattle.machine_code.specs.declared.event.Event.TheVariants.{WriteFault, WantsInput}
use Rattle.machine_code.specs.CodeView.{CodeView}
use Rattle.machine_code.specs.State.{State}
use Rattle.machine_code.specs.Row.{Done, row}
use Rattle.paged_machine.specs.MachineView.{MachineView, live_after}
use Rattle.paged_machine.specs.Standing.{StandsBy}
use Rattle.paged_machine.specs.Rank.{Falls}
use Rattle.paged_machine.specs.RunOn.{done_by, ticks_of}
use Rattle.paged_machine.specs.Stepped.{Stepped, DoneBy, Still}
use Rattle.paged_machine.proofs.Memory.{row_spares}
use Rattle.paged_machine.proofs.Rank.{falls, limited}
use Rattle.paged_machine.proofs.Stays.{stays, stands_there}
use Rattle.paged_machine.proofs.Tells.{Tells, row_tells, is_there}
use Rattle.paged_machine.proofs.OneStep.{Leads, is_next_row, reaches_next, row_leads}
use Rattle.paged_machine.proofs.Shows.{ShownBy, row_shows}
use Rattle.paged_machine.proofs.RunOnLaws.{goes_on, goes_on_counted, answers}

-- a fact of an answer, if there is one
pub with_answer : {E G : Event → Type 0} (o : Option Event) → IfSome o E → ((e : Event) → E e → G e) → IfSome o G
with_answer None a f = tt
with_answer (Some e) a f = f e a

pub did_row : (c : CodeView) (pages : PageStates) (ds : List ℕ) (v w : MachineView) (m n : List ℕ) (i : Instr) (e : Event) → StandsBy c ds v → v.live ≡ true → slice_get c.instrs v.state.place ≡ Some i → DoneBy (row c (is_protected pages) v.state m i) v w n e → Stepped c pages v m e w n
did_row c pages ds v w m n i e fit alive at did =
    let machine = did.0 in
    let memory = did.1 in
    let event = did.2 in
    let protected : ℕ → _ = is_protected pages in
    let d = row c protected v.state m i in
    let is = is_next_row c protected v.state m i at in
    let shows = row_shows c protected v.state m i in
    let spares = row_spares c protected v.state m i in
    let stands : StandsBy c ds w = subst (StandsBy c ds) (sym machine) (stays c ds v protected m i fit at) in
    let state = ap (λ (x : MachineView). x.state) machine in
    let next_state = state ∙ ap (λ (x : Done). x.state) is in
    let next_memory = memory ∙ ap (λ (x : Done). x.memory) is in
    let fall = subst (λ x. Falls c v.state x w.state) (sym event) (subst (Falls c v.state d.event) (sym state) (falls c v.state ds protected m i fit.here.within (stands_there c ds v.state.place i fit.depths at))) in
    let tells : Tells protected i e = subst (Tells protected i) (sym event) (row_tells c protected v.state m i) in
    let next_event = event ∙ ap (λ (x : Done). x.event) is in
    let asked : e ≡ WantsInput → slice_get c.instrs w.state.place ≡ Some In =
    λ q.
    let still : w.state ≡ v.state = subst (λ k. Falls c v.state k w.state) q fall in
    let is_in : i ≡ In = subst (Tells protected i) q tells in
    ap (λ (t : State). slice_get c.instrs t.place) still ∙ at ∙ ap Some is_in in
    let fault : (p : ℕ) → e ≡ WriteFault p → (p < length pages.dirty) × (is_protected pages p ≡ true) =
    λ p q. let on : protected p ≡ true = subst (Tells protected i) q tells in (is_there pages p on, on) in
    let still : Still e v.state m w.state n = subst (λ x. Still x v.state m w.state n) (sym event) (subst (λ (t : State). Still d.event v.state m t n) (sym state) (subst (λ y. Still d.event v.state m d.state y) (sym memory) shows.still)) in
    let shown : ShownBy protected w.state.ticks e d.shown = subst (λ x. ShownBy protected w.state.ticks x d.shown) (sym event) (subst (λ (t : State). ShownBy protected t.ticks d.event d.shown) (sym state) shows.shown) in
    let leads : Leads c (done_by e) v.state m w.state n d.shown = subst (λ x. Leads c (done_by x) v.state m w.state n d.shown) (sym event)
    (subst (λ (t : State). Leads c (done_by d.event) v.state m t n d.shown) (sym state) (subst (λ y. Leads c (done_by d.event) v.state m d.state y d.shown) (sym memory) (row_leads c protected v.state m i at))) in
    record {
      state = next_state;
      memory = next_memory;
      event = next_event;
      live = ap (λ (x : MachineView). x.live) machine ∙ ap (λ l. live_after l d.event) alive ∙ ap (live_after true) (sym event);
      stands = (ds, stands);
      size = ap length memory ∙ spares.size;
      spared = λ cell p. ap (λ x. slice_index x cell) memory ∙ spares.spared cell p;
      reaches = reaches_next c protected v.state m i w.state n at next_state next_memory;
      asked = asked;
      fault = fault;
      falls = fall;
      limited = limited c w.state stands.calls;
      still = still;
      ticked = ap (λ (t : State). t.ticks) state ∙ shows.ticks ∙ ap (λ x. v.state.ticks + ticks_of x) (sym event);
      shows = goes_on c protected v.state m e w.state n d.shown shown leads;
      counted = goes_on_counted c protected v.state m e w.state n d.shown shown leads;
      answer = answers c pages v.state w.state m n next_state next_memory e next_event still asked fault;
    }
