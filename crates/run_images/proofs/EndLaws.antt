-- The run of a life ends as its source's: the events before it are never looked at.
use Rattle.std.proofs.Common.{◌≡◌, refl, sym, ◌∙◌, ap, subst, ℕ, zero, suc, ◌+◌, ◌≤◌, inl, inr, ◌⊎◌, ⊎_elim, List, [], ◌∷◌, ◌++◌, Option, Some, None, append_assoc, append-nil, arith}
use Rattle.std.specs.Prelude.{slice_get}
use Rattle.ckpt_base.specs.Event as run
use Rattle.ckpt_base.specs.Run.{Run}
use Rattle.machine_code.specs.declared.instr.Instr.{Instr}
use Rattle.machine_code.specs.declared.instr.Instr.TheVariants.{In}
use Rattle.machine_code.specs.declared.event.Event as machine
use Rattle.machine_code.specs.declared.event.Event.TheVariants as answer
use Rattle.machine_code.specs.CodeView.{CodeView}
use Rattle.machine_code.specs.Row.{Done}
use Rattle.machine_code.specs.Run.{World, world, unprotected, row_at, next_row, after_row, fed, after_instr, after_one, after, StopsBy, CodeRun}
use Rattle.run_images.specs.Source.{Source, run_of}
use Rattle.run_images.specs.Origin.{Origin, origin_world, ticks_ahead, events_before, IsOfSource}
use Rattle.run_images.specs.Shown.{EndsAsSource}
use Rattle.run_images.proofs.LifeLaws.{has_shown}

-- the same world behind these events, and the same run
abbrev behind : List run.Event → World → World
behind b w = record w { events = b ++ w.events }

abbrev run_behind : List run.Event → Run → Run
run_behind b r = record r { events = b ++ r.events }

row_behind : (b : List run.Event) (w : World) (d : Done) → after_row (behind b w) d ≡ behind b (after_row w d)
row_behind b w d = ap (λ (l : List run.Event). world d.state d.memory w.input l) (append_assoc b w.events d.shown)

fed_behind : (b : List run.Event) (w : World) (input : List ℕ) → fed (behind b w) input ≡ behind b (fed w input)
fed_behind b w [] = refl
fed_behind b w (x ∷ xs) = ap (λ (l : List run.Event). record (fed w (x ∷ xs)) { events = l }) (append_assoc b w.events (run.Took ∷ []))

-- the world after an instruction is that of its row, unless it asks for input
by_row : (c : CodeView) (w : World) (o : Option Instr) → (after_instr c w o ≡ after_row w (row_at c unprotected w.state w.memory o)) ⊎ (o ≡ Some In)
by_row c w None = inl refl
by_row c w (Some In) = inr refl
by_row c w (Some i) = inl refl

instr_behind : (c : CodeView) (b : List run.Event) (w : World) (o : Option Instr) → after_instr c (behind b w) o ≡ behind b (after_instr c w o)
instr_behind c b w o =
    let asks : o ≡ Some In → after_instr c (behind b w) o ≡ behind b (after_instr c w o) =
    λ e. ap (after_instr c (behind b w)) e ∙ fed_behind b w w.input ∙ sym (ap (λ i. behind b (after_instr c w i)) e) in
    ⊎_elim (λ one. ⊎_elim (λ other. other ∙ row_behind b w (row_at c unprotected w.state w.memory o) ∙ sym (ap (behind b) one)) asks (by_row c (behind b w) o)) asks (by_row c w o)

after_behind : (c : CodeView) (b : List run.Event) (k : ℕ) (w : World) → after c k (behind b w) ≡ behind b (after c k w)
after_behind c b zero w = refl
after_behind c b (suc k) w = ap (after c k) (instr_behind c b w (slice_get c.instrs w.state.place)) ∙ after_behind c b k (after_one c w)

stops_behind : (b : List run.Event) (v : World) (bound : ℕ) (r : Run) (e : machine.Event) → StopsBy e v bound r → StopsBy e (behind b v) bound (run_behind b r)
stops_behind b v bound r (answer.Ended x) h = (h.0, ap (run_behind b) h.1)
stops_behind b v bound r (answer.Trapped t) h = (h.0, ap (run_behind b) h.1)
stops_behind b v bound r answer.Ticked h = (h.0, ap (run_behind b) h.1)
stops_behind b v bound r answer.Ran h = absurd h
stops_behind b v bound r (answer.WriteFault p) h = absurd h
stops_behind b v bound r (answer.Out x) h = absurd h
stops_behind b v bound r (answer.OutNumber x) h = absurd h
stops_behind b v bound r answer.WantsInput h = absurd h
stops_behind b v bound r (answer.Checkpoint n) h = absurd h
stops_behind b v bound r (answer.Exclude n) h = absurd h

-- a run behind other events is the same run behind them
pub run_is_behind : (c : CodeView) (b : List run.Event) (w : World) (n : ℕ) (r : Run) → CodeRun c w n r → CodeRun c (behind b w) n (run_behind b r)
run_is_behind c b w n r run =
    let v = run.0 in
    let k = run.1.by.0 in
    let e : after c k w ≡ v = run.1.by.1 in (
      behind b v,
      record { by = (k, after_behind c b k w ∙ ap (behind b) e) },
      stops_behind b v (w.state.ticks + n) r (next_row c unprotected v.state v.memory).event run.2,
    )

pub ends_as_source : (s : Source) (o : Origin) (until : ℕ) (r : Run) → IsOfSource s o → o.state.ticks ≤ until → CodeRun o.code (origin_world o []) (ticks_ahead o until) r → EndsAsSource s o until r
ends_as_source s o until r of le run =
    let before = events_before s o in
    let n = ticks_ahead o until in
    let here : CodeRun o.code (origin_world o before) n (run_behind before r) =
    subst (λ l. CodeRun o.code (origin_world o l) n (run_behind before r)) (append-nil before) (run_is_behind o.code before (origin_world o []) n r run) in
    let alike = of.like.alike n (run_behind before r) here in
    let at : o.state.ticks + n ≡ until = omega (arith, le) in
    record {
      shown = has_shown s o of r.events until (ap (λ k. (run_of s k).events) (sym at) ∙ alike.events);
      ending = ap (λ k. (run_of s k).ending) (sym at) ∙ alike.ending;
      ticks = ap (λ k. (run_of s k).ticks) (sym at) ∙ alike.ticks;
    }
