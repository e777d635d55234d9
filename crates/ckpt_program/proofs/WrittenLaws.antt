-- What a program writes within a bound, it writes within a later one too.
use Rattle.std.proofs.Common.{◌≡◌, refl, sym, ◌∙◌, ap, subst, ℕ, ◌+◌, ◌-◌, ◌≤◌, List, [], ◌∷◌, ◌++◌, length, arith}
use Rattle.std.proofs.lemmas.List.{length-append}
use Rattle.ckpt_base.specs.Event.{Event, Wrote, Byte, Took, Excluded, Checkpoint}
use Rattle.ckpt_base.specs.Run.{Run, output}
use Rattle.c_tree.specs.declared.resolved.Resolved.{Resolved}
use Rattle.c_tree.specs.Checked.{IsChecked}
use Rattle.c_tree.specs.State.{first_state}
use Rattle.c_tree.specs.Meaning.{meaning}
use Rattle.machine_code.specs.declared.event.Event as machine
use Rattle.machine_code.specs.declared.event.Event.TheVariants as answer
use Rattle.machine_code.specs.CodeView.{CodeView}
use Rattle.machine_code.specs.Run.{World, Reaches, CodeRun, StopsBy, next_row, unprotected}
use Rattle.machine_code.specs.Shown.{Shows}
use Rattle.code_maker.specs.ProgramCode.{code_of}
use Rattle.code_maker.specs.CodeMeaning.{world_at}

-- the bytes of events and more events
output_on : (es fs : List Event) → output (es ++ fs) ≡ output es ++ output fs
output_on [] fs = refl
output_on (Byte b ∷ es) fs = ap (λ (l : List ℕ). b ∷ l) (output_on es fs)
output_on (Wrote c ∷ es) fs = output_on es fs
output_on (Took ∷ es) fs = output_on es fs
output_on (Excluded k ∷ es) fs = output_on es fs
output_on (Checkpoint m t ∷ es) fs = output_on es fs

-- where a run stops within its bound, it has shown what it gives
pub record Gives (v : World) (bound : ℕ) (r : Run) : Type 0 where
  pub within : v.state.ticks ≤ bound
  pub events : r.events ≡ v.events

gives : (v : World) (bound : ℕ) (r : Run) (e : machine.Event) → StopsBy e v bound r → Gives v bound r
gives v bound r (answer.Ended x) h = record { within = h.0; events = ap (λ (x : Run). x.events) h.1 }
gives v bound r (answer.Trapped t) h = record { within = h.0; events = ap (λ (x : Run). x.events) h.1 }
gives v bound r answer.Ticked h = record { within = omega (arith, h.0); events = ap (λ (x : Run). x.events) h.1 }
gives v bound r answer.Ran h = absurd h
gives v bound r (answer.WriteFault p) h = absurd h
gives v bound r (answer.Out b) h = absurd h
gives v bound r (answer.OutNumber b) h = absurd h
gives v bound r answer.WantsInput h = absurd h
gives v bound r (answer.Checkpoint n) h = absurd h
gives v bound r (answer.Exclude n) h = absurd h

-- the laws of runs that are used here
module _
    (runs : (p : Resolved) (input : List ℕ) (n : ℕ) → IsChecked p → CodeRun (code_of p) (world_at 0 (first_state p input)) n (meaning p input n))
    (shows : (c : CodeView) (w v : World) → Reaches c w v → Shows w v)
    (passes : (c : CodeView) (w v : World) (n : ℕ) (r : Run) → CodeRun c w n r → Reaches c w v → v.state.ticks ≤ w.state.ticks + n → CodeRun c v ((w.state.ticks + n) - v.state.ticks) r) where
  pub written_more : (p : Resolved) (input : List ℕ) (low high : ℕ) → IsChecked p → low ≤ high → length (output (meaning p input low).events) ≤ length (output (meaning p input high).events)
  written_more p input low high checked le =
      let c = code_of p in
      let w = world_at 0 (first_state p input) in
      let early = runs p input low checked in
      let v : World = early.0 in
      let here = gives v (w.state.ticks + low) (meaning p input low) (next_row c unprotected v.state v.memory).event early.2 in
      let bound = w.state.ticks + high in
      let late = passes c w v high (meaning p input high) (runs p input high checked) early.1 (omega (arith, here.within, le)) in
      let u : World = late.0 in
      let there = gives u (v.state.ticks + (bound - v.state.ticks)) (meaning p input high) (next_row c unprotected u.state u.memory).event late.2 in
      let shown = shows c v u late.1 in
      let whole : output (meaning p input high).events ≡ output (meaning p input low).events ++ output shown.more =
      ap output (there.events ∙ shown.events ∙ ap (λ (es : List Event). es ++ shown.more) (sym here.events)) ∙ output_on (meaning p input low).events shown.more in
      omega (arith, ap length whole, length-append (output (meaning p input low).events) (output shown.more))
