-- What the fold over events counts, and what it leaves at the newest image.
use Rattle.std.proofs.Common.{◌≡◌, refl, ◌∙◌, ap, ℕ, ◌+◌, Bool, true, false, cond, List, [], ◌∷◌, length, arith}
use Rattle.ckpt_base.specs.Event.{Event, Wrote, Byte, Took, Excluded, Checkpoint}
use Rattle.ckpt_base.specs.Run.{output}
use Rattle.machine_code.specs.Shown.{taken}
use Rattle.run_images.specs.Since.{Since, is_due, with_event, since_after}

-- a checkpoint counts nothing, whether it takes an image or not
mark_counts : (F : Since → ℕ) (every node tick : ℕ) (s : Since) → F (record s { number = s.number + 1; newest_tick = tick; written = []; included = true }) ≡ F s → F (with_event every (Checkpoint node tick) s) ≡ F s
mark_counts F every node tick s same = by_due (is_due every s tick)
  where
    by_due : (b : Bool) → F (cond b (record s { number = s.number + 1; newest_tick = tick; written = []; included = true }) s) ≡ F s
    by_due true = same
    by_due false = refl

pub input_counted : (every : ℕ) (es : List Event) (s : Since) → (since_after every es s).input_place ≡ s.input_place + taken es
input_counted every [] s = omega arith
input_counted every (Wrote c ∷ es) s = input_counted every es (with_event every (Wrote c) s)
input_counted every (Byte b ∷ es) s = input_counted every es (with_event every (Byte b) s)
input_counted every (Took ∷ es) s = let e = input_counted every es (with_event every Took s) in omega (arith, e)
input_counted every (Excluded k ∷ es) s = input_counted every es (with_event every (Excluded k) s)
input_counted every (Checkpoint m t ∷ es) s = let e = input_counted every es (with_event every (Checkpoint m t) s) in e ∙ ap (λ n. n + taken es) (mark_counts (λ x. x.input_place) every m t s refl)

pub output_counted : (every : ℕ) (es : List Event) (s : Since) → (since_after every es s).output_length ≡ s.output_length + length (output es)
output_counted every [] s = omega arith
output_counted every (Wrote c ∷ es) s = output_counted every es (with_event every (Wrote c) s)
output_counted every (Byte b ∷ es) s = let e = output_counted every es (with_event every (Byte b) s) in omega (arith, e)
output_counted every (Took ∷ es) s = output_counted every es (with_event every Took s)
output_counted every (Excluded k ∷ es) s = output_counted every es (with_event every (Excluded k) s)
output_counted every (Checkpoint m t ∷ es) s = let e = output_counted every es (with_event every (Checkpoint m t) s) in e ∙ ap (λ n. n + length (output es)) (mark_counts (λ x. x.output_length) every m t s refl)
