-- What a run gives.
use Rattle.std.specs.Prelude.{ℕ, List, [], ◌∷◌}
use Rattle.ckpt_base.specs.declared.ending.Ending.{Ending}
use Rattle.ckpt_base.specs.Event.{Event, Wrote, Byte, Took, Excluded, Checkpoint}

-- the events, the word of each cell at the end, how the run ended, and how many ticks it took
pub record Run : Type 0 where
  pub events : List Event
  pub memory : List ℕ
  pub ending : Ending
  pub ticks : ℕ

-- the bytes that were written
abbrev pub output : List Event → List ℕ
output [] = []
output (Byte b ∷ es) = b ∷ output es
output (Wrote c ∷ es) = output es
output (Took ∷ es) = output es
output (Excluded k ∷ es) = output es
output (Checkpoint m t ∷ es) = output es
