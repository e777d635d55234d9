-- What a run has shown, and what it leaves of the world from which it came.
use Rattle.std.specs.Prelude.{◌≡◌, ℕ, ◌+◌, ◌≤◌, List, [], ◌∷◌, ◌++◌, length, drop, slice_index}
use Rattle.std.specs.List.{Contains}
use Rattle.ckpt_base.specs.Event as run
use Rattle.machine_code.specs.Run.{World}

-- the cells that events write
abbrev pub wrote : List run.Event → List ℕ
wrote [] = []
wrote (run.Wrote c ∷ es) = c ∷ wrote es
wrote (run.Byte b ∷ es) = wrote es
wrote (run.Took ∷ es) = wrote es
wrote (run.Excluded k ∷ es) = wrote es
wrote (run.Checkpoint m t ∷ es) = wrote es

-- how many bytes of the input they take
abbrev pub taken : List run.Event → ℕ
taken [] = 0
taken (run.Took ∷ es) = 1 + taken es
taken (run.Wrote c ∷ es) = taken es
taken (run.Byte b ∷ es) = taken es
taken (run.Excluded k ∷ es) = taken es
taken (run.Checkpoint m t ∷ es) = taken es

-- each checkpoint among the events was passed at a tick between these two
abbrev pub MarksWithin : ℕ → ℕ → List run.Event → Type 0
MarksWithin low high [] = Unit {0}
MarksWithin low high (run.Checkpoint m t ∷ es) = (low ≤ t) × (t ≤ high) × MarksWithin low high es
MarksWithin low high (run.Wrote c ∷ es) = MarksWithin low high es
MarksWithin low high (run.Byte b ∷ es) = MarksWithin low high es
MarksWithin low high (run.Took ∷ es) = MarksWithin low high es
MarksWithin low high (run.Excluded k ∷ es) = MarksWithin low high es

-- The run from one world to another has shown these events more: each cell that they do not write has its word, the memory its length, the input is what they have not taken, no tick is taken back, and checkpoints tell their ticks.
pub record Shows (w v : World) : Type 0 where
  pub more : List run.Event
  pub events : v.events ≡ w.events ++ more
  pub size : length v.memory ≡ length w.memory
  pub words : (cell : ℕ) → (Contains (wrote more) cell → ⊥) → slice_index v.memory cell ≡ slice_index w.memory cell
  pub input : v.input ≡ drop (taken more) w.input
  pub ticks : w.state.ticks ≤ v.state.ticks
  pub marks : MarksWithin w.state.ticks v.state.ticks more

-- the same world with more cells behind its memory
abbrev pub longer : List ℕ → World → World
longer more w = record w { memory = w.memory ++ more }
