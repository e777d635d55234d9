-- What a run does that shows, in order.
use Rattle.std.specs.Prelude.{ℕ}

-- a store into a cell, a byte written, an input byte taken, a directive executed, a checkpoint passed
pub data Event : Type 0 where
  Wrote : ℕ → Event
  Byte : ℕ → Event
  Took : Event
  -- the number of the directive
  Excluded : ℕ → Event
  -- its node, and the ticks so far
  Checkpoint : ℕ → ℕ → Event
