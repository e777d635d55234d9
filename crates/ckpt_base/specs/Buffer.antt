-- A list of bytes with spare room.
use Rattle.std.specs.Prelude.{ℕ, List}

-- the bytes, and how many more may be appended
pub record Buffer : Type 0 where
  pub list : List ℕ
  pub spare : ℕ
