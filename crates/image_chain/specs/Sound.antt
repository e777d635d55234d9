-- What a chain keeps of its file, whatever its disk tells.
use Rattle.std.specs.Prelude.{◌≡◌, ℕ, ◌+◌, ◌≤◌, Option, Some, None}
use Rattle.image_format.specs.declared.fields.Fields.{Fields}
use Rattle.image_format.specs.Image.{AreFields}

-- The number of the newest image is not behind the generation and the count. A chain without records has generation 1.
abbrev pub IsNumbered : ℕ → Option Fields → Type 0
IsNumbered ahead None = ahead ≤ 1
IsNumbered ahead (Some newest) = ahead ≤ newest.number + 1

-- there is a newest record, and what is kept of it is what a record says
abbrev pub HasNewest : Option Fields → Type 0
HasNewest None = ⊥
HasNewest (Some newest) = AreFields newest

-- The header is in range, and the newest record, where there is one, is what a record says and has its number.
pub record IsSound (generation every max count : ℕ) (newest : Option Fields) : Type 0 where
  pub generation_least : 1 ≤ generation
  pub every_least : 1 ≤ every
  pub max_least : 2 ≤ max
  pub max_most : max ≤ 64
  pub none : newest ≡ None → generation + count ≤ 1
  pub number : (f : Fields) → newest ≡ Some f → generation + count ≤ f.number + 1
  pub said : (f : Fields) → newest ≡ Some f → AreFields f
