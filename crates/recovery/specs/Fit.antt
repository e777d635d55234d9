-- Which chain fits a program.
use Rattle.std.specs.Prelude.{◌≡◌, ◌⊎◌, ℕ, ◌+◌, ◌<◌, ◌≤◌, Contains, IsSome, None}
use Rattle.image_format.specs.declared.fields.Fields.{Fields}
use Rattle.image_chain.specs.ChainView.{ChainView}
use Rattle.image_chain.specs.Memory.{Joined, kept_word}
use Rattle.recovery.specs.declared.shape.Shape.{Shape}

-- The fields of a record fit a program: its node is a checkpoint, and neither the places in input and output nor the directive are past what there is.
pub record Fits (s : Shape) (f : Fields) : Type 0 where
  pub node : Contains s.checkpoints.now f.node
  pub input_place : f.input_place ≤ s.input_length
  pub output_length : f.output_length ≤ s.output_length
  pub directive : f.directive ≤ s.excludes

-- the first field of a record that does not fit is at this place in it
abbrev pub IsUnfitAt : ℕ → Shape → Fields → Type 0
IsUnfitAt place s f =
    ((place ≡ 69) × ¬ Contains s.checkpoints.now f.node)
    ⊎ (((place ≡ 81) × Contains s.checkpoints.now f.node × (s.input_length < f.input_place))
    ⊎ (((place ≡ 89) × Contains s.checkpoints.now f.node × (f.input_place ≤ s.input_length) × (s.output_length < f.output_length))
    ⊎ ((place ≡ 97) × Contains s.checkpoints.now f.node × (f.input_place ≤ s.input_length) × (f.output_length ≤ s.output_length) × (s.excludes < f.directive))))

-- every listed cell is of the program
abbrev pub ListsOnly : ℕ → Joined → Type 0
ListsOnly cells k = (c : ℕ) → cells ≤ c → kept_word k c ≡ None

-- some listed cell is not
abbrev pub ListsPast : ℕ → Joined → Type 0
ListsPast cells k = (c : ℕ) × (cells ≤ c) × IsSome (kept_word k c)

-- The place in the current file at which a chain does not fit a program: that of its records for a listed cell, else that of a field of the newest record.
abbrev pub IsDamagedAt : ℕ → ChainView → Joined → Shape → Fields → Type 0
IsDamagedAt place chain k s newest =
    (ListsPast s.cells k × (place ≡ 16))
    ⊎ (ListsOnly s.cells k × ((field : ℕ) × IsUnfitAt field s newest × (place ≡ chain.current.newest_at + field)))
