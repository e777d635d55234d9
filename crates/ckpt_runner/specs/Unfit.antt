-- Which chain fits a program, said of the store. The same as the recovery's own words, but for the places: it takes them from the file.
use Rattle.std.specs.Prelude.{◌≡◌, ◌⊎◌, ℕ, ◌+◌, ◌<◌, ◌≤◌, List, [], ◌∷◌, ◌++◌, IsSome, None, Contains}
use Rattle.image_format.specs.declared.fields.Fields.{Fields}
use Rattle.image_format.specs.Image.{Image}
use Rattle.image_chain.specs.Records.{Found}
use Rattle.image_chain.specs.Append.{chained_length}
use Rattle.image_chain.specs.Memory.{memory}
use Rattle.run_images.specs.Compiled.{CompiledView, cells_in}

abbrev pub ListsOnly : ℕ → List Image → Type 0
ListsOnly cells rs = (c : ℕ) → cells ≤ c → memory rs c ≡ None

abbrev pub ListsPast : ℕ → List Image → Type 0
ListsPast cells rs = (c : ℕ) × (cells ≤ c) × IsSome (memory rs c)

-- every listed cell is of the program, and the newest record's fields fit the program, the input and the output file
pub record Fits (c : CompiledView) (taken written : ℕ) (found : Found) (f : Fields) : Type 0 where
  pub cells : ListsOnly (cells_in c) found.records
  pub node : Contains c.checkpoints f.node
  pub input_place : f.input_place ≤ taken
  pub output_length : f.output_length ≤ written
  pub directive : f.directive ≤ c.directives

-- the first field of the newest record that does not fit
abbrev pub IsUnfitField : ℕ → CompiledView → ℕ → ℕ → Fields → Type 0
IsUnfitField place c input_length output_length f =
    ((place ≡ 69) × ¬ Contains c.checkpoints f.node)
    ⊎ (((place ≡ 81) × Contains c.checkpoints f.node × (input_length < f.input_place))
    ⊎ (((place ≡ 89) × Contains c.checkpoints f.node × (f.input_place ≤ input_length) × (output_length < f.output_length))
    ⊎ ((place ≡ 97) × Contains c.checkpoints f.node × (f.input_place ≤ input_length) × (f.output_length ≤ output_length) × (c.directives < f.directive))))

-- the place of the damage in the current file
abbrev pub IsUnfit : ℕ → CompiledView → ℕ → ℕ → Found → Fields → Type 0
IsUnfit place c input_length output_length found f =
    (ListsPast (cells_in c) found.records × (place ≡ 16))
    ⊎ (ListsOnly (cells_in c) found.records × ((field : ℕ) × (before : List Image) × (r : Image) × IsUnfitField field c input_length output_length f × (found.records ≡ before ++ r ∷ []) × (place ≡ 16 + chained_length before + field)))
