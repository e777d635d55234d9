-- What records give each cell.
use Rattle.std.specs.Prelude.{◌≡◌, ℕ, if◌then◌else◌, Bool, List, [], ◌∷◌, slice_index, slice_index_or, true, false, Option, Some, None}
use Rattle.std.specs.Option.{option_or}
use Rattle.cell_sets.specs.declared.runs.Run.{Run}
use Rattle.cell_sets.specs.Runs.{in_runs}
use Rattle.image_format.specs.Image.{Image, word_in_runs}

-- the word that records give a cell: that of the last one that lists it, or none
abbrev pub memory : List Image → ℕ → Option ℕ
memory [] c = None
memory (r ∷ rs) c = option_or (memory rs c) (word_in_runs r.runs c)

-- words of cells, and which of them are listed
pub record Joined : Type 0 where
  pub words : List ℕ
  pub listed : List Bool

-- whether a cell is listed
abbrev pub is_kept : Joined → ℕ → Bool
is_kept k c = slice_index_or k.listed c false

-- the word of a cell, or none where it is not listed
abbrev pub kept_word : Joined → ℕ → Option ℕ
kept_word k c = if is_kept k c then Some (slice_index k.words c) else None

-- each cell of the runs is listed
abbrev pub AreKept : Joined → List Run → Type 0
AreKept k runs = (c : ℕ) → in_runs runs c ≡ true → is_kept k c ≡ true

-- the word of a cell of the runs, or none where they do not have it
abbrev pub kept_in : List Run → Joined → ℕ → Option ℕ
kept_in runs k c = if in_runs runs c then kept_word k c else None

abbrev pub joined : List ℕ → List Bool → Joined
joined words listed = record { words = words; listed = listed }
