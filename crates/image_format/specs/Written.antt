-- The image that is written of runs in a memory.
use Rattle.std.specs.Prelude.{ℕ, ◌+◌, ◌*◌, List, [], ◌∷◌, length, slice_index, Option, Some, None, if◌then◌else◌, map, take, drop}
use Rattle.cell_sets.specs.declared.runs.Run.{Run}
use Rattle.cell_sets.specs.Runs.{in_runs, IsRising}
use Rattle.image_format.specs.declared.fields.Fields.{Fields}
use Rattle.image_format.specs.Image.{WordRun, Image, AreWords}

-- a run of cells with their words in a memory
abbrev pub filled_run : List ℕ → Run → WordRun
filled_run memory r = record { first = r.first; words = take r.count (drop r.first memory) }

abbrev pub filled : List ℕ → List Run → List WordRun
filled memory runs = map (filled_run memory) runs

-- the image with these fields that lists the cells of the runs, with their words in the memory
abbrev pub image_of : Fields → List Run → List ℕ → Image
image_of fields runs memory = record { fields = fields; runs = filled memory runs }

-- what a memory gives a cell that the runs list
abbrev pub listed_word : List Run → List ℕ → ℕ → Option ℕ
listed_word runs memory c = if in_runs runs c then Some (slice_index memory c) else None

-- runs that rise, do not touch, and end at 262,144 or below
abbrev pub AreListed : List Run → Type 0
AreListed runs = IsRising 0 runs 262145

-- the memory has every cell of the runs
abbrev pub HasCells : List ℕ → List Run → Type 0
HasCells memory runs = IsRising 0 runs (length memory + 1)

-- eight bytes for each run and for each of its cells
abbrev pub size_of_runs : List Run → ℕ
size_of_runs [] = 0
size_of_runs (r ∷ rs) = 8 + 8 * r.count + size_of_runs rs

-- the words of the runs in the memory are words of 64 bits
abbrev pub HasWords : List ℕ → List Run → Type 0
HasWords memory [] = Unit {0}
HasWords memory (r ∷ rs) = AreWords (take r.count (drop r.first memory)) × HasWords memory rs
