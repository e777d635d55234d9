-- The lines that list records.
use Rattle.std.specs.Prelude.{ℕ, ◌+◌, ◌-◌, ◌==◌, if◌then◌else◌, List, [], ◌∷◌, ◌++◌, length, codes}
use Rattle.std.specs.Fmt.{decimal}
use Rattle.image_format.specs.Image.{Image, WordRun}

-- a blank, and the one cell of a run, or its first and its last
abbrev pub run_text : (first count : ℕ) → List ℕ
run_text first count = if count == 1 then codes " " ++ decimal first else codes " " ++ (decimal first ++ (codes ".." ++ decimal (first + count - 1)))

abbrev pub runs_text : List WordRun → List ℕ
runs_text [] = []
runs_text (r ∷ rs) = run_text r.first (length r.words) ++ runs_text rs

-- the number of the image, its steps and the cells that it lists
abbrev pub record_line : Image → List ℕ
record_line r = codes "image " ++ (decimal r.fields.number ++ (codes " step " ++ (decimal r.fields.steps ++ codes " cells"))) ++ runs_text r.runs ++ codes "\n"

abbrev pub record_lines : List Image → List ℕ
record_lines [] = []
record_lines (r ∷ rs) = record_line r ++ record_lines rs
