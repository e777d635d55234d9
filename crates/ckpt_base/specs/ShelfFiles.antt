-- The files of a shelf in memory, as it keeps them.
use Rattle.std.specs.Prelude.{◌<◌, ◌≤◌, ℕ, List, [], Option, Some, None, length, map, drop, slice_get}
use Rattle.std.specs.Option.{option_map_or}
use Rattle.ckpt_base.specs.declared.shelf.Place.{Place}
use Rattle.ckpt_base.specs.Buffer.{Buffer}
use Rattle.ckpt_base.specs.Shelf.{File}

-- a name and bytes with spare room, as a file
abbrev pub file_of : List ℕ × Buffer → File
file_of f = record { name = f.0; bytes = f.1.list }

abbrev pub files_of : List (List ℕ × Buffer) → List File
files_of fs = map file_of fs

-- the bytes of the file of that index, or none
abbrev pub bytes_at : List (List ℕ × Buffer) → ℕ → List ℕ
bytes_at fs i = option_map_or (λ f. f.1.list) (slice_get fs i) []

-- what is left behind a place
abbrev pub rest_at : List (List ℕ × Buffer) → Option Place → Option (List ℕ)
rest_at fs None = None
rest_at fs (Some p) = Some (drop p.at (bytes_at fs p.file))

-- the place is one of a file
abbrev pub IsPlace : List (List ℕ × Buffer) → Option Place → Type 0
IsPlace fs None = Unit {0}
IsPlace fs (Some p) = (p.file < length fs) × (p.at ≤ length (bytes_at fs p.file))
