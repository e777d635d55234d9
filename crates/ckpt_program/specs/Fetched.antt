-- What reading a whole file from a shelf comes to.
use Rattle.std.specs.Prelude.{◌≡◌, ◌<◌, ◌≤◌, ◌⊎◌, ℕ, IsTrue, List, length, Some, None}
use Rattle.ckpt_base.specs.Faults.{Rose}
use Rattle.ckpt_base.specs.Shelf.{file_named}
use Rattle.ckpt_program.specs.Sight.{Sight}
use Rattle.ckpt_program.specs.declared.stop.Document.{Document}
use Rattle.ckpt_program.specs.declared.stop.Document.TheVariants as document
use Rattle.ckpt_program.specs.declared.intake.FetchFault.{FetchFault}
use Rattle.ckpt_program.specs.declared.intake.FetchFault.TheVariants as fault

-- the most bytes of a source, of an input, and of the output of a drill
abbrev pub limit_of : Document → ℕ
limit_of document.Source = 262144
limit_of document.Input = 16777216
limit_of document.Output = 16777216

-- the shelf gives these bytes under the name: those of its file where it tells its files, and else any
abbrev pub Gives : Sight → List ℕ → List ℕ → Type 0
Gives shelf name bytes = IsTrue shelf.tells → file_named shelf.files name ≡ Some bytes

-- the shelf tells its files and has none of that name
abbrev pub Lacks : Sight → List ℕ → Type 0
Lacks shelf name = IsTrue shelf.tells × (file_named shelf.files name ≡ None)

-- the whole file under the name, no longer than the limit
abbrev pub IsWhole : Sight → List ℕ → ℕ → List ℕ → Type 0
IsWhole shelf name limit bytes = Gives shelf name bytes × (length bytes ≤ limit)

-- the file under the name is longer than the limit, where the shelf tells its files
abbrev pub IsTooLong : Sight → List ℕ → ℕ → Type 0
IsTooLong shelf name limit = IsTrue shelf.tells → (bytes : List ℕ) × (file_named shelf.files name ≡ Some bytes) × (limit < length bytes)

-- the shelf failed, or lacks the file
abbrev pub ShelfFails : (old new : Sight) → List ℕ → Type 0
ShelfFails old new name = Rose old.faults new.faults ⊎ Lacks old name

-- the cause of a fault
abbrev pub Causes : (old new : Sight) → List ℕ → ℕ → FetchFault → Type 0
Causes old new name limit fault.Shelf = ShelfFails old new name
Causes old new name limit fault.TooLong = IsTooLong old name limit
Causes old new name limit fault.Memory = Unit {0}
