-- The three files of a store.
use Rattle.std.specs.Prelude.{ℕ, List}
use Rattle.disk_model.specs.declared.disk_file.DiskFile.{DiskFile}
use Rattle.disk_model.specs.declared.disk_file.DiskFile.TheVariants.{Output, One, Two}

-- the number by which a file is printed
abbrev pub number_of : DiskFile → ℕ
number_of Output = 0
number_of One = 1
number_of Two = 2

-- the bytes of each
pub record Store : Type 0 where
  pub output : List ℕ
  pub one : List ℕ
  pub two : List ℕ

-- the bytes of one of them
abbrev pub file_of : DiskFile → Store → List ℕ
file_of Output s = s.output
file_of One s = s.one
file_of Two s = s.two

-- the store with these bytes in one of them
abbrev pub with_file : DiskFile → List ℕ → Store → Store
with_file Output bytes s = record s { output = bytes }
with_file One bytes s = record s { one = bytes }
with_file Two bytes s = record s { two = bytes }
