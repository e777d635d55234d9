-- The chain of a store: its current file, the records of that file, and every kind of damage.
use Rattle.std.specs.Prelude.{ℕ, zero, suc, ◌+◌, nat_lt, nat_le, ◌==◌, not, if◌then◌else◌, List, [], ◌∷◌, length, take, drop, slice_index, Option, Some, None, Result, Ok, Err}
use Rattle.std.specs.Str.{bytes_eq}
use Rattle.disk_model.specs.declared.disk_file.DiskFile.{DiskFile}
use Rattle.disk_model.specs.declared.disk_file.DiskFile.TheVariants.{One, Two}
use Rattle.disk_model.specs.Store.{Store, file_of}
use Rattle.image_format.specs.declared.fields.Fields.{Fields}
use Rattle.image_format.specs.declared.header.Header.{Header}
use Rattle.image_format.specs.Image.{Image}
use Rattle.image_format.specs.Spelling.{is_open, image_length}
use Rattle.image_format.specs.Reading.{◌>>=◌, header_at, image_at}

-- the file that is damaged, and the place
pub record Damage : Type 0 where
  pub file : DiskFile
  pub place : ℕ

abbrev pub damaged : {A : Type 0} → DiskFile → ℕ → Result A Damage
damaged f place = Err (record { file = f; place = place })

-- what was read at a place of a file, with a fault at its place in the file
abbrev pub located : {A : Type 0} → DiskFile → ℕ → Result A ℕ → Result A Damage
located f at (Ok x) = Ok x
located f at (Err place) = damaged f (at + place)

-- The header of an image file, or none where the file is empty. A file of 1 to 15 bytes is damaged at its front.
unfoldable pub header_in : DiskFile → List ℕ → Result (Option Header) Damage
header_in f [] = Ok None
header_in f (b ∷ bytes) =
    if nat_lt (length bytes) 15 then damaged f 0
    else (located f 0 (header_at (take 16 (b ∷ bytes))) >>= λ h. Ok (Some h))

-- a header whose gate is open
abbrev pub only_open : Option Header → Option Header
only_open None = None
only_open (Some h) = if h.gate_open then Some h else None

-- The current file is the one of greater generation among those with an open gate. Equal generations are damage of file Two.
abbrev pub newer : Option Header → Option Header → Result (Option (DiskFile × Header)) Damage
newer None None = Ok None
newer (Some one) None = Ok (Some (One, one))
newer None (Some two) = Ok (Some (Two, two))
newer (Some one) (Some two) =
    if one.generation == two.generation then damaged Two 4
    else (if nat_lt two.generation one.generation then Ok (Some (One, one)) else Ok (Some (Two, two)))

-- The first field by which a record does not follow the one before it, as its place in the record: other digests, steps that do not rise, a place in the input or a length of output that falls, a number that is not one more.
abbrev pub broken_field : Option Fields → Fields → Option ℕ
broken_field None new = None
broken_field (Some old) new =
    if not (bytes_eq new.marks.source old.marks.source) then Some 5
    else (if not (bytes_eq new.marks.input old.marks.input) then Some 37
    else (if nat_le new.steps old.steps then Some 73
    else (if nat_lt new.input_place old.input_place then Some 81
    else (if nat_lt new.output_length old.output_length then Some 89
    else (if not (new.number == old.number + 1) then Some 100
    else None)))))

-- the same as damage of the record at a place
abbrev pub in_order : DiskFile → ℕ → Option ℕ → Result (Unit {0}) Damage
in_order f at None = Ok tt
in_order f at (Some field) = damaged f (at + field)

-- the record at a place of a file; none has more than 3,145,837 bytes
unfoldable pub record_in : DiskFile → List ℕ → ℕ → Result Image Damage
record_in f file at = located f at (image_at (take 3145837 (drop at file)))

-- The records behind the gate at a place, each read while the gate before it is open. No more than `left` may come: one more is damage at the gate before it.
unfoldable pub records_at : ℕ → DiskFile → List ℕ → Option Fields → ℕ → Result (List Image) Damage
records_at zero f file newest gate =
    if is_open (slice_index file gate) then (record_in f file (gate + 1) >>= λ _. damaged f gate) else Ok []
records_at (suc left) f file newest gate =
    if is_open (slice_index file gate) then (record_in f file (gate + 1) >>= λ image.
    in_order f (gate + 1) (broken_field newest image.fields) >>= λ _.
    records_at left f file (Some image.fields) (gate + image_length image) >>= λ more.
    Ok (image ∷ more)) else Ok []

-- the fields of the last record, where there is one
abbrev pub newest_of : Option Fields → List Image → Option Fields
newest_of newest [] = newest
newest_of newest (r ∷ rs) = newest_of (Some r.fields) rs

-- the generation and the count do not run ahead of the number of the newest image
abbrev pub in_number : DiskFile → ℕ → Option Fields → Result (Unit {0}) Damage
in_number f ahead None = Ok tt
in_number f ahead (Some newest) = if nat_lt (newest.number + 1) ahead then damaged f 4 else Ok tt

-- the current file, its header and its records
pub record Found : Type 0 where
  pub file : DiskFile
  pub header : Header
  pub records : List Image

abbrev pub found_in : Store → Option (DiskFile × Header) → Result (Option Found) Damage
found_in s None = Ok None
found_in s (Some c) =
    records_at c.1.max c.0 (file_of c.0 s) None 15 >>= λ records.
    in_number c.0 (c.1.generation + length records) (newest_of None records) >>= λ _.
    Ok (Some (record { file = c.0; header = c.1; records = records }))

-- The chain of a store: none where no file is current. Else the damage that comes first: of the headers, of both, of the records in their order, of the number.
unfoldable pub chain_in : Store → Result (Option Found) Damage
chain_in s =
    header_in One s.one >>= λ one.
    header_in Two s.two >>= λ two.
    newer (only_open one) (only_open two) >>= λ current.
    found_in s current
