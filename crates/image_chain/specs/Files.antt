-- The records of a store, and those of one image file with its header.
use Rattle.std.specs.Prelude.{◌≡◌, ◌≢◌, ◌+◌, ◌<◌, true, List, [], length, Option, Some, None, Result, Ok, Err}
use Rattle.disk_model.specs.declared.disk_file.DiskFile.{DiskFile}
use Rattle.disk_model.specs.declared.disk_file.DiskFile.TheVariants.{Output}
use Rattle.disk_model.specs.Store.{Store, file_of}
use Rattle.image_format.specs.declared.header.Header.{Header}
use Rattle.image_format.specs.Image.{Image}
use Rattle.image_chain.specs.Records.{Damage, Found, header_in, records_at, newest_of, in_number, chain_in}
use Rattle.image_chain.specs.Append.{other}

-- the records of a chain that was looked for; none where there is none, or damage
abbrev pub records_found : Result (Option Found) Damage → List Image
records_found (Ok (Some found)) = found.records
records_found (Ok None) = []
records_found (Err damage) = []

-- the records of a store
abbrev pub records_in : Store → List Image
records_in s = records_found (chain_in s)

-- an image file has a good header with an open gate
pub record IsOpenIn (f : DiskFile) (h : Header) (s : Store) : Type 0 where
  pub header : header_in f (file_of f s) ≡ Ok (Some h)
  pub gate : h.gate_open ≡ true

-- an image file that is open has these records, and its generation is not ahead of their number
pub record FileLists (f : DiskFile) (h : Header) (rs : List Image) (s : Store) : Type 0 where
  pub open_in : IsOpenIn f h s
  pub read : records_at h.max f (file_of f s) None 15 ≡ Ok rs
  pub number : in_number f (h.generation + length rs) (newest_of None rs) ≡ Ok tt

-- a chain is found: its file has its records, and the other image file is not open, or of a smaller generation
pub record IsFoundIn (s : Store) (found : Found) : Type 0 where
  pub image_file : found.file ≢ Output
  pub lists : FileLists found.file found.header found.records s
  pub aside : (h : Header) → IsOpenIn (other found.file) h s → h.generation < found.header.generation
  pub headers : (f : DiskFile) → f ≢ Output → (h : Option Header) × (header_in f (file_of f s) ≡ Ok h)
