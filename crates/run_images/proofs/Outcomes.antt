-- What one call changes in an outcome of a crash, by files, and what finding a chain says of them.
use Rattle.std.specs.Prelude.{◌≡◌, ◌≢◌, ◌⊎◌, ◌<◌, ◌≤◌, List, [], ◌∷◌, Option, Some, None, Ok}
use Rattle.disk_model.specs.declared.disk_file.DiskFile.{DiskFile}
use Rattle.disk_model.specs.declared.disk_file.DiskFile.TheVariants.{Output}
use Rattle.disk_model.specs.Store.{Store, file_of}
use Rattle.image_format.specs.declared.header.Header.{Header}
use Rattle.image_format.specs.declared.fields.Fields.{Fields}
use Rattle.image_format.specs.Image.{Image}
use Rattle.image_chain.specs.Records.{Found, header_in, chain_in, newest_of}
use Rattle.image_chain.specs.Append.{other}
use Rattle.image_chain.specs.Lists.{found_of}
use Rattle.image_chain.specs.Files.{IsOpenIn, FileLists}

-- An earlier outcome, but that this image file is current and lists these records: the output is as it was, and so is the other image file, or it is not open.
pub record IsListedIn (f : DiskFile) (h : Header) (rs : List Image) (old new : Store) : Type 0 where
  pub lists : chain_in new ≡ Ok (found_of f h rs)
  pub aside : (file_of (other f) new ≡ file_of (other f) old) ⊎ ((k : Header) → IsOpenIn (other f) k new → ⊥)
  pub output : new.output ≡ old.output

-- An earlier outcome with these records, but that the other image file is current and has one record: the file that was current and the output are as they were.
pub record IsJoinedIn (f : DiskFile) (h k : Header) (rs : List Image) (r : Image) (old new : Store) : Type 0 where
  pub was : chain_in old ≡ Ok (found_of f h rs)
  pub lists : chain_in new ≡ Ok (found_of (other f) k (r ∷ []))
  pub every : k.every ≡ h.every
  pub current : file_of f new ≡ file_of f old
  pub output : new.output ≡ old.output

-- what finding this chain says of the files
pub record IsFoundIn (c : Store) (found : Found) : Type 0 where
  pub image_file : found.file ≢ Output
  pub lists : FileLists found.file found.header found.records c
  -- the other file is not open, or of a smaller generation
  pub aside : (h : Header) → IsOpenIn (other found.file) h c → h.generation < found.header.generation
  pub headers : (f : DiskFile) → f ≢ Output → (h : Option Header) × (header_in f (file_of f c) ≡ Ok h)

-- the file beside this one, where it is open, is not ahead of these records
abbrev pub NoneAhead : DiskFile → List Image → Store → Type 0
NoneAhead f rs d = (k : Header) (ps : List Image) (x y : Fields) → FileLists (other f) k ps d → newest_of None ps ≡ Some y → newest_of None rs ≡ Some x → y.steps ≤ x.steps
