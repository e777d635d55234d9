-- A store that stands for a source: each of its chains has the images of the source's run up to some checkpoint, with the memory that the run had there.
use Rattle.std.specs.Prelude.{◌≡◌, ◌≢◌, ◌⊎◌, ℕ, ◌<◌, ◌≤◌, true, List, [], length, take, Option, Some, None, Ok}
use Rattle.disk_model.specs.declared.disk_file.DiskFile.{DiskFile}
use Rattle.disk_model.specs.declared.disk_file.DiskFile.TheVariants.{Output, One, Two}
use Rattle.disk_model.specs.Store.{Store, file_of}
use Rattle.disk_model.specs.View.{View}
use Rattle.image_format.specs.declared.fields.Fields.{Fields}
use Rattle.image_format.specs.declared.header.Header.{Header}
use Rattle.image_format.specs.Image.{Image}
use Rattle.image_chain.specs.declared.chain.Current.{Current}
use Rattle.image_chain.specs.Lists.{Lists}
use Rattle.image_chain.specs.Records.{header_in, newest_of}
use Rattle.image_chain.specs.Files.{IsOpenIn, FileLists}
use Rattle.run_images.specs.Source.{Source, run_of, output_of, images_of}
use Rattle.run_images.specs.JoinedList.{IsJoinedList}
use Rattle.run_images.specs.Hold.{HoldWords}

-- The records and the output file stand for the source's run up to the checkpoint of the newest record: they are a joined list of its images, the file begins with
-- its output, and the records hold its memory.
pub record StandsFor (s : Source) (every : ℕ) (rs : List Image) (file : List ℕ) : Type 0 where
  pub newest : Fields
  pub newest_is : newest_of None rs ≡ Some newest
  pub joined : IsJoinedList rs (images_of s every newest.steps)
  pub begins : take (length (output_of s newest.steps)) file ≡ output_of s newest.steps
  pub words : HoldWords s newest.node rs (run_of s newest.steps).memory
  pub spaced : s.spaced every ≡ true

-- Each chain of the store stands for the source, whichever of the two a crash makes current.
pub record Stands (s : Source) (c : Store) : Type 0 where
  -- each image file is empty or begins with a good header
  pub headers : (f : DiskFile) → f ≢ Output → (h : Option Header) × (header_in f (file_of f c) ≡ Ok h)
  -- the two have not both an open gate and one generation
  pub differ : (h k : Header) → IsOpenIn One h c → IsOpenIn Two k c → h.generation ≢ k.generation
  -- each whose gate is open has records that stand
  pub each : (f : DiskFile) (h : Header) → f ≢ Output → IsOpenIn f h c → (rs : List Image) × FileLists f h rs c × StandsFor s h.every rs c.output
  -- the one of smaller generation is not ahead of the other
  pub order : (f g : DiskFile) (h k : Header) (rs qs : List Image) (x y : Fields) → f ≢ Output → g ≢ Output → FileLists f h rs c → FileLists g k qs c
      → newest_of None rs ≡ Some x → newest_of None qs ≡ Some y → h.generation < k.generation → x.steps ≤ y.steps

-- The store stands, and the output of each image that it has lies within the first n bytes of the output file: so it stands whatever comes behind them.
pub record StandsWithin (s : Source) (n : ℕ) (c : Store) : Type 0 where
  pub stands : Stands s c
  pub within : (f : DiskFile) (h : Header) (rs : List Image) (x : Fields) → f ≢ Output → FileLists f h rs c → newest_of None rs ≡ Some x → length (output_of s x.steps) ≤ n

-- there are no records, or they stand with the first n of these bytes
abbrev pub StandWith : Source → ℕ → ℕ → List ℕ → List Image → Type 0
StandWith s every n bytes rs = (rs ≡ []) ⊎ StandsFor s every rs (take n bytes)

-- An outcome of a crash stands within the first n of these bytes, and so does its chain with these records.
pub record ChainStands (s : Source) (n : ℕ) (bytes : List ℕ) (chain : Current) (rs : List Image) (c : Store) : Type 0 where
  pub image_file : chain.file ≢ Output
  pub stands : StandsWithin s n c
  pub output : take n c.output ≡ take n bytes
  pub lists : Lists chain rs c
  pub records : StandWith s chain.every n bytes rs

-- every store that a crash now may leave stands
abbrev pub AllStand : Source → View → Type 0
AllStand s v = (c : Store) → v.may_leave c → Stands s c
