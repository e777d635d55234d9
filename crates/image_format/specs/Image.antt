-- An image: what is kept of a checkpoint.
use Rattle.std.specs.Prelude.{◌≡◌, ℕ, ◌+◌, ◌-◌, ◌<◌, ◌≤◌, ◌^◌, nat_le, true, if◌then◌else◌, List, [], ◌∷◌, length, slice_get, slice_index, Option, None}
use Rattle.std.specs.Option.{option_or}
use Rattle.image_format.specs.declared.fields.Fields.{Fields}
use Rattle.image_format.specs.declared.header.Header.{Header}

-- the cells from `first` on, with the word of each
pub record WordRun : Type 0 where
  pub first : ℕ
  pub words : List ℕ

-- what an image says of its checkpoint, and the cells that it lists with their words
pub record Image : Type 0 where
  pub fields : Fields
  pub runs : List WordRun

-- the word that a run gives a cell
abbrev pub word_in_run : WordRun → ℕ → Option ℕ
word_in_run r c = if nat_le r.first c then slice_get r.words (c - r.first) else None

-- the word that runs give a cell, or none where they do not list it
abbrev pub word_in_runs : List WordRun → ℕ → Option ℕ
word_in_runs [] c = None
word_in_runs (r ∷ rs) c = option_or (word_in_run r c) (word_in_runs rs c)

abbrev pub IsBytes : List ℕ → Type 0
IsBytes bytes = (i : ℕ) → slice_index bytes i < 256

abbrev pub AreWords : List ℕ → Type 0
AreWords words = (i : ℕ) → slice_index words i < 2 ^ 64

-- a run that is not empty, begins at `least` or above and ends at 262,144 or below
pub record IsRun (least : ℕ) (r : WordRun) : Type 0 where
  pub rises : least ≤ r.first
  pub some : 1 ≤ length r.words
  pub within : r.first + length r.words ≤ 262144
  pub words : AreWords r.words

-- Runs that rise from `least` on, each above the end of the run before it, so that no two touch.
abbrev pub AreRuns : ℕ → List WordRun → Type 0
AreRuns least [] = Unit {0}
AreRuns least (r ∷ rs) = IsRun least r × AreRuns (r.first + length r.words + 1) rs

-- the ranges of the fields of an image
pub record InRange (f : Fields) : Type 0 where
  pub node : f.node ≤ 2047
  pub steps : 1 ≤ f.steps
  pub input_place : f.input_place ≤ 16777216
  pub directive : f.directive ≤ 64
  pub left_out : f.left_out ≡ true → 1 ≤ f.directive
  pub number : 1 ≤ f.number

-- a digest of 32 bytes
abbrev pub IsDigest : List ℕ → Type 0
IsDigest bytes = (length bytes ≡ 32) × IsBytes bytes

-- Fields that their types hold and that are in range.
pub record AreFields (f : Fields) : Type 0 where
  pub source : IsDigest f.marks.source
  pub input : IsDigest f.marks.input
  pub steps : f.steps < 2 ^ 64
  pub output_length : f.output_length < 2 ^ 64
  pub number : f.number < 2 ^ 32
  pub ranges : InRange f

-- an image that a record can spell
pub record IsImage (i : Image) : Type 0 where
  pub fields : AreFields i.fields
  pub runs : AreRuns 0 i.runs
  pub count : length i.runs ≤ 131072

-- the ranges of the fields of a header
pub record IsHeader (h : Header) : Type 0 where
  pub generation : 1 ≤ h.generation
  pub every : 1 ≤ h.every
  pub max_least : 2 ≤ h.max
  pub max_most : h.max ≤ 64

-- a header whose fields its types hold and that are in range
pub record IsHeldHeader (h : Header) : Type 0 where
  pub generation : h.generation < 2 ^ 32
  pub every : h.every < 2 ^ 32
  pub ranges : IsHeader h
