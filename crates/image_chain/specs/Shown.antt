-- The record that stands at a known place.
use Rattle.std.specs.Prelude.{◌≡◌, ◌≢◌, ℕ, ◌+◌, ◌-◌, ◌^◌, ◌≤◌, min, get_or, List, ◌∷◌, ◌++◌, length, take, drop, IsTrue, Result, Ok, Err}
use Rattle.disk_model.specs.declared.disk_file.DiskFile.{DiskFile}
use Rattle.disk_model.specs.Store.{file_of}
use Rattle.disk_model.specs.View.{View}
use Rattle.image_format.specs.Image.{Image}
use Rattle.image_format.specs.Spelling.{image_length}
use Rattle.image_format.specs.Reading.{image_at}
use Rattle.image_chain.specs.ChainView.{ChainView}
use Rattle.image_chain.specs.declared.chain.Span.{Span}
use Rattle.image_chain.specs.declared.fault.ChainFault.{ChainFault}
use Rattle.image_chain.specs.declared.fault.ChainFault.TheVariants.{Failed, Damaged}
use Rattle.image_chain.specs.Lists.{Rests}

-- where record i stands, counted from 0
abbrev pub span_at : ChainView → ℕ → Span
span_at chain i = get_or chain.current.spans i (record { at = 0; length = 0 })

-- the bytes are a record of n bytes
abbrev pub IsRecordOf : ℕ → List ℕ → Type 0
IsRecordOf n bytes = (r : Image) × (image_at bytes ≡ Ok r) × (image_length r ≡ n)

-- the place of a byte of a record in its file; there is none past 2^64 - 1
abbrev pub place_in : Span → ℕ → ℕ
place_in span p = min (span.at + p) (2 ^ 64 - 1)

-- what was read is no record, from this place on; or it is one of another length
abbrev pub IsBadAt : ℕ → Span → Result Image ℕ → Type 0
IsBadAt place span (Ok r) = (image_length r ≢ span.length) × (place ≡ place_in span 1)
IsBadAt place span (Err p) = place ≡ place_in span p

-- the damage of a file at a span where this was read, unless a call on the disk failed
abbrev pub IsNoRecord : ChainFault → DiskFile → Span → Result Image ℕ → Type 0
IsNoRecord Failed file span read = Unit {0}
IsNoRecord (Damaged f place) file span read = (f ≡ file) × IsBadAt place span read

-- the bytes of a file at a span; no record has more than 3,145,837
abbrev pub bytes_at : Span → List ℕ → List ℕ
bytes_at span bytes = take (min span.length 3145837) (drop span.at bytes)

-- what was judged are the bytes of the file at the span: they are in the room, or they are no record of that length
abbrev pub IsJudged : Result ℕ ChainFault → DiskFile → Span → List ℕ → List ℕ → Type 0
IsJudged (Ok n) file span bytes room = take n room ≡ bytes_at span bytes
IsJudged (Err e) file span bytes room = IsNoRecord e file span (image_at (bytes_at span bytes))

-- the record stands in the file at a span
pub record StandsAt (span : Span) (r : Image) (file : List ℕ) : Type 0 where
  pub size : span.length ≡ image_length r
  pub short : span.length ≤ 3145837
  pub text : image_at (take span.length (drop span.at file)) ≡ Ok r

-- the call answers the length of the record, which is in the room, unless a call on the disk failed
abbrev pub IsShown : Result ℕ ChainFault → Image → List ℕ → Type 0
IsShown (Ok n) r room = (n ≡ image_length r) × (image_at (take n room) ≡ Ok r)
IsShown (Err Failed) r room = Unit {0}
IsShown (Err (Damaged f place)) r room = ⊥

-- where a chain at rest has a record behind i others, that record is shown
abbrev pub ShowsRecord : ChainView → View → ℕ → Result ℕ ChainFault → List ℕ → Type 0
ShowsRecord chain v i result room = IsTrue v.tells → (before : List Image) (r : Image) (after : List Image) → length before ≡ i → Rests chain v (before ++ r ∷ after) → IsShown result r room

-- where the disk tells, what was judged are the bytes of the current file at the span of record i
abbrev pub JudgesRecord : ChainView → View → ℕ → Result ℕ ChainFault → List ℕ → Type 0
JudgesRecord chain v i result room = IsTrue v.tells → IsJudged result chain.current.file (span_at chain i) (file_of chain.current.file v.seen) room
