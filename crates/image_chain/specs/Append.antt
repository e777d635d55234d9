-- What an append leaves in the file, call by call.
use Rattle.std.specs.Prelude.{◌≡◌, ◌≢◌, ℕ, ◌+◌, ◌*◌, ◌<◌, ◌≤◌, nat_lt, true, if◌then◌else◌, List, [], ◌∷◌, ◌++◌, length, take, Option, Some, None, Ok}
use Rattle.std.specs.List.{AllByRecursion}
use Rattle.std.specs.Int.{w16, w32, div_ceil, to_be_bytes}
use Rattle.disk_model.specs.declared.disk_file.DiskFile.{DiskFile}
use Rattle.disk_model.specs.declared.disk_file.DiskFile.TheVariants.{Output, One, Two}
use Rattle.disk_model.specs.Store.{Store, file_of}
use Rattle.disk_model.specs.View.{View}
use Rattle.image_format.specs.declared.fields.Fields.{Fields}
use Rattle.image_format.specs.declared.header.Header.{Header}
use Rattle.image_format.specs.Image.{Image, IsImage, IsHeldHeader}
use Rattle.image_format.specs.Spelling.{magic, text, spelling, image_length}
use Rattle.image_chain.specs.declared.chain.Current.{Current}
use Rattle.image_chain.specs.declared.chain.Span.{Span}
use Rattle.image_chain.specs.declared.chain.Step.{Step}
use Rattle.image_chain.specs.declared.chain.Step.TheVariants.{Piece, SyncRecord, OpenGate, SyncGate, Done}
use Rattle.image_chain.specs.Records.{header_in, broken_field, newest_of}
use Rattle.image_chain.specs.Sound.{IsNumbered, IsSound}

-- the header of the file of a chain that has records
abbrev pub header_of : Current → Header
header_of chain = record { generation = chain.generation; every = chain.every; max = chain.max; gate_open = true }

-- what a chain keeps of its file is sound
abbrev pub IsSoundFile : Current → Type 0
IsSoundFile chain = IsSound chain.generation chain.every chain.max chain.count chain.newest

-- the 15 bytes of a header before its gate
abbrev pub head : Header → List ℕ
head h = magic ++ (to_be_bytes w32 h.generation ++ (to_be_bytes w32 h.every ++ (to_be_bytes w16 h.max ++ (0 ∷ []))))

-- records, each behind an open gate
abbrev pub chained : List Image → List ℕ
chained [] = []
chained (r ∷ rs) = 165 ∷ (text r ++ chained rs)

-- how many bytes records have with the gates before them
abbrev pub chained_length : List Image → ℕ
chained_length [] = 0
chained_length (r ∷ rs) = image_length r + chained_length rs

-- each record follows the one before it
abbrev pub AreInOrder : Option Fields → List Image → Type 0
AreInOrder newest [] = Unit {0}
AreInOrder newest (r ∷ rs) = (broken_field newest r.fields ≡ None) × AreInOrder (Some r.fields) rs

-- where records stand, the first at this place
abbrev pub spans_of : ℕ → List Image → List Span
spans_of at [] = []
spans_of at (r ∷ rs) = record { at = at; length = image_length r } ∷ spans_of (at + image_length r) rs

-- one record more, of n bytes behind the last gate
abbrev pub TakesSpan : Current → Current → ℕ → Type 0
TakesSpan old new n = take (old.count + 1) new.spans ≡ take old.count old.spans ++ record { at = old.gate + 1; length = n } ∷ []

-- what a chain keeps of its records
pub record Keeps (chain : Current) (rs : List Image) : Type 0 where
  pub header : IsHeldHeader (header_of chain)
  pub images : AllByRecursion IsImage rs
  pub order : AreInOrder None rs
  pub few : length rs ≤ chain.max
  pub number : IsNumbered (chain.generation + length rs) (newest_of None rs)
  pub count : chain.count ≡ length rs
  pub newest : chain.newest ≡ newest_of None rs
  pub gate : chain.gate ≡ 15 + chained_length rs
  pub newest_at : (before : List Image) (r : Image) → rs ≡ before ++ r ∷ [] → chain.newest_at ≡ 16 + chained_length before
  pub spans : take (length rs) chain.spans ≡ spans_of 16 rs

-- what stands in the file of a chain before its last gate
abbrev pub front : Current → List Image → List ℕ
front chain rs = head (header_of chain) ++ chained rs

-- the other image file
abbrev pub other : DiskFile → DiskFile
other Output = One
other One = Two
other Two = One

-- An image file beside the current one: it is empty or has a good header, and where its gate is open the chain has a record and a greater generation.
pub record IsAside (f : DiskFile) (generation count : ℕ) (bytes : List ℕ) : Type 0 where
  pub header : Option Header
  pub is : header_in f bytes ≡ Ok header
  pub older : (h : Header) → header ≡ Some h → h.gate_open ≡ true → (1 ≤ count) × (h.generation < generation)

-- each outcome of a crash has the other file aside
pub record Alone (chain : Current) (v : View) (rs : List Image) : Type 0 where
  pub image_file : chain.file ≢ Output
  pub aside : (c : Store) → v.may_leave c → IsAside (other chain.file) chain.generation (length rs) (file_of (other chain.file) c)

-- No record is under way: the file is on the disk as it reads, its records stand before a gate that is not open, and `behind` stands behind that gate.
pub record IsAtRest (chain : Current) (v : View) (rs : List Image) (behind : List ℕ) : Type 0 where
  pub keeps : Keeps chain rs
  pub alone : Alone chain v rs
  pub gate : ℕ
  pub closed : gate ≢ 165
  pub reads : file_of chain.file v.seen ≡ front chain rs ++ gate ∷ behind
  pub left : (c : Store) → v.may_leave c → file_of chain.file c ≡ front chain rs ++ gate ∷ behind

-- the bytes are the record of the image, with a closed last gate
pub record Spells (image : Image) (bytes : List ℕ) : Type 0 where
  pub is_image : IsImage image
  pub bytes_are : bytes ≡ spelling image 0

-- the file as it reads when a step is due: before the gate, the gate, the pieces so far, and what stands behind them
abbrev pub ReadsAt : Step → List ℕ → ℕ → List ℕ → List ℕ → List ℕ → Type 0
ReadsAt (Piece i) before gate image behind file = file ≡ before ++ gate ∷ (take (4096 * i) image ++ behind)
ReadsAt SyncRecord before gate image behind file = file ≡ before ++ gate ∷ (image ++ behind)
ReadsAt OpenGate before gate image behind file = file ≡ before ++ gate ∷ (image ++ behind)
ReadsAt SyncGate before gate image behind file = file ≡ before ++ 165 ∷ (image ++ behind)
ReadsAt Done before gate image behind file = ⊥

-- what a crash may leave of it then
abbrev pub LeftAt : Step → List ℕ → ℕ → List ℕ → List ℕ → List ℕ → Type 0
LeftAt (Piece i) before gate image behind file = take (length before + 1) file ≡ before ++ gate ∷ []
LeftAt SyncRecord before gate image behind file = take (length before + 1) file ≡ before ++ gate ∷ []
LeftAt OpenGate before gate image behind file = file ≡ before ++ gate ∷ (image ++ behind)
LeftAt SyncGate before gate image behind file = (torn : ℕ) × (file ≡ before ++ torn ∷ (image ++ behind))
LeftAt Done before gate image behind file = ⊥

-- The step is due on this disk, behind the records.
pub record IsDue (chain : Current) (v : View) (rs : List Image) (image : List ℕ) (step : Step) : Type 0 where
  pub keeps : Keeps chain rs
  pub alone : Alone chain v rs
  pub gate : ℕ
  pub closed : gate ≢ 165
  pub behind : List ℕ
  pub reads : ReadsAt step (front chain rs) gate image behind (file_of chain.file v.seen)
  pub left : (c : Store) → v.may_leave c → LeftAt step (front chain rs) gate image behind (file_of chain.file c)

-- the step after this one, in a record of n bytes
abbrev pub next_of : Step → ℕ → Step
next_of (Piece i) n = if nat_lt (4096 * (i + 1)) n then Piece (i + 1) else SyncRecord
next_of SyncRecord n = OpenGate
next_of OpenGate n = SyncGate
next_of SyncGate n = Done
next_of Done n = Done

-- how many pieces a record of n bytes is written in
abbrev pub pieces_of : ℕ → ℕ
pieces_of n = div_ceil n 4096

-- how many disk calls its append takes: the pieces, and the last three steps
abbrev pub writer_calls : ℕ → ℕ
writer_calls n = pieces_of n + 3

-- the step that is due where so many of them are done
abbrev pub step_after : ℕ → ℕ → Step
step_after done n =
    if nat_lt done (pieces_of n) then Piece done
    else (if nat_lt done (pieces_of n + 1) then SyncRecord else (if nat_lt done (pieces_of n + 2) then OpenGate else SyncGate))

-- the step that is due after a call that answered this one
abbrev pub due_after : Step → Step
due_after (Piece i) = Piece i
due_after SyncRecord = SyncRecord
due_after OpenGate = OpenGate
due_after SyncGate = SyncGate
due_after Done = Piece 0

-- a step that a record of n bytes has
abbrev pub IsInside : Step → ℕ → Type 0
IsInside (Piece i) n = 4096 * i < n
IsInside SyncRecord n = Unit {0}
IsInside OpenGate n = Unit {0}
IsInside SyncGate n = Unit {0}
IsInside Done n = ⊥

-- after a call: the answered step is due, or no record is under way any more
abbrev pub IsDueNext : Current → View → List Image → Image → List ℕ → Step → Type 0
IsDueNext chain v rs r image (Piece i) = IsDue chain v rs image (Piece i)
IsDueNext chain v rs r image SyncRecord = IsDue chain v rs image SyncRecord
IsDueNext chain v rs r image OpenGate = IsDue chain v rs image OpenGate
IsDueNext chain v rs r image SyncGate = IsDue chain v rs image SyncGate
IsDueNext chain v rs r image Done = (behind : List ℕ) × IsAtRest chain v (rs ++ r ∷ []) behind

-- what the call that makes a step keeps of the current file: all, but that the last one takes the record over
abbrev pub SameCurrent : Step → Current → Current → Type 0
SameCurrent (Piece i) old new = new ≡ old
SameCurrent SyncRecord old new = new ≡ old
SameCurrent OpenGate old new = new ≡ old
SameCurrent SyncGate old new = Unit {0}
SameCurrent Done old new = new ≡ old

-- The chain has taken the record over: one record more, and it is the newest.
pub record TakesOver (old new : Current) (image : List ℕ) : Type 0 where
  pub file : new.file ≡ old.file
  pub header : header_of new ≡ header_of old
  pub count : new.count ≡ old.count + 1
  pub newest : (r : Image) → Spells r image → new.newest ≡ Some r.fields

-- a fact on the last step
abbrev pub IfLast : Step → Type 0 → Type 0
IfLast (Piece i) P = Unit {0}
IfLast SyncRecord P = Unit {0}
IfLast OpenGate P = Unit {0}
IfLast SyncGate P = P
IfLast Done P = Unit {0}
