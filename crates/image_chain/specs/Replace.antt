-- What a joining leaves in the other image file, call by call, and of the chain.
use Rattle.std.specs.Prelude.{◌≡◌, ◌≢◌, ◌⊎◌, ℕ, ◌+◌, List, [], ◌∷◌, ◌++◌, length, take, Some, Ok, true, false}
use Rattle.disk_model.specs.declared.disk_file.DiskFile.{DiskFile}
use Rattle.disk_model.specs.declared.disk_file.DiskFile.TheVariants.{Output}
use Rattle.disk_model.specs.Store.{Store, file_of}
use Rattle.disk_model.specs.View.{View}
use Rattle.image_format.specs.declared.header.Header.{Header}
use Rattle.image_format.specs.Image.{Image, IsHeldHeader}
use Rattle.image_chain.specs.declared.chain.Current.{Current}
use Rattle.image_chain.specs.Records.{header_in, chain_in}
use Rattle.image_chain.specs.Append.{header_of, head, front, other, Keeps}
use Rattle.image_chain.specs.Lists.{found_of, Lists}

-- the header of the next generation
abbrev pub next_header : Current → Header
next_header chain = record { generation = chain.generation + 1; every = chain.every; max = chain.max; gate_open = true }

-- the store has no damage, and its chain stands in the other file, of the next generation and with this record alone
abbrev pub ListsJoined : Current → Image → Store → Type 0
ListsJoined chain r s = chain_in s ≡ Ok (found_of (other chain.file) (next_header chain) (r ∷ []))

-- the output and the file of the records are as in an earlier outcome
pub record OnlyOther (chain : Current) (old new : Store) : Type 0 where
  pub output : new.output ≡ old.output
  pub current : file_of chain.file new ≡ file_of chain.file old

-- an image file has no open gate
abbrev pub IsNotOpen : DiskFile → List ℕ → Type 0
IsNotOpen f bytes = (h : Header) → header_in f bytes ≡ Ok (Some h) → h.gate_open ≡ false

-- the other image file is as in an earlier outcome, or it is not open
abbrev pub IsAsideOrShut : Current → Store → Store → Type 0
IsAsideOrShut chain old new = (file_of (other chain.file) new ≡ file_of (other chain.file) old) ⊎ IsNotOpen (other chain.file) (file_of (other chain.file) new)

-- an earlier outcome, but that the other image file was begun: the chain has these records
abbrev pub IsBegun : Current → List Image → Store → Store → Type 0
IsBegun chain rs old new = (Lists chain rs new × IsAsideOrShut chain old new) × OnlyOther chain old new

-- the same once the other image file is not open for sure
abbrev pub IsTurned : Current → List Image → Image → Store → Store → Type 0
IsTurned chain rs r old new = ((Lists chain rs new × IsNotOpen (other chain.file) (file_of (other chain.file) new)) ⊎ ListsJoined chain r new) × OnlyOther chain old new

-- an earlier outcome, but that the chain has these records, or the one joined record
abbrev pub IsReplaced : Current → List Image → Image → Store → Store → Type 0
IsReplaced chain rs r old new = ((Lists chain rs new × IsAsideOrShut chain old new) ⊎ ListsJoined chain r new) × OnlyOther chain old new

-- The chain stands on the other file, of the next generation and with one record, and its newest record says what it said.
pub record StandsOnOther (old new : Current) : Type 0 where
  pub file : new.file ≡ other old.file
  pub header : header_of new ≡ next_header old
  pub count : new.count ≡ 1
  pub newest : new.newest ≡ old.newest

-- The records stand on the disk as they did, and may be followed by the next generation. Beside them is the other image file, of which reads give this text, and a crash what has P.
pub record IsBeside (chain : Current) (v : View) (rs : List Image) (text : List ℕ) (P : List ℕ → Type 0) : Type 0 where
  pub keeps : Keeps chain rs
  pub next : IsHeldHeader (next_header chain)
  pub image_file : chain.file ≢ Output
  pub gate : ℕ
  pub behind : List ℕ
  pub closed : gate ≢ 165
  pub stays : (c : Store) → v.may_leave c → file_of chain.file c ≡ front chain rs ++ gate ∷ behind
  pub reads : file_of (other chain.file) v.seen ≡ text
  pub left : (c : Store) → v.may_leave c → P (file_of (other chain.file) c)

-- the file begins with a header and a closed gate
abbrev pub IsShut : Header → List ℕ → Type 0
IsShut h file = take (length (head h) + 1) file ≡ head h ++ 0 ∷ []

-- the other file has the next header with a closed gate, and these bytes behind it, as far as a crash leaves them
abbrev pub IsWritten : Current → View → List Image → List ℕ → Type 0
IsWritten chain v rs bytes = IsBeside chain v rs (head (next_header chain) ++ 0 ∷ bytes) (IsShut (next_header chain))

-- and each crash leaves them
abbrev pub IsWhole : Current → View → List Image → List ℕ → Type 0
IsWhole chain v rs bytes = IsBeside chain v rs (head (next_header chain) ++ 0 ∷ bytes) (λ file. file ≡ head (next_header chain) ++ 0 ∷ bytes)

-- the gate before them reads as open, and a crash may leave it torn
abbrev pub IsOpening : Current → View → List Image → List ℕ → Type 0
IsOpening chain v rs bytes = IsBeside chain v rs (head (next_header chain) ++ 165 ∷ bytes) (λ file. (torn : ℕ) × (file ≡ head (next_header chain) ++ torn ∷ bytes))

-- and each crash leaves it open
abbrev pub IsOpen : Current → View → List Image → List ℕ → Type 0
IsOpen chain v rs bytes = IsBeside chain v rs (head (next_header chain) ++ 165 ∷ bytes) (λ file. file ≡ head (next_header chain) ++ 165 ∷ bytes)
