-- What a crash leaves of the chain at each moment, by lists of records.
use Rattle.std.specs.Prelude.{◌≡◌, ◌⊎◌, ℕ, ◌+◌, IsTrue, List, [], ◌∷◌, ◌++◌, length, Option, Some, None, Result, Ok, IfOk}
use Rattle.ckpt_base.specs.declared.errors.Failed.{Failed}
use Rattle.disk_model.specs.declared.disk_file.DiskFile.{DiskFile}
use Rattle.disk_model.specs.declared.disk_file.DiskFile.TheVariants.{Output, One, Two}
use Rattle.disk_model.specs.Store.{Store, file_of}
use Rattle.disk_model.specs.View.{View, SameFile}
use Rattle.disk_model.specs.Moments.{Among, LeavesOnly}
use Rattle.image_format.specs.declared.header.Header.{Header}
use Rattle.image_format.specs.Image.{Image}
use Rattle.image_chain.specs.declared.chain.Current.{Current}
use Rattle.image_chain.specs.ChainView.{ChainView}
use Rattle.image_chain.specs.declared.chain.Step.{Step}
use Rattle.image_chain.specs.declared.chain.Step.TheVariants.{Piece, SyncRecord, OpenGate, SyncGate, Done}
use Rattle.image_chain.specs.Records.{Found, chain_in}
use Rattle.image_chain.specs.Append.{header_of, other, IsAtRest, IsDue, IsDueNext, Spells}

-- what is found where these records stand in this file behind this header: no chain where there is none
abbrev pub found_of : DiskFile → Header → List Image → Option Found
found_of f h [] = None
found_of f h (r ∷ rs) = Some (record { file = f; header = h; records = r ∷ rs })

-- the store has no damage, and its chain has exactly these records
abbrev pub Lists : Current → List Image → Store → Type 0
Lists chain rs s = chain_in s ≡ Ok (found_of chain.file (header_of chain) rs)

-- the output and the other image file are as in an earlier outcome
pub record OnlyCurrent (chain : Current) (old new : Store) : Type 0 where
  pub output : new.output ≡ old.output
  pub aside : file_of (other chain.file) new ≡ file_of (other chain.file) old

-- an earlier outcome, but that the chain has these records
abbrev pub IsKept : Current → List Image → Store → Store → Type 0
IsKept chain rs old new = Lists chain rs new × OnlyCurrent chain old new

-- an earlier outcome, but that the chain has these records, or these and the new one
abbrev pub IsAppended : Current → List Image → Image → Store → Store → Type 0
IsAppended chain rs r old new = (Lists chain rs new ⊎ Lists chain (rs ++ r ∷ []) new) × OnlyCurrent chain old new

-- what a crash may leave in the call that makes this step: the old list, and once the gate is being opened the old one or the new one
abbrev pub IsLeftIn : Step → Current → List Image → Image → Store → Store → Type 0
IsLeftIn (Piece i) chain rs r = IsKept chain rs
IsLeftIn SyncRecord chain rs r = IsKept chain rs
IsLeftIn OpenGate chain rs r = IsAppended chain rs r
IsLeftIn SyncGate chain rs r = IsAppended chain rs r
IsLeftIn Done chain rs r = IsKept chain rs

-- what reads give after the call that makes this step: the old list, and from the opening of the gate on the new one
abbrev pub ReadsAfter : Step → Current → List Image → Image → Store → Type 0
ReadsAfter (Piece i) chain rs r = Lists chain rs
ReadsAfter SyncRecord chain rs r = Lists chain rs
ReadsAfter OpenGate chain rs r = Lists chain (rs ++ r ∷ [])
ReadsAfter SyncGate chain rs r = Lists chain (rs ++ r ∷ [])
ReadsAfter Done chain rs r = Lists chain rs

-- What the call that makes a step promises, behind these records.
pub record Promise (before after : Current) (r : Image) (image : List ℕ) (at : Step) (result : Result Step Failed) (old new : View) (rs : List Image) : Type 0 where
  pub due : IfOk result (IsDueNext after new rs r image)
  pub reads : IfOk result (λ _. ReadsAfter at before rs r new.seen)
  -- also where the last sync fails
  pub opened : at ≡ SyncGate → Lists before (rs ++ r ∷ []) new.seen
  pub moments : LeavesOnly old new (Among old.may_leave (IsLeftIn at before rs r))
  pub output : SameFile Output old new

-- the same, where the disk tells, for each list of records behind which the step is due
abbrev pub Makes : Current → Current → List ℕ → Step → Result Step Failed → View → View → Type 0
Makes before after image at result old new = IsTrue old.tells → (rs : List Image) (r : Image) → Spells r image → IsDue before old rs image at → Promise before after r image at result old new rs

-- no record of this chain is under way, and these are its records on this disk
abbrev pub Rests : ChainView → View → List Image → Type 0
Rests chain v rs = (chain.due ≡ Piece 0) × ((behind : List ℕ) × IsAtRest chain.current v rs behind)

-- both image files are as they were
abbrev pub ImagesStay : View → View → Type 0
ImagesStay old new = SameFile One old new × SameFile Two old new

-- an earlier outcome, but that no file is current and nothing is damaged
abbrev pub HasNone : Store → Store → Type 0
HasNone old new = (chain_in new ≡ Ok None) × (new.output ≡ old.output)

-- nothing stands behind the last gate
abbrev pub IsSettled : ChainView → View → Type 0
IsSettled chain v = length (file_of chain.current.file v.seen) ≡ chain.current.gate + 1
