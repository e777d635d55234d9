-- A pool file while it is written: a closed gate, and behind it its text, piece by piece.
use Rattle.std.specs.Prelude.{◌≡◌, ◌≢◌, ◌⊎◌, ℕ, zero, suc, ◌+◌, ◌==◌, if◌then◌else◌, List, [], ◌∷◌, ◌++◌, length, take, replicate, Option, Some, None}
use Rattle.std.specs.Int.{w32, to_be_bytes}
use Rattle.sha2.specs.Sha256.{sha256}
use Rattle.disk_model.specs.declared.disk_file.DiskFile.{DiskFile}
use Rattle.disk_model.specs.Store.{Store, file_of}
use Rattle.disk_model.specs.View.{View, On, SameFile}
use Rattle.disk_model.specs.Moments.{Among, LeavesOnly}
use Rattle.parity_store.specs.declared.header.PoolHeader.{PoolHeader}
use Rattle.parity_store.specs.declared.piece.Pieces.{Pieces}
use Rattle.parity_store.specs.Layout.{pool_head, slot_in, entry_in}
use Rattle.parity_store.specs.Pools.{IsAside}
use Rattle.parity_store.specs.Slots.{exclusive_or, parity, padded}

-- the file begins with the header and a closed gate
abbrev pub IsShut : PoolHeader → List ℕ → Type 0
IsShut h file = take 16 file ≡ pool_head h ++ 0 ∷ []

-- the file is the header, a gate and the text
abbrev pub IsGated : PoolHeader → List ℕ → List ℕ → Type 0
IsGated h text file = (gate : ℕ) × (file ≡ pool_head h ++ gate ∷ text)

-- every file but one is as it was
abbrev pub OnlyFile : DiskFile → View → View → Type 0
OnlyFile f old new = (g : DiskFile) → g ≢ f → SameFile g old new

-- So much of the text was given to the pieces: the whole ones were written behind a closed gate.
pub record IsWriting (w : Pieces) (h : PoolHeader) (v : View) (text : List ℕ) : Type 0 where
  pub written : List ℕ
  pub is : written ++ take w.held w.piece ≡ text
  pub place : w.at ≡ 16 + length written
  pub reads : file_of w.file v.seen ≡ pool_head h ++ 0 ∷ written
  pub left : (c : Store) → v.may_leave c → IsShut h (file_of w.file c)

-- all of the text is behind a closed gate, as far as a crash leaves it
pub record IsWritten (f : DiskFile) (h : PoolHeader) (v : View) (text : List ℕ) : Type 0 where
  pub reads : file_of f v.seen ≡ pool_head h ++ 0 ∷ text
  pub left : (c : Store) → v.may_leave c → IsShut h (file_of f c)

-- the text is behind an open gate for good
pub record IsOut (f : DiskFile) (h : PoolHeader) (v : View) (text : List ℕ) : Type 0 where
  pub reads : file_of f v.seen ≡ pool_head h ++ 165 ∷ text
  pub left : (c : Store) → v.may_leave c → file_of f c ≡ pool_head h ++ 165 ∷ text

-- One file alone was written, and its gate stayed closed.
pub record Wrote (f : DiskFile) (h : PoolHeader) (old new : View) : Type 0 where
  pub moments : LeavesOnly old new (Among old.may_leave (On f (λ _ bytes. IsShut h bytes)))
  pub others : OnlyFile f old new

-- the file is aside of a generation, or the text is behind its open gate
abbrev pub IsAsideOrOut : DiskFile → PoolHeader → ℕ → List ℕ → List ℕ → Type 0
IsAsideOrOut f h g text bytes = IsAside f g bytes ⊎ (bytes ≡ pool_head h ++ 165 ∷ text)

-- A crash at each moment leaves the file aside, or the text behind its open gate, and the others as they were.
abbrev pub Puts : DiskFile → PoolHeader → ℕ → List ℕ → View → View → Type 0
Puts f h g text old new = LeavesOnly old new (Among old.may_leave (On f (λ _ bytes. IsAsideOrOut f h g text bytes)))

-- the first n of some byte lists, one behind the other
unfoldable pub joined : (ℕ → List ℕ) → ℕ → List ℕ
joined part zero = []
joined part (suc n) = joined part n ++ part n

-- the exclusive-or with slot i, unless it is slot k
abbrev pub sum_but : (k i : ℕ) → List ℕ → List ℕ → List ℕ
sum_but k i sum slot = if i == k then sum else exclusive_or sum slot

-- the exclusive-or of the first n slots but one
unfoldable pub parity_but : ℕ → ℕ → (ℕ → List ℕ) → ℕ → List ℕ
parity_but k size slots zero = replicate size 0
parity_but k size slots (suc n) = sum_but k n (parity_but k size slots n) (slots n)

-- slot i as a put writes it: the new bytes of the job, the rebuilt slot, or what stands in the file
abbrev pub put_slot : PoolHeader → List ℕ → (job : ℕ) (bytes : List ℕ) → Option ℕ → (rebuilt : List ℕ) → ℕ → List ℕ
put_slot h file job bytes None rebuilt i = if i == job then padded h.size bytes else slot_in h file i
put_slot h file job bytes (Some number) rebuilt i = if i == job then padded h.size bytes else (if i + 1 == number then rebuilt else slot_in h file i)

-- entry i as a put writes it: the new one of the job, or what stands in the file
abbrev pub put_entry : List ℕ → (job : ℕ) (entry : List ℕ) → ℕ → List ℕ
put_entry file job entry i = if i == job then entry else entry_in file i

-- the entry of a slot that keeps this many bytes
abbrev pub entry_bytes : ℕ → List ℕ → List ℕ
entry_bytes n slot = to_be_bytes w32 n ++ sha256 slot

-- the slot that is rebuilt, where one is lost
abbrev pub IsRebuilt : PoolHeader → List ℕ → Option ℕ → List ℕ → Type 0
IsRebuilt h file lost rebuilt = (k : ℕ) → lost ≡ Some (k + 1) → rebuilt ≡ parity_but k h.size (slot_in h file) (h.jobs + 1)

-- the exclusive-or of the slots as a put writes them
abbrev pub put_parity : PoolHeader → List ℕ → (job : ℕ) (bytes : List ℕ) → Option ℕ → (rebuilt : List ℕ) → List ℕ
put_parity h file job bytes lost rebuilt = parity h.size (put_slot h file job bytes lost rebuilt) h.jobs

-- the entries and the slots as a put writes them, the parity slot last
abbrev pub put_text : PoolHeader → List ℕ → (job : ℕ) (bytes : List ℕ) → Option ℕ → (rebuilt : List ℕ) → List ℕ
put_text h file job bytes lost rebuilt =
    let last = put_parity h file job bytes lost rebuilt in
    joined (put_entry file job (entry_bytes (length bytes) (padded h.size bytes))) h.jobs ++ entry_bytes h.size last
    ++ (joined (put_slot h file job bytes lost rebuilt) h.jobs ++ last)

-- the text of a pool in which no job has bytes
abbrev pub empty_text : (jobs size : ℕ) → List ℕ
empty_text jobs size = joined (λ _. entry_bytes 0 (replicate size 0)) jobs ++ entry_bytes size (replicate size 0) ++ joined (λ _. replicate size 0) (jobs + 1)
