-- The slots of a pool: the bytes of each job, and their exclusive-or.
use Rattle.std.specs.Prelude.{◌≡◌, ◌≢◌, ℕ, zero, suc, ◌+◌, ◌-◌, ◌<◌, ◌≤◌, nat_lt, if◌then◌else◌, List, [], ◌∷◌, ◌++◌, length, replicate, get_or, bit_xor, Option, Some, None}
use Rattle.sha2.specs.Sha256.{sha256}
use Rattle.parity_store.specs.declared.header.PoolHeader.{PoolHeader}
use Rattle.parity_store.specs.Layout.{length_in, digest_in, slot_in, pool_length}

-- byte by byte, as far as both go
unfoldable pub exclusive_or : List ℕ → List ℕ → List ℕ
exclusive_or [] ys = []
exclusive_or (x ∷ xs) [] = []
exclusive_or (x ∷ xs) (y ∷ ys) = bit_xor x y ∷ exclusive_or xs ys

-- the exclusive-or of the first n slots of a size
unfoldable pub parity : ℕ → (ℕ → List ℕ) → ℕ → List ℕ
parity size slots zero = replicate size 0
parity size slots (suc n) = exclusive_or (parity size slots n) (slots n)

-- bytes filled up with zeros to a size
abbrev pub padded : ℕ → List ℕ → List ℕ
padded size bytes = bytes ++ replicate (size - length bytes) 0

-- the slot of a job
abbrev pub job_slot : ℕ → List (List ℕ) → ℕ → List ℕ
job_slot size list i = padded size (get_or list i [])

-- slot i of the byte lists of all jobs; behind those of the jobs stands their exclusive-or
abbrev pub slot_of : ℕ → List (List ℕ) → ℕ → List ℕ
slot_of size list i = if nat_lt i (length list) then job_slot size list i else parity size (job_slot size list) (length list)

-- the length that is kept of it
abbrev pub length_of : ℕ → List (List ℕ) → ℕ → ℕ
length_of size list i = if nat_lt i (length list) then length (get_or list i []) else size

-- a slot has the digest that is kept of it
abbrev pub Matches : PoolHeader → List ℕ → ℕ → Type 0
Matches h file i = sha256 (slot_in h file i) ≡ digest_in file i

-- it has another one
abbrev pub IsLost : PoolHeader → List ℕ → ℕ → Type 0
IsLost h file i = sha256 (slot_in h file i) ≢ digest_in file i

-- A good pool file for the byte lists of its jobs, but that in one slot, if any, other bytes stand, which have another digest.
pub record IsPoolBut (lost : Option ℕ) (h : PoolHeader) (list : List (List ℕ)) (file : List ℕ) : Type 0 where
  pub jobs : length list ≡ h.jobs
  pub fits : (i : ℕ) → i < h.jobs → length (get_or list i []) ≤ h.size
  pub whole : length file ≡ pool_length h
  pub lengths : (i : ℕ) → i ≤ h.jobs → length_in file i ≡ length_of h.size list i
  pub digests : (i : ℕ) → i ≤ h.jobs → digest_in file i ≡ sha256 (slot_of h.size list i)
  pub slots : (i : ℕ) → i ≤ h.jobs → lost ≢ Some i → slot_in h file i ≡ slot_of h.size list i
  pub replaced : (i : ℕ) → lost ≡ Some i → (i ≤ h.jobs) × IsLost h file i

-- a good pool file: its slots are the byte lists, filled up, and their exclusive-or, with their lengths and digests
abbrev pub IsPool : PoolHeader → List (List ℕ) → List ℕ → Type 0
IsPool h list file = IsPoolBut None h list file

-- the least slot from one on that is lost, as its number counted from 1
abbrev pub IsLeastLost : PoolHeader → List ℕ → ℕ → Option ℕ → Type 0
IsLeastLost h file from None = (i : ℕ) → from ≤ i → i ≤ h.jobs → Matches h file i
IsLeastLost h file from (Some number) =
    (k : ℕ) × (number ≡ k + 1) × (from ≤ k) × (k ≤ h.jobs) × IsLost h file k × ((i : ℕ) → from ≤ i → i < k → Matches h file i)

-- The two least lost slots. Behind none there is no next one.
abbrev pub AreLeastLost : PoolHeader → List ℕ → Option ℕ → Option ℕ → Type 0
AreLeastLost h file None second = IsLeastLost h file 0 None × (second ≡ None)
AreLeastLost h file (Some first) second = IsLeastLost h file 0 (Some first) × IsLeastLost h file first second

-- no slot is lost, or one alone
abbrev pub AtMostOne : PoolHeader → List ℕ → Option ℕ → Type 0
AtMostOne h file lost = AreLeastLost h file lost None
