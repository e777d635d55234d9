-- The header of a pool file, and where its entries and its slots stand. Numbers have their highest byte first; slots are counted from 0, and the last one is the parity slot.
use Rattle.std.specs.Prelude.{ℕ, ◌+◌, ◌*◌, ◌==◌, ◌||◌, nat_lt, not, Bool, if◌then◌else◌, List, [], ◌∷◌, ◌++◌, take, drop, Result, Ok, Err, ◌≡◌, ◌≤◌, ◌<◌, ◌^◌}
use Rattle.std.specs.Str.{bytes_eq}
use Rattle.std.specs.Int.{Width, w8, w16, w32, byte_len, from_be_bytes, to_be_bytes}
use Rattle.parity_store.specs.declared.header.BadPoolHeader.{BadPoolHeader}
use Rattle.parity_store.specs.declared.header.PoolHeader.{PoolHeader}

-- the four bytes `CKPX`
abbrev pub pool_magic : List ℕ
pool_magic = 67 ∷ 75 ∷ 80 ∷ 88 ∷ []

-- a gate is open where it is this byte; any other is closed
abbrev pub is_open : ℕ → Bool
is_open gate = gate == 165

-- the gate that is written, open or closed
abbrev pub gate_of : Bool → ℕ
gate_of open_gate = if open_gate then 165 else 0

-- the 15 bytes of a header before its gate
abbrev pub pool_head : PoolHeader → List ℕ
pool_head h = pool_magic ++ (to_be_bytes w32 h.generation ++ (to_be_bytes w32 h.size ++ (to_be_bytes w16 h.jobs ++ (0 ∷ []))))

-- a number at a place
abbrev pub field : Width → ℕ → List ℕ → ℕ
field w place bytes = from_be_bytes w (take (byte_len w) (drop place bytes))

-- the header that 16 bytes spell, or the place of the first field that breaks its rule
abbrev pub pool_header_at : List ℕ → Result PoolHeader ℕ
pool_header_at bytes =
    if not (bytes_eq (take 4 bytes) pool_magic) then Err 0
    else (if nat_lt (field w32 4 bytes) 1 then Err 4
    else (if nat_lt (field w32 8 bytes) 1 || nat_lt 16777216 (field w32 8 bytes) then Err 8
    else (if nat_lt (field w16 12 bytes) 2 || nat_lt 16 (field w16 12 bytes) then Err 12
    else (if not (field w8 14 bytes == 0) then Err 14
    else Ok (record { generation = field w32 4 bytes; size = field w32 8 bytes; jobs = field w16 12 bytes; gate_open = is_open (field w8 15 bytes) })))))

-- what a function returned is what reading gives
abbrev pub GivesPoolHeader : Result PoolHeader BadPoolHeader → Result PoolHeader ℕ → Type 0
GivesPoolHeader (Ok h) read = read ≡ Ok h
GivesPoolHeader (Err e) read = read ≡ Err e.place

-- the size is 1 to 16,777,216, and there are 2 to 16 jobs
pub record InPoolRange (size jobs : ℕ) : Type 0 where
  pub size_least : 1 ≤ size
  pub size_most : size ≤ 16777216
  pub jobs_least : 2 ≤ jobs
  pub jobs_most : jobs ≤ 16

-- a header in range
pub record IsPoolHeader (h : PoolHeader) : Type 0 where
  pub generation : 1 ≤ h.generation
  pub generation_held : h.generation < 2 ^ 32
  pub ranges : InPoolRange h.size h.jobs

-- where the entry of a slot stands
abbrev pub entry_at : ℕ → ℕ
entry_at i = 16 + 36 * i

-- where a slot stands
abbrev pub slot_at : PoolHeader → ℕ → ℕ
slot_at h i = 16 + 36 * (h.jobs + 1) + h.size * i

-- how many bytes a pool file has
abbrev pub pool_length : PoolHeader → ℕ
pool_length h = 16 + (h.jobs + 1) * (36 + h.size)

-- the entry of a slot: its length, and behind that its digest
abbrev pub entry_in : List ℕ → ℕ → List ℕ
entry_in file i = take 36 (drop (entry_at i) file)

-- the length that is kept of a slot
abbrev pub length_in : List ℕ → ℕ → ℕ
length_in file i = from_be_bytes w32 (take 4 (entry_in file i))

-- the digest that is kept of a slot
abbrev pub digest_in : List ℕ → ℕ → List ℕ
digest_in file i = drop 4 (entry_in file i)

-- the bytes of a slot
abbrev pub slot_in : PoolHeader → List ℕ → ℕ → List ℕ
slot_in h file i = take h.size (drop (slot_at h i) file)
