-- The pool of a store: its current file, and every kind of damage.
use Rattle.std.specs.Prelude.{◌≡◌, ◌≢◌, ℕ, zero, suc, ◌+◌, ◌<◌, min, nat_lt, ◌==◌, true, if◌then◌else◌, List, [], ◌∷◌, length, take, Option, Some, None, Result, Ok, Err}
use Rattle.ckpt_base.specs.Faults.{Rose}
use Rattle.disk_model.specs.declared.disk_file.DiskFile.{DiskFile}
use Rattle.disk_model.specs.declared.disk_file.DiskFile.TheVariants.{Output, One, Two}
use Rattle.disk_model.specs.Store.{Store, file_of}
use Rattle.parity_store.specs.declared.fault.PoolFault.{PoolFault}
use Rattle.parity_store.specs.declared.fault.PoolFault.TheVariants.{Failed, Damaged}
use Rattle.parity_store.specs.declared.header.PoolHeader.{PoolHeader}
use Rattle.parity_store.specs.Layout.{IsPoolHeader, pool_header_at, entry_at, length_in, pool_length}

infixl 10 ◌>>=◌
abbrev pub ◌>>=◌ : {A B E : Type 0} → Result A E → (A → Result B E) → Result B E
(Ok x) >>= f = f x
(Err e) >>= f = Err e

-- the file that is damaged, and the place
pub record Damage : Type 0 where
  pub file : DiskFile
  pub place : ℕ

abbrev pub damaged : {A : Type 0} → DiskFile → ℕ → Result A Damage
damaged f place = Err (record { file = f; place = place })

-- the header that was read, or damage at its place
abbrev pub header_or_damage : DiskFile → Result PoolHeader ℕ → Result (Option PoolHeader) Damage
header_or_damage f (Ok h) = Ok (Some h)
header_or_damage f (Err place) = damaged f place

-- The header of a pool file, or none where the file is empty. A file of 1 to 15 bytes is damaged at its front.
unfoldable pub pool_header_in : DiskFile → List ℕ → Result (Option PoolHeader) Damage
pool_header_in f [] = Ok None
pool_header_in f (b ∷ bytes) = if nat_lt (length bytes) 15 then damaged f 0 else header_or_damage f (pool_header_at (take 16 (b ∷ bytes)))

-- a header whose gate is open
abbrev pub only_open : Option PoolHeader → Option PoolHeader
only_open None = None
only_open (Some h) = if h.gate_open then Some h else None

-- The current file is the one of greater generation among those with an open gate. Equal generations are damage of file Two.
abbrev pub newer : Option PoolHeader → Option PoolHeader → Result (Option (DiskFile × PoolHeader)) Damage
newer None None = Ok None
newer (Some one) None = Ok (Some (One, one))
newer None (Some two) = Ok (Some (Two, two))
newer (Some one) (Some two) =
    if one.generation == two.generation then damaged Two 4
    else (if nat_lt two.generation one.generation then Ok (Some (One, one)) else Ok (Some (Two, two)))

-- The length of the parity slot is the size, and no other length is above it, from slot i on.
unfoldable pub lengths_from : ℕ → DiskFile → PoolHeader → List ℕ → ℕ → Result (Unit {0}) Damage
lengths_from zero f h file i = if length_in file i == h.size then Ok tt else damaged f (entry_at i)
lengths_from (suc left) f h file i = if nat_lt h.size (length_in file i) then damaged f (entry_at i) else lengths_from left f h file (i + 1)

-- the file has its length, and the lengths of its slots fit
unfoldable pub pool_text_in : DiskFile → PoolHeader → List ℕ → Result (Unit {0}) Damage
pool_text_in f h file =
    if length file == pool_length h then lengths_from h.jobs f h file 0 else damaged f (min (length file) (pool_length h))

abbrev pub found_in : Store → Option (DiskFile × PoolHeader) → Result (Option (DiskFile × PoolHeader)) Damage
found_in s None = Ok None
found_in s (Some c) = pool_text_in c.0 c.1 (file_of c.0 s) >>= λ _. Ok (Some c)

-- the current file as the headers tell it
unfoldable pub current_in : Store → Result (Option (DiskFile × PoolHeader)) Damage
current_in s =
    pool_header_in One s.one >>= λ one.
    pool_header_in Two s.two >>= λ two.
    newer (only_open one) (only_open two)

-- The current file of a store with its header: none where no file is current. Else the damage that comes first: of the headers, of both, of the current file.
unfoldable pub pool_in : Store → Result (Option (DiskFile × PoolHeader)) Damage
pool_in s = current_in s >>= λ current. found_in s current

-- what was found is an image file with a header in range
abbrev pub IsHeldFound : Option (DiskFile × PoolHeader) → Type 0
IsHeldFound None = Unit {0}
IsHeldFound (Some c) = IsPoolHeader c.1 × (c.0 ≢ Output)

-- a fault is this damage, unless a call on the disk failed
abbrev pub IsPoolDamage : {Y : Type 0} → PoolFault → Result Y Damage → Type 0
IsPoolDamage Failed read = Unit {0}
IsPoolDamage (Damaged file place) read = read ≡ Err (record { file = file; place = place })

-- what a call answered is what the store has, unless a call on the disk failed
abbrev pub AnswersPool : {X : Type 0} → Result X PoolFault → Result X Damage → Type 0
AnswersPool (Ok x) read = read ≡ Ok x
AnswersPool (Err e) read = IsPoolDamage e read

-- the count rose where the fault is that a call on the disk failed, and is the same where it is damage
abbrev pub PoolRose : PoolFault → ℕ → ℕ → Type 0
PoolRose Failed old new = Rose old new
PoolRose (Damaged file place) old new = new ≡ old

-- the other image file
abbrev pub other : DiskFile → DiskFile
other Output = One
other One = Two
other Two = One

-- A file beside the current one: it is empty or has a good header, and where its gate is open its generation is smaller.
pub record IsAside (f : DiskFile) (generation : ℕ) (bytes : List ℕ) : Type 0 where
  pub header : Option PoolHeader
  pub is : pool_header_in f bytes ≡ Ok header
  pub older : (h : PoolHeader) → header ≡ Some h → h.gate_open ≡ true → h.generation < generation
