-- A pool on a disk, and what its calls leave.
use Rattle.std.specs.Prelude.{◌≡◌, ◌≢◌, ◌⊎◌, ℕ, ◌+◌, true, List, Option, Some, None, Ok}
use Rattle.ckpt_base.specs.Faults.{Rose}
use Rattle.disk_model.specs.declared.disk_file.DiskFile.{DiskFile}
use Rattle.disk_model.specs.declared.disk_file.DiskFile.TheVariants.{Output, One}
use Rattle.disk_model.specs.Store.{Store, file_of}
use Rattle.disk_model.specs.View.{View}
use Rattle.parity_store.specs.declared.fault.SlotFault.{SlotFault}
use Rattle.parity_store.specs.declared.fault.SlotFault.TheVariants.{Failed, Lost, UsedUp}
use Rattle.parity_store.specs.declared.header.PoolHeader.{PoolHeader}
use Rattle.parity_store.specs.Slots.{IsPool, AreLeastLost, AtMostOne}
use Rattle.parity_store.specs.Pools.{pool_header_in, pool_text_in, pool_in, other, IsAside}

-- what contracts see of a pool: its current file and the header of that
pub record PoolView : Type 0 where
  pub file : DiskFile
  pub header : PoolHeader

-- The pool stands on this disk: its file reads as a good one and is lasting, and the other image file is aside.
pub record StandsOn (pool : PoolView) (v : View) : Type 0 where
  pub image_file : pool.file ≢ Output
  pub gate : pool.header.gate_open ≡ true
  pub header : pool_header_in pool.file (file_of pool.file v.seen) ≡ Ok (Some pool.header)
  pub text : pool_text_in pool.file pool.header (file_of pool.file v.seen) ≡ Ok tt
  pub lasting : (c : Store) → v.may_leave c → file_of pool.file c ≡ file_of pool.file v.seen
  pub aside : (c : Store) → v.may_leave c → IsAside (other pool.file) pool.header.generation (file_of (other pool.file) c)

-- the bytes of the pool's file, as reads give them
abbrev pub file_on : PoolView → View → List ℕ
file_on pool v = file_of pool.file v.seen

-- what was opened on this disk: no crash leaves a pool, or the pool stands
abbrev pub IsOpened : Option PoolView → View → Type 0
IsOpened None v = (c : Store) → v.may_leave c → pool_in c ≡ Ok None
IsOpened (Some pool) v = StandsOn pool v

-- what was found
abbrev pub found_of : Option PoolView → Option (DiskFile × PoolHeader)
found_of None = None
found_of (Some pool) = Some (pool.file, pool.header)

-- The pool was read from this store.
pub record IsReadFrom (pool : PoolView) (s : Store) : Type 0 where
  pub image_file : pool.file ≢ Output
  pub gate : pool.header.gate_open ≡ true
  pub header : pool_header_in pool.file (file_of pool.file s) ≡ Ok (Some pool.header)
  pub text : pool_text_in pool.file pool.header (file_of pool.file s) ≡ Ok tt
  pub aside : IsAside (other pool.file) pool.header.generation (file_of (other pool.file) s)

-- what was found in this store
abbrev pub IsFoundIn : Option PoolView → Store → Type 0
IsFoundIn None s = pool_in s ≡ Ok None
IsFoundIn (Some pool) s = (pool_in s ≡ Ok (Some (pool.file, pool.header))) × IsReadFrom pool s

-- the header of the next generation
abbrev pub next_header : PoolHeader → PoolHeader
next_header h = record { generation = h.generation + 1; size = h.size; jobs = h.jobs; gate_open = true }

-- the header that a new pool has
abbrev pub first_header : ℕ → ℕ → PoolHeader
first_header jobs size = record { generation = 1; size = size; jobs = jobs; gate_open = true }

-- the current file of a store is this one, without damage, and a pool for the list
abbrev pub HasPool : DiskFile → PoolHeader → List (List ℕ) → Store → Type 0
HasPool f h list s = (pool_in s ≡ Ok (Some (f, h))) × IsPool h list (file_of f s)

-- An earlier outcome, but that the other image file was written: current is the file of before, or the other one, of the next generation and for the new list.
pub record IsPutting (pool : PoolView) (list : List (List ℕ)) (old new : Store) : Type 0 where
  pub output : new.output ≡ old.output
  pub entry : file_of pool.file new ≡ file_of pool.file old
  pub current : (pool_in new ≡ Ok (Some (pool.file, pool.header))) ⊎ HasPool (other pool.file) (next_header pool.header) list new

-- An earlier outcome, but that file One was written: no file is current, or file One is, for the list.
pub record IsMaking (h : PoolHeader) (list : List (List ℕ)) (old new : Store) : Type 0 where
  pub output : new.output ≡ old.output
  pub aside : new.two ≡ old.two
  pub current : (pool_in new ≡ Ok None) ⊎ HasPool One h list new

-- why a call on a slot answers a fault: a call on the disk failed, the two least lost slots, or there is no free generation and at most one slot is lost
abbrev pub IsSlotFault : SlotFault → PoolHeader → List ℕ → Type 0
IsSlotFault Failed h file = Unit {0}
IsSlotFault (Lost first second) h file = AreLeastLost h file (Some first) (Some second)
IsSlotFault UsedUp h file = (lost : Option ℕ) × AtMostOne h file lost

-- no generation is free where that is answered
abbrev pub IsUsedUp : SlotFault → PoolHeader → Type 0
IsUsedUp Failed h = Unit {0}
IsUsedUp (Lost first second) h = Unit {0}
IsUsedUp UsedUp h = h.generation ≡ 4294967295

-- the count rose where the fault is that a call on the disk failed, and is the same elsewhere
abbrev pub SlotRose : SlotFault → ℕ → ℕ → Type 0
SlotRose Failed old new = Rose old new
SlotRose (Lost first second) old new = new ≡ old
SlotRose UsedUp old new = new ≡ old

-- a slot of which other bytes stand, as its number counted from 1
abbrev pub number_of_lost : Option ℕ → Option ℕ
number_of_lost None = None
number_of_lost (Some i) = Some (i + 1)
