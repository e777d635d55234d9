-- A store whose records are joined into one.
use Rattle.std.specs.Prelude.{◌≡◌, ◌⊎◌, ℕ, ◌+◌, ◌≤◌, [], ◌∷◌, length, Some, None, Ok, IsTrue}
use Rattle.disk_model.specs.Store.{Store, file_of}
use Rattle.disk_model.specs.View.{View}
use Rattle.disk_model.specs.Moments.{Among, LeavesOnly}
use Rattle.image_format.specs.Image.{Image}
use Rattle.image_chain.specs.Append.{chained_length, other}
use Rattle.image_chain.specs.Files.{FileLists}
use Rattle.image_chain.specs.Records.{Found, chain_in}
use Rattle.coalesce.specs.Join.{Joins}
use Rattle.ckpt_runner.specs.Opening.{LeavesContents}
use Rattle.store_upkeep.specs.declared.coalesced.Coalesced.{Coalesced}
use Rattle.store_upkeep.specs.declared.coalesced.Coalesced.TheVariants.{NoChain, OneRecord, Joined}

-- the store has this chain, of n records
pub record HasRecords (n : ℕ) (s : Store) (found : Found) : Type 0 where
  pub chain : chain_in s ≡ Ok (Some found)
  pub count : length found.records ≡ n

-- one chain joins another: it is of the next generation, in the other image file, and has one record that joins the other's records
pub record JoinsChain (was now : Found) : Type 0 where
  pub file : now.file ≡ other was.file
  pub header : now.header ≡ record was.header { generation = was.header.generation + 1 }
  pub image : Image
  pub joins : Joins was.records image
  pub records : now.records ≡ image ∷ []

-- the file of the chain has its records, and ends with the gate behind the last of them
pub record IsSettledIn (found : Found) (s : Store) : Type 0 where
  pub lists : FileLists found.file found.header found.records s
  pub ends : length (file_of found.file s) ≡ 16 + chained_length found.records

-- the store has a chain that joins this one
abbrev pub HasJoined : Found → Store → Type 0
HasJoined was s = (now : Found) × JoinsChain was now × (chain_in s ≡ Ok (Some now))

-- what is answered of the store as it was, and what it is then: without a chain; settled, with its one record; or settled and joined
abbrev pub IsCoalesced : Coalesced → Store → Store → Type 0
IsCoalesced NoChain old new = (chain_in old ≡ Ok None) × (chain_in new ≡ Ok None)
IsCoalesced OneRecord old new = (was : Found) × HasRecords 1 old was × IsSettledIn was new × (chain_in new ≡ Ok (Some was))
IsCoalesced (Joined n) old new = (was : Found) × HasRecords n old was × (2 ≤ n) × IsSettledIn was new × HasJoined was new

-- so it is of what reads give then, and of every crash
pub record AllCoalesced (done : Coalesced) (old new : View) : Type 0 where
  pub reads : IsCoalesced done old.seen new.seen
  pub left : (c : Store) → new.may_leave c → IsCoalesced done old.seen c

-- an earlier outcome; or its output, and the chain that reads gave at first, or one that joins it
pub record IsCoalescing (first old new : Store) : Type 0 where
  pub output : new.output ≡ old.output
  pub chain : (new ≡ old) ⊎ ((was : Found) × (chain_in first ≡ Ok (Some was)) × ((chain_in new ≡ Ok (Some was)) ⊎ HasJoined was new))

-- a crash at each moment from the first view to the second leaves one of these
abbrev pub LeavesCoalescing : View → View → Type 0
LeavesCoalescing old new = IsTrue old.tells → LeavesOnly old new (Among old.may_leave (IsCoalescing old.seen))

-- an earlier outcome, but for the file of the chain that reads gave at first
pub record OnlyChainFile (first old new : Store) : Type 0 where
  pub output : new.output ≡ old.output
  pub aside : (was : Found) → chain_in first ≡ Ok (Some was) → file_of (other was.file) new ≡ file_of (other was.file) old

-- what is left alone: all contents where there is no chain, and all but the file of the chain where it has one record
abbrev pub LeavesAlone : Coalesced → View → View → Type 0
LeavesAlone NoChain old new = LeavesContents old new
LeavesAlone OneRecord old new = IsTrue old.tells → LeavesOnly old new (Among old.may_leave (OnlyChainFile old.seen))
LeavesAlone (Joined n) old new = Unit {0}
