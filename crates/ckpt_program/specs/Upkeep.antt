-- The stages of the commands that keep a store in order, each with its causes, and what these commands do to it.
use Rattle.std.specs.Prelude.{◌≡◌, ◌≤◌, ℕ, List, codes, IsTrue, Some, None, Ok, Err}
use Rattle.ckpt_base.specs.Faults.{Rose}
use Rattle.disk_model.specs.Store.{Store}
use Rattle.disk_model.specs.View.{View}
use Rattle.disk_model.specs.Plate.{Plate}
use Rattle.image_chain.specs.Records.{Found, chain_in}
use Rattle.life_lines.specs.Lines.{joined_line}
use Rattle.store_upkeep.specs.Clearing.{IsEmptied}
use Rattle.store_upkeep.specs.Coalescing.{HasRecords, IsCoalesced}
use Rattle.store_upkeep.specs.Refused.{IsUnjoined}
use Rattle.store_upkeep.specs.declared.coalesced.Coalesced.{Coalesced}
use Rattle.store_upkeep.specs.declared.coalesced.Coalesced.TheVariants.{NoChain, OneRecord, Joined}
use Rattle.store_upkeep.specs.declared.fault.JoinFault.{JoinFault}
use Rattle.store_upkeep.specs.declared.fault.JoinFault.TheVariants as joining
use Rattle.ckpt_program.specs.DiskStages.{FailsEntry}
use Rattle.ckpt_program.specs.Stage.{Stage, Told}
use Rattle.ckpt_program.specs.declared.done.Done.{Done}
use Rattle.ckpt_program.specs.declared.done.Done.TheVariants as done
use Rattle.ckpt_program.specs.declared.stop.Cause.TheVariants as cause
use Rattle.ckpt_program.specs.declared.stop.Stop.{Stop}
use Rattle.ckpt_program.specs.declared.stop.Stop.TheVariants.{NoMemory, Because}

-- ---- joining

-- the store that was found has no chain, one record, or so many
abbrev pub FindsRecords : Coalesced → Store → Type 0
FindsRecords NoChain s = chain_in s ≡ Ok None
FindsRecords OneRecord s = (found : Found) × HasRecords 1 s found
FindsRecords (Joined n) s = (2 ≤ n) × ((found : Found) × HasRecords n s found)

-- so it is, where the store is told
unfoldable pub FindsWhereTold : Plate → Coalesced → Type 0
FindsWhereTold old done = (s : Store) → old.seen ≡ Some s → FindsRecords done s

-- why the records are not joined: a call on the disk failed, or the store is damaged, where it is told
unfoldable pub FailsJoining : (old new : Plate) → JoinFault → Type 0
FailsJoining old new joining.Failed = Rose old.faults new.faults
FailsJoining old new f = (s : Store) → old.seen ≡ Some s → IsUnjoined f s

-- as a command tells it
abbrev pub stop_of_joining : JoinFault → Stop
stop_of_joining joining.Memory = NoMemory
stop_of_joining joining.Failed = Because cause.DiskFault
stop_of_joining (joining.Damaged file place) = Because (cause.Damaged file place)

-- the records of a store are joined
abbrev pub JoinedIn : (old new : Plate) → Stage Coalesced
JoinedIn old new = Told stop_of_joining (FindsWhereTold old) (FailsJoining old new)

abbrev pub joined_text : Coalesced → List ℕ
joined_text NoChain = codes "no chain\n"
joined_text OneRecord = codes "nothing to join\n"
joined_text (Joined n) = joined_line n

-- it tells what was joined
unfoldable pub TellsJoined : Coalesced → Done → Type 0
TellsJoined c (done.Noted t) = t.list ≡ joined_text c
TellsJoined c d = ⊥

-- The records are joined, as reads give it and each crash; and the output stays as reads give it, and a crash leaves one that it might have left.
pub record LeavesJoined (c : Coalesced) (old new : View) : Type 0 where
  pub reads : IsCoalesced c old.seen new.seen
  pub left : (t : Store) → new.may_leave t → IsCoalesced c old.seen t
  pub output : new.seen.output ≡ old.seen.output
  pub output_left : (t : Store) → new.may_leave t → (s : Store) × old.may_leave s × (t.output ≡ s.output)

-- what was done is told, and so it is on the disk
abbrev pub JoinsAsTold : View → Done → View → Type 0
JoinsAsTold old d new = IsTrue old.tells → (c : Coalesced) × TellsJoined c d × LeavesJoined c old new

-- ---- clearing

-- a store is cleared
abbrev pub ClearedIn : (old new : Plate) → Stage (Unit {0})
ClearedIn old new (Ok u) = Unit {0}
ClearedIn old new (Err c) = FailsEntry old new c

-- it tells that a store is cleared
unfoldable pub TellsCleared : Done → Type 0
TellsCleared (done.Noted t) = t.list ≡ codes "cleared\n"
TellsCleared d = ⊥

-- reads and each crash give no chain and no output
abbrev pub Clears : View → View → Type 0
Clears old new = IsTrue old.tells → IsEmptied new
