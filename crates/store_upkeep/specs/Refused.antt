-- Why the records of a store are not joined, and what that leaves of the disk.
use Rattle.std.specs.Prelude.{◌≡◌, Err}
use Rattle.ckpt_base.specs.Faults.{Rose}
use Rattle.disk_model.specs.Store.{Store}
use Rattle.disk_model.specs.View.{View}
use Rattle.image_chain.specs.Records.{chain_in}
use Rattle.image_chain.specs.declared.fault.ChainFault.{ChainFault}
use Rattle.image_chain.specs.declared.fault.ChainFault.TheVariants as chain
use Rattle.ckpt_runner.specs.Opening.{LeavesContents}
use Rattle.store_upkeep.specs.declared.fault.JoinFault.{JoinFault}
use Rattle.store_upkeep.specs.declared.fault.JoinFault.TheVariants.{Memory, Failed, Damaged}

-- this is the damage of the store, unless memory or a call on the disk failed
abbrev pub IsUnjoined : JoinFault → Store → Type 0
IsUnjoined Memory s = Unit {0}
IsUnjoined Failed s = Unit {0}
IsUnjoined (Damaged file place) s = chain_in s ≡ Err (record { file = file; place = place })

-- the count rose where a call on the disk failed; else the contents are as they were
abbrev pub LeavesUnjoined : JoinFault → View → View → Type 0
LeavesUnjoined Memory old new = LeavesContents old new
LeavesUnjoined Failed old new = Rose old.faults new.faults
LeavesUnjoined (Damaged file place) old new = LeavesContents old new

-- what a fault of the chain is here
abbrev pub of_chain : ChainFault → JoinFault
of_chain chain.Failed = Failed
of_chain (chain.Damaged file place) = Damaged file place
