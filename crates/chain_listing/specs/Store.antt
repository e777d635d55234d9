-- The text that lists the records of a store, and why it is not listed.
use Rattle.std.specs.Prelude.{◌≡◌, ℕ, List, codes, Option, Some, None, Result, Ok, Err}
use Rattle.ckpt_base.specs.Faults.{Rose}
use Rattle.disk_model.specs.Store.{Store}
use Rattle.image_chain.specs.Records.{Found, chain_in}
use Rattle.image_chain.specs.declared.fault.ChainFault.{ChainFault}
use Rattle.image_chain.specs.declared.fault.ChainFault.TheVariants as chain
use Rattle.chain_listing.specs.Lines.{record_lines}
use Rattle.chain_listing.specs.declared.fault.ListFault.{ListFault}
use Rattle.chain_listing.specs.declared.fault.ListFault.TheVariants.{Memory, Failed, Damaged}

-- a line for each record, or one that there is no chain
abbrev pub chain_text : Option Found → List ℕ
chain_text None = codes "no chain\n"
chain_text (Some found) = record_lines found.records

-- the text lists the records of the store's chain
abbrev pub Lists : Store → List ℕ → Type 0
Lists s text = (found : Option Found) × (chain_in s ≡ Ok found) × (text ≡ chain_text found)

-- this is the damage of the store, unless memory or a call on the disk failed
abbrev pub IsUnlisted : ListFault → Store → Type 0
IsUnlisted Memory s = Unit {0}
IsUnlisted Failed s = Unit {0}
IsUnlisted (Damaged file place) s = chain_in s ≡ Err (record { file = file; place = place })

abbrev pub IsUndamaged : ListFault → Type 0
IsUndamaged Memory = Unit {0}
IsUndamaged Failed = Unit {0}
IsUndamaged (Damaged file place) = ⊥

-- the count rose exactly where a call on the disk failed
abbrev pub CountsFault : ListFault → ℕ → ℕ → Type 0
CountsFault Failed old new = Rose old new
CountsFault Memory old new = new ≡ old
CountsFault (Damaged file place) old new = new ≡ old

-- what a fault of the chain is here
abbrev pub of_chain : ChainFault → ListFault
of_chain chain.Failed = Failed
of_chain (chain.Damaged file place) = Damaged file place
