use Rattle.std.proofs.Common.{sym, subst, []}
use Rattle.disk_model.specs.MemoryDisk.{MemoryDisk, view_of}
use Rattle.image_chain.specs.Lists.{Rests}
use Rattle.public_calls_store.proofs.chains.found_after.Goals as goal

pub append-requires-clause-rests : goal.append-requires-clause-rests
append-requires-clause-rests c = λ _. ([], subst (λ (m : MemoryDisk). Rests c.in_ok-chain.chain (view_of m) []) (sym c.fuse.ensures.exact) c.in_ok-chain.ensures.rests)
