use Rattle.std.proofs.Common.{◌∙◌, ap, ℕ, List}
use Rattle.disk_model.specs.MemoryDisk.{empty_disk}
use Rattle.public_calls_store.proofs.stores.empty_store.Goals as goal

pub returns : goal.returns
returns c = c.in_ok-disk.ensures.answer ∙ ap (λ (failing : List ℕ). empty_disk 64 4096 0 failing) c.new-failing.ensures.items
