use Rattle.std.proofs.Common.{ℕ, List, IsTrue}
use Rattle.disk_model.specs.MemoryDisk.{view_of}
use Rattle.output_file.specs.OnDisk.{IsOutputOn}
use Rattle.public_calls_store.proofs.output.push_many.Given as goal

abbrev pub invariant-loop-left : goal.invariant-loop-left
invariant-loop-left l = IsTrue l.output.begun × ((bytes : List ℕ) × IsOutputOn l.output (view_of l.disk) bytes)

abbrev pub decreases-loop-left : goal.decreases-loop-left
decreases-loop-left l = l.left
