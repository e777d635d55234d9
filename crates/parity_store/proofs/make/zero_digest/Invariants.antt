use Rattle.std.proofs.Common.{◌-◌, ◌≤◌}
use Rattle.std.specs.Prelude.{replicate}
use Rattle.sha2.specs.Hashers.{Holds256}
use Rattle.parity_store.proofs.make.zero_digest.Given as goal

abbrev pub invariant-loop-done : goal.invariant-loop-done
invariant-loop-done l = record {
  within : l.done ≤ l.size;
  holds : Holds256 l.hasher (replicate l.done 0);
}

abbrev pub decreases-loop-done : goal.decreases-loop-done
decreases-loop-done l = l.size - l.done
