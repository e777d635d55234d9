use Rattle.std.proofs.Common.{◌-◌}
use Rattle.coalesce.proofs.FindLaws.{IsFoundTo}
use Rattle.coalesce.proofs.find.find_runs.Given as goal

abbrev pub invariant-loop-from : goal.invariant-loop-from
invariant-loop-from l = record {
  found : IsFoundTo l.kept l.runs l.from;
}

abbrev pub decreases-loop-from : goal.decreases-loop-from
decreases-loop-from l = 262144 - l.from
