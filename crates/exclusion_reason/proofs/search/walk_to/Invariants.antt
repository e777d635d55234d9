use Rattle.std.proofs.Common.{◌≡◌, ◌<◌, ◌++◌, length}
use Rattle.exclusion_reason.specs.Visits.{trail_of}
use Rattle.exclusion_reason.proofs.search.walk_to.Given as goal

abbrev pub invariant-back : goal.invariant-back
invariant-back l = record {
  at_in : l.at < length l.visits;
  so_far : l.nodes.items ++ trail_of l.visits l.at ≡ trail_of l.visits l.last;
}

abbrev pub decreases-back : goal.decreases-back
decreases-back l = l.at
