use Rattle.std.proofs.Common.{◌≡◌, ◌+◌, ◌-◌, length}
use Rattle.exclusion_reason.specs.Seen.{unseen}
use Rattle.exclusion_reason.specs.Visits.{IsSearch}
use Rattle.exclusion_reason.proofs.search.least_way.Given as goal

abbrev pub invariant-visits : goal.invariant-visits
invariant-visits l = record {
  each : length l.seen.items ≡ length l.graph.nodes;
  search : IsSearch l.graph l.aim l.first l.head 0 l.visits.items l.seen.items;
}

abbrev pub decreases-visits : goal.decreases-visits
decreases-visits l = (length l.visits.items + unseen l.seen.items) - l.head
