use Rattle.std.proofs.Common.{◌≡◌, [], length}
use Rattle.access_summary.specs.CallEdges.{AddsEdges, CallsBelow}
use Rattle.access_summary.proofs.calls.calls_of.Given as goal

-- the calls of the functions so far are added
abbrev pub invariant-bodies : goal.invariant-bodies
invariant-bodies l = record {
  number : l.caller ≡ l.body-index;
  calls : AddsEdges [] l.edges.items (CallsBelow l.bodies (length l.bodies) l.body-index);
}
