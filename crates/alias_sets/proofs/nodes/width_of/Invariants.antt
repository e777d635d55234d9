use Rattle.std.proofs.Common.{◌≡◌, ℕ, ◌<◌, Some, slice_get}
use Rattle.alias_sets.specs.declared.flows.Flow.{Flow}
use Rattle.alias_sets.specs.Nodes.{IsBelow}
use Rattle.alias_sets.proofs.nodes.width_of.Given as goal

-- the objects so far are below the width
abbrev pub invariant-flows : goal.invariant-flows
invariant-flows l = (k : ℕ) (f : Flow) → k < l.flow-index → slice_get l.flows k ≡ Some f → IsBelow l.width f.from
