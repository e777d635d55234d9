use Rattle.std.proofs.Common.{◌≡◌, ℕ, ◌<◌, Some, slice_get}
use Rattle.access_summary.specs.declared.effects.Effect.{Effect}
use Rattle.access_summary.specs.CallEdges.{AddsEdges, IsCall}
use Rattle.access_summary.proofs.calls.add_calls.Given as goal

-- the calls among the effects so far are added
abbrev pub invariant-effects : goal.invariant-effects
invariant-effects l = AddsEdges l.fn.edges.items l.edges.items (λ n m. (k : ℕ) × (e : Effect) × (k < l.effect-index) × (slice_get l.effects k ≡ Some e) × IsCall l.caller l.count e n m)
