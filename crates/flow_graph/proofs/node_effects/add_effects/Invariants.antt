use Rattle.std.proofs.Common.{◌≡◌, ℕ, ◌<◌, Some, slice_get}
use Rattle.access_summary.specs.declared.effects.Effect.{Effect}
use Rattle.access_summary.specs.Touch.{Adds}
use Rattle.flow_graph.specs.EffectCells.{EffectDoes}
use Rattle.flow_graph.proofs.node_effects.add_effects.Given as goal

-- the cells of the effects so far are added
abbrev pub invariant-effects : goal.invariant-effects
invariant-effects l = Adds l.fn.set l.set (λ c. (k : ℕ) × (e : Effect) × (k < l.effect-index) × (slice_get l.effects k ≡ Some e) × EffectDoes l.program l.access e c)
