use Rattle.std.proofs.Common.{◌≡◌, ℕ, ◌<◌, Some, slice_get}
use Rattle.access_summary.specs.declared.effects.Effect.{Effect}
use Rattle.access_summary.specs.Touch.{Adds, EffectTouches}
use Rattle.access_summary.proofs.touch.add_effects.Given as goal

-- the cells of the effects so far are added
abbrev pub invariant-effects : goal.invariant-effects
invariant-effects l = Adds l.fn.row l.row (λ c. (k : ℕ) × (e : Effect) × (k < l.effect-index) × (slice_get l.effects k ≡ Some e) × EffectTouches l.program l.access e c)
