use Rattle.std.proofs.Common.{◌≡◌, ◌++◌, drop}
use Rattle.access_summary.specs.Effects as spec
use Rattle.access_summary.proofs.effects.all_effects.Given as goal

-- the effects so far, and those still to come, are all
abbrev pub invariant-exprs : goal.invariant-exprs
invariant-exprs l = l.effects ++ spec.all_effects l.function (drop l.expr-index l.exprs) ≡ l.fn.effects ++ spec.all_effects l.function l.exprs
