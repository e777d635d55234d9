use Rattle.std.proofs.Common.{◌≡◌, ◌++◌, map, drop}
use Rattle.access_summary.specs.Effects as spec
use Rattle.access_summary.proofs.bodies.+body.Given as goal

abbrev pub decreases-arm_effects : goal.decreases-arm_effects
decreases-arm_effects l = goal.size-arm_effects l

abbrev pub decreases-stmt_effects : goal.decreases-stmt_effects
decreases-stmt_effects l = goal.size-stmt_effects l

-- the effects so far, and those still to come, are all of the block
abbrev pub invariant-stmt_effects-stmts : goal.invariant-stmt_effects-stmts
invariant-stmt_effects-stmts l = l.effects ++ spec.all_parts (map (spec.stmt_effects l.function) (drop l.stmt-index l.stmt-items)) ≡ l.fn.effects ++ spec.all_parts (map (spec.stmt_effects l.function) l.stmt-items)

-- likewise of the arms
abbrev pub invariant-stmt_effects-arms : goal.invariant-stmt_effects-arms
invariant-stmt_effects-arms l = l.effects ++ spec.all_parts (map (spec.arm_effects l.function) (drop l.arm-index l.arm-items)) ≡ l.fn.effects ++ spec.all_parts (map (spec.arm_effects l.function) l.arm-items)
