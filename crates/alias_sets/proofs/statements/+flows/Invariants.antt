use Rattle.std.proofs.Common.{◌≡◌, ◌++◌, map, drop}
use Rattle.alias_sets.specs.Flows as spec
use Rattle.alias_sets.proofs.statements.+flows.Given as goal

abbrev pub decreases-arm_flows : goal.decreases-arm_flows
decreases-arm_flows l = goal.size-arm_flows l

abbrev pub decreases-stmt_flows : goal.decreases-stmt_flows
decreases-stmt_flows l = goal.size-stmt_flows l

-- the flows so far, and those still to come, are all of the block
abbrev pub invariant-stmt_flows-stmts : goal.invariant-stmt_flows-stmts
invariant-stmt_flows-stmts l = l.flows ++ spec.all_flows (map (spec.stmt_flows l.function) (drop l.stmt-index l.stmt-items)) ≡ l.fn.flows ++ spec.all_flows (map (spec.stmt_flows l.function) l.stmt-items)

-- likewise of the arms
abbrev pub invariant-stmt_flows-arms : goal.invariant-stmt_flows-arms
invariant-stmt_flows-arms l = l.flows ++ spec.all_flows (map (spec.arm_flows l.function) (drop l.arm-index l.arm-items)) ≡ l.fn.flows ++ spec.all_flows (map (spec.arm_flows l.function) l.arm-items)
