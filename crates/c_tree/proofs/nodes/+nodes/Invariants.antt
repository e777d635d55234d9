use Rattle.std.proofs.Common.{◌≡◌, ◌+◌, map, drop, sum}
use Rattle.c_tree.specs.Nodes as nodes
use Rattle.c_tree.proofs.nodes.+nodes.Given as goal

abbrev pub decreases-arm_count : goal.decreases-arm_count
decreases-arm_count l = goal.size-arm_count l

abbrev pub decreases-node_count : goal.decreases-node_count
decreases-node_count l = goal.size-node_count l

-- what was counted, and what is still to be counted, are all of the block
abbrev pub invariant-node_count-stmts : goal.invariant-node_count-stmts
invariant-node_count-stmts l = l.count + sum (map nodes.node_count (drop l.stmt-index l.stmt-items)) ≡ sum (map nodes.node_count l.stmt-items)

-- likewise of the arms
abbrev pub invariant-node_count-arms : goal.invariant-node_count-arms
invariant-node_count-arms l = l.count + sum (map nodes.arm_count (drop l.arm-index l.arm-items)) ≡ sum (map nodes.arm_count l.arm-items)
