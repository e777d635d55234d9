use Rattle.std.proofs.Common.{◌≡◌, ◌+◌, map, drop, sum}
use Rattle.c_tree.specs.Nodes as nodes
use Rattle.c_types.proofs.limits.+nodes.Given as goal

-- what was counted, and what is still to be counted, are all of the block
abbrev pub invariant-count_nodes-stmts : goal.invariant-count_nodes-stmts
invariant-count_nodes-stmts l = l.count + sum (map nodes.node_count (drop l.stmt-index l.stmt-items)) ≡ sum (map nodes.node_count l.stmt-items)

-- likewise of the arms
abbrev pub invariant-count_nodes-arms : goal.invariant-count_nodes-arms
invariant-count_nodes-arms l = l.count + sum (map nodes.arm_count (drop l.arm-index l.arm-items)) ≡ sum (map nodes.arm_count l.arm-items)
