use Rattle.std.proofs.Common.{◌≡◌, ◌+◌, map, drop, length}
use Rattle.std.specs.List.{concat}
use Rattle.c_tree.specs.Excludes as spec
use Rattle.c_tree.proofs.excludes.+excludes.Given as goal

abbrev pub decreases-arm_count : goal.decreases-arm_count
decreases-arm_count l = goal.size-arm_count l

abbrev pub decreases-exclude_count : goal.decreases-exclude_count
decreases-exclude_count l = goal.size-exclude_count l

-- what was counted, and what is still to be counted, are all of the block
abbrev pub invariant-exclude_count-stmts : goal.invariant-exclude_count-stmts
invariant-exclude_count-stmts l = l.count + length (concat (map spec.excludes (drop l.stmt-index l.stmt-items))) ≡ length (concat (map spec.excludes l.stmt-items))

-- likewise of the arms
abbrev pub invariant-exclude_count-arms : goal.invariant-exclude_count-arms
invariant-exclude_count-arms l = l.count + length (concat (map spec.arm_excludes (drop l.arm-index l.arm-items))) ≡ length (concat (map spec.arm_excludes l.arm-items))
