use Rattle.std.proofs.Common.{◌≡◌, ◌++◌, map, drop}
use Rattle.flow_graph.specs.Works.{all_works, works, arm_works}
use Rattle.flow_graph.proofs.works.+add_works.Given as goal

abbrev pub decreases-add_works : goal.decreases-add_works
decreases-add_works l = goal.size-add_works l

-- the works of the arms that are still to come make the list whole
abbrev pub invariant-arms : goal.invariant-arms
invariant-arms l = l.works ++ all_works (map arm_works (drop l.arm-index l.arm-items)) ≡ l.fn.works ++ all_works (map arm_works l.arm-items)

-- the works of the statements that are still to come make the list whole
abbrev pub invariant-stmts : goal.invariant-stmts
invariant-stmts l = l.works ++ all_works (map works (drop l.stmt-index l.stmt-items)) ≡ l.fn.works ++ all_works (map works l.stmt-items)
