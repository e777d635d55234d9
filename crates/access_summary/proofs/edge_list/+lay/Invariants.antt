use Rattle.std.proofs.Common.{◌≡◌, ℕ, ◌+◌, ◌-◌, ◌≤◌, List, length, map, sum, take}
use Rattle.c_tree.specs.declared.resolved.RStmt.{RStmt}
use Rattle.c_tree.specs.Nodes.{node_count, arm_count}
use Rattle.access_summary.specs.Edges.{Edge}
use Rattle.access_summary.specs.Laying.{Block, Arms}
use Rattle.access_summary.proofs.edge_list.+lay.Given as goal

-- the statements from i on are laid
abbrev pub invariant-lay_all-block : goal.invariant-lay_all-block
invariant-lay_all-block l = Block (l.behind - sum (map node_count l.stmts)) l.to l.fn.edges l.stmts l.i l.m l.next l.edges

abbrev pub decreases-lay_all-block : goal.decreases-lay_all-block
decreases-lay_all-block l = l.i

-- the arms from i on are laid
abbrev pub invariant-lay_arms-arms : goal.invariant-lay_arms-arms
invariant-lay_arms-arms l = record {
  within : l.i ≤ length l.arms;
  number : l.m ≡ l.behind - sum (map arm_count l.arms) + sum (map arm_count (take l.i l.arms));
  laid : (s : RStmt) (first : ℕ) (old : List Edge) → Arms s first l.to old l.arms (length l.arms) l.behind l.last l.fn.edges → Arms s first l.to old l.arms l.i l.m l.entry l.edges;
}

abbrev pub decreases-lay_arms-arms : goal.decreases-lay_arms-arms
decreases-lay_arms-arms l = l.i
