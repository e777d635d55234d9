use Rattle.std.proofs.Common.{◌≡◌, ◌++◌, length, reverse}
use Rattle.access_summary.proofs.edge_list.turned.Given as goal

-- what is still to be turned makes the list whole
abbrev pub invariant-edges : goal.invariant-edges
invariant-edges l = l.out ++ reverse l.edges ≡ reverse l.fn.edges

abbrev pub decreases-edges : goal.decreases-edges
decreases-edges l = length l.edges
