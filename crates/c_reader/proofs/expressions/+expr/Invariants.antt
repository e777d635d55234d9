use Rattle.std.proofs.Common.{◌≤◌, ◌+◌, ◌*◌, ◌-◌}
use Rattle.c_reader.specs.Reading as reading
use Rattle.c_reader.proofs.Turns.{Going}
use Rattle.c_reader.proofs.expressions.+expr.Given as goal

abbrev pub decreases-deeper : goal.decreases-deeper
decreases-deeper l = 6 * l.depth

abbrev pub decreases-expr : goal.decreases-expr
decreases-expr l = 6 * l.depth + 5

abbrev pub decreases-first : goal.decreases-first
decreases-first l = 6 * l.depth + 4

abbrev pub decreases-index : goal.decreases-index
decreases-index l = 6 * l.depth + 1

abbrev pub decreases-named : goal.decreases-named
decreases-named l = 6 * l.depth + 2

abbrev pub decreases-address : goal.decreases-address
decreases-address l = 6 * l.depth + 2

abbrev pub decreases-opened : goal.decreases-opened
decreases-opened l = 6 * l.depth + 3

abbrev pub invariant-expr-loop-op : goal.invariant-expr-loop-op
invariant-expr-loop-op l = (l.left_depth ≤ l.depth) × Going l.depth l.least l.fn.tokens (reading.deep l.left l.left_depth l.rest)

abbrev pub decreases-expr-loop-op : goal.decreases-expr-loop-op
decreases-expr-loop-op l = l.depth - l.left_depth
