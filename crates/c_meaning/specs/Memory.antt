-- The memory of a run, as the meaning sees it.
use Rattle.std.specs.Prelude.{Option, None, Some}
use Rattle.std.specs.Borrow.{Bor}
use Rattle.c_tree.specs.declared.resolved.RExpr.{RExpr}
use Rattle.c_tree.specs.State as spec
use Rattle.c_tree.specs.State.{Variables, Value, test_value}
use Rattle.c_meaning.specs.declared.memory.Memory.{Memory}
use Rattle.c_meaning.specs.declared.progress.Target.{Target}
use Rattle.c_meaning.specs.declared.progress.Target.TheVariants as target'

abbrev pub variables : Memory → Variables
variables m = record { objects = m.objects; cells = m.cells; locals = m.locals }

-- the condition of a loop, which may be absent
abbrev pub test_of : Option (Bor RExpr) → Value
test_of None = test_value None
test_of (Some e) = test_value (Some e.now)

abbrev pub target_of : Target → spec.Target
target_of (target'.Cell c) = spec.ToCell c
target_of (target'.Local i) = spec.ToLocal i
target_of (target'.Through p) = spec.Through p
