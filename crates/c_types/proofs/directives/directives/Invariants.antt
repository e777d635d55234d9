use Rattle.std.proofs.Common.{◌≡◌, drop, map}
use Rattle.c_types.specs.Directives as spec
use Rattle.c_types.proofs.directives.directives.Given as goal

abbrev pub invariant-loop-i : goal.invariant-loop-i
invariant-loop-i l = spec.all (map spec.item_faults (drop l.i-index l.items)) ≡ spec.all (map spec.item_faults l.items)
