use Rattle.std.proofs.Common.{◌≡◌, ◌++◌, map, drop}
use Rattle.c_types.specs.Check as spec
use Rattle.c_types.proofs.limits.resolved_objects.Given as goal

abbrev pub invariant-loop-o : goal.invariant-loop-o
invariant-loop-o l = l.done ++ map spec.resolved_object (drop l.o-index l.objects) ≡ map spec.resolved_object l.objects
