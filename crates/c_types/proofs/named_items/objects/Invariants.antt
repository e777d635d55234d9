use Rattle.c_types.specs.FileNames as spec
use Rattle.c_types.proofs.Loops.{Ongoing}
use Rattle.c_types.proofs.named_items.objects.Given as goal

abbrev pub invariant-loop-d : goal.invariant-loop-d
invariant-loop-d l = Ongoing (spec.object l.constants) l.decls l.d-index l.fn.known l.known
