use Rattle.c_types.specs.FileNames as spec
use Rattle.c_types.proofs.Loops.{Ongoing}
use Rattle.c_types.proofs.named_items.parameters.Given as goal

abbrev pub invariant-loop-p : goal.invariant-loop-p
invariant-loop-p l = Ongoing (spec.parameter l.constants) l.parameters l.p-index l.fn.known l.known
