use Rattle.c_types.specs.FileNames as spec
use Rattle.c_types.proofs.Loops.{Ongoing}
use Rattle.c_types.proofs.named_items.each_item.Given as goal

abbrev pub invariant-loop-i : goal.invariant-loop-i
invariant-loop-i l = Ongoing (spec.item_step l.constants) l.items l.i-index l.fn.known l.known
