use Rattle.std.proofs.Common.{◌≡◌, ◌++◌, drop}
use Rattle.c_types.specs.FileNames as spec
use Rattle.c_types.proofs.named_items.signatures.Given as goal

abbrev pub invariant-loop-i : goal.invariant-loop-i
invariant-loop-i l = l.done ++ spec.signatures_of (drop l.i-index l.items) ≡ spec.signatures_of l.items
