use Rattle.std.proofs.Common.{◌≡◌, drop}
use Rattle.c_types.specs.FileNames as spec
use Rattle.c_types.proofs.named_items.add_functions.Given as goal

abbrev pub invariant-loop-i : goal.invariant-loop-i
invariant-loop-i l = spec.with_functions l.file l.number (drop l.i-index l.items) ≡ spec.with_functions l.fn.file 0 l.items
