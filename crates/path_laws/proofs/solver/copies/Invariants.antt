use Rattle.std.proofs.Common.{◌≡◌, take}
use Rattle.path_laws.proofs.solver.copies.Given as goal

abbrev pub invariant-rows : goal.invariant-rows
invariant-rows l = l.all.items ≡ take l.row-index l.rows
