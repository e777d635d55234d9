use Rattle.std.proofs.Common.{◌≡◌, take}
use Rattle.access_summary.proofs.calls.sets_of.Given as goal

abbrev pub invariant-rows : goal.invariant-rows
invariant-rows l = l.sets.items ≡ take l.row-index l.rows
