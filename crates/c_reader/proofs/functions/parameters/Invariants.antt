use Rattle.std.proofs.Common.{[], length, Some}
use Rattle.c_reader.specs.ReadingItems.{parameter, add}
use Rattle.c_reader.proofs.Listings.{Going}
use Rattle.c_reader.proofs.functions.parameters.Given as goal

abbrev pub invariant-items : goal.invariant-items
invariant-items l = Going parameter add (Some []) l.fn.tokens l.parameters l.rest

abbrev pub decreases-items : goal.decreases-items
decreases-items l = length l.rest
