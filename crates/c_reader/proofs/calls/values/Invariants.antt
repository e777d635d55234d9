use Rattle.std.proofs.Common.{[], length}
use Rattle.c_reader.specs.Reading.{value}
use Rattle.c_reader.specs.Listing.{push}
use Rattle.c_reader.proofs.Listings.{Going}
use Rattle.c_reader.proofs.calls.values.Given as goal

abbrev pub invariant-items : goal.invariant-items
invariant-items l = Going (value l.depth) push [] l.fn.tokens l.values l.rest

abbrev pub decreases-items : goal.decreases-items
decreases-items l = length l.rest
