use Rattle.std.proofs.Common.{[], length}
use Rattle.c_reader.specs.ReadingItems.{decl}
use Rattle.c_reader.specs.Listing.{push}
use Rattle.c_reader.proofs.Listings.{Going}
use Rattle.c_reader.proofs.objects.decls.Given as goal

abbrev pub invariant-items : goal.invariant-items
invariant-items l = Going decl push [] l.fn.tokens l.decls l.rest

abbrev pub decreases-items : goal.decreases-items
decreases-items l = length l.rest
