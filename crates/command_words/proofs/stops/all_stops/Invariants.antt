use Rattle.command_words.proofs.Pieces.{AreSoFar, lent, size_of}
use Rattle.command_words.proofs.stops.all_stops.Given as goal

-- the stops are those so far, and behind them those of the rest
abbrev pub invariant-items : goal.invariant-items
invariant-items l = AreSoFar l.stops.items (lent l.rest) l.fn.word

abbrev pub decreases-items : goal.decreases-items
decreases-items l = size_of (lent l.rest)
