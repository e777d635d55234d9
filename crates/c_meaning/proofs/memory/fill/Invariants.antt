use Rattle.std.proofs.Common.{◌≡◌, ◌++◌, ◌-◌, ◌≤◌}
use Rattle.std.specs.Prelude.{replicate}
use Rattle.c_meaning.proofs.memory.fill.Given as goal

-- the words that are still to be appended make the list whole
abbrev pub invariant-words : goal.invariant-words
invariant-words l = (l.done ≤ l.count) × (l.words ++ replicate (l.count - l.done) l.word ≡ l.fn.words ++ replicate l.count l.word)

abbrev pub decreases-words : goal.decreases-words
decreases-words l = l.count - l.done
