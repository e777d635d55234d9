use Rattle.std.proofs.Common.{◌≡◌, ◌-◌, ◌++◌, drop, take, length}
use Rattle.command_words.specs.Stops as spec
use Rattle.command_words.proofs.stops.split.Given as goal

-- the mark is none of the bytes so far
abbrev pub invariant-bytes : goal.invariant-bytes
invariant-bytes l = record {
  front : spec.front l.mark l.word ≡ take l.n l.word ++ spec.front l.mark (drop l.n l.word);
  behind : spec.behind l.mark l.word ≡ spec.behind l.mark (drop l.n l.word);
}

abbrev pub decreases-bytes : goal.decreases-bytes
decreases-bytes l = length l.word - l.n
