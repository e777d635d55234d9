use Rattle.alias_sets.specs.Numbers.{AreApart, NumberedBelow}
use Rattle.alias_sets.proofs.numbering.variables_of.Given as goal

-- the flows so far have their numbers, and no variable has two
abbrev pub invariant-flows : goal.invariant-flows
invariant-flows l = record {
  numbered : NumberedBelow l.variables.keys l.flows l.flow-index;
  apart : AreApart l.variables.keys;
}
