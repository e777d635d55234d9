use Rattle.std.proofs.Common.{◌≡◌, length}
use Rattle.path_laws.specs.Reaching.{AllWide}
use Rattle.alias_sets.specs.Nodes.{AreGoalsBelow}
use Rattle.alias_sets.proofs.nodes.goals_of.Given as goal

-- the goals are those of the flows so far
abbrev pub invariant-flows : goal.invariant-flows
invariant-flows l = record {
  len : length l.goals.items ≡ length l.variables.keys;
  wide : AllWide l.width l.goals.items;
  goals : AreGoalsBelow l.variables.keys l.flows l.flow-index l.goals.items;
}
