use Rattle.alias_sets.specs.Nodes.{AreEdgesBelow}
use Rattle.alias_sets.proofs.nodes.edges_of.Given as goal

-- the edges are those of the flows so far
abbrev pub invariant-flows : goal.invariant-flows
invariant-flows l = AreEdgesBelow l.variables.keys l.flows l.flow-index l.edges.items
