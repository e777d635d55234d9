use Rattle.std.proofs.Common.{◌≡◌, ◌++◌, drop}
use Rattle.flow_graph.specs.Checkpoints.{checkpoints_of, checkpoints_from}
use Rattle.flow_graph.proofs.main_effects.checkpoint_nodes.Given as goal

-- the nodes so far and those that are still to come are all
abbrev pub invariant-works : goal.invariant-works
invariant-works l = l.nodes ++ checkpoints_from l.n (drop l.n l.works) ≡ checkpoints_of l.works
