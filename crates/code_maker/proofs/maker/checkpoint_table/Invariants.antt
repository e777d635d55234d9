use Rattle.std.proofs.Common.{◌≡◌, ◌++◌, drop, None}
use Rattle.flow_graph.specs.Made.{graphs_in}
use Rattle.code_maker.specs.ProgramCode.{graph_for, checkpoints_from}
use Rattle.code_maker.proofs.maker.checkpoint_table.Given as goal

abbrev pub invariant-nodes : goal.invariant-nodes
invariant-nodes l = l.table.items ++ checkpoints_from l.n (drop l.n (graph_for (graphs_in l.graphs) None).works) (drop l.n l.starts) ≡ checkpoints_from 0 (graph_for (graphs_in l.graphs) None).works l.starts
