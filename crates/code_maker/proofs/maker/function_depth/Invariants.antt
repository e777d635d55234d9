use Rattle.std.proofs.Common.{◌≡◌, drop}
use Rattle.std.specs.Prelude.{max}
use Rattle.flow_graph.specs.Made.{graphs_in}
use Rattle.code_maker.specs.Depths.{works_depth}
use Rattle.code_maker.specs.ProgramCode.{graph_for}
use Rattle.code_maker.proofs.maker.function_depth.Given as goal

abbrev pub invariant-nodes : goal.invariant-nodes
invariant-nodes l = max l.depth (works_depth (drop l.n (graph_for (graphs_in l.graphs) l.f).works)) ≡ works_depth (graph_for (graphs_in l.graphs) l.f).works
