use Rattle.std.proofs.Common.{rules}
use Rattle.flow_graph.specs.Made.{graphs_in}
use Rattle.code_maker.specs.ProgramCode.{graph_for}
use Rattle.code_maker.proofs.Making.{depth_kept}
use Rattle.code_maker.proofs.maker.function_depth.Goals as goal

pub nodes-preserved : goal.nodes-preserved
nodes-preserved c = depth_kept (graph_for (graphs_in c.args.graphs.now) c.args.f).works c.nodes.n c.work_of.result.now c.nodes.depth c.max-depth.result _ c.work_of.ensures.answer c.nodes.invariant (search rules)
