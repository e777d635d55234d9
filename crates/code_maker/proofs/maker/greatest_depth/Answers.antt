use Rattle.std.proofs.Common.{Some, rules, arith}
use Rattle.flow_graph.specs.Made.{graphs_in}
use Rattle.code_maker.specs.ProgramCode.{graph_for}
use Rattle.code_maker.proofs.Making.{deepest_kept, graph_found}
use Rattle.code_maker.proofs.maker.greatest_depth.Goals as goal

pub functions-preserved : goal.functions-preserved
functions-preserved c =
    let gs = graphs_in c.args.graphs.now in
    let found = graph_found gs c.functions.f (omega arith) in
    deepest_kept gs.functions c.functions.f (graph_for gs (Some c.functions.f)) c.functions.depth c.max-depth.result _ found c.functions.invariant (search rules)
