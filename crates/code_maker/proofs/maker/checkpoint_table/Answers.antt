use Rattle.std.proofs.Common.{None, get_or, arith}
use Rattle.std.proofs.lemmas.Option.{slice_get-get_or}
use Rattle.flow_graph.specs.Made.{graphs_in}
use Rattle.code_maker.specs.ProgramCode.{graph_for}
use Rattle.code_maker.proofs.Making.{table_kept}
use Rattle.code_maker.proofs.maker.checkpoint_table.Goals as goal

pub nodes-preserved : goal.nodes-preserved
nodes-preserved c =
    let starts = c.args.starts.now in
    let start = slice_get-get_or starts c.nodes.n 0 (omega arith) in
    table_kept (graph_for (graphs_in c.args.graphs.now) None).works starts c.nodes.n c.work_of.result.now (get_or starts c.nodes.n 0) c.nodes.table.items c.add_checkpoint.new.table.items _ c.work_of.ensures.answer start c.nodes.invariant c.in_ok-add_checkpoint.ensures.added
