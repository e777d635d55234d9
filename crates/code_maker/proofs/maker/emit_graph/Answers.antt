use Rattle.std.proofs.Common.{arith}
use Rattle.flow_graph.specs.Made.{graphs_in}
use Rattle.code_maker.specs.ProgramCode.{graph_for}
use Rattle.code_maker.proofs.Making.{graph_made}
use Rattle.code_maker.proofs.maker.emit_graph.Goals as goal

pub returns-clause-code : goal.returns-clause-code
returns-clause-code c =
    let g = graph_for (graphs_in c.args.graphs.now) c.args.f in
    let old = c.args.code.now.items in
    graph_made c.emit_nodes-2.result g old c.emit_nodes.new.code.items c.truncate.new.self.items c.emit_nodes-2.new.code.items _ c.len-begin.result c.in_ok-starts.starts.items c.as_slice.result.now (omega (arith, c.args.code.now.ok.0)) c.in_ok-starts.ensures.code c.truncate.ensures.items c.as_slice.ensures.value c.in_ok-starts.ensures.places c.emit_nodes-2.ensures.code
