use Rattle.std.proofs.Common.{length, ap, ◌∙◌}
use Rattle.flow_graph.specs.Made.{graphs_in}
use Rattle.code_maker.specs.NodeCode.{listed}
use Rattle.code_maker.specs.ProgramCode.{graph_for}
use Rattle.code_maker.proofs.Making.{segments_kept, places_kept}
use Rattle.code_maker.proofs.maker.emit_segments.Goals as goal

pub nodes-preserved : goal.nodes-preserved
nodes-preserved c =
    let g = graph_for (graphs_in c.args.graphs.now) c.args.f in
    let start = listed c.args.starts.now in
    let code = c.nodes.code.items in let new = c.emit_segment.new.code.items in
    let to = c.edge_of.result in let w = c.work_of.result.now in
    record {
      code = segments_kept start g.edges g.works c.nodes.n to w code new _ c.edge_of.ensures.answer c.work_of.ensures.answer c.nodes.invariant.code c.in_ok-emit_segment.ensures.code;
      places = places_kept start g.edges g.works c.nodes.n to w c.nodes.places.items c.push.new.items.items _ c.in_ok-here.field-0 code new c.edge_of.ensures.answer c.work_of.ensures.answer c.nodes.invariant.places (c.in_ok-here.ensures.answer ∙ ap length c.as_slice.ensures.value) c.in_ok-push.ensures.added c.in_ok-emit_segment.ensures.code;
    }
