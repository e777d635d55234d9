use Rattle.std.proofs.Common.{◌≡◌, ◌++◌, length, drop}
use Rattle.flow_graph.specs.Made.{graphs_in}
use Rattle.code_maker.specs.NodeCode.{segments, places, listed}
use Rattle.code_maker.specs.ProgramCode.{graph_for}
use Rattle.code_maker.proofs.maker.emit_segments.Given as goal

abbrev pub invariant-nodes : goal.invariant-nodes
invariant-nodes l = record {
  code : l.code.items ++ segments (listed l.starts) l.n (drop l.n (graph_for (graphs_in l.graphs) l.f).edges) (drop l.n (graph_for (graphs_in l.graphs) l.f).works) (length l.code.items)
      ≡ l.initial.code.items ++ segments (listed l.starts) 0 (graph_for (graphs_in l.graphs) l.f).edges (graph_for (graphs_in l.graphs) l.f).works (length l.initial.code.items);
  places : l.places.items ++ places l.n (drop l.n (graph_for (graphs_in l.graphs) l.f).edges) (drop l.n (graph_for (graphs_in l.graphs) l.f).works) (length l.code.items)
      ≡ places 0 (graph_for (graphs_in l.graphs) l.f).edges (graph_for (graphs_in l.graphs) l.f).works (length l.initial.code.items);
}
