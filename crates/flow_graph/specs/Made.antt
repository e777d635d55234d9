-- The graphs that were made of a program, as the definitions see them.
use Rattle.std.specs.Prelude.{ℕ, List, map}
use Rattle.path_laws.specs.Graph as effects
use Rattle.access_summary.specs.Edges.{entry_in, edges_in}
use Rattle.flow_graph.specs.declared.function_graph.FunctionGraph.{FunctionGraph}
use Rattle.flow_graph.specs.declared.graphs.Graphs.{Graphs}
use Rattle.flow_graph.specs.Run as run
use Rattle.flow_graph.specs.Run.{Graph}

abbrev pub graph_in : FunctionGraph → Graph
graph_in g = record { locals = g.locals; entry = entry_in g.edges; edges = edges_in g.edges; works = g.works }

abbrev pub graphs_in : Graphs → run.Graphs
graphs_in g = record { main = graph_in g.main; functions = map graph_in g.functions }

-- the graph of `main` with the effects of its nodes
abbrev pub effects_in : Graphs → effects.Graph
effects_in g = g.effects

-- the nodes of `main` that are CHECKPOINT_HERE
abbrev pub checkpoints_in : Graphs → List ℕ
checkpoints_in g = g.checkpoints
