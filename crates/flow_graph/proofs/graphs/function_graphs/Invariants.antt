use Rattle.std.proofs.Common.{◌≡◌, map, take}
use Rattle.flow_graph.specs.Made.{graph_in}
use Rattle.flow_graph.specs.Run.{graph_of_function}
use Rattle.flow_graph.proofs.graphs.function_graphs.Given as goal

-- the functions so far have their graphs
abbrev pub invariant-functions : goal.invariant-functions
invariant-functions l = map graph_in l.graphs ≡ map graph_of_function (take l.i l.functions)
