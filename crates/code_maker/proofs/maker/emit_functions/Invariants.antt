use Rattle.std.proofs.Common.{◌≡◌, ◌++◌, length, drop, map}
use Rattle.flow_graph.specs.Run.{graph_of_function}
use Rattle.code_maker.specs.ProgramCode.{graphs_block, functions_from}
use Rattle.code_maker.proofs.maker.emit_functions.Given as goal

abbrev pub invariant-functions : goal.invariant-functions
invariant-functions l = record {
  code : l.code.items ++ graphs_block (map graph_of_function (drop l.f l.functions)) (length l.code.items) ≡ l.initial.code.items ++ graphs_block (map graph_of_function l.functions) (length l.initial.code.items);
  table : l.table.items ++ functions_from (drop l.f l.functions) (length l.code.items) ≡ functions_from l.functions (length l.initial.code.items);
}
