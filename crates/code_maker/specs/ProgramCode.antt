-- The code of a program: that of `main`, and behind it those of the functions.
use Rattle.std.specs.Prelude.{◌≡◌, ℕ, ◌+◌, ◌<◌, Option, Some, None, IfSome, List, [], ◌∷◌, ◌++◌, length}
use Rattle.c_tree.specs.declared.resolved.RFunction.{RFunction}
use Rattle.c_tree.specs.declared.resolved.Resolved.{Resolved}
use Rattle.c_tree.specs.Layout.{objects}
use Rattle.flow_graph.specs.declared.node.NodeWork.{NodeWork}
use Rattle.flow_graph.specs.declared.node.NodeWork.TheVariants as work
use Rattle.flow_graph.specs.Run.{Graph, Graphs, graph_at, graph_of_function, graphs_of}
use Rattle.machine_code.specs.CodeView.{CodeView, Function, Checkpoint}
use Rattle.code_maker.specs.ExprCode.{Block}
use Rattle.code_maker.specs.NodeCode.{entry_jump, segments, graph_block, starts}
use Rattle.code_maker.specs.Depths.{deepest}

-- the code of graphs, one behind another
abbrev pub graphs_block : List Graph → Block
graphs_block [] p = []
graphs_block (g ∷ gs) p = graph_block g p ++ graphs_block gs (p + length (graph_block g p))

-- functions whose codes stand so, from place p on
abbrev pub functions_from : List RFunction → ℕ → List Function
functions_from [] p = []
functions_from (f ∷ fs) p = (p, f.parameters, length f.locals) ∷ functions_from fs (p + length (graph_block (graph_of_function f) p))

-- a checkpoint is passed behind the tick and the instruction of its node
abbrev pub checkpoint_at : ℕ → ℕ → NodeWork → List Checkpoint
checkpoint_at m p work.Checkpoint = (m, p + 2) ∷ []
checkpoint_at m p w = []

-- the checkpoints among the nodes from m on, whose segments begin at these places
abbrev pub checkpoints_from : ℕ → List NodeWork → List ℕ → List Checkpoint
checkpoints_from m (w ∷ ws) (p ∷ ps) = checkpoint_at m p w ++ checkpoints_from (m + 1) ws ps
checkpoints_from m ws ps = []

-- the graph of a function, or of `main` for none. One that is not there has no nodes
abbrev pub found : Option Graph → Graph
found None = record { locals = 0; entry = 0; edges = []; works = [] }
found (Some g) = g

abbrev pub graph_for : Graphs → Option ℕ → Graph
graph_for gs f = found (graph_at gs f)

abbrev pub IsThere : Graphs → Option ℕ → Type 0
IsThere gs f = IfSome f (λ i. i < length gs.functions)

-- each node of each graph has its edges and its work
abbrev pub HaveBoth : Graphs → Type 0
HaveBoth gs = (f : Option ℕ) → length (graph_for gs f).edges ≡ length (graph_for gs f).works

-- the code of a graph, where `start` tells where its segments begin
abbrev pub graph_with : (ℕ → ℕ) → Graph → Block
graph_with start g p = entry_jump start g.entry ++ segments start 0 g.edges g.works (p + length (entry_jump start g.entry))

abbrev pub all_graphs : Resolved → List Graph
all_graphs p = (graphs_of p).main ∷ (graphs_of p).functions

abbrev pub code_of : Resolved → CodeView
code_of p = record {
  instrs = graphs_block (all_graphs p) 0;
  functions = functions_from p.functions (length (graph_block (graphs_of p).main 0));
  objects = objects p;
  checkpoints = checkpoints_from 0 (graphs_of p).main.works (starts (graphs_of p).main 0);
  stack = deepest (all_graphs p);
}
