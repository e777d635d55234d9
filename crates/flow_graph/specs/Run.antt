-- What a graph does, node after node.
use Rattle.std.specs.Prelude.{ℕ, zero, suc, ◌+◌, ◌*◌, if◌then◌else◌, nat_lt, List, [], ◌∷◌, length, map, Option, Some, None, Result, Ok, Err, slice_get}
use Rattle.ckpt_base.specs.declared.trap.Trap.{Trap}
use Rattle.ckpt_base.specs.declared.trap.Trap.TheVariants.{TooManyCalls}
use Rattle.ckpt_base.specs.Trap.{trap_number}
use Rattle.ckpt_base.specs.declared.ending.Ending.TheVariants.{Ended, Trapped, Going}
use Rattle.ckpt_base.specs.Word.{signed, word_holds}
use Rattle.ckpt_base.specs.Run.{Run}
use Rattle.c_tree.specs.declared.resolved.RExpr.{RExpr}
use Rattle.c_tree.specs.declared.resolved.RPlace.{RPlace}
use Rattle.c_tree.specs.declared.resolved.RStmt.{RStmt}
use Rattle.c_tree.specs.declared.resolved.RFunction.{RFunction}
use Rattle.c_tree.specs.declared.resolved.Resolved.{Resolved}
use Rattle.c_tree.specs.State.{State, Action, value, values, declare, set, store, put, write_out, take, input, exclude, checkpoint, ticked, with_locals, entry_locals}
use Rattle.c_tree.specs.Meaning.{over}
use Rattle.access_summary.specs.Edges.{Edge, entry_in, edges_in, edges_of_body}
use Rattle.flow_graph.specs.declared.node.NodeWork.{NodeWork}
use Rattle.flow_graph.specs.declared.node.NodeWork.TheVariants as work
use Rattle.flow_graph.specs.Works.{works_of_body}

-- the graph of a function: how many parameters and locals it has, where it begins, and for each node where it goes on and what it does
pub record Graph : Type 0 where
  pub locals : ℕ
  pub entry : ℕ
  pub edges : List Edge
  pub works : List NodeWork

pub record Graphs : Type 0 where
  pub main : Graph
  pub functions : List Graph

abbrev pub graph_of : ℕ → RStmt → Graph
graph_of locals body = record { locals = locals; entry = entry_in (edges_of_body body); edges = edges_in (edges_of_body body); works = works_of_body body }

abbrev pub graph_of_function : RFunction → Graph
graph_of_function f = graph_of (length f.locals) f.body

-- the locals of `main` are cells
abbrev pub graphs_of : Resolved → Graphs
graphs_of p = record { main = graph_of 0 p.main.body; functions = map graph_of_function p.functions }

-- ---- where a run stands

-- what waits for the answer of a call
pub data Waits : Type 0 where
  Store : Option RPlace → Waits
  Return : Waits

-- a call that was made: by which function (none: `main`), with its locals, and the node that it goes on to
pub record Frame : Type 0 where
  pub waits : Waits
  pub locals : List ℕ
  pub function : Option ℕ
  pub next : Option ℕ

-- before a node
pub record Spot : Type 0 where
  pub function : Option ℕ
  pub node : ℕ
  pub frames : List Frame

abbrev pub spot : Option ℕ → ℕ → List Frame → Spot
spot f m frs = record { function = f; node = m; frames = frs }

abbrev pub at_entry : Graphs → Spot
at_entry gs = spot None gs.main.entry []

abbrev pub graph_at : Graphs → Option ℕ → Option Graph
graph_at gs None = Some gs.main
graph_at gs (Some f) = slice_get gs.functions f

abbrev pub edge_in : Option Graph → ℕ → Option Edge
edge_in None m = None
edge_in (Some g) m = slice_get g.edges m

abbrev pub work_in : Option Graph → ℕ → Option NodeWork
work_in None m = None
work_in (Some g) m = slice_get g.works m

-- ---- one node

-- over, or before the next node, with the ticks that are left
pub data Step : Type 0 where
  Over : Run → Step
  On : Spot → State → ℕ → Step

abbrev pub Steps : Type 0
Steps = State → ℕ → Step

-- what the graphs of a checked program never come to
abbrev pub nowhere : Steps
nowhere s n = Over (over (Trapped (trap_number TooManyCalls)) s)

-- takes a tick, and the run is Going where none is left
abbrev pub ticks : Steps → State → ℕ → Step
ticks go s zero = Over (over Going s)
ticks go s (suc n) = go (ticked s) n

abbrev pub given : {A : Type 0} → Result A Trap → State → (A → Step) → Step
given (Ok x) s go = go x
given (Err t) s go = Over (over (Trapped (trap_number t)) s)

abbrev pub goes : Option ℕ → List Frame → Option ℕ → Steps
goes f frs None = nowhere
goes f frs (Some m) = On (spot f m frs)

-- the innermost frame takes an answer: it goes on, or its own call ends with it too
abbrev pub resumes : Waits → Frame → List Frame → (ℕ → Steps) → ℕ → State → ℕ → Step
resumes (Store p) fr frs go a s n = given (store p a s) s (λ t. goes fr.function frs fr.next t n)
resumes Return fr frs go a s n = go a s n

-- ends a call with its answer, and outside calls the program
abbrev pub answers : List Frame → ℕ → State → ℕ → Step
answers [] a s n = Over (over (Ended (signed a)) s)
answers (fr ∷ frs) a s n = resumes fr.waits fr frs (answers frs) a (with_locals fr.locals s) n

-- a tick, an action, and on
abbrev pub single : Action → Steps → Steps
single act next = ticks (λ s n. given (act s) s (λ t. next t n))

abbrev pub enters : Option Graph → ℕ → List Frame → List ℕ → Steps
enters None f frs as' = nowhere
enters (Some g) f frs as' = λ s. On (spot (Some f) g.entry frs) (with_locals (entry_locals g.locals as') s)

-- makes a call, where fewer than 1,000 are active
abbrev pub made : Graphs → Frame → List Frame → ℕ → List ℕ → Steps
made gs fr frs f as' s n = if nat_lt (length frs) 1000 then enters (slice_get gs.functions f) f (fr ∷ frs) as' s n else nowhere s n

-- a tick, the arguments, and the call
abbrev pub calls : Graphs → Spot → Waits → Option ℕ → ℕ → List RExpr → Steps
calls gs x waits to f es = ticks (λ s n. given (values es s.variables) s (λ as'.
    made gs (record { waits = waits; locals = s.variables.locals; function = x.function; next = to }) x.frames f as' s n))

-- what a node does, by its kind
abbrev pub does : Graphs → Spot → Edge → NodeWork → Steps
does gs x to (work.Declare p e) = single (declare p e) (goes x.function x.frames to.0)
does gs x to (work.Set p e) = single (set p e) (goes x.function x.frames to.0)
does gs x to (work.Call p f es) = calls gs x (Store p) to.0 f es
does gs x to (work.Input p) = single (input p) (goes x.function x.frames to.0)
does gs x to (work.Return e) = ticks (λ s n. given (value e s.variables) s (λ a. answers x.frames a s n))
does gs x to (work.ReturnCall f es) = calls gs x Return to.0 f es
does gs x to work.ReturnInput = ticks (λ s n. answers x.frames (take s).0 (take s).1 n)
does gs x to (work.Put e) = single (put e) (goes x.function x.frames to.0)
does gs x to (work.Print ps es) = single (write_out ps es) (goes x.function x.frames to.0)
does gs x to (work.Test e) = ticks (λ s n. given (value e s.variables) s (λ a. goes x.function x.frames (if word_holds a then to.0 else to.1) s n))
does gs x to work.Checkpoint = single (checkpoint x.node) (goes x.function x.frames to.0)
does gs x to (work.Exclude k) = single (exclude k) (goes x.function x.frames to.0)
does gs x to work.End = answers x.frames 0

abbrev pub does_node : Graphs → Spot → Option Edge → Option NodeWork → Steps
does_node gs x None w = nowhere
does_node gs x (Some to) None = nowhere
does_node gs x (Some to) (Some w) = does gs x to w

-- does one node
abbrev pub step : Graphs → Spot → Steps
step gs x = does_node gs x (edge_in (graph_at gs x.function) x.node) (work_in (graph_at gs x.function) x.node)

-- ---- runs

abbrev pub after : (Spot → State → ℕ → Run) → Step → Run
after go (Over r) = r
after go (On x s n) = go x s n

-- does at most so many nodes
abbrev pub run : Graphs → ℕ → Spot → State → ℕ → Run
run gs zero x s n = over Going s
run gs (suc b) x s n = after (run gs b) (step gs x s n)

-- each node but an end takes a tick, and an end ends a call: so many nodes are enough
abbrev pub enough_nodes : Spot → ℕ → ℕ
enough_nodes x n = 2 * n + length x.frames + 1

-- the run from before a node, in any state, with at most n ticks
abbrev pub graph_run : Graphs → Spot → State → ℕ → Run
graph_run gs x s n = run gs (enough_nodes x n) x s n
