-- What a code means: the run of the graphs, from the entry and from behind each checkpoint; and where its run stands that passed a checkpoint last.
use Rattle.std.specs.Prelude.{◌≡◌, ◌⊎◌, ℕ, List, [], ◌∷◌, ◌++◌, true, Some, None, slice_get}
use Rattle.ckpt_base.specs.Event.{Event, Checkpoint}
use Rattle.ckpt_base.specs.Run.{Run}
use Rattle.c_tree.specs.declared.resolved.Resolved.{Resolved}
use Rattle.c_tree.specs.Layout.{objects}
use Rattle.c_tree.specs.State.{State}
use Rattle.c_tree.specs.Meaning.{over}
use Rattle.flow_graph.specs.declared.node.NodeWork.TheVariants as work
use Rattle.flow_graph.specs.Run.{graphs_of, graph_run, at_entry, spot}
use Rattle.machine_code.specs.CodeView.{CodeView}
use Rattle.machine_code.specs.State.{standing}
use Rattle.machine_code.specs.Valid.{has_checkpoint}
use Rattle.machine_code.specs.Run.{World, world, Reaches, CodeRun}
use Rattle.code_maker.specs.CheckpointPlaces.{IsCheckpointTo}

-- a state of `main` with no call active: any words in memory, any input that is left, any events and ticks so far
pub record IsOutside (p : Resolved) (s : State) : Type 0 where
  pub objects : s.variables.objects ≡ objects p
  pub locals : s.variables.locals ≡ []

-- the machine before place q in such a state
abbrev pub world_at : ℕ → State → World
world_at q s = world (standing q s.ticks) s.variables.cells s.input s.events

-- a place at which a run begins: the entry, or the place after a checkpoint
abbrev pub IsStart : Resolved → CodeView → ℕ → Type 0
IsStart p c q = (q ≡ 0) ⊎ ((m : ℕ) × (next : ℕ) × IsCheckpointTo p m next × (has_checkpoint c m q ≡ true))

-- the last event of a run from a state is that it passed checkpoint k, at its last tick: it wants another tick there, or ended without one
pub record PassedLast (s : State) (k : ℕ) (r : Run) : Type 0 where
  pub more : List Event
  pub events : r.events ≡ s.events ++ (more ++ Checkpoint k r.ticks ∷ [])

-- the run of a code came to the place after checkpoint k, with no call active, and changed nothing from there to its end
pub record StandsBehind (p : Resolved) (c : CodeView) (from : World) (k : ℕ) (r : Run) : Type 0 where
  pub place : ℕ
  pub next : ℕ
  pub to : IsCheckpointTo p k next
  pub listed : has_checkpoint c k place ≡ true
  pub state : State
  pub outside : IsOutside p state
  pub comes : Reaches c from (world_at place state)
  pub same : r ≡ over r.ending state

-- The runs of the code are those of the program's graphs: events, memory, ending and ticks, for every number of ticks; and one that passed a checkpoint last stands behind it.
pub record MeansGraphs (p : Resolved) (c : CodeView) : Type 0 where
  pub from_entry : (s : State) (n : ℕ) → IsOutside p s → CodeRun c (world_at 0 s) n (graph_run (graphs_of p) (at_entry (graphs_of p)) s n)
  pub from_checkpoint : (m q next : ℕ) (s : State) (n : ℕ) → IsOutside p s
      → slice_get (graphs_of p).main.works m ≡ Some work.Checkpoint
      → slice_get (graphs_of p).main.edges m ≡ Some (Some next, None)
      → has_checkpoint c m q ≡ true
      → CodeRun c (world_at q s) n (graph_run (graphs_of p) (spot None next []) s n)
  pub behind : (q : ℕ) (s : State) (n k : ℕ) (r : Run) → IsStart p c q → IsOutside p s → CodeRun c (world_at q s) n r → PassedLast s k r → StandsBehind p c (world_at q s) k r
