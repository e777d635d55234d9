-- Runs at checkpoints, of each code that means the graphs: how they go on from one, and what they agree on at a later one.
use Rattle.std.specs.Prelude.{◌≡◌, ℕ, true, List, [], ◌∷◌, ◌++◌, length, drop, Some, None, slice_index}
use Rattle.ckpt_base.specs.Event.{Event, Checkpoint}
use Rattle.ckpt_base.specs.Run.{Run}
use Rattle.c_tree.specs.declared.resolved.Resolved.{Resolved}
use Rattle.c_tree.specs.Layout.{objects, cell_count}
use Rattle.c_tree.specs.Checked.{IsChecked, main_variable}
use Rattle.c_tree.specs.State.{State, first_state}
use Rattle.alias_sets.specs.declared.flows.PointerVar.TheVariants as var
use Rattle.path_laws.specs.Graph as effects
use Rattle.path_laws.specs.Forgettable.{IsForgettable}
use Rattle.flow_graph.specs.MainGraph.{IsMainGraph}
use Rattle.flow_graph.specs.Wanted.{IsWanted}
use Rattle.flow_graph.specs.Agreement.{IsKept, KeepsPointers, EndAlike, AlikeAfter}
use Rattle.machine_code.specs.CodeView.{CodeView}
use Rattle.machine_code.specs.Valid.{has_checkpoint}
use Rattle.machine_code.specs.Shown.{taken}
use Rattle.machine_code.specs.Run.{Reaches, CodeRun}
use Rattle.code_maker.specs.CheckpointPlaces.{IsCheckpointTo}
use Rattle.code_maker.specs.CodeMeaning.{IsOutside, world_at, IsStart, PassedLast, MeansGraphs}

-- two states behind checkpoint m, with no call active: the same but for the words of cells that are forgettable there; the first keeps its pointers
pub record AreResumed (p : Resolved) (g : effects.Graph) (m next : ℕ) (s t : State) : Type 0 where
  pub outside : IsOutside p s
  pub alike : AlikeAfter p g m s t
  pub pointers : KeepsPointers p (λ c. IsWanted g c next) None s

-- the pointers of a memory that are wanted behind checkpoint k name what they may
abbrev pub KeepsBehind : Resolved → effects.Graph → ℕ → List ℕ → Type 0
KeepsBehind p g k memory = (next c : ℕ) → IsCheckpointTo p k next → IsWanted g c next → main_variable p c ≡ Some true → IsKept p (var.Cell c) (slice_index memory c)

-- two memories behind checkpoint k have the same words in the cells that are not forgettable there; the first keeps its pointers
pub record AgreeBehind (p : Resolved) (g : effects.Graph) (k : ℕ) (a b : List ℕ) : Type 0 where
  pub size : length a ≡ cell_count p
  pub same_size : length b ≡ cell_count p
  pub words : (c : ℕ) → (IsForgettable g c k → ⊥) → slice_index a c ≡ slice_index b c
  pub pointers : KeepsBehind p g k a

-- ---- laws

-- From behind a checkpoint, two states that differ only in cells that are forgettable there give the same events, ending and ticks, for every number of ticks.
abbrev pub CodesRunAlike : Type 0
CodesRunAlike = (p : Resolved) (g : effects.Graph) (c : CodeView) (m q next : ℕ) (s t : State) (n : ℕ) (r o : Run) → IsChecked p → IsMainGraph p g → MeansGraphs p c
    → IsCheckpointTo p m next → has_checkpoint c m q ≡ true → AreResumed p g m next s t → CodeRun c (world_at q s) n r → CodeRun c (world_at q t) n o → EndAlike r o

-- Where such a run passed a checkpoint last, the memories of both again differ only in cells that are forgettable there.
abbrev pub CodesAgreeBehind : Type 0
CodesAgreeBehind = (p : Resolved) (g : effects.Graph) (c : CodeView) (m q next : ℕ) (s t : State) (n k : ℕ) (r o : Run) → IsChecked p → IsMainGraph p g → MeansGraphs p c
    → IsCheckpointTo p m next → has_checkpoint c m q ≡ true → AreResumed p g m next s t → CodeRun c (world_at q s) n r → CodeRun c (world_at q t) n o → PassedLast s k r
    → AgreeBehind p g k r.memory o.memory

-- Where the run from the start of the program passed a checkpoint last, the pointers that are wanted there name what they may.
abbrev pub CodesKeepPointers : Type 0
CodesKeepPointers = (p : Resolved) (g : effects.Graph) (c : CodeView) (input : List ℕ) (n k : ℕ) (r : Run) → IsChecked p → IsMainGraph p g → MeansGraphs p c
    → CodeRun c (world_at 0 (first_state p input)) n r → PassedLast (first_state p input) k r → KeepsBehind p g k r.memory

-- Nothing is shown behind a checkpoint that a run passed at its last tick.
abbrev pub CheckpointsEndTicks : Type 0
CheckpointsEndTicks = (p : Resolved) (c : CodeView) (q n k : ℕ) (s : State) (r : Run) (a b : List Event) → IsChecked p → MeansGraphs p c → IsStart p c q → IsOutside p s
    → CodeRun c (world_at q s) n r → r.events ≡ s.events ++ (a ++ Checkpoint k r.ticks ∷ b) → b ≡ []

-- the state of `main` that a run from the start of the program leaves, with no call active
abbrev pub state_behind : Resolved → List ℕ → Run → State
state_behind p input r = record {
  variables = record { objects = objects p; cells = r.memory; locals = [] };
  input = drop (taken r.events) input;
  events = r.events;
  ticks = r.ticks;
}

-- Where the run from the start of the program passed a checkpoint last, it came to the place after it, with no call active.
abbrev pub CodesStandBehind : Type 0
CodesStandBehind = (p : Resolved) (c : CodeView) (input : List ℕ) (n k : ℕ) (r : Run) → IsChecked p → MeansGraphs p c → CodeRun c (world_at 0 (first_state p input)) n r → PassedLast (first_state p input) k r
    → (q : ℕ) × (next : ℕ) × IsCheckpointTo p k next × (has_checkpoint c k q ≡ true) × (length r.memory ≡ cell_count p)
    × Reaches c (world_at 0 (first_state p input)) (world_at q (state_behind p input r))
