-- States that agree before a node, and keep their pointers.
use Rattle.std.specs.Prelude.{◌≡◌, ℕ, zero, suc, ◌+◌, ◌/◌, ◌^◌, ◌<◌, ◌⊎◌, Bool, true, List, [], ◌∷◌, ◌++◌, length, Option, Some, None, slice_get, slice_index_or}
use Rattle.std.specs.Option.{option_and_then}
use Rattle.std.specs.List.{Contains}
use Rattle.ckpt_base.specs.Event.{Event, Wrote, Byte, Took, Excluded, Checkpoint}
use Rattle.ckpt_base.specs.Run.{Run}
use Rattle.c_tree.specs.declared.resolved.Resolved.{Resolved}
use Rattle.c_tree.specs.Layout.{objects, cell_count}
use Rattle.c_tree.specs.Checked.{local_kind, main_variable}
use Rattle.c_tree.specs.State.{State}
use Rattle.c_tree.specs.Meaning.{over}
use Rattle.ckpt_base.specs.declared.ending.Ending.TheVariants.{Going}
use Rattle.alias_sets.specs.declared.flows.PointerVar.{PointerVar}
use Rattle.alias_sets.specs.declared.flows.PointerVar.TheVariants as var
use Rattle.alias_sets.specs.Points.{MayHold}
use Rattle.path_laws.specs.Graph as effects
use Rattle.path_laws.specs.Forgettable.{IsForgettable}
use Rattle.access_summary.specs.Edges.{Edge}
use Rattle.flow_graph.specs.declared.node.NodeWork.{NodeWork}
use Rattle.flow_graph.specs.declared.node.NodeWork.TheVariants as work
use Rattle.flow_graph.specs.Run.{Graphs, Waits, Store, Return, Frame, Spot, Step, Over, On, graphs_of, graph_at, edge_in, work_in, step, graph_run}
use Rattle.flow_graph.specs.Wanted.{IsWanted}

-- ---- the calls that wait

-- what waits for the answer of a call, and the function that is called
abbrev pub call_of : NodeWork → Option (Waits × ℕ)
call_of (work.Call p f es) = Some (Store p, f)
call_of (work.ReturnCall f es) = Some (Return, f)
call_of w = None

-- the frame is that of a call of function f, made at this node
pub record IsCallOf (p : Resolved) (f : ℕ) (fr : Frame) (node : ℕ) : Type 0 where
  pub edge : Edge
  pub work : NodeWork
  pub is_edge : edge_in (graph_at (graphs_of p) fr.function) node ≡ Some edge
  pub is_work : work_in (graph_at (graphs_of p) fr.function) node ≡ Some work
  pub calls : call_of work ≡ Some (fr.waits, f)
  pub next : fr.next ≡ edge.0

-- so is this frame; the first of all calls was made at node n of `main`
abbrev pub IsCallOver : Resolved → ℕ → ℕ → Frame → List Frame → Type 0
IsCallOver p n f fr [] = IsCallOf p f fr n
IsCallOver p n f fr (below ∷ frs) = (k : ℕ) × IsCallOf p f fr k

-- the frames are those of calls along the text, the innermost a call of this function
abbrev pub AreCalls : Resolved → ℕ → Option ℕ → List Frame → Type 0
AreCalls p n None [] = Unit {0}
AreCalls p n (Some f) [] = ⊥
AreCalls p n None (fr ∷ frs) = ⊥
AreCalls p n (Some f) (fr ∷ frs) = IsCallOver p n f fr frs × AreCalls p n fr.function frs

-- ---- where a run stands in `main`

-- the node of `main` that comes next, or at which the active call was made; and the cells written since that call began
pub record Place : Type 0 where
  pub node : ℕ
  pub written : List ℕ

-- the place before node n of `main`
abbrev pub outside : ℕ → Place
outside n = record { node = n; written = [] }

-- outside calls the place is that of the spot
abbrev pub IsOutside : Place → ℕ → List Frame → Type 0
IsOutside l m [] = (l.node ≡ m) × (l.written ≡ [])
IsOutside l m (fr ∷ frs) = Unit {0}

-- the cells that events write
abbrev pub wrote : List Event → List ℕ
wrote [] = []
wrote (Wrote c ∷ es) = c ∷ wrote es
wrote (Byte b ∷ es) = wrote es
wrote (Took ∷ es) = wrote es
wrote (Excluded k ∷ es) = wrote es
wrote (Checkpoint m t ∷ es) = wrote es

-- the place once a step led to node m, from these frames to those, and wrote these cells: a call of `main` begins with nothing written
abbrev pub moved : Place → ℕ → List Frame → List Frame → List ℕ → Place
moved l m from [] ws = outside m
moved l m [] (fr ∷ to) ws = record { node = l.node; written = [] }
moved l m (below ∷ from) (fr ∷ to) ws = record { node = l.node; written = l.written ++ ws }

-- the cells that count at a place: those that are wanted before its node, and those written since the call began
abbrev pub Counts : effects.Graph → Place → ℕ → Type 0
Counts g l c = IsWanted g c l.node ⊎ Contains l.written c

-- what counts at the second place counted at the first, or these events wrote it
abbrev pub CountedBefore : Resolved → effects.Graph → Place → Place → List Event → Type 0
CountedBefore p g l l' es = (c : ℕ) → c < cell_count p → Counts g l' c → Counts g l c ⊎ Contains (wrote es) c

-- ---- agreement

-- the word of a cell
abbrev pub word : State → ℕ → ℕ
word s c = slice_index_or s.variables.cells c 0

-- the same state with other words in its cells
abbrev pub with_cells : List ℕ → State → State
with_cells cells s = record s { variables = record s.variables { cells = cells } }

-- two states of a program are the same, but for the words of cells that do not count
pub record AreAlike (p : Resolved) (counts : ℕ → Type 0) (s t : State) : Type 0 where
  pub rest : t ≡ with_cells t.variables.cells s
  pub objects : s.variables.objects ≡ objects p
  pub size : length s.variables.cells ≡ cell_count p
  pub same_size : length t.variables.cells ≡ cell_count p
  pub words : (c : ℕ) → counts c → word s c ≡ word t c

-- ---- pointers

-- word a names object o
abbrev pub NamesObject : Resolved → ℕ → ℕ → Type 0
NamesObject p a o = (a / 2 ^ 32 ≡ o + 1) × (o < length p.objects)

-- word a names no object, or one that variable v may hold
abbrev pub IsKept : Resolved → PointerVar → ℕ → Type 0
IsKept p v a = (o : ℕ) → NamesObject p a o → MayHold p v o

-- whether local i of function f is a pointer
abbrev pub pointer_local : Resolved → ℕ → ℕ → Option Bool
pointer_local p f i = option_and_then (λ h. local_kind h.locals i) (slice_get p.functions f)

-- the pointers among these locals of a function keep to what they may hold; those of `main` are cells
abbrev pub KeepsLocals : Resolved → Option ℕ → List ℕ → Type 0
KeepsLocals p None ls = Unit {0}
KeepsLocals p (Some f) ls = (i : ℕ) → pointer_local p f i ≡ Some true → IsKept p (var.Local f i) (slice_index_or ls i 0)

-- so do those of the calls that wait
abbrev pub KeepsFrames : Resolved → List Frame → Type 0
KeepsFrames p [] = Unit {0}
KeepsFrames p (fr ∷ frs) = KeepsLocals p fr.function fr.locals × KeepsFrames p frs

-- the pointers among the cells that count, and among the locals of the innermost call
pub record KeepsPointers (p : Resolved) (counts : ℕ → Type 0) (f : Option ℕ) (s : State) : Type 0 where
  pub cells : (c : ℕ) → counts c → main_variable p c ≡ Some true → IsKept p (var.Cell c) (word s c)
  pub locals : KeepsLocals p f s.variables.locals

-- ---- runs

-- two states that a run may come to at a spot agree there, and keep their pointers
pub record AgreeAt (p : Resolved) (g : effects.Graph) (l : Place) (x : Spot) (s t : State) : Type 0 where
  pub calls : AreCalls p l.node x.function x.frames
  pub outside : IsOutside l x.node x.frames
  pub alike : AreAlike p (Counts g l) s t
  pub pointers : KeepsPointers p (Counts g l) x.function s
  pub frames : KeepsFrames p x.frames

-- two runs have the same events, ending and ticks
pub record EndAlike (q r : Run) : Type 0 where
  pub events : q.events ≡ r.events
  pub ending : q.ending ≡ r.ending
  pub ticks : q.ticks ≡ r.ticks

-- two steps from spot x went on to one spot, with as many ticks left and the same events, to states that agree there
pub record GoOnAlike (p : Resolved) (g : effects.Graph) (l : Place) (x y z : Spot) (s s' t' : State) (n m : ℕ) : Type 0 where
  pub spot : z ≡ y
  pub ticks : m ≡ n
  pub more : List Event
  pub events : s'.events ≡ s.events ++ more
  pub agree : AgreeAt p g (moved l y.node x.frames y.frames (wrote more)) y s' t'
  pub counts : CountedBefore p g l (moved l y.node x.frames y.frames (wrote more)) more

-- two steps from spot x and states that agree there, s one of them, end alike, or go on alike
abbrev pub StepsAgree : Resolved → effects.Graph → Place → Spot → State → Step → Step → Type 0
StepsAgree p g l x s (Over q) (Over r) = EndAlike q r
StepsAgree p g l x s (On y s' n) (On z t' m) = GoOnAlike p g l x y z s s' t' n m
StepsAgree p g l x s (Over q) (On z t' m) = ⊥
StepsAgree p g l x s (On y s' n) (Over r) = ⊥

-- so many steps lead from spot x, state s and n ticks to spot y, state t and m ticks
abbrev pub ComesTo : Graphs → ℕ → Spot → State → ℕ → Spot → State → ℕ → Type 0
ComesTo gs zero x s n y t m = (x ≡ y) × (s ≡ t) × (n ≡ m)
ComesTo gs (suc k) x s n y t m = (z : Spot) × (u : State) × (i : ℕ) × (step gs x s n ≡ On z u i) × ComesTo gs k z u i y t m

-- as many steps lead from states s and t, with which a run came to place l, to states u and another that agree, with the same events
pub record ComesAlike (p : Resolved) (g : effects.Graph) (l : Place) (k : ℕ) (x : Spot) (s t : State) (n : ℕ) (y : Spot) (u : State) (m : ℕ) : Type 0 where
  pub state : State
  pub place : Place
  pub comes : ComesTo (graphs_of p) k x t n y state m
  pub agree : AgreeAt p g place y u state
  pub more : List Event
  pub events : u.events ≡ s.events ++ more
  pub counts : CountedBefore p g l place more

-- a run with n ticks comes by steps to where it stands: it wants another tick there
pub record StandsAfter (gs : Graphs) (x : Spot) (s : State) (n : ℕ) : Type 0 where
  pub steps : ℕ
  pub at : Spot
  pub state : State
  pub comes : ComesTo gs steps x s n at state 0
  pub wants : step gs at state 0 ≡ Over (over Going state)
  pub stands : graph_run gs x s n ≡ over Going state

-- so do two runs, and they stand at one spot in states that agree there
pub record StandAlike (p : Resolved) (g : effects.Graph) (x : Spot) (s t : State) (n : ℕ) : Type 0 where
  pub one : StandsAfter (graphs_of p) x s n
  pub other : StandsAfter (graphs_of p) x t n
  pub same : other.at ≡ one.at
  pub place : Place
  pub agree : AgreeAt p g place one.at one.state other.state

-- ---- what an image keeps

-- two states are the same, but for the words of cells that are forgettable at node n
abbrev pub AlikeAfter : Resolved → effects.Graph → ℕ → State → State → Type 0
AlikeAfter p g n s t = AreAlike p (λ c. IsForgettable g c n → ⊥) s t
