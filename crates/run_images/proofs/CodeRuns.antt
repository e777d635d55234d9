-- Where runs of a code stop, and what they show up to there.
use Rattle.std.proofs.Common.{◌≡◌, refl, sym, ◌∙◌, ap, subst, ℕ, ◌+◌, ◌-◌, ◌≤◌, List, [], ◌∷◌, ◌++◌, Option, Some, None, append_assoc, arith}
use Rattle.std.specs.Prelude.{slice_index}
use Rattle.std.specs.List.{Contains}
use Rattle.ckpt_base.specs.declared.ending.Ending.{Ending}
use Rattle.ckpt_base.specs.declared.ending.Ending.TheVariants as ending
use Rattle.ckpt_base.specs.Event.{Event, Wrote, Byte, Took, Excluded, Checkpoint}
use Rattle.ckpt_base.specs.Run.{Run}
use Rattle.c_tree.specs.declared.resolved.Resolved.{Resolved}
use Rattle.c_tree.specs.Checked.{IsChecked}
use Rattle.c_tree.specs.State.{State, first_state}
use Rattle.c_tree.specs.Meaning.{meaning}
use Rattle.flow_graph.specs.declared.node.NodeWork.{NodeWork}
use Rattle.flow_graph.specs.declared.node.NodeWork.TheVariants as work
use Rattle.flow_graph.specs.Run.{Graphs, spot, graphs_of, graph_run, at_entry, does_node, after, run, edge_in, work_in}
use Rattle.machine_code.specs.declared.event.Event as machine
use Rattle.machine_code.specs.declared.event.Event.TheVariants as answer
use Rattle.machine_code.specs.CodeView.{CodeView}
use Rattle.machine_code.specs.Run.{World, Reaches, CodeRun, StopsBy, next_row, unprotected, run_at}
use Rattle.machine_code.specs.Shown.{wrote, MarksWithin, Shows}
use Rattle.code_maker.specs.CodeMeaning.{IsOutside, world_at, IsStart, MeansGraphs}
use Rattle.code_maker.specs.Resumed.{CodesRunAlike, CodesAgreeBehind, CodesKeepPointers, CheckpointsEndTicks, CodesStandBehind}

-- the laws of runs of codes and graphs that are used here
pub record RunLaws : Type 0 where
  pub one : (c : CodeView) (w : World) (n : ℕ) (r q : Run) → CodeRun c w n r → CodeRun c w n q → r ≡ q
  pub shows : (c : CodeView) (w v : World) → Reaches c w v → Shows w v
  pub passes : (c : CodeView) (w v : World) (n : ℕ) (r : Run) → CodeRun c w n r → Reaches c w v → v.state.ticks ≤ w.state.ticks + n → CodeRun c v ((w.state.ticks + n) - v.state.ticks) r
  pub means : (p : Resolved) (input : List ℕ) (n : ℕ) → meaning p input n ≡ graph_run (graphs_of p) (at_entry (graphs_of p)) (first_state p input) n

-- the laws of codes at checkpoints
pub record CodeLaws : Type 0 where
  pub alike : CodesRunAlike
  pub agree : CodesAgreeBehind
  pub pointers : CodesKeepPointers
  pub ends : CheckpointsEndTicks
  pub behind : CodesStandBehind

-- ---- where a run stops

-- a run gives what stands in the world at which it stops
pub record GivesWorld (v : World) (bound : ℕ) (r : Run) : Type 0 where
  pub ticks : v.state.ticks ≤ bound
  pub ending : Ending
  pub is : r ≡ run_at v ending

pub stops_by : (v : World) (bound : ℕ) (r : Run) (e : machine.Event) → StopsBy e v bound r → GivesWorld v bound r
stops_by v bound r (answer.Ended x) h = record { ticks = h.0; ending = ending.Ended x; is = h.1 }
stops_by v bound r (answer.Trapped t) h = record { ticks = h.0; ending = ending.Trapped t; is = h.1 }
stops_by v bound r answer.Ticked h = record { ticks = omega (arith, h.0); ending = ending.Going; is = h.1 }
stops_by v bound r answer.Ran h = absurd h
stops_by v bound r (answer.WriteFault p) h = absurd h
stops_by v bound r (answer.Out b) h = absurd h
stops_by v bound r (answer.OutNumber b) h = absurd h
stops_by v bound r answer.WantsInput h = absurd h
stops_by v bound r (answer.Checkpoint n) h = absurd h
stops_by v bound r (answer.Exclude n) h = absurd h

-- what a run from a world has shown where it stopped, at the latest with so many ticks
pub record Stopped (w : World) (bound : ℕ) (r : Run) : Type 0 where
  pub more : List Event
  pub events : r.events ≡ w.events ++ more
  pub low : w.state.ticks ≤ r.ticks
  pub high : r.ticks ≤ bound
  pub words : (cell : ℕ) → (Contains (wrote more) cell → ⊥) → slice_index r.memory cell ≡ slice_index w.memory cell
  pub marks : MarksWithin w.state.ticks r.ticks more

pub run_stopped : RunLaws → (c : CodeView) (w : World) (n : ℕ) (r : Run) → CodeRun c w n r → Stopped w (w.state.ticks + n) r
run_stopped laws c w n r run =
    let v = run.0 in
    let at = stops_by v (w.state.ticks + n) r (next_row c unprotected v.state v.memory).event run.2 in
    let shown = laws.shows c w v run.1 in
    let ticks : r.ticks ≡ v.state.ticks = ap (λ (x : Run). x.ticks) at.is in
    record {
      more = shown.more;
      events = ap (λ (x : Run). x.events) at.is ∙ shown.events;
      low = omega (arith, shown.ticks, ticks);
      high = omega (arith, at.ticks, ticks);
      words = λ cell no. ap (λ (x : Run). slice_index x.memory cell) at.is ∙ shown.words cell no;
      marks = subst (λ n. MarksWithin w.state.ticks n shown.more) (sym ticks) shown.marks;
    }

-- the tick of a checkpoint among events
pub mark_within : (low high k t : ℕ) (a b : List Event) → MarksWithin low high (a ++ Checkpoint k t ∷ b) → (low ≤ t) × (t ≤ high)
mark_within low high k t [] b h = (h.0, h.1)
mark_within low high k t (Checkpoint m u ∷ a) b h = mark_within low high k t a b h.2
mark_within low high k t (Wrote c ∷ a) b h = mark_within low high k t a b h
mark_within low high k t (Byte x ∷ a) b h = mark_within low high k t a b h
mark_within low high k t (Took ∷ a) b h = mark_within low high k t a b h
mark_within low high k t (Excluded x ∷ a) b h = mark_within low high k t a b h

none_of : (c : ℕ) → Contains [] c → ⊥
none_of c h = omega (arith, h.1)

-- ---- a world that just passed a checkpoint

-- the run that stops with the ticks of this world stops in it
pub record StopsIn (w : World) (r : Run) : Type 0 where
  pub events : r.events ≡ w.events
  pub ticks : r.ticks ≡ w.state.ticks
  pub words : (cell : ℕ) → slice_index r.memory cell ≡ slice_index w.memory cell

pub stops_in : RunLaws → CheckpointsEndTicks → (p : Resolved) (c : CodeView) (q : ℕ) (u : State) (w : World) (node n : ℕ) (more : List Event) (r : Run) → IsChecked p → MeansGraphs p c → IsStart p c q → IsOutside p u
    → Reaches c (world_at q u) w → w.events ≡ u.events ++ (more ++ Checkpoint node w.state.ticks ∷ []) → u.ticks + n ≡ w.state.ticks → CodeRun c (world_at q u) n r → StopsIn w r
stops_in laws ends p c q u w node n more r checked means start outside reaches last bound run =
    let on = laws.passes c (world_at q u) w n r run reaches (omega (arith, bound)) in
    let at = run_stopped laws c w ((u.ticks + n) - w.state.ticks) r on in
    let ticks : r.ticks ≡ w.state.ticks = omega (arith, at.low, at.high, bound) in
    let split : r.events ≡ u.events ++ (more ++ Checkpoint node r.ticks ∷ at.more) =
    at.events ∙ ap (λ l. l ++ at.more) last ∙ append_assoc u.events (more ++ Checkpoint node w.state.ticks ∷ []) at.more
    ∙ ap (λ l. u.events ++ l) (append_assoc more (Checkpoint node w.state.ticks ∷ []) at.more) ∙ ap (λ t. u.events ++ (more ++ Checkpoint node t ∷ at.more)) (sym ticks) in
    let none : at.more ≡ [] = ends p c q n node u r more at.more checked means start outside run split in
    record {
      events = split ∙ ap (λ l. u.events ++ (more ++ Checkpoint node r.ticks ∷ l)) none ∙ ap (λ t. u.events ++ (more ++ Checkpoint node t ∷ [])) ticks ∙ sym last;
      ticks = ticks;
      words = λ cell. at.words cell (λ h. none_of cell (subst (λ l. Contains (wrote l) cell) none h));
    }

-- ---- a run with no tick

-- a node shows nothing before its tick
none_before : (gs : Graphs) (m : ℕ) (s : State) (e : Option (Option ℕ × Option ℕ)) (w : Option NodeWork) → (after (run gs 0) (does_node gs (spot None m []) e w s 0)).events ≡ s.events
none_before gs m s None w = refl
none_before gs m s (Some to) None = refl
none_before gs m s (Some to) (Some (work.Declare p e)) = refl
none_before gs m s (Some to) (Some (work.Set p e)) = refl
none_before gs m s (Some to) (Some (work.Call p f es)) = refl
none_before gs m s (Some to) (Some (work.Input p)) = refl
none_before gs m s (Some to) (Some (work.Return e)) = refl
none_before gs m s (Some to) (Some (work.ReturnCall f es)) = refl
none_before gs m s (Some to) (Some work.ReturnInput) = refl
none_before gs m s (Some to) (Some (work.Put e)) = refl
none_before gs m s (Some to) (Some (work.Print ps es)) = refl
none_before gs m s (Some to) (Some (work.Test e)) = refl
none_before gs m s (Some to) (Some work.Checkpoint) = refl
none_before gs m s (Some to) (Some (work.Exclude k)) = refl
none_before gs m s (Some to) (Some work.End) = refl

pub nothing_at_first : RunLaws → (p : Resolved) (input : List ℕ) → (meaning p input 0).events ≡ []
nothing_at_first laws p input =
    let gs = graphs_of p in
    ap (λ (r : Run). r.events) (laws.means p input 0) ∙ none_before gs gs.main.entry (first_state p input) (edge_in (Some gs.main) gs.main.entry) (work_in (Some gs.main) gs.main.entry)
