-- The code of a checked program means what its graphs mean, and its run that passed a checkpoint last stands behind it.
use Rattle.std.proofs.Common.{◌≡◌, ℕ, ◌+◌, inl, inr, List, [], ◌∷◌, ◌++◌, length, Option, Some, None, true, refl, sym, ◌∙◌, subst, append-nil}
use Rattle.std.proofs.lemmas.List.{append_cancel_left}
use Rattle.ckpt_base.specs.Event.{Checkpoint}
use Rattle.ckpt_base.specs.Run.{Run}
use Rattle.c_tree.specs.declared.resolved.Resolved.{Resolved}
use Rattle.c_tree.specs.Layout.{objects}
use Rattle.c_tree.specs.Checked.{IsChecked}
use Rattle.c_tree.specs.State.{State, first_state, ticked, with_event}
use Rattle.c_tree.specs.Meaning.{meaning}
use Rattle.flow_graph.specs.declared.node.NodeWork.TheVariants as work
use Rattle.flow_graph.specs.Run.{Graphs, Frame, Spot, spot, On, step, edge_in, work_in, graphs_of, graph_run}
use Rattle.flow_graph.proofs.Whole.{same_meaning}
use Rattle.machine_code.specs.declared.instr.Instr.TheVariants as instr
use Rattle.machine_code.specs.declared.event.Caller.{Caller}
use Rattle.machine_code.specs.CodeView.{CodeView}
use Rattle.machine_code.specs.Valid.{has_checkpoint}
use Rattle.machine_code.specs.Run.{World, world, Reaches, CodeRun}
use Rattle.machine_code.proofs.RunLaws.{one_answer, reaches_on}
use Rattle.code_maker.specs.NodeCode.{start_in}
use Rattle.code_maker.specs.ProgramCode.{graphs_block, all_graphs, code_of}
use Rattle.code_maker.specs.CodeMeaning.{IsOutside, world_at, IsStart, PassedLast, StandsBehind, MeansGraphs}
use Rattle.code_maker.proofs.Has.{has_self}
use Rattle.code_maker.proofs.Stand.{stand, reaches_done}
use Rattle.code_maker.proofs.Segments.{IsNode, segment_stands}
use Rattle.code_maker.proofs.Ties.{IsTied, tied, ComesTo, Does}
use Rattle.code_maker.proofs.Nodes.{step_does}
use Rattle.code_maker.proofs.Placed.{signatures, CodeStands, callable}
use Rattle.code_maker.proofs.Means.{Begins, tie_main, comes_to_node, from_node, entry_begins, checkpoint_begins}
use Rattle.code_maker.proofs.CheckpointLaws.{in_table}
use Rattle.code_maker.proofs.ResumedSteps.{AreNested, main_locals, Passes}
use Rattle.code_maker.proofs.ResumedRuns.{last_step, in_main, no_locals, Stops, stops}

module _ (p : Resolved) (checked : IsChecked p) where
  abbrev c : CodeView
  c = code_of p

  abbrev gs : Graphs
  gs = graphs_of p

  code_stands : CodeStands p checked c
  code_stands = has_self (graphs_block (all_graphs p) 0)

  -- ---- from where a run begins

  abbrev Starts : ℕ → ℕ → Type 0
  Starts q n = Begins p checked c code_stands refl refl q n

  starts : (q : ℕ) → IsStart p c q → (n : ℕ) × Starts q n
  starts q (inl e) = (gs.main.entry, subst (λ z. Starts z gs.main.entry) (sym e) (entry_begins p checked c code_stands refl refl))
  starts q (inr h) = (h.1, checkpoint_begins p checked c code_stands refl refl refl h.0 q h.1 h.2 h.3)

  run_from : (q n : ℕ) (s : State) (k : ℕ) → IsOutside p s → Starts q n → CodeRun c (world_at q s) k (graph_run gs (spot None n []) s k)
  run_from = from_node p checked c code_stands refl refl

  -- ---- the code along a run

  module _ (from : World) where
    -- the code comes to where it stands for a spot
    pub record Follows (x : Spot) (s : State) : Type 0 where
      pub callers : List Caller
      pub tie : IsTied c gs (signatures p checked) x s callers
      pub comes : Reaches c from (tied c gs (signatures p checked) x s callers tie)

    follows_on : (x : Spot) (s : State) (n : ℕ) (y : Spot) (u : State) (i : ℕ) → Follows x s → step gs x s n ≡ On y u i → Follows y u
    follows_on x s n y u i h e =
        let sg = signatures p checked in
        let w = tied c gs sg x s h.callers h.tie in
        let d : ComesTo c gs sg w (s.ticks + n) y u i = subst (Does c gs sg w (s.ticks + n)) e (step_does c gs sg (callable p checked c code_stands refl) x s h.callers h.tie n) in
        record { callers = d.callers; tie = d.tie; comes = reaches_on c from w (tied c gs sg y u d.callers d.tie) h.comes d.comes }

    -- .. and to the place after a checkpoint
    pub record ComesBehind (k : ℕ) (u : State) : Type 0 where
      pub place : ℕ
      pub listed : has_checkpoint c k place ≡ true
      pub objects : u.variables.objects ≡ objects p
      pub comes : Reaches c from (world_at place u)

    -- a tick, and the instruction of the checkpoint
    passes_in_main : (m : ℕ) (s u : State) (y : Spot) → Follows (spot None m []) s → s.variables.locals ≡ [] → Passes gs (spot None m []) s y u → ComesBehind m u
    passes_in_main m s u y h none d =
        let sg = signatures p checked in
        let g = h.tie.graph in
        let graph_is = h.tie.placed.graph in
        let is : IsNode g m d.edge work.Checkpoint = record { edge = subst (λ o. edge_in o m ≡ Some d.edge) graph_is d.edge_is; does = subst (λ o. work_in o m ≡ Some work.Checkpoint) graph_is d.does } in
        let z = start_in g h.tie.start m in
        let has = segment_stands c.instrs g h.tie.start h.tie.placed.code m d.edge work.Checkpoint is in
        let ks = h.callers in
        let t = ticked s in
        let v = with_event (Checkpoint m t.ticks) t in
        let tick : Reaches c (stand [] ks s z []) (stand [] ks t (z + 1) [])
        = subst (λ es. Reaches c (stand [] ks s z []) (stand [] ks (record t { events = es }) (z + 1) [])) (append-nil s.events) (reaches_done c (stand [] ks s z []) instr.Tick _ has.0 refl) in
        let mark : Reaches c (stand [] ks t (z + 1) []) (stand [] ks v (z + 1 + 1) []) = reaches_done c (stand [] ks t (z + 1) []) (instr.Ckpt m) _ has.1.0 refl in
        let there : List ℕ → List Caller → World = λ ls js. world (record { place = z + 1 + 1; operands = []; below = 0; locals = ls; locals_below = 0; callers = js; ticks = v.ticks }) v.variables.cells v.input v.events in
        let comes : Reaches c from (there s.variables.locals ks) = reaches_on c from (stand [] ks t (z + 1) []) (stand [] ks v (z + 1 + 1) []) (reaches_on c from (stand [] ks s z []) (stand [] ks t (z + 1) []) h.comes tick) mark in
        let outside : Reaches c from (there [] []) = subst (λ ls. Reaches c from (there ls [])) none (subst (λ js. Reaches c from (there s.variables.locals js)) h.tie.callers comes) in
        subst (ComesBehind m) (sym d.state_is) (record { place = z + 1 + 1; listed = in_table p checked (z + 1) m has.1.0; objects = h.tie.objects; comes = outside })

    passes_behind : (f : Option ℕ) (m : ℕ) (frs : List Frame) (s : State) (y : Spot) (u : State) → f ≡ None → frs ≡ [] → Follows (spot f m frs) s → length (main_locals frs s.variables.locals) ≡ 0 → Passes gs (spot f m frs) s y u → ComesBehind m u
    passes_behind f m frs s y u main none h locals d =
        let follows = subst (λ a. Follows (spot None m a) s) none (subst (λ a. Follows (spot a m frs) s) main h) in
        let passes = subst (λ a. Passes gs (spot None m a) s y u) none (subst (λ a. Passes gs (spot a m frs) s y u) main d) in
        passes_in_main m s u y follows (no_locals s.variables.locals (subst (λ a. length (main_locals a s.variables.locals) ≡ 0) none locals)) passes

    passes_there : (x : Spot) (s : State) (y : Spot) (u : State) → Follows x s → AreNested x.function x.frames → length (main_locals x.frames s.variables.locals) ≡ 0 → Passes gs x s y u → ComesBehind x.node u
    passes_there x s y u h nested locals d =
        let main = in_main p checked x.node x.function x.frames nested d.does in
        passes_behind x.function x.node x.frames s y u main.0 main.1 h locals d

  stands_behind : (q : ℕ) (s : State) (n k : ℕ) (r : Run) → IsStart p c q → IsOutside p s → CodeRun c (world_at q s) n r → PassedLast s k r → StandsBehind p c (world_at q s) k r
  stands_behind q s n k r start out run last =
      let b = starts q start in
      let x = spot None b.0 [] in
      let w = world_at q s in
      let is : graph_run gs x s n ≡ r = one_answer c w n (graph_run gs x s n) r (run_from q b.0 s n out b.1) run in
      let l = last_step gs x s n in
      let first : Follows w x s = record { callers = []; tie = tie_main p checked c code_stands refl refl b.0 s b.1.there out; comes = comes_to_node p checked c code_stands refl refl q b.0 s out b.1 } in
      let st = subst (Stops p checked (ComesBehind w) s l.at l.state) is (stops p checked (ComesBehind w) (Follows w) (follows_on w) (passes_there w) b.0 s n out.locals first l) in
      let here = st.behind k last.more [] (append_cancel_left s.events st.more (last.more ++ Checkpoint k r.ticks ∷ []) (sym st.events ∙ last.events)) in
      let to = here.3 in
      record {
        place = to.place;
        next = here.2.0;
        to = here.2.1;
        listed = to.listed;
        state = l.state;
        outside = record { objects = to.objects; locals = here.4 };
        comes = to.comes;
        same = here.1;
      }

  pub code_means : MeansGraphs p c
  code_means = record {
    from_entry = λ s n out. run_from 0 gs.main.entry s n out (entry_begins p checked c code_stands refl refl);
    from_checkpoint = λ m q next s n out does edge has. run_from q next s n out (checkpoint_begins p checked c code_stands refl refl refl m q next (record { does = does; edge = edge }) has);
    behind = stands_behind;
  }

pub code_means_program : (p : Resolved) (input : List ℕ) (n : ℕ) → IsChecked p → CodeRun (code_of p) (world_at 0 (first_state p input)) n (meaning p input n)
code_means_program p input n checked =
    let from = (code_means p checked).from_entry (first_state p input) n (record { objects = refl; locals = refl }) in
    subst (CodeRun (code_of p) (world_at 0 (first_state p input)) n) (sym (same_meaning p input n)) from

pub code_means_no_other : (p : Resolved) (input : List ℕ) (n : ℕ) (r : Run) → IsChecked p → CodeRun (code_of p) (world_at 0 (first_state p input)) n r → r ≡ meaning p input n
code_means_no_other p input n r checked run = one_answer (code_of p) (world_at 0 (first_state p input)) n r (meaning p input n) run (code_means_program p input n checked)
