-- The runs of the code of a checked program are those of its graphs, from the entry and from behind each checkpoint.
use Rattle.std.proofs.Common.{◌≡◌, ℕ, ◌+◌, [], ◌∷◌, length, Some, None, true, refl, sym, ap, ◌∙◌, subst, arith}
use Rattle.std.specs.Prelude.{◌==◌, ◌&&◌}
use Rattle.std.specs.List.{list_any}
use Rattle.c_tree.specs.declared.resolved.Resolved.{Resolved}
use Rattle.c_tree.specs.Layout.{objects}
use Rattle.c_tree.specs.Checked.{IsChecked, in_main}
use Rattle.c_tree.specs.State.{State}
use Rattle.flow_graph.specs.declared.node.NodeWork.TheVariants as work
use Rattle.flow_graph.specs.Run.{graphs_of, graph_run, spot, enough_nodes}
use Rattle.machine_code.specs.declared.instr.Instr.TheVariants as instr
use Rattle.machine_code.specs.CodeView.{CodeView, node, place_after}
use Rattle.machine_code.specs.Valid.{has_checkpoint}
use Rattle.machine_code.specs.Run.{world, Reaches, CodeRun}
use Rattle.code_maker.specs.NodeCode.{graph_block, starts, start_in}
use Rattle.code_maker.specs.ProgramCode.{functions_from, checkpoints_from}
use Rattle.code_maker.specs.CheckpointPlaces.{IsCheckpointTo}
use Rattle.code_maker.specs.CodeMeaning.{IsOutside, world_at}
use Rattle.code_maker.proofs.Stand.{stand}
use Rattle.code_maker.proofs.Segments.{IsNode, IsThere, Leads, entry_leads}
use Rattle.code_maker.proofs.Ties.{IsTied, tied, ends_on, leads_on}
use Rattle.code_maker.proofs.Nodes.{leads_to, run_ends}
use Rattle.code_maker.proofs.Placed.{signatures, CodeStands, main_placed, callable, Behind, checkpoints_behind}

module _ (p : Resolved) (checked : IsChecked p) (c : CodeView) (stands : CodeStands p checked c) (functions : c.functions ≡ functions_from p.functions (length (graph_block (graphs_of p).main 0))) (objects_are : c.objects ≡ objects p) where
  abbrev pub tie_main : (n : ℕ) (s : State) → IsThere (graphs_of p).main n → IsOutside p s → IsTied c (graphs_of p) (signatures p checked) (spot None n []) s []
  tie_main n s there out = record {
    graph = (graphs_of p).main;
    start = 0;
    rules = in_main p;
    placed = main_placed p checked c stands functions;
    there = there;
    callers = refl;
    objects = out.objects ∙ sym objects_are;
  }

  -- place q leads to node n of `main`
  pub record Begins (q n : ℕ) : Type 0 where
    pub there : IsThere (graphs_of p).main n
    pub leads : Leads c.instrs q (start_in (graphs_of p).main 0 n)

  -- so the run comes there
  pub comes_to_node : (q n : ℕ) (s : State) (out : IsOutside p s) (b : Begins q n) → Reaches c (world_at q s) (tied c (graphs_of p) (signatures p checked) (spot None n []) s [] (tie_main n s b.there out))
  comes_to_node q n s out b =
      let y = start_in (graphs_of p).main 0 n in
      subst (λ ls. Reaches c (world (record { place = q; operands = []; below = 0; locals = ls; locals_below = 0; callers = []; ticks = s.ticks }) s.variables.cells s.input s.events) (stand [] [] s y [])) out.locals
      (leads_on c (graphs_of p) (signatures p checked) [] [] s q y [] b.leads)

  pub from_node : (q n : ℕ) (s : State) (k : ℕ) → IsOutside p s → Begins q n → CodeRun c (world_at q s) k (graph_run (graphs_of p) (spot None n []) s k)
  from_node q n s k out b =
      let gs = graphs_of p in
      let sg = signatures p checked in
      let x = spot None n [] in
      let tie = tie_main n s b.there out in
      let e = run_ends c gs sg (callable p checked c stands functions) (enough_nodes x k) x s [] tie k (omega arith) in
      ends_on c gs sg (world_at q s) (tied c gs sg x s [] tie) (s.ticks + k) (graph_run gs x s k) (comes_to_node q n s out b) e

  pub entry_begins : Begins 0 (graphs_of p).main.entry
  entry_begins =
      let placed = main_placed p checked c stands functions in
      record { there = placed.entry; leads = entry_leads c.instrs (graphs_of p).main 0 placed.code placed.first }

  behind_begins : (m q next : ℕ) → IsNode (graphs_of p).main m (Some next, None) work.Checkpoint → Behind (graphs_of p).main.works (starts (graphs_of p).main 0) 0 m q → Begins q next
  behind_begins m q next is behind =
      let g = (graphs_of p).main in
      let placed = main_placed p checked c stands functions in
      let to = placed.next m (Some next, None) work.Checkpoint is in
      let leads = leads_to c (graphs_of p) (signatures p checked) (callable p checked c stands functions) None g 0 (in_main p) placed [] [] refl m (Some next, None) work.Checkpoint is (instr.Ckpt m ∷ []) refl to in
      let same : to.0 ≡ next = cc in
      let at_is : behind.at ≡ m = (let e = behind.node_is in omega arith) in
      let place : q ≡ start_in g 0 m + 2 = behind.place_is ∙ ap (λ i. start_in g 0 i + 2) at_is in
      let here : start_in g 0 m + 1 + 1 ≡ q = omega (arith, place) in
      record {
        there = subst (IsThere g) same to.2;
        leads = subst (λ z. Leads c.instrs z (start_in g 0 next)) here (subst (λ i. Leads c.instrs (start_in g 0 m + 1 + 1) (start_in g 0 i)) same leads);
      }

  pub checkpoint_begins : c.checkpoints ≡ checkpoints_from 0 (graphs_of p).main.works (starts (graphs_of p).main 0) → (m q next : ℕ) → IsCheckpointTo p m next → has_checkpoint c m q ≡ true → Begins q next
  checkpoint_begins listed m q next is has =
      behind_begins m q next (record { edge = is.edge; does = is.does })
      (checkpoints_behind (graphs_of p).main.works (starts (graphs_of p).main 0) 0 m q (subst (λ ks. list_any (λ k. (node k == m) && (place_after k == q)) ks ≡ true) listed has))
