-- The checkpoints of the code of a checked program are the nodes that are CHECKPOINT_HERE.
use Rattle.std.proofs.Common.{◌≡◌, ℕ, zero, suc, ◌+◌, ◌<◌, List, [], ◌∷◌, ◌++◌, length, Some, true, sym, ap, ◌∙◌, subst, arith}
use Rattle.std.specs.Prelude.{slice_get}
use Rattle.std.proofs.lemmas.Option.{slice_get_within}
use Rattle.c_tree.specs.declared.resolved.Resolved.{Resolved}
use Rattle.c_tree.specs.Checked.{IsChecked}
use Rattle.access_summary.proofs.Lay.{laid_size}
use Rattle.flow_graph.specs.declared.node.NodeWork.{NodeWork}
use Rattle.flow_graph.specs.declared.node.NodeWork.TheVariants as work
use Rattle.flow_graph.specs.Works.{works}
use Rattle.flow_graph.specs.Run.{graphs_of}
use Rattle.flow_graph.proofs.Joins.{joins}
use Rattle.machine_code.specs.declared.instr.Instr.TheVariants.{Ckpt}
use Rattle.machine_code.specs.CodeView.{CodeView}
use Rattle.machine_code.specs.Valid.{IsListedAt, has_checkpoint}
use Rattle.code_maker.specs.NodeCode.{starts, start_in}
use Rattle.code_maker.specs.ProgramCode.{code_of}
use Rattle.code_maker.specs.CheckpointPlaces.{IsCheckpoint, CheckpointsAreThere}
use Rattle.code_maker.proofs.Segments.{none_some}
use Rattle.code_maker.proofs.Placed.{Behind, checkpoints_behind}
use Rattle.code_maker.proofs.ValidLaws.{node_listed, code_is_valid}

-- a checkpoint is no end
before_end : (ws : List NodeWork) (m : ℕ) → slice_get (ws ++ work.End ∷ []) m ≡ Some work.Checkpoint → m < length ws
before_end [] zero e = absurd (cc)
before_end [] (suc m) e = absurd (none_some e)
before_end (w ∷ ws) zero e = omega arith
before_end (w ∷ ws) (suc m) e = omega (arith, before_end ws m e)

module _ (p : Resolved) (checked : IsChecked p) where
  abbrev c : CodeView
  c = code_of p

  behind : (m q : ℕ) → has_checkpoint c m q ≡ true → Behind (graphs_of p).main.works (starts (graphs_of p).main 0) 0 m q
  behind m q h = checkpoints_behind (graphs_of p).main.works (starts (graphs_of p).main 0) 0 m q h

  is_checkpoint : (q m : ℕ) → has_checkpoint c m q ≡ true → IsCheckpoint p m
  is_checkpoint q m h = let b = behind m q h in subst (λ n. slice_get (graphs_of p).main.works n ≡ Some work.Checkpoint) (omega (arith, b.node_is)) b.does

  place_is : (m q : ℕ) → has_checkpoint c m q ≡ true → q ≡ start_in (graphs_of p).main 0 m + 2
  place_is m q h =
      let b = behind m q h in
      let at_is : b.at ≡ m = omega (arith, b.node_is) in
      b.place_is ∙ ap (λ n. start_in (graphs_of p).main 0 n + 2) at_is

  pub in_table : (q m : ℕ) → slice_get c.instrs q ≡ Some (Ckpt m) → has_checkpoint c m (q + 1) ≡ true
  unfolding IsListedAt
  in_table q m e = (code_is_valid p checked).listed q (slice_get_within c.instrs q (Ckpt m) e) m e

  pub checkpoints_there : CheckpointsAreThere p c
  checkpoints_there = record {
    nodes = λ q m e. is_checkpoint (q + 1) m (in_table q m e);
    listed = is_checkpoint;
    below = λ m e. omega (arith, before_end (works p.main.body) m e, (joins 0 p.main.body).worked, laid_size p.main.body, checked.main_nodes);
    places = λ m e. (start_in (graphs_of p).main 0 m + 1 + 1, node_listed p checked m e);
    one = λ m q z h k. place_is m q h ∙ sym (place_is m z k);
  }
