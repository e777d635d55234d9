-- The checkpoints of a code, and the nodes of `main` that they are.
use Rattle.std.specs.Prelude.{◌≡◌, ℕ, ◌≤◌, true, Some, None, slice_get}
use Rattle.c_tree.specs.declared.resolved.Resolved.{Resolved}
use Rattle.flow_graph.specs.declared.node.NodeWork.TheVariants as work
use Rattle.flow_graph.specs.Run.{graphs_of}
use Rattle.machine_code.specs.declared.instr.Instr.TheVariants.{Ckpt}
use Rattle.machine_code.specs.CodeView.{CodeView}
use Rattle.machine_code.specs.Valid.{has_checkpoint}

-- node m of `main` is CHECKPOINT_HERE
abbrev pub IsCheckpoint : Resolved → ℕ → Type 0
IsCheckpoint p m = slice_get (graphs_of p).main.works m ≡ Some work.Checkpoint

-- .. and goes on to this node
pub record IsCheckpointTo (p : Resolved) (m next : ℕ) : Type 0 where
  pub does : IsCheckpoint p m
  pub edge : slice_get (graphs_of p).main.edges m ≡ Some (Some next, None)

-- Each checkpoint among the instructions, and each in the table, is a node that is CHECKPOINT_HERE, below 2,048; and each such node has one place after it.
pub record CheckpointsAreThere (p : Resolved) (c : CodeView) : Type 0 where
  pub nodes : (q m : ℕ) → slice_get c.instrs q ≡ Some (Ckpt m) → IsCheckpoint p m
  pub listed : (q m : ℕ) → has_checkpoint c m q ≡ true → IsCheckpoint p m
  pub below : (m : ℕ) → IsCheckpoint p m → m ≤ 2047
  pub places : (m : ℕ) → IsCheckpoint p m → (q : ℕ) × (has_checkpoint c m q ≡ true)
  pub one : (m q z : ℕ) → has_checkpoint c m q ≡ true → has_checkpoint c m z ≡ true → q ≡ z
