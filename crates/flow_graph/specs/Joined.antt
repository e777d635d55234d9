-- Graphs whose edges fit what their nodes do.
use Rattle.std.specs.Prelude.{◌≡◌, ℕ, ◌+◌, ◌<◌, length, slice_get, Some, None}
use Rattle.access_summary.specs.Edges.{Edge}
use Rattle.flow_graph.specs.declared.node.NodeWork.{NodeWork}
use Rattle.flow_graph.specs.declared.node.NodeWork.TheVariants as work
use Rattle.flow_graph.specs.Run.{Graph}

-- a test goes on to two nodes of so many, an end to none, and any other node to one
abbrev pub FitsWork : ℕ → NodeWork → Edge → Type 0
FitsWork size (work.Test e) to = (a : ℕ) × (b : ℕ) × (to ≡ (Some a, Some b)) × (a < size) × (b < size)
FitsWork size work.End to = to ≡ (None, None)
FitsWork size w to = (a : ℕ) × (to ≡ (Some a, None)) × (a < size)

-- each node has its edges and its work, which fit, and the last node alone is an end
pub record IsJoined (g : Graph) : Type 0 where
  pub same : length g.edges ≡ length g.works
  pub entry : g.entry < length g.works
  pub each : (n : ℕ) (w : NodeWork) (to : Edge) → slice_get g.works n ≡ Some w → slice_get g.edges n ≡ Some to → FitsWork (length g.works) w to
  pub ends : (n : ℕ) → slice_get g.works n ≡ Some work.End → n + 1 ≡ length g.works
