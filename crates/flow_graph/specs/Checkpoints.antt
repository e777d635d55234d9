-- The nodes that are CHECKPOINT_HERE.
use Rattle.std.specs.Prelude.{ℕ, ◌+◌, Bool, true, false, if◌then◌else◌, List, [], ◌∷◌}
use Rattle.flow_graph.specs.declared.node.NodeWork.{NodeWork}
use Rattle.flow_graph.specs.declared.node.NodeWork.TheVariants as work

abbrev pub is_checkpoint : NodeWork → Bool
is_checkpoint work.Checkpoint = true
is_checkpoint w = false

-- those of works of which the first is node n's
abbrev pub checkpoints_from : ℕ → List NodeWork → List ℕ
checkpoints_from n [] = []
checkpoints_from n (w ∷ ws) = if is_checkpoint w then n ∷ checkpoints_from (n + 1) ws else checkpoints_from (n + 1) ws

-- the numbers of the nodes that are CHECKPOINT_HERE, rising
abbrev pub checkpoints_of : List NodeWork → List ℕ
checkpoints_of ws = checkpoints_from 0 ws
