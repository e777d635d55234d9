use Rattle.std.proofs.Common.{◌≡◌, ◌++◌, drop}
use Rattle.ckpt_program.specs.Why as spec
use Rattle.ckpt_program.proofs.why_text.add_nodes.Given as goal

-- the nodes that are left come behind what is written
abbrev pub invariant-nodes : goal.invariant-nodes
invariant-nodes l = l.text.items ++ spec.nodes_text (drop l.node-index l.nodes) ≡ l.fn.text.items ++ spec.nodes_text l.nodes
