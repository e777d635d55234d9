use Rattle.exclusion_equations.specs.Rows.{AreRows, at_checkpoint}
use Rattle.exclusion_equations.proofs.equations.checkpoint_rows.Given as goal

abbrev pub invariant-nodes : goal.invariant-nodes
invariant-nodes l = AreRows (l.width) l.n (at_checkpoint l.graph) l.rows.items
