use Rattle.exclusion_equations.specs.Rows.{AreRows, at_exclude}
use Rattle.exclusion_equations.proofs.equations.exclude_rows.Given as goal

abbrev pub invariant-nodes : goal.invariant-nodes
invariant-nodes l = AreRows (l.width) l.n (at_exclude l.graph) l.rows.items
