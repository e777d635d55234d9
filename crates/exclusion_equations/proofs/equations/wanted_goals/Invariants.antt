use Rattle.exclusion_equations.specs.Rows.{AreRows, wanted_at}
use Rattle.exclusion_equations.proofs.equations.wanted_goals.Given as goal

abbrev pub invariant-nodes : goal.invariant-nodes
invariant-nodes l = AreRows (l.width) l.n (wanted_at l.graph l.wanted) l.rows.items
