use Rattle.exclusion_equations.specs.Classes.{class_count}
use Rattle.exclusion_equations.specs.Rows.{AreRows, written_at}
use Rattle.exclusion_equations.proofs.equations.written_goals.Given as goal

abbrev pub invariant-nodes : goal.invariant-nodes
invariant-nodes l = AreRows (class_count l.classes) l.n (written_at l.graph l.classes l.coming) l.rows.items
