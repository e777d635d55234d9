use Rattle.exclusion_equations.specs.Classes.{class_count}
use Rattle.exclusion_equations.specs.Rows.{AreRows, has_effect}
use Rattle.exclusion_equations.proofs.equations.effect_rows.Given as goal

abbrev pub invariant-nodes : goal.invariant-nodes
invariant-nodes l = AreRows (class_count l.classes) l.n (has_effect l.which l.graph l.classes) l.rows.items
