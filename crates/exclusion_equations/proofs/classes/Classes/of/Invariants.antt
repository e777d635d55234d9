use Rattle.exclusion_equations.specs.Finding.{AreFound}
use Rattle.exclusion_equations.proofs.classes.Classes.of.Given as goal

abbrev pub invariant-cells : goal.invariant-cells
invariant-cells l = AreFound l.graph l.c l.numbers.items l.firsts.items l.signatures.items
