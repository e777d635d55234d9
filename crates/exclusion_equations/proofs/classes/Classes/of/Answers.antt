use Rattle.std.proofs.Common.{arith}
use Rattle.exclusion_equations.proofs.ClassLaws.{classes_found}
use Rattle.exclusion_equations.proofs.classes.Classes.of.Goals as goal

pub returns : goal.returns
returns c = record { exact = classes_found c.args.graph.now c.cells.c c.cells.numbers.items c.cells.firsts.items c.cells.signatures.items (omega (arith, c.cells-c-end.ensures.answer)) c.cells.invariant }
