use Rattle.std.proofs.Common.{◌∙◌, arith}
use Rattle.exclusion_equations.proofs.ExcludedLaws.{dead_exactly}
use Rattle.exclusion_equations.proofs.exclusions.dead_at.Goals as goal

pub returns : goal.returns
returns c = record {
  exact = λ k here. dead_exactly c.args.graph.now c.args.classes.now c.args.spoiled.now k c.args.n c.in_ok-after.after c.in_ok-dead.dead c.requires.whole c.requires.classes c.requires.spoiled here
      c.in_ok-after.ensures.answer (c.in_ok-dead.ensures.universe ∙ c.cells.ensures.answer) (λ q l. c.in_ok-dead.ensures.answer q (omega (arith, l, c.cells.ensures.answer)));
}
