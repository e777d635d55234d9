use Rattle.std.proofs.Common.{◌∙◌, arith}
use Rattle.exclusion_equations.proofs.ExcludedLaws.{read_only_exactly}
use Rattle.exclusion_equations.proofs.exclusions.read_only_at.Goals as goal

pub returns : goal.returns
returns c = record {
  exact = λ k here. read_only_exactly c.args.graph.now c.args.classes.now c.args.spoiled.now c.args.written.now k c.args.n c.in_ok-spoiled_after.spoiled_after c.in_ok-written_after.written_after c.in_ok-read_only.read_only
      c.requires.whole c.requires.classes c.requires.spoiled c.requires.written here c.in_ok-spoiled_after.ensures.answer c.in_ok-written_after.ensures.answer
      (c.in_ok-read_only.ensures.universe ∙ c.cells.ensures.answer) (λ q l. c.in_ok-read_only.ensures.answer q (omega (arith, l, c.cells.ensures.answer)));
}
