use Rattle.std.proofs.Common.{ap, ◌∙◌}
use Rattle.cell_sets.specs.Runs.{in_runs}
use Rattle.cell_sets.proofs.SetLaws.{same_sets}
use Rattle.cell_sets.proofs.bit_row.BitRow.of_set.Goals as goal

pub returns : goal.returns
returns c = record {
  answer = same_sets c.in_ok-row.row c.args.set.now (c.in_ok-row.ensures.universe ∙ c.universe.ensures.answer)
      (λ q. c.in_ok-row.ensures.answer q ∙ ap (λ rs. in_runs rs q) c.deref.ensures.value ∙ c.in_ok-runs.ensures.answer q);
}
