use Rattle.std.proofs.Common.{subst}
use Rattle.c_tree.specs.Checked.{IsChecked}
use Rattle.ckpt_program.proofs.WrittenLaws.{written_more}
use Rattle.ckpt_program.proofs.drill_stages.written_stays.Goals as goal

pub returns : goal.returns
returns c = record {
  law = λ input low high.
      written_more c.codes_mean_their_programs.ensures.runs c.runs_show_what_they_do.ensures.law c.runs_pass_what_they_reach.ensures.law c.args.program.now input low high
      (subst IsChecked c.tree-tree.ensures.answer c.tree-tree.ensures.checked);
}
