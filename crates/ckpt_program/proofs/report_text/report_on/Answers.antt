use Rattle.std.proofs.Common.{subst, arith}
use Rattle.c_tree.specs.Checked.{IsChecked}
use Rattle.ckpt_program.proofs.MainGraphs.{few_excludes, report_made}
use Rattle.ckpt_program.proofs.report_text.report_on.Goals as goal

pub overflow_cast-excludes : goal.overflow_cast-excludes
overflow_cast-excludes c = omega (arith, few_excludes c.args.program.now c.args.main.now (subst IsChecked c.tree-tree.ensures.answer c.tree-tree.ensures.checked) c.requires.main, c.excludes.ensures.answer)

pub returns : goal.returns
returns c = record { answer = report_made c.args.program.now c.args.main.now c.in_ok-exclusions.exclusions _ c.directives.result c.requires.main c.in_ok-exclusions.ensures.exact c.excludes.ensures.answer c.directives.ensures.answer }
