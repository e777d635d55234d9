use Rattle.std.proofs.Common.{subst}
use Rattle.c_tree.specs.Checked.{IsChecked}
use Rattle.flow_graph.proofs.MainWhole.{main_is_whole}
use Rattle.flow_graph.proofs.graphs.graph.Goals as goal

pub returns-clause-whole : goal.returns-clause-whole
returns-clause-whole c = main_is_whole c.args.program.now c.in_ok-effects.effects c.in_ok-effects.ensures.answer (subst IsChecked c.tree.ensures.answer c.tree.ensures.checked)
