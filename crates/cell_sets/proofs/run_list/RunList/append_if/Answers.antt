use Rattle.std.proofs.Common.{◌+◌, arith}
use Rattle.cell_sets.proofs.RunLaws.{rising_above}
use Rattle.cell_sets.proofs.run_list.RunList.append_if.Goals as goal

pub returns-else-keep-clause-rising : goal.returns-else-keep-clause-rising
returns-else-keep-clause-rising c = rising_above 0 c.args.self.now (c.args.from + 1) (c.args.to + 1) (omega arith) c.requires.rising
