use Rattle.std.proofs.Common.{sym}
use Rattle.cell_sets.specs.Runs.{in_runs}
use Rattle.cell_sets.proofs.SetLaws.{universe_seen}
use Rattle.cell_sets.proofs.cell_set.CellSet.universe.Goals as goal

pub returns : goal.returns
returns c = record { answer = sym (universe_seen c.args.self.now (in_runs c.self.inside.runs.items) c.self.inside.universe c.self.view_is) }
