use Rattle.std.proofs.Common.{sym, ap, ◌∙◌}
use Rattle.cell_sets.specs.Runs.{in_runs}
use Rattle.cell_sets.proofs.RunLaws.{has_seen_runs}
use Rattle.cell_sets.proofs.cell_set.CellSet.holds.Goals as goal

pub returns : goal.returns
returns c = record {
  answer = c.runs_hold.ensures ∙ ap (λ rs. in_runs rs c.args.c) c.deref.ensures.value ∙ sym (has_seen_runs c.args.self.now c.self.inside.runs.items c.self.inside.universe c.args.c c.self.view_is c.self.invariant);
}
