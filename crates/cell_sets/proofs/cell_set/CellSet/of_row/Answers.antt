use Rattle.std.proofs.Common.{◌+◌, ℕ, sym, ◌∙◌, subst}
use Rattle.cell_sets.specs.Sets.{passing}
use Rattle.cell_sets.specs.Runs.{in_runs, IsRising}
use Rattle.cell_sets.proofs.SetLaws.{length-passing, same_sets}
use Rattle.cell_sets.proofs.RunLaws.{has-runs}
use Rattle.cell_sets.proofs.cell_set.CellSet.of_row.Goals as goal

pub returns : goal.returns
returns c =
    let rs = c.in_ok-runs.runs.items in
    let u = c.width-universe.result in
    record {
      answer = same_sets (passing (in_runs rs) u) c.args.row.now (length-passing (in_runs rs) u ∙ c.width-universe.ensures.answer)
          (λ q. has-runs rs u q (subst (λ (n : ℕ). IsRising 0 rs (n + 1)) (sym c.width-universe.ensures.answer) c.in_ok-runs.ensures.rising) ∙ c.in_ok-runs.ensures.same q);
    }
