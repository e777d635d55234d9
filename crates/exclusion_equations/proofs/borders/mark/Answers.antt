use Rattle.std.proofs.Common.{◌+◌, List, length, subst, sym, arith}
use Rattle.cell_sets.specs.declared.runs.Run.{Run}
use Rattle.cell_sets.specs.Runs.{IsRising}
use Rattle.cell_sets.proofs.RunLaws.{run_within}
use Rattle.exclusion_equations.proofs.borders.mark.Goals as goal

pub overflow_add-run : goal.overflow_add-run
overflow_add-run c =
    let w = run_within c.deref-run-items.result.now 0 _ c.runs.run-index (record { first = 0; count = 0 }) (subst (λ (rs : List Run). IsRising 0 rs (length c.args.set.now + 1)) (sym c.deref-run-items.ensures.value) c.in_ok-runs.ensures.rising) (omega arith) in
    omega (arith, w, c.universe-universe.ensures.answer)
