use Rattle.std.proofs.Common.{◌+◌, sym, ◌∙◌, arith}
use Rattle.std.proofs.lemmas.Bool.{eqb-true, eqb-false}
use Rattle.cell_sets.proofs.RunLaws.{has_seen_runs, no_runs, some_run}
use Rattle.cell_sets.proofs.cell_set.CellSet.is_empty.Goals as goal

pub returns-clause-none : goal.returns-clause-none
returns-clause-none c = λ e q.
    let zero_len = eqb-true _ _ (sym c.is_empty.ensures ∙ e) in
    has_seen_runs c.args.self.now c.self.inside.runs.items c.self.inside.universe q c.self.view_is c.self.invariant
    ∙ no_runs c.self.inside.runs.items q (omega (arith, c.self.inside.runs.ok.0, zero_len))

pub returns-clause-some : goal.returns-clause-some
returns-clause-some c = λ e.
    let some_len = eqb-false _ _ (sym c.is_empty.ensures ∙ e) in
    let r = some_run c.self.inside.runs.items 0 (c.self.inside.universe + 1) c.self.invariant (λ z. some_len (omega (arith, c.self.inside.runs.ok.0, z))) in
    (r.0, has_seen_runs c.args.self.now c.self.inside.runs.items c.self.inside.universe r.0 c.self.view_is c.self.invariant ∙ r.1)
