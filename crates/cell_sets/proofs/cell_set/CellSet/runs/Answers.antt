use Rattle.std.proofs.Common.{ℕ, ◌+◌, List, sym, ap, ◌∙◌, subst}
use Rattle.std.specs.List.{each_same}
use Rattle.cell_sets.specs.Runs.{in_runs, IsRising}
use Rattle.cell_sets.specs.declared.runs.Run.{Run}
use Rattle.cell_sets.proofs.SetLaws.{universe_seen}
use Rattle.cell_sets.proofs.RunLaws.{has_seen_runs}
use Rattle.cell_sets.proofs.cell_set.CellSet.runs.Goals as goal

pub returns-clause-rising : goal.returns-clause-rising
returns-clause-rising c =
    subst (λ (u : ℕ). IsRising 0 c.in_ok-all.all.items (u + 1)) (sym (universe_seen c.args.self.now (in_runs c.self.inside.runs.items) c.self.inside.universe c.self.view_is))
    (subst (λ (rs : List Run). IsRising 0 rs (c.self.inside.universe + 1)) (sym (each_same _ _ c.in_ok-all.ensures.cases.0)) c.self.invariant)

pub returns-clause-answer : goal.returns-clause-answer
returns-clause-answer c = λ q.
    ap (λ rs. in_runs rs q) (each_same _ _ c.in_ok-all.ensures.cases.0)
    ∙ sym (has_seen_runs c.args.self.now c.self.inside.runs.items c.self.inside.universe q c.self.view_is c.self.invariant)
