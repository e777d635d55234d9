use Rattle.std.proofs.Common.{◌≡◌, ℕ, ◌+◌, ◌&&◌, not, List, sym, ◌∙◌, subst}
use Rattle.cell_sets.specs.Runs.{in_runs, IsRising}
use Rattle.cell_sets.specs.declared.runs.Run.{Run}
use Rattle.cell_sets.proofs.SetLaws.{length-passing, universe_seen}
use Rattle.cell_sets.proofs.RunLaws.{has-runs, has_seen_runs}
use Rattle.cell_sets.proofs.cell_set.CellSet.minus.Goals as goal

pub merge-requires-clause-b : goal.merge-requires-clause-b
merge-requires-clause-b c =
    let same : c.other.inside.universe ≡ c.self.inside.universe =
    sym (universe_seen c.args.other.now (in_runs c.other.inside.runs.items) c.other.inside.universe c.other.view_is) ∙ sym c.requires.equal
    ∙ universe_seen c.args.self.now (in_runs c.self.inside.runs.items) c.self.inside.universe c.self.view_is in
    subst (λ (rs : List Run). IsRising 0 rs (c.self.inside.universe + 1)) (sym c.deref-2.ensures.value)
    (subst (λ (u : ℕ). IsRising 0 c.other.inside.runs.items (u + 1)) same c.other.invariant)

pub returns-clause-universe : goal.returns-clause-universe
returns-clause-universe c =
    length-passing (in_runs c.in_ok-self-inside.field-0.items) c.self.inside.universe
    ∙ sym (universe_seen c.args.self.now (in_runs c.self.inside.runs.items) c.self.inside.universe c.self.view_is)

pub returns-clause-answer : goal.returns-clause-answer
returns-clause-answer c =
    λ q.
    has-runs c.in_ok-self-inside.field-0.items c.self.inside.universe q c.in_ok-self-inside.ensures.rising
    ∙ c.in_ok-self-inside.ensures.same q
    ∙ (λ i. in_runs (c.deref.ensures.value i) q && not (in_runs (c.deref-2.ensures.value i) q))
    ∙ (λ i. sym (has_seen_runs c.args.self.now c.self.inside.runs.items c.self.inside.universe q c.self.view_is c.self.invariant) i
    && not (sym (has_seen_runs c.args.other.now c.other.inside.runs.items c.other.inside.universe q c.other.view_is c.other.invariant) i))
