use Rattle.std.proofs.Common.{◌≡◌, ◌↔◌, ◌<◌, ◌∙◌, ℕ, List, true, subst}
use Rattle.std.proofs.lemmas.List.{get_or_read}
use Rattle.cell_sets.specs.Sets.{has}
use Rattle.c_tree.specs.Layout.{cell_count}
use Rattle.access_summary.specs.declared.effects.Effect.{Effect}
use Rattle.access_summary.specs.Touch.{Touches}
use Rattle.access_summary.specs.Summaries.{body_of}
use Rattle.access_summary.proofs.SummaryLaws.{sets_step}
use Rattle.access_summary.proofs.summaries.goals_of.Goals as goal

pub bodies-preserved : goal.bodies-preserved
bodies-preserved c =
    sets_step (cell_count c.args.program.now) c.bodies.body-index (λ f q. Touches c.args.program.now c.args.access (body_of c.args.bodies.now f) q) c.bodies.rows.items c.push.new.rows.items c.in_ok-row.row c.bodies.invariant c.in_ok-push.ensures.answer c.in_ok-row.ensures.universe
    (subst (λ (es : List Effect). (q : ℕ) → q < cell_count c.args.program.now → (has c.in_ok-row.row q ≡ true) ↔ Touches c.args.program.now c.args.access es q) (c.as_slice.ensures ∙ get_or_read c.args.bodies.now c.bodies.body-index _ c.bodies-test.true c.body-item.is _) c.in_ok-row.ensures.answer)
