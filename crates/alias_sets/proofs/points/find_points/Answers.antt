use Rattle.std.proofs.Common.{IfOk, List, ap, subst, ◌∙◌}
use Rattle.alias_sets.specs.declared.flows.Flow.{Flow}
use Rattle.alias_sets.specs.Flows.{flows}
use Rattle.alias_sets.specs.Points.{AreChains}
use Rattle.alias_sets.proofs.points.find_points.Goals as goal

pub returns : goal.returns
returns c = record {
  answer = subst (λ (fs : List Flow). IfOk c.solve.result (λ points. AreChains fs points)) (c.as_slice.ensures ∙ c.in_ok-flows.ensures.answer ∙ ap flows c.tree.ensures.answer) c.solve.ensures.answer;
}
