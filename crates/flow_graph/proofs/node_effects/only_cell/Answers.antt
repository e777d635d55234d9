use Rattle.std.proofs.Common.{sym, ◌∙◌}
use Rattle.std.proofs.lemmas.Bool.{false≢true}
use Rattle.std.proofs.lemmas.Result.{IfOk-weaker}
use Rattle.flow_graph.proofs.OneCell.{none_alone}
use Rattle.flow_graph.proofs.node_effects.only_cell.Goals as goal

pub returns-clause-answer : goal.returns-clause-answer
returns-clause-answer c =
    IfOk-weaker c.empty.result _ _ (λ s none q. (
      (λ x. absurd (false≢true (sym (none q) ∙ x))),
      (λ o. absurd (none_alone c.args.set c.in_ok-runs.runs.items c.deref.result.now c.deref.ensures.value c.in_ok-runs.ensures.answer (c.is_one_cell.ensures.other c.if-is_one_cell.false) q o)),
    )) c.empty.ensures.answer
