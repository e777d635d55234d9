use Rattle.std.proofs.Common.{List, subst, ◌∙◌}
use Rattle.access_summary.specs.declared.effects.Effect.{Effect}
use Rattle.access_summary.specs.declared.touch.Access.TheVariants as access'
use Rattle.flow_graph.specs.EffectCells.{IsSetOf, EffectsDo}
use Rattle.flow_graph.proofs.node_effects.node_sets.Goals as goal

pub returns-clause-reads : goal.returns-clause-reads
returns-clause-reads c = subst (λ (es : List Effect). IsSetOf c.args.program.now (λ q. EffectsDo c.args.program.now access'.Read es q) c.in_ok-reads.reads) (c.as_slice.ensures ∙ c.in_ok-effects.ensures.answer) c.in_ok-reads.ensures.answer

pub returns-clause-writes : goal.returns-clause-writes
returns-clause-writes c = subst (λ (es : List Effect). IsSetOf c.args.program.now (λ q. EffectsDo c.args.program.now access'.Write es q) c.in_ok-writes.writes) (c.as_slice-2.ensures ∙ c.in_ok-effects.ensures.answer) c.in_ok-writes.ensures.answer
