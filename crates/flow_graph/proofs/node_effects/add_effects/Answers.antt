use Rattle.std.proofs.Common.{◌∙◌}
use Rattle.flow_graph.proofs.EffectLaws.{effects_step, effects_end}
use Rattle.flow_graph.proofs.node_effects.add_effects.Goals as goal

pub add_effect-requires-clause-universe : goal.add_effect-requires-clause-universe
add_effect-requires-clause-universe c = c.effects.invariant.wide ∙ c.requires.universe

pub effects-preserved : goal.effects-preserved
effects-preserved c = effects_step c.args.program.now c.args.access c.args.effects.now c.effects.effect-index _ c.args.set.now c.effects.set c.add_effect.new.set c.effects-test.true c.effects.invariant c.in_ok-add_effect.ensures.answer

pub returns : goal.returns
returns c = record { answer = effects_end c.args.program.now c.args.access c.args.effects.now c.effects.effect-index c.args.set.now c.effects.set c.effects-test.false c.effects.invariant }
