use Rattle.access_summary.proofs.Adding.{effects_step, effects_end}
use Rattle.access_summary.proofs.touch.add_effects.Goals as goal

pub effects-preserved : goal.effects-preserved
effects-preserved c = effects_step c.args.program.now c.args.access c.args.effects.now c.effects.effect-index _ c.args.row.now c.effects.row c.add_effect.new.row c.effects-test.true c.effects.invariant c.in_ok-add_effect.ensures.answer

pub returns : goal.returns
returns c = record { answer = effects_end c.args.program.now c.args.access c.args.effects.now c.effects.effect-index c.args.row.now c.effects.row c.effects-test.false c.effects.invariant }
