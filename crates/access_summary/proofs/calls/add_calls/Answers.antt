use Rattle.access_summary.proofs.CallLaws.{effects_step, effects_end}
use Rattle.access_summary.proofs.calls.add_calls.Goals as goal

pub effects-preserved : goal.effects-preserved
effects-preserved c = effects_step c.args.caller c.args.count c.args.effects.now c.effects.effect-index _ c.args.edges.now.items c.effects.edges.items c.add_call.new.edges.items c.effects-test.true c.effects.invariant c.in_ok-add_call.ensures.answer

pub returns : goal.returns
returns c = record { answer = effects_end c.args.caller c.args.count c.args.effects.now c.effects.effect-index c.args.edges.now.items c.effects.edges.items c.effects-test.false c.effects.invariant }
