use Rattle.access_summary.proofs.Joined.{effects_of_move, effects_of_fetch, source_of_move}
use Rattle.access_summary.proofs.effects.+look.Goals as goal

pub returns-in_ok-number-in-Move-clause-source : goal.returns-in_ok-number-in-Move-clause-source
returns-in_ok-number-in-Move-clause-source t c = source_of_move c.args.function c.args.expr.now c.in-Move.pointer c.in-Move.number c.get-in-Move.result.now c.in-Move.direction _ _ _ c.in-Move.is c.get-in-Move.ensures c.moved.ensures.answer c.in_ok-pointer-in-Move.ensures.source

pub returns-in_ok-number-in-Move-clause-effects : goal.returns-in_ok-number-in-Move-clause-effects
returns-in_ok-number-in-Move-clause-effects t c = effects_of_move c.args.function c.args.effects.now c.look-in-Move.new.effects c.look-in-Move-2.new.effects c.args.expr.now c.in-Move.pointer c.in-Move.number c.get-in-Move.result.now c.get-in-Move-2.result.now c.in-Move.direction c.in-Move.is c.get-in-Move.ensures c.get-in-Move-2.ensures c.in_ok-pointer-in-Move.ensures.effects c.in_ok-number-in-Move.ensures.effects

pub returns-in_ok-push-in-Fetch-clause-effects : goal.returns-in_ok-push-in-Fetch-clause-effects
returns-in_ok-push-in-Fetch-clause-effects t c = effects_of_fetch c.args.function c.args.effects.now c.look-in-Fetch.new.effects c.push-in-Fetch.new.effects c.args.expr.now c.in-Fetch.pointer c.get-in-Fetch.result.now c.in_ok-pointer-in-Fetch.pointer c.target_of.result c.in-Fetch.is c.get-in-Fetch.ensures c.in_ok-pointer-in-Fetch.ensures.answer c.target_of.ensures.answer c.in_ok-pointer-in-Fetch.ensures.effects c.in_ok-push-in-Fetch.ensures.answer
