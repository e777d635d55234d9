use Rattle.c_meaning.proofs.Enter.{again_loop, again_call}
use Rattle.c_meaning.proofs.evaluator.Evaluator.next_turn.Goals as goal

pub returns-in_ok-add-in-Some-Loop-clause-again : goal.returns-in_ok-add-in-Some-Loop-clause-again
returns-in_ok-add-in-Some-Loop-clause-again c =
    again_loop c.args.self.now c.skip.new.self c.add.new.self c.in-Some-Loop.field-0 c.in-Some-Loop.turn c.in-Some-Loop.field-0-is c.in-Some-Loop.ensures.skipped c.skip.ensures.same c.add.ensures.same c.in_ok-add-in-Some-Loop.ensures.added

pub returns-in_ok-add-in-Some-Call-clause-again : goal.returns-in_ok-add-in-Some-Call-clause-again
returns-in_ok-add-in-Some-Call-clause-again c =
    again_call c.args.self.now c.skip.new.self c.add-in-Some-Call.new.self c.in-Some-Call.field-0 c.in-Some-Call.frame c.in-Some-Call.field-0-is c.in-Some-Call.ensures.skipped c.skip.ensures.same c.add-in-Some-Call.ensures.same c.in_ok-add-in-Some-Call.ensures.added
