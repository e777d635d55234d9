use Rattle.c_meaning.proofs.Enter.{left_loop, left_call}
use Rattle.c_meaning.proofs.evaluator.Evaluator.leave_loop.Goals as goal

pub returns-in-Some-Loop-clause-left : goal.returns-in-Some-Loop-clause-left
returns-in-Some-Loop-clause-left c = left_loop c.args.self.now c.skip.new.self c.in-Some-Loop.field-0 c.in-Some-Loop.field-0-0 c.in-Some-Loop.field-0-is c.in-Some-Loop.ensures.skipped c.skip.ensures.same

pub returns-in_ok-add-in-Some-Call-clause-left : goal.returns-in_ok-add-in-Some-Call-clause-left
returns-in_ok-add-in-Some-Call-clause-left c =
    left_call c.args.self.now c.skip.new.self c.add.new.self c.in-Some-Call.field-0 c.in-Some-Call.frame c.in-Some-Call.field-0-is c.in-Some-Call.ensures.skipped c.skip.ensures.same c.add.ensures.same c.in_ok-add-in-Some-Call.ensures.added
