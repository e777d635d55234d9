use Rattle.c_meaning.proofs.Going.{no_items}
use Rattle.c_meaning.proofs.Enter.{arm_ticks, last_stands}
use Rattle.c_meaning.proofs.evaluator.Evaluator.enter_arms.Goals as goal

pub returns-in-Some-clause-reached : goal.returns-in-Some-clause-reached
returns-in-Some-clause-reached c = arm_ticks c.args.self.now c.args.arms.now c.args.last.now c.in-Some.arm.now c.in-Some.more.now c.in-Some.ensures.cases.0

pub returns-in_ok-add-in-Some-last-clause-reached : goal.returns-in_ok-add-in-Some-last-clause-reached
returns-in_ok-add-in-Some-last-clause-reached c =
    last_stands c.args.self.now c.args.arms.now c.args.last.now c.in-Some-last.stmt c.get.result c.add.new.self (no_items c.args.arms.now c.in-None.ensures.cases) c.in-Some-last.is c.get.ensures c.add.ensures.same c.in_ok-add-in-Some-last.ensures.added
