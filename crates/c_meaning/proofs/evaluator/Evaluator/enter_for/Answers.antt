use Rattle.c_meaning.proofs.Enter.{test_comes, first_comes}
use Rattle.c_meaning.proofs.evaluator.Evaluator.enter_for.Goals as goal

pub returns-in-None-clause-comes : goal.returns-in-None-clause-comes
returns-in-None-clause-comes c = test_comes c.args.self.now c.args.turn c.args.init.now c.in-None.is

pub returns-in_ok-add-in-Some-clause-comes : goal.returns-in_ok-add-in-Some-clause-comes
returns-in_ok-add-in-Some-clause-comes c = first_comes c.args.self.now c.args.turn c.add.new.self c.args.init.now c.in-Some.init c.first_of.result c.in-Some.is c.first_of.ensures.answer c.add.ensures.same c.in_ok-add-in-Some.ensures.added
