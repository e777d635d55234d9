use Rattle.c_meaning.proofs.Enter.{body_stands}
use Rattle.c_meaning.proofs.evaluator.Evaluator.enter_body.Goals as goal

pub returns-clause-begun : goal.returns-clause-begun
returns-clause-begun c = body_stands c.args.self.now c.args.turn c.add.new.self c.add-2.new.self c.add.ensures.same c.in_ok-add.ensures.added c.add-2.ensures.same c.in_ok-add-2.ensures.added
