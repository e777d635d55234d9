use Rattle.std.proofs.Common.{◌-◌, Option, subst}
use Rattle.ckpt_base.specs.declared.ending.Ending.{Ending}
use Rattle.c_meaning.specs.Working.{Acted}
use Rattle.c_meaning.proofs.evaluator.Evaluator.run.Goals as goal

pub returns-in-Some : goal.returns-in-Some
returns-in-Some c = record {
  answer = λ r x. subst (λ (o : Option Ending). Acted o c.step.new.self (c.args.until - c.step.new.self.progress.ticks) r) c.in-Some.is (c.in_ok-ending.ensures.stepped r (c.steps.invariant.1 r x));
}
