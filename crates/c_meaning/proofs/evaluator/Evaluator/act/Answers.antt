use Rattle.std.proofs.Common.{subst}
use Rattle.c_meaning.specs.declared.work.Task.{Task}
use Rattle.c_meaning.specs.Working.{From, does_task, calls}
use Rattle.c_meaning.proofs.Act.{single_done, single_trapped, input_taken}
use Rattle.c_meaning.proofs.evaluator.Evaluator.act.Goals as goal

pub returns-in-Err-clause-acted : goal.returns-in-Err-clause-acted
returns-in-Err-clause-acted c m n r =
    single_trapped c.args.self.now c.perform.new.self c.args.task c.in-Single.single c.in-Single.is c.perform.ensures.keeps c.in_ok-trap-in-Single.field-0 c.in_ok-trap-in-Single.ensures.did m n r
    c.in-Err.trap c.number.result c.in-Err.is c.number.ensures.answer

pub returns-in-Ok-clause-acted : goal.returns-in-Ok-clause-acted
returns-in-Ok-clause-acted c m n r =
    single_done c.args.self.now c.perform.new.self c.args.task c.in-Single.single c.in-Single.is c.perform.ensures.keeps c.in_ok-trap-in-Single.field-0 c.in_ok-trap-in-Single.ensures.did m n r
    c.in-Ok.field-0 c.in-Ok.is

pub returns-in_ok-end-in-Call-clause-acted : goal.returns-in_ok-end-in-Call-clause-acted
returns-in_ok-end-in-Call-clause-acted c m n r f = c.in_ok-end-in-Call.ensures.acted m n r (subst (λ (t : Task). From (does_task (calls c.args.self.now) t m) c.args.self.now n r) c.in-Call.is f)

pub returns-in-ReturnInput-clause-acted : goal.returns-in-ReturnInput-clause-acted
returns-in-ReturnInput-clause-acted c m n r f =
    c.give_back-end-in-ReturnInput.ensures.acted n r (input_taken c.args.self.now c.take-a.new.self c.args.task c.take-a.result c.in-ReturnInput.is c.take-a.ensures.keeps c.take-a.ensures.took m n r f)

pub returns-in_ok-end-in-Choose-clause-acted : goal.returns-in_ok-end-in-Choose-clause-acted
returns-in_ok-end-in-Choose-clause-acted c m n r f = c.in_ok-end-in-Choose.ensures.acted m n r (subst (λ (t : Task). From (does_task (calls c.args.self.now) t m) c.args.self.now n r) c.in-Choose.is f)

pub returns-in_ok-end-in-Turn-clause-acted : goal.returns-in_ok-end-in-Turn-clause-acted
returns-in_ok-end-in-Turn-clause-acted c m n r f = c.in_ok-end-in-Turn.ensures.acted m n r (subst (λ (t : Task). From (does_task (calls c.args.self.now) t m) c.args.self.now n r) c.in-Turn.is f)
