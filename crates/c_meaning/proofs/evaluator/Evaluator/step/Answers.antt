use Rattle.std.proofs.Common.{◌≡◌, ◌-◌, suc, Result, subst, arith}
use Rattle.ckpt_base.specs.declared.ending.Ending.{Ending}
use Rattle.c_meaning.specs.declared.work.Task.{Task}
use Rattle.c_meaning.specs.Working.{Settled, does_task, calls}
use Rattle.c_meaning.proofs.Turn.{none_left, one_taken}
use Rattle.c_meaning.proofs.evaluator.Evaluator.step.Goals as goal

pub returns-in-Err-clause-stepped : goal.returns-in-Err-clause-stepped
returns-in-Err-clause-stepped c r x = subst (λ (t : Result Task Ending). Settled t c.settle.new.self (c.args.until - c.args.self.now.progress.ticks) r) c.in-Err.is (c.in_ok-ending.ensures.settled _ r x)

pub returns-then-self-until-clause-stepped : goal.returns-then-self-until-clause-stepped
returns-then-self-until-clause-stepped c r x =
    let none : c.args.until - c.args.self.now.progress.ticks ≡ 0 = omega (arith, c.in_ok-ending.ensures.ticks) in
    let y = subst (λ (t : Result Task Ending). Settled t c.settle.new.self (c.args.until - c.args.self.now.progress.ticks) r) c.in-Ok.is (c.in_ok-ending.ensures.settled _ r x) in
    none_left c.settle.new.self (does_task (calls c.settle.new.self) c.in-Ok.task y.0) _ r none y.1

pub returns-in_ok-end-in-Ok-clause-stepped : goal.returns-in_ok-end-in-Ok-clause-stepped
returns-in_ok-end-in-Ok-clause-stepped c r x =
    let one : c.args.until - c.args.self.now.progress.ticks ≡ suc (c.args.until - c.act.new.self.progress.ticks) = omega (arith, c.in_ok-ending.ensures.ticks, c.in_ok-end-in-Ok.ensures.ticks) in
    let y = subst (λ (t : Result Task Ending). Settled t c.settle.new.self (c.args.until - c.args.self.now.progress.ticks) r) c.in-Ok.is (c.in_ok-ending.ensures.settled _ r x) in
    c.in_ok-end-in-Ok.ensures.acted y.0 _ r (one_taken c.settle.new.self (does_task (calls c.settle.new.self) c.in-Ok.task y.0) _ _ r one y.1)
