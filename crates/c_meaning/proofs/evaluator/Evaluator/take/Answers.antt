use Rattle.std.proofs.Common.{refl}
use Rattle.c_meaning.specs.declared.work.Item.TheVariants as item
use Rattle.c_meaning.proofs.Calls.{answered}
use Rattle.c_meaning.proofs.Turn.{came, first_split, turn_ticks, again_ticks, update_ticks}
use Rattle.c_meaning.proofs.evaluator.Evaluator.take.Goals as goal

pub returns-in_ok-task-in-One-clause-comes : goal.returns-in_ok-task-in-One-clause-comes
returns-in_ok-task-in-One-clause-comes c n r x =
    let y = came c.args.self.now c.args.item (item.One c.in-One.stmt) n r c.in-One.is (λ ms. refl) x in
    c.next.ensures.comes c.enter.new.self n r (c.in_ok-task-in-One.ensures.reached y.0 n r y.1)

pub returns-in_ok-task-in-Some-clause-comes : goal.returns-in_ok-task-in-Some-clause-comes
returns-in_ok-task-in-Some-clause-comes c n r x =
    let y = came c.args.self.now c.args.item (item.Rest c.in-Rest.stmts) n r c.in-Rest.is (λ ms. refl) x in
    let z = first_split c.args.self.now c.add.new.self (item.Rest c.in-Rest.stmts) c.in-Rest.stmts c.in-Some.more c.in-Some.stmt.now refl c.in-Some.ensures.cases.0 c.add.ensures.same c.in_ok-add-in-Some.ensures.added y.0 n r y.1 in
    c.next-in-Some.ensures.comes c.enter-in-Some.new.self n r (c.in_ok-task-in-Some.ensures.reached y.0 n r z)

pub returns-in_ok-task-in-Tests-clause-comes : goal.returns-in_ok-task-in-Tests-clause-comes
returns-in_ok-task-in-Tests-clause-comes c n r x =
    let y = came c.args.self.now c.args.item (item.Tests c.in-Tests.arms c.in-Tests.last) n r c.in-Tests.is (λ ms. refl) x in
    c.next-in-Tests.ensures.comes c.enter_arms.new.self n r (c.in_ok-task-in-Tests.ensures.reached y.0 n r y.1)

pub returns-in-Turn-clause-comes : goal.returns-in-Turn-clause-comes
returns-in-Turn-clause-comes c n r x =
    let y = came c.args.self.now c.args.item (item.Turn c.in-Turn.turn) n r c.in-Turn.is (λ ms. refl) x in
    turn_ticks c.args.self.now (item.Turn c.in-Turn.turn) c.in-Turn.turn refl y.0 n r y.1

pub returns-in-None-update-clause-comes : goal.returns-in-None-update-clause-comes
returns-in-None-update-clause-comes c n r x =
    let y = came c.args.self.now c.args.item (item.Again c.in-Again.turn) n r c.in-Again.is (λ ms. refl) x in
    again_ticks c.args.self.now (item.Again c.in-Again.turn) c.in-Again.turn refl c.in-None-update.is y.0 n r y.1

pub returns-in_ok-add-in-Some-update-clause-comes : goal.returns-in_ok-add-in-Some-update-clause-comes
returns-in_ok-add-in-Some-update-clause-comes c n r x =
    let y = came c.args.self.now c.args.item (item.Again c.in-Again.turn) n r c.in-Again.is (λ ms. refl) x in
    update_ticks c.args.self.now c.add-in-Some-update.new.self (item.Again c.in-Again.turn) c.in-Again.turn c.in-Some-update.update refl c.in-Some-update.is c.add-in-Some-update.ensures.same c.in_ok-add-in-Some-update.ensures.added y.0 n r y.1

pub returns-in-Some-resume-clause-comes : goal.returns-in-Some-resume-clause-comes
returns-in-Some-resume-clause-comes c n r x = c.in-Some-resume.ensures.acted n r (answered c.args.self.now c.args.item c.in-Back.frame n r c.in-Back.is x)
