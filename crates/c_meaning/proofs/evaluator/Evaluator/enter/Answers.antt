use Rattle.c_meaning.proofs.Enter.{declare_ticks, set_ticks, put_ticks, print_ticks, input_ticks, exclude_ticks, call_ticks, return_call_ticks, return_ticks, while_ticks, do_begins, for_begins, block_stands, if_is}
use Rattle.c_meaning.proofs.evaluator.Evaluator.enter.Goals as goal

pub returns-in-Declare-clause-reached : goal.returns-in-Declare-clause-reached
returns-in-Declare-clause-reached c = declare_ticks c.args.self.now c.args.stmt.now c.in-Declare.place c.in-Declare.expr c.in-Declare.is

pub returns-in-Set-clause-reached : goal.returns-in-Set-clause-reached
returns-in-Set-clause-reached c = set_ticks c.args.self.now c.args.stmt.now c.in-Set.place c.in-Set.expr c.in-Set.is

pub returns-in-Put-clause-reached : goal.returns-in-Put-clause-reached
returns-in-Put-clause-reached c = put_ticks c.args.self.now c.args.stmt.now c.in-Put.expr c.in-Put.is

pub returns-in-Return-clause-reached : goal.returns-in-Return-clause-reached
returns-in-Return-clause-reached c = return_ticks c.args.self.now c.args.stmt.now c.in-Return.expr c.in-Return.is

pub returns-in_ok-task-in-If-clause-reached : goal.returns-in_ok-task-in-If-clause-reached
returns-in_ok-task-in-If-clause-reached c m n r x = c.in_ok-task-in-If.ensures.reached m n r (if_is c.args.self.now c.args.stmt.now c.in-If.arms c.in-If.last c.in-If.is c.as_slice.result.now c.as_slice.ensures m n r x)

pub returns-in-While-clause-reached : goal.returns-in-While-clause-reached
returns-in-While-clause-reached c = while_ticks c.args.self.now c.args.stmt.now c.plain_loop.result _ _ c.in-While.body c.plain_loop.ensures.answer c.get.ensures c.in-While.is

pub returns-in_ok-enter_body-in-Do-clause-reached : goal.returns-in_ok-enter_body-in-Do-clause-reached
returns-in_ok-enter_body-in-Do-clause-reached c m n r x =
    c.in_ok-enter_body-in-Do.ensures.begun m n r (do_begins c.args.self.now c.args.stmt.now c.plain_loop-in-Do.result _ _ c.in-Do.body c.plain_loop-in-Do.ensures.answer c.get-in-Do.ensures c.in-Do.is m n r x)

pub returns-in_ok-task-in-For-clause-reached : goal.returns-in_ok-task-in-For-clause-reached
returns-in_ok-task-in-For-clause-reached c m n r x =
    c.in_ok-task-in-For.ensures.comes _ n r
    (for_begins c.args.self.now c.args.stmt.now c.lent.result c.lent-in-For.result c.get-in-For.result c.in-For.test c.in-For.update c.in-For.body c.lent.ensures.answer c.lent-in-For.ensures.answer c.get-in-For.ensures c.in-For.init c.in-For.is m n r x)

pub returns-in_ok-add-in-Block-clause-reached : goal.returns-in_ok-add-in-Block-clause-reached
returns-in_ok-add-in-Block-clause-reached c = block_stands c.args.self.now c.args.stmt.now c.in-Block.stmts c.as_slice-in-Block.result c.add.new.self c.in-Block.is c.as_slice-in-Block.ensures c.add.ensures.same c.in_ok-add-in-Block.ensures.added

pub returns-in-Call-clause-reached : goal.returns-in-Call-clause-reached
returns-in-Call-clause-reached c = call_ticks c.args.self.now c.args.stmt.now c.in-Call.place c.in-Call.function c.in-Call.args c.in-Call.is

pub returns-in-ReturnCall-clause-reached : goal.returns-in-ReturnCall-clause-reached
returns-in-ReturnCall-clause-reached c = return_call_ticks c.args.self.now c.args.stmt.now c.in-ReturnCall.function c.in-ReturnCall.args c.in-ReturnCall.is

pub returns-in-Input-clause-reached : goal.returns-in-Input-clause-reached
returns-in-Input-clause-reached c = input_ticks c.args.self.now c.args.stmt.now c.in-Input.place c.in-Input.is

pub returns-in-Print-clause-reached : goal.returns-in-Print-clause-reached
returns-in-Print-clause-reached c = print_ticks c.args.self.now c.args.stmt.now c.in-Print.pieces c.in-Print.args c.in-Print.is

pub returns-in-Exclude-clause-reached : goal.returns-in-Exclude-clause-reached
returns-in-Exclude-clause-reached c = exclude_ticks c.args.self.now c.args.stmt.now c.in-Exclude.k c.in-Exclude.is
