use Rattle.std.proofs.Common.{◌∙◌, arith}
use Rattle.c_meaning.proofs.Going.{some_weight}
use Rattle.c_meaning.proofs.Calls.{back_passes, back_comes, call_ended, none_ended}
use Rattle.c_meaning.proofs.evaluator.Evaluator.end_call.Goals as goal

pub items-preserved : goal.items-preserved
items-preserved c = record {
  same = c.next_item.ensures.same ∙ c.items.invariant.same;
  lighter = omega (arith, some_weight c.in-Some.item _ _ c.in-Some.ensures.taken, c.items.invariant.lighter);
  goes = λ a n r x. back_passes c.items.self c.next_item.new.self c.in-Some.item a c.next_item.ensures.same c.in-Some.ensures.taken c.in_default-frame_of.ensures.answer n r (c.items.invariant.goes a n r x);
}

pub returns-in-Some-frame_of-clause-ends : goal.returns-in-Some-frame_of-clause-ends
returns-in-Some-frame_of-clause-ends c a n r x =
    call_ended c.next_item.new.self c.restore.new.self c.in-Some-frame_of.frame c.restore.result a n r c.restore.ensures.waits c.restore.ensures.now c.restore.ensures.work
    (back_comes c.items.self c.next_item.new.self c.in-Some.item c.in-Some-frame_of.frame a c.next_item.ensures.same c.in-Some.ensures.taken c.in-Some-frame_of.ensures.answer n r (c.items.invariant.goes a n r x))

pub returns-clause-ends : goal.returns-clause-ends
returns-clause-ends c a n r x = none_ended c.items.self c.next_item.new.self a c.next_item.ensures.same c.in_default.ensures.taken n r (c.items.invariant.goes a n r x)
