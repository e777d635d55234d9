use Rattle.std.proofs.Common.{Some, subst, sym, ◌∙◌, arith}
use Rattle.ckpt_base.specs.declared.ending.Ending.{Ending}
use Rattle.c_meaning.specs.declared.work.Waits.{Waits}
use Rattle.c_meaning.specs.Working.{Ends, IsOver}
use Rattle.c_meaning.proofs.evaluator.Evaluator.give_back.Goals as goal

pub calls-preserved : goal.calls-preserved
calls-preserved c = record {
  ticks = c.end_call.ensures.ticks ∙ c.calls.invariant.ticks;
  lighter = omega (arith, c.in-Some.ensures.lighter, c.calls.invariant.lighter);
  goes = λ n r x. subst (λ (k : Waits). Ends (Some k) c.args.a c.end_call.new.self n r) c.in-Return.is (c.in-Some.ensures.ends c.args.a n r (c.calls.invariant.goes n r x));
}

pub returns-in-Store-clause-acted : goal.returns-in-Store-clause-acted
returns-in-Store-clause-acted c n r x =
    c.store_answer.ensures.acted n r (subst (λ (k : Waits). Ends (Some k) c.args.a c.end_call.new.self n r) c.in-Store.is (c.in-Some.ensures.ends c.args.a n r (c.calls.invariant.goes n r x)))

pub returns-clause-acted : goal.returns-clause-acted
returns-clause-acted c n r x = subst (λ (ending : Ending). IsOver ending c.end_call.new.self r) (sym c.ended.ensures.answer) (c.in_default.ensures.ends c.args.a n r (c.calls.invariant.goes n r x))
