use Rattle.std.proofs.Common.{subst, ◌∙◌, ap}
use Rattle.c_meaning.specs.declared.progress.Progress.{Progress}
use Rattle.c_meaning.specs.declared.work.Next.{Next}
use Rattle.c_meaning.specs.Working.{Comes}
use Rattle.c_meaning.proofs.Going.{taken}
use Rattle.c_meaning.proofs.Turn.{at_end}
use Rattle.c_meaning.proofs.evaluator.Evaluator.settle.Goals as goal

pub items-preserved : goal.items-preserved
items-preserved c = record {
  ticks = c.in_ok-take.ensures.ticks ∙ ap (λ (p : Progress). p.ticks) c.next_item.ensures.same ∙ c.items.invariant.ticks;
  goes = λ n r x.
      let y = taken c.items.self c.next_item.new.self c.in-Some.item n r c.next_item.ensures.same c.in-Some.ensures.taken (c.items.invariant.goes n r x) in
      subst (λ (t : Next). Comes t c.take.new.self n r) c.in-On.is (c.in_ok-take.ensures.comes n r y);
}

pub returns-in-Task-clause-settled : goal.returns-in-Task-clause-settled
returns-in-Task-clause-settled c n r x =
    let y = taken c.items.self c.next_item.new.self c.in-Some.item n r c.next_item.ensures.same c.in-Some.ensures.taken (c.items.invariant.goes n r x) in
    subst (λ (t : Next). Comes t c.take.new.self n r) c.in-Task.is (c.in_ok-take.ensures.comes n r y)

pub returns-in-Over-clause-settled : goal.returns-in-Over-clause-settled
returns-in-Over-clause-settled c n r x =
    let y = taken c.items.self c.next_item.new.self c.in-Some.item n r c.next_item.ensures.same c.in-Some.ensures.taken (c.items.invariant.goes n r x) in
    subst (λ (t : Next). Comes t c.take.new.self n r) c.in-Over.is (c.in_ok-take.ensures.comes n r y)

pub returns-clause-settled : goal.returns-clause-settled
returns-clause-settled c n r x = at_end c.items.self c.next_item.new.self n r c.in_default.ensures.taken c.next_item.ensures.same (c.items.invariant.goes n r x)
