use Rattle.std.proofs.Common.{refl, arith, ◌∙◌, ap, ◌∷◌}
use Rattle.c_meaning.specs.declared.work.Item.{Item}
use Rattle.c_meaning.specs.Working.{todo}
use Rattle.c_meaning.proofs.Going.{none_passed, one_passed, end_skipped, all_skipped, some_weight}
use Rattle.c_meaning.proofs.evaluator.Evaluator.skip.Goals as goal

pub items-init : goal.items-init
items-init c = (refl, omega arith, none_passed c.args.self.now)

pub items-preserved : goal.items-preserved
items-preserved c = (
  c.next_item.ensures.same ∙ c.items.invariant.0,
  omega (arith, some_weight c.in-Some.item _ _ c.in-Some.ensures.taken, c.items.invariant.1),
  one_passed _ c.items.self c.next_item.new.self c.in-Some.item c.items.invariant.2 c.next_item.ensures.same c.in-Some.ensures.taken c.in_default-end_of.ensures.answer,
)

pub returns-in-Some-end_of-clause-skipped : goal.returns-in-Some-end_of-clause-skipped
returns-in-Some-end_of-clause-skipped c =
    end_skipped _ c.items.self c.next_item.new.self c.in-Some-end_of.end c.items.invariant.2 c.next_item.ensures.same (c.in-Some.ensures.taken ∙ ap (λ (i : Item). i ∷ todo c.next_item.new.self) c.in-Some-end_of.ensures.answer)

pub returns-clause-skipped : goal.returns-clause-skipped
returns-clause-skipped c = all_skipped _ c.items.self c.next_item.new.self c.items.invariant.2 c.in_default.ensures.taken c.in_default.ensures.empty
