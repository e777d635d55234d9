use Rattle.std.proofs.Common.{refl, sym, ◌∙◌}
use Rattle.c_meaning.proofs.Turn.{arm_holds, arm_fails}
use Rattle.c_meaning.proofs.evaluator.Evaluator.choose.Goals as goal

pub returns-then-holds-clause-acted : goal.returns-then-holds-clause-acted
returns-then-holds-clause-acted c m n r = arm_holds c.args.self.now c.add.new.self c.args.arm.now c.args.more c.args.last c.in-Ok.a c.in-Ok.ensures.answer c.add.ensures.same m n r _ refl (sym c.holds.ensures.answer ∙ c.if-holds.true) c.in_ok-add-in-Ok.ensures.added

pub returns-in_ok-add-in-Ok-2-clause-acted : goal.returns-in_ok-add-in-Ok-2-clause-acted
returns-in_ok-add-in-Ok-2-clause-acted c m n r = arm_fails c.args.self.now c.add-in-Ok.new.self c.args.arm.now c.args.more c.args.last c.in-Ok.a c.in-Ok.ensures.answer c.add-in-Ok.ensures.same m n r (sym c.holds.ensures.answer ∙ c.if-holds.false) c.in_ok-add-in-Ok-2.ensures.added
