use Rattle.std.proofs.Common.{rules, ◌≡◌, true}
use Rattle.ckpt_base.specs.Word.{word_holds}
use Rattle.c_meaning.proofs.Turn.{turn_holds}
use Rattle.c_meaning.proofs.evaluator.Evaluator.turn.Goals as goal

pub returns-in_ok-enter_body-in-Ok-clause-acted : goal.returns-in_ok-enter_body-in-Ok-clause-acted
returns-in_ok-enter_body-in-Ok-clause-acted c m n r x =
    let t : word_holds c.in-Ok.a ≡ true = search rules in
    c.in_ok-enter_body-in-Ok.ensures.begun m n r (turn_holds c.args.self.now c.args.turn c.in-Ok.a c.in-Ok.ensures.answer t m n r x)
