use Rattle.std.proofs.Common.{ℕ, ◌<◌, refl, ap, ◌∙◌, arith}
use Rattle.std.proofs.lemmas.Option.{slice_get_read}
use Rattle.c_tree.specs.State.{entry_locals}
use Rattle.c_meaning.proofs.Calls.{call_stands}
use Rattle.c_meaning.proofs.evaluator.Evaluator.call.Goals as goal

pub returns-in_ok-add-in-Some-2-clause-acted : goal.returns-in_ok-add-in-Some-2-clause-acted
returns-in_ok-add-in-Some-2-clause-acted c n r x =
    let more : 0 < c.args.self.now.progress.allowed = omega (arith, c.if-self-eq0.false) in
    call_stands c.args.self.now c.args.waits c.args.function c.args.args n r x c.in-Some.function.now c.in_ok-locals-in-Some.locals c.suspend-frame.result c.suspend-frame.new.self c.add.new.self
    more (slice_get_read _ _ _ _ refl c.in-Some.ensures.lookup.3.0 c.in-Some.ensures.lookup.1) (c.in_ok-locals-in-Some.ensures.answer ∙ ap (λ (k : ℕ). entry_locals k c.args.args) c.len.ensures) c.suspend-frame.ensures.waits c.suspend-frame.ensures.locals c.suspend-frame.ensures.allowed c.suspend-frame.ensures.now c.suspend-frame.ensures.work
    c.add.ensures.same c.in_ok-add-in-Some.ensures.added _ c.add-in-Some.new.self refl c.add-in-Some.ensures.same c.in_ok-add-in-Some-2.ensures.added
