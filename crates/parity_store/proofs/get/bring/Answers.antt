use Rattle.std.proofs.Common.{rules, ◌≡◌, ◌∙◌, length}
use Rattle.parity_store.proofs.SlotLaws.{written_back, rebuilt_there, stands_there, refuted}
use Rattle.parity_store.proofs.get.bring.Goals as goal

pub returns-then-is_lost-clause-answer : goal.returns-then-is_lost-clause-answer
returns-then-is_lost-clause-answer g c = λ tells one list k pool.
    let n : c.args.slots.now.read.len ≡ length c.rebuild.new.sum = search rules in
    written_back c.rebuild.new.sum c.args.slots.now.read.items c.args.slots.now.read.len n ∙ c.in_ok-rebuild.ensures.answer tells
    ∙ rebuilt_there k c.args.h.now list _ c.args.lost c.args.i pool one (c.is_lost.ensures.answer.0 c.if-is_lost.true)

pub returns-clause-answer : goal.returns-clause-answer
returns-clause-answer g c = λ tells one list k pool.
    let n : c.args.slots.now.read.len ≡ length c.read_slot.new.slot = search rules in
    written_back c.read_slot.new.slot c.args.slots.now.read.items c.args.slots.now.read.len n ∙ c.in_ok-read_slot.ensures.answer tells
    ∙ stands_there k c.args.h.now list _ c.args.lost c.args.i pool one c.requires.place (λ e. refuted c.is_lost.result c.if-is_lost.false (c.is_lost.ensures.answer.1 e))
