use Rattle.std.proofs.Common.{ap, sym, ◌∙◌}
use Rattle.std.specs.Option.{option_or}
use Rattle.image_format.specs.Image.{Image, word_in_runs}
use Rattle.image_chain.specs.Memory.{kept_word}
use Rattle.image_chain.proofs.StepLaws.{spells_front, same_image, no_image}
use Rattle.life_journal.proofs.record.keep_record.Goals as goal

pub returns-in-Ok : goal.returns-in-Ok
returns-in-Ok c = λ r spells q.
    c.add.ensures.answer q
    ∙ ap (λ (i : Image). option_or (word_in_runs i.runs q) (kept_word c.args.kept.now q)) (sym (same_image r c.in-Ok.view (c.in-Ok.ensures.only r spells.is_image (spells_front r c.args.record.now spells))))

pub returns-in-Err : goal.returns-in-Err
returns-in-Err c = λ r spells. absurd (no_image r _ (c.in-Err.ensures.only r spells.is_image (spells_front r c.args.record.now spells)))
