use Rattle.std.proofs.Common.{ap, sym, ◌∙◌, Some}
use Rattle.image_format.specs.Image.{Image}
use Rattle.image_chain.proofs.StepLaws.{spells_front, same_image, no_image}
use Rattle.image_chain.proofs.append.fields_of.Goals as goal

pub returns-in-Ok : goal.returns-in-Ok
returns-in-Ok c = λ r spells. ap Some (c.fields.ensures.answer ∙ ap (λ (i : Image). i.fields) (sym (same_image r c.in-Ok.view (c.in-Ok.ensures.only r spells.is_image (spells_front r c.args.image.now spells)))))

pub returns-in-Err : goal.returns-in-Err
returns-in-Err c = λ r spells. absurd (no_image r _ (c.in-Err.ensures.only r spells.is_image (spells_front r c.args.image.now spells)))
