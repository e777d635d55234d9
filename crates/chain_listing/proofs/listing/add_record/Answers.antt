use Rattle.std.proofs.Common.{◌∙◌, ap, ℕ, List, take}
use Rattle.std.proofs.lemmas.Result.{err_from_is_err_and}
use Rattle.image_format.specs.Reading.{image_at}
use Rattle.chain_listing.proofs.StoreLaws.{undamaged, counted}
use Rattle.chain_listing.proofs.listing.add_record.Goals as goal

pub returns-in_err-n-clause-err : goal.returns-in_err-n-clause-err
returns-in_err-n-clause-err g c =
    let told = err_from_is_err_and c.from_residual.result c.from_residual.ensures.1 in
    rw told.1 (λ tells before r after size rests. undamaged told.0 c.in_err-n.field-0.0 r c.record_at.new.room told.2 (c.in_err-n.ensures.told tells before r after size rests))

pub returns-in_err-n-clause-failed : goal.returns-in_err-n-clause-failed
returns-in_err-n-clause-failed g c =
    let told = err_from_is_err_and c.from_residual.result c.from_residual.ensures.1 in
    rw told.1 (counted told.0 c.in_err-n.field-0.0 _ _ told.2 c.in_err-n.ensures.failed)

pub returns-clause-answer : goal.returns-clause-answer
returns-clause-answer g c = λ tells before r after size rests.
    let shown = c.in_ok-n.ensures.told tells before r after size rests in
    c.in_ok-add_read.ensures.answer r (ap (λ (l : List ℕ). image_at (take c.in_ok-n.n l)) c.bytes-bytes.ensures.answer ∙ shown.1)
