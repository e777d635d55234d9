use Rattle.std.proofs.Common.{◌≡◌, None, ap, sym, ◌∙◌, arith}
use Rattle.c_reader.specs.ReadingItems.{program}
use Rattle.c_reader.proofs.Accepted.{scanned, only_this, not_this}
use Rattle.c_reader.proofs.reader.read.Goals as goal

pub returns-in-Ok-clause-only : goal.returns-in-Ok-clause-only
returns-in-Ok-clause-only c p t =
    only_this c.args.text.now c.in_ok-scanned.scanned.tokens c.in_ok-scanned.scanned.constants c.in_ok-scanned.ensures.answer c.in-Ok.items p (ap program (sym c.as_slice.ensures) ∙ c.in-Ok.ensures.answer) t

pub returns-clause-only : goal.returns-clause-only
returns-clause-only c p t =
    let n : program c.as_slice.result.now ≡ None = rw c.in-Err-Unexpected.field-0-is at c.in-Err-Unexpected.ensures.answer in
    absurd (not_this c.args.text.now c.in_ok-scanned.scanned.tokens c.in_ok-scanned.scanned.constants c.in_ok-scanned.ensures.answer p (ap program (sym c.as_slice.ensures) ∙ n) t)

pub returns-clause-err : goal.returns-clause-err
returns-clause-err c =
    let n : program c.as_slice.result.now ≡ None = rw c.in-Err-Unexpected.field-0-is at c.in-Err-Unexpected.ensures.answer in (
      omega arith,
      (scanned c.in_ok-scanned.scanned.tokens c.in_ok-scanned.scanned.constants, c.in_ok-scanned.ensures.answer),
      λ p t. not_this c.args.text.now c.in_ok-scanned.scanned.tokens c.in_ok-scanned.scanned.constants c.in_ok-scanned.ensures.answer p (ap program (sym c.as_slice.ensures) ∙ n) t,
    )
