use Rattle.std.proofs.Common.{◌≡◌, length, sym, ap, ◌∙◌, subst, arith}
use Rattle.std.proofs.lemmas.List.{length-replicate}
use Rattle.page_frames.specs.Words.{fill_word}
use Rattle.machine_code.specs.Memory.{FitsMemory}
use Rattle.public_calls_compiler.proofs.machine.first_of.Goals as goal

pub first_event-requires-clause-fit : goal.first_event-requires-clause-fit
first_event-requires-clause-fit g c =
    let cells : length c.in_ok-frames.frames ≡ 512 = ap length c.in_ok-frames.ensures.answer ∙ length-replicate 512 (fill_word 0) in
    let pages : length c.in_ok-pages.pages.dirty ≡ 1 = c.in_ok-pages.ensures in
    record { same = omega arith; few = omega arith; cells = subst (FitsMemory c.of-code.result) (sym cells) (c.fits.ensures.answer.0 c.if-not-fits.false) }
