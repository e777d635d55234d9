use Rattle.std.proofs.Common.{◌≡◌, ◌*◌, ◌+◌, ◌/◌, ℕ, length, true, sym, ap, ◌∙◌, subst, arith}
use Rattle.std.proofs.lemmas.List.{length-replicate}
use Rattle.dirty_pages.specs.Pages.{PageStates}
use Rattle.machine_code.specs.Memory.{FitsMemory}
use Rattle.ckpt_program.proofs.machine_run.run_code.Goals as goal

pub go-requires-clause-fit : goal.go-requires-clause-fit
go-requires-clause-fit g c =
    let count : ℕ = c.cells-2.result / 512 + 1 in
    let pages : length c.in_ok-pages.pages.dirty ≡ c.cells-2.result / 512 + 1 = ap (λ (s : PageStates). length s.dirty) c.in_ok-pages.ensures.answer ∙ length-replicate count true in
    let limit = c.if-cells-gt-MAX_CELLS.false in
    let cells : length c.in_ok-frames.frames ≡ (c.cells-2.result / 512 + 1) * 512 = omega (arith, c.in_ok-frames.ensures.size) in
    record { same = omega (arith, pages, c.in_ok-frames.ensures.size); few = omega (arith, pages, limit); cells = subst (FitsMemory c.args.code.now) (sym cells) (c.fits.ensures.answer.0 c.if-not-fits.false) }
