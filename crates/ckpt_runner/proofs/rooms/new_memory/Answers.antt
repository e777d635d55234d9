use Rattle.std.proofs.Common.{◌∙◌, sym, ap, length, ℕ, ◌+◌, ◌-◌, ◌*◌, ◌/◌, ◌≤◌, subst}
use Rattle.machine_code.specs.CodeView.{CodeView}
use Rattle.page_frames.specs.Words.{fill_word}
use Rattle.paged_machine.specs.Standing.{StandsIn}
use Rattle.run_images.specs.Compiled.{cells_in}
use Rattle.ckpt_runner.proofs.RoomsLaws.{pages_of, few_pages, new_fit}
use Rattle.ckpt_runner.proofs.rooms.new_memory.Goals as goal

pub returns : goal.returns
returns c =
    let compiled = c.args.compiled.now in
    let n : ℕ = c.cells.result in
    let count : ℕ = (n + 512 - 1) / 512 in
    let room : cells_in compiled ≤ 512 * count = subst (λ (k : ℕ). k ≤ 512 * count) c.cells.ensures.answer (pages_of n) in
    let frames = c.in_ok-new-2.ensures.answer in
    let pages = c.in_ok-new-4.ensures.answer in
    record {
      answer = record {
        runs = c.code.ensures.runs;
        count = count;
        frames_are = frames;
        copies_are = ap length (c.in_ok-new-3.ensures.answer ∙ sym frames);
        pages_are = pages;
        room = room;
        fit = new_fit compiled.code (cells_in compiled) count (fill_word c.args.fill) c.in_ok-new-2.field-0 c.in_ok-new-4.field-0 c.code.ensures.runs.fits room (few_pages n c.cells.ensures.few) frames pages;
        entry = c.in_ok-new.ensures.state;
        live = c.in_ok-new.ensures.live;
        stands = subst (λ (k : CodeView). StandsIn k c.in_ok-new.field-0) c.code.ensures.answer c.in_ok-new.ensures.stands;
      };
    }
