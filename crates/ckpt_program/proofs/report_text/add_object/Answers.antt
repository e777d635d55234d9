use Rattle.std.proofs.Common.{ℕ, ◌+◌, sym, arith}
use Rattle.cell_sets.specs.Sets.{has}
use Rattle.ckpt_program.proofs.RunTexts.{place_passed}
use Rattle.ckpt_program.proofs.report_text.add_object.Goals as goal

pub places-preserved : goal.places-preserved
places-preserved c =
    let o = c.args.object.now in
    let t = λ (i : ℕ). has c.args.row.now (c.args.first + i) in
    record {
      before = c.in_ok-begun.ensures.before;
      same = place_passed o t o.length c.places.place c.places.begun c.in_ok-begun.begun _ c.places.text.items c.pass.new.text.items (omega arith) (λ n. c.in_ok-begun.ensures.answer t n (sym c.get.ensures.answer)) c.places.invariant.same;
    }
