use Rattle.std.proofs.Common.{◌≡◌, ◌∙◌, ◌<◌, ◌≤◌, subst, sym, ap, length, arith}
use Rattle.c_tree.specs.declared.resolved.Resolved.{Resolved}
use Rattle.ckpt_program.specs.Drill.{FailsDrill}
use Rattle.ckpt_program.specs.declared.stop.Cause.TheVariants as cause
use Rattle.ckpt_program.specs.declared.stop.Document.TheVariants as document
use Rattle.ckpt_program.proofs.Drilling.{writes_too_much}
use Rattle.ckpt_program.proofs.drill_stages.why_full.Goals as goal

pub returns-in-Ok : goal.returns-in-Ok
returns-in-Ok c =
    let written = c.in-Ok.ensures.answer in
    record {
      answer =
          subst (λ (tree : Resolved). FailsDrill tree c.args.input.now c.args.until (cause.TooLarge document.Output)) c.get-program.ensures
          (writes_too_much c.get-program.result.now c.args.input.now c.min.result c.args.until c.as_slice.result.now (c.as_slice.ensures.answer ∙ written.same_output)
          (c.written_stays.ensures.law c.args.input.now c.min.result c.args.until (omega (arith, c.min.ensures))) (omega (arith, c.if-as_slice-gt-OUTPUT_ROOM.true)));
    }
