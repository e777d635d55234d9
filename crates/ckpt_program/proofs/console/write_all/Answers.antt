use Rattle.std.proofs.Common.{arith, sym, ◌∙◌, subst, ◌+◌, IsTrue}
use Rattle.ckpt_program.proofs.Prefix.{take_part, joined}
use Rattle.ckpt_program.proofs.console.write_all.Goals as goal

pub returns-in_err-done-clause-prefix : goal.returns-in_err-done-clause-prefix
returns-in_err-done-clause-prefix g c = λ tells.
    let i = c.loop-done.done in
    let failed = c.in_err-done.ensures.answer.bytes (subst IsTrue (sym c.loop-done.invariant.tells) tells) in
    (i + failed.0, joined _ _ _ _ _ _ (take_part i failed.0 c.args.bytes.now) (c.loop-done.invariant.written tells) failed.1)

pub loop-done-preserved : goal.loop-done-preserved
loop-done-preserved g c = record {
  tells = c.write.ensures.answer.tells ∙ c.loop-done.invariant.tells;
  fits = grind arith;
  written = λ tells. joined _ _ _ _ _ _ (take_part c.loop-done.done c.in_ok-done.field-0 c.args.bytes.now) (c.loop-done.invariant.written tells) (c.in_ok-done.ensures.answer.bytes (subst IsTrue (sym c.loop-done.invariant.tells) tells));
  counts = c.in_ok-done.ensures.answer.counts ∙ c.loop-done.invariant.counts;
}
