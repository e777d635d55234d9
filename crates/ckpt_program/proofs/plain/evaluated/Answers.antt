use Rattle.std.proofs.Common.{subst}
use Rattle.c_tree.specs.declared.resolved.Resolved.{Resolved}
use Rattle.ckpt_program.specs.declared.done.Done.TheVariants.{Finished}
use Rattle.ckpt_program.specs.Rows.{Evaluated}
use Rattle.ckpt_program.proofs.plain.evaluated.Goals as goal

pub returns : goal.returns
unfolding Evaluated
returns c = record { answer = subst (λ (t : Resolved). Evaluated t c.args.input.now c.args.until (Finished c.in_ok-run.run')) c.get.ensures c.in_ok-run.ensures.answer }
