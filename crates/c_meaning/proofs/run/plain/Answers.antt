use Rattle.std.proofs.Common.{subst}
use Rattle.std.specs.Prelude.{IfOk}
use Rattle.c_tree.specs.declared.resolved.Resolved.{Resolved}
use Rattle.c_tree.specs.Meaning.{meaning}
use Rattle.c_meaning.specs.Plain.{IsPlain}
use Rattle.c_meaning.proofs.run.plain.Goals as goal

pub returns : goal.returns
returns c = record {
  answer = subst (λ (t : Resolved). IfOk c.run_tree.result (λ r. IsPlain r.output.list r.ending r.ticks (meaning t c.args.input.now c.args.until))) c.tree.ensures.answer c.run_tree.ensures.answer;
}
