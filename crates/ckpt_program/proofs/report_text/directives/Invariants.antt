use Rattle.std.proofs.Common.{◌≡◌}
use Rattle.ckpt_program.specs.Report as spec
use Rattle.ckpt_program.proofs.report_text.directives.Given as goal

abbrev pub invariant-directives : goal.invariant-directives
invariant-directives l = l.text.items ≡ spec.directives_text l.program l.exclusions l.k
