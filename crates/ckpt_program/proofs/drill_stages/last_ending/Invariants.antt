use Rattle.std.proofs.Common.{◌≡◌, drop}
use Rattle.ckpt_base.specs.declared.ending.Ending.TheVariants.{Going}
use Rattle.ckpt_program.specs.Drill as spec
use Rattle.ckpt_program.proofs.drill_stages.last_ending.Given as goal

abbrev pub invariant-lives : goal.invariant-lives
invariant-lives l = spec.last_ending l.ending (drop l.course-index l.courses) ≡ spec.last_ending Going l.courses
