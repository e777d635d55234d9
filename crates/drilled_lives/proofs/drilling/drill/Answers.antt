use Rattle.std.proofs.Common.{◌∙◌}
use Rattle.drilled_lives.proofs.DrillLaws.{new_between}
use Rattle.drilled_lives.proofs.drilling.drill.Goals as goal

pub returns-clause-lives : goal.returns-clause-lives
returns-clause-lives c = λ s given spaced.
    c.in_ok-courses.ensures.lives s given spaced
    (new_between c.empty_stores_stand.ensures.empty s c.args.how.every 16777216 _ _ _ _ c.in_ok-disk.ensures.answer)

pub returns-clause-output : goal.returns-clause-output
returns-clause-output c = λ s given spaced.
    c.in_ok-output.ensures.answer
    ∙ c.in_ok-courses.ensures.output s given spaced
    (new_between c.empty_stores_stand.ensures.empty s c.args.how.every 16777216 _ _ _ _ c.in_ok-disk.ensures.answer)
