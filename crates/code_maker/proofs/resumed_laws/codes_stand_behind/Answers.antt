use Rattle.code_maker.proofs.ResumedLaws.{code_stands_behind}
use Rattle.code_maker.proofs.resumed_laws.codes_stand_behind.Goals as goal

pub returns : goal.returns
returns c = record { law = λ p code input n k r checked means run last. code_stands_behind p checked code means (λ w v h. c.runs_show_what_they_do.ensures.law code w v h) input n k r run last }
