use Rattle.code_maker.proofs.ResumedLaws.{code_keeps_pointers}
use Rattle.code_maker.proofs.resumed_laws.codes_keep_pointers.Goals as goal

pub returns : goal.returns
returns c = record { law = λ p g code input n k r checked is_main means run last. code_keeps_pointers p checked g is_main code means input n k r run last }
