use Rattle.code_maker.proofs.ValidLaws.{directive_there}
use Rattle.code_maker.proofs.valid_laws.directives_are_there.Goals as goal

pub returns : goal.returns
returns c = record { law = λ p q k checked e. directive_there p checked q k e }
