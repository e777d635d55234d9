use Rattle.code_maker.proofs.ValidLaws.{code_is_valid}
use Rattle.code_maker.proofs.valid_laws.codes_are_valid.Goals as goal

pub returns : goal.returns
returns c = record { law = code_is_valid }
