use Rattle.code_maker.proofs.ValidLaws.{code_fits}
use Rattle.code_maker.proofs.valid_laws.codes_fit.Goals as goal

pub returns : goal.returns
returns c = record { law = code_fits }
